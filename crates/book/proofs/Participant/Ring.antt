-- The ring of sixteen month totals loses no total that is read: two months settled with one place are sixteen months apart or more, and the
-- older of them is no longer asked for when the newer can be settled.
-- Assumes nothing.
use Prim.Native.Nat.{ℕ, zero, suc, ◌+◌, ◌-◌, ◌%◌, ◌≤◌, ◌<◌}
use mathlib.Core.Path.{◌≡◌, refl, sym, ap, ◌∙◌}
use mathlib.Core.Bool.{false, cond, ◌&&◌}
use mathlib.Core.List.{List, [], ◌∷◌}
use native.Mathlib.Omega.{arith}
use borrow.Author.Tests.{eqb-true, eqb-false, leb-true, eq-eqb, ne_eqb, not-false}
use lib.Dec.{leb, eqb}
use lib.IntN.{ℤ}
use Rattle.laws.specs.Lists.{table}
use Rattle.laws.specs.Cases.{split, cond-true, cond-false, and_left, and_right}
use Rattle.laws.specs.Tabulated.{get_d-table}
use Rattle.calendar.specs.Civil.{month_of}
use Rattle.calendar.specs.Laws.{month_of-mono}
use Rattle.manual.specs.Figures.{sum_of}
use Rattle.file.specs.declared.MonthTotal.{MonthTotal}
use Rattle.file.specs.Settle.{outside_months}
use Rattle.file.specs.Totals.{Total, none, total, no_total, total_of, total_here, total_at, totals_from}
use Rattle.file.specs.Annual.{annual_totals}
use Rattle.book.specs.Call.{admit, lodge, release, settle, annual_run, delete}
use Rattle.book.specs.Reading.Events.{Own, day_opened, act}
use Rattle.book.specs.Reading.Months.{total_in, years_totals}
use Rattle.book.specs.Reading.Decisions.{own_causes}
use Rattle.book.specs.Kept.{ring_in, file_in}
use Rattle.book.proofs.Participant.Lawful.{today_in, NoneHolds, Lawful}

-- A settled month is at least two and at most fourteen before the day's.
settled-within : (d n : ℕ) (figures : List ℤ) (own : List Own) → NoneHolds (own_causes d own (settle n figures))
    → (n + 2 ≤ month_of d) × (month_of d ≤ n + 14)
unfolding own_causes outside_months
settled-within d n figures own h =
    let both = not-false (leb (month_of d) (n + 14) && leb (n + 2) (month_of d)) h.1.0 in (
      leb-true (n + 2) (month_of d) (and_right (leb (month_of d) (n + 14)) (leb (n + 2) (month_of d)) both),
      leb-true (month_of d) (n + 14) (and_left (leb (month_of d) (n + 14)) (leb (n + 2) (month_of d)) both),
    )

-- A month has no total before it can be settled.
pub no-total-yet : (s : ℕ) (own : List Own) (m : ℕ) → Lawful s own → month_of (today_in s own) < m + 2
    → total_in own m ≡ none
unfolding total_in today_in
no-total-yet s [] m lw h = refl
no-total-yet s (day_opened d ∷ own) m lw h =
    no-total-yet s own m lw.2 (omega (arith, month_of-mono (today_in s own) d (omega (arith, lw.0))))
no-total-yet s (act d (admit role) ∷ own) m lw h = no-total-yet s own m lw.2 h
no-total-yet s (act d (lodge k p) ∷ own) m lw h = no-total-yet s own m lw.2 h
no-total-yet s (act d (release k a) ∷ own) m lw h = no-total-yet s own m lw.2 h
no-total-yet s (act d (settle n figures) ∷ own) m lw h =
    cond-false (eqb n m) (total (sum_of figures)) (total_in own m)
    (ne_eqb n m (λ e. omega (arith, (settled-within d n figures own lw.1).0, ap month_of lw.0)))
    ∙ no-total-yet s own m lw.2 h
no-total-yet s (act d annual_run ∷ own) m lw h = no-total-yet s own m lw.2 h
no-total-yet s (act d delete ∷ own) m lw h = no-total-yet s own m lw.2 h

-- Two months with one place, the one at most twelve months after the other: they are the same, or that one is sixteen before it or more.
apart : (n m : ℕ) → n % 16 ≡ m % 16 → n ≤ m + 12 → (n ≡ m → ⊥) → n + 16 ≤ m
apart n m e h d = omega arith

-- What the place says of month m after a settlement of month n.
place_same : (n m : ℕ) (e : ℤ) (r : MonthTotal) → n ≡ m → total_here m (cond (eqb (n % 16) (m % 16)) (total_of n e) r) ≡ total e
unfolding total_here
place_same n m e r q = rw (eq-eqb (n % 16) (m % 16) (ap (λ (k : ℕ). k % 16) q), eq-eqb n m q)

place-taken : (n m : ℕ) (e : ℤ) (r : MonthTotal) → n % 16 ≡ m % 16 → (n ≡ m → ⊥)
    → total_here m (cond (eqb (n % 16) (m % 16)) (total_of n e) r) ≡ none
unfolding total_here
place-taken n m e r q d = rw (eq-eqb (n % 16) (m % 16) q, ne_eqb n m d)

place_other : (n m : ℕ) (e : ℤ) (r : MonthTotal) → eqb (n % 16) (m % 16) ≡ false
    → total_here m (cond (eqb (n % 16) (m % 16)) (total_of n e) r) ≡ total_here m r
place_other n m e r q = ap (total_here m) (cond-false (eqb (n % 16) (m % 16)) (total_of n e) r q)

-- One settlement of another month: the place says of month m what its total t is, if m has none where its place is taken.
place_kept : (n m : ℕ) (e : ℤ) (r : MonthTotal) (t : Total) → total_here m r ≡ t → (n ≡ m → ⊥) → (n % 16 ≡ m % 16 → t ≡ none)
    → total_here m (cond (eqb (n % 16) (m % 16)) (total_of n e) r) ≡ t
place_kept n m e r t says other older =
    split (eqb (n % 16) (m % 16))
    (λ q. let p : n % 16 ≡ m % 16 = eqb-true (n % 16) (m % 16) q in place-taken n m e r p other ∙ sym (older p))
    (λ q. place_other n m e r q ∙ says)

-- One settlement: what the place says of month m is its total.
place-settled : (n m : ℕ) (e : ℤ) (r : MonthTotal) (t : Total) → total_here m r ≡ t → ((n ≡ m → ⊥) → n % 16 ≡ m % 16 → t ≡ none)
    → total_here m (cond (eqb (n % 16) (m % 16)) (total_of n e) r) ≡ cond (eqb n m) (total e) t
place-settled n m e r t says older =
    split (eqb n m)
    (λ q. place_same n m e r (eqb-true n m q) ∙ sym (cond-true (eqb n m) (total e) t q))
    (λ q. let other : n ≡ m → ⊥ = eqb-false n m q in
    place_kept n m e r t says other (older other) ∙ sym (cond-false (eqb n m) (total e) t q))

-- What the place of month m says of it is its total, while it is at most fourteen months old.
pub place-says : (s : ℕ) (own : List Own) (m : ℕ) → Lawful s own → month_of (today_in s own) ≤ m + 14
    → total_here m (ring_in own (m % 16)) ≡ total_in own m
unfolding ring_in total_in today_in
place-says s [] m lw h = unfold total_here in refl
place-says s (day_opened d ∷ own) m lw h =
    place-says s own m lw.2 (omega (arith, month_of-mono (today_in s own) d (omega (arith, lw.0))))
place-says s (act d (admit role) ∷ own) m lw h = place-says s own m lw.2 h
place-says s (act d (lodge k p) ∷ own) m lw h = place-says s own m lw.2 h
place-says s (act d (release k a) ∷ own) m lw h = place-says s own m lw.2 h
place-says s (act d (settle n figures) ∷ own) m lw h =
    let e : month_of d ≡ month_of (today_in s own) = ap month_of lw.0 in
    let b : n + 2 ≤ month_of d = (settled-within d n figures own lw.1).0 in
    place-settled n m (sum_of figures) (ring_in own (m % 16)) (total_in own m) (place-says s own m lw.2 h)
    (λ ne q. no-total-yet s own m lw.2 (omega (arith, apart n m q (omega arith) ne, (settled-within d n figures own lw.1).1)))
place-says s (act d annual_run ∷ own) m lw h = place-says s own m lw.2 h
place-says s (act d delete ∷ own) m lw h = place-says s own m lw.2 h

-- The ring law.
pub ring-says : (s : ℕ) (own : List Own) (m : ℕ) → Lawful s own → month_of (today_in s own) ≤ m + 14
    → total_at (table 16 (ring_in own)) m ≡ total_in own m
unfolding total_at
ring-says s own m lw h =
    ap (total_here m) (get_d-table 16 (ring_in own) (m % 16) no_total (omega arith)) ∙ place-says s own m lw h

-- Look-ups that agree on n months from m on give the same totals.
pub totals-same : (f g : ℕ → Total) (m n : ℕ) → ((k : ℕ) → m ≤ k → f k ≡ g k) → totals_from f m n ≡ totals_from g m n
unfolding totals_from
totals-same f g m zero h = refl
totals-same f g m (suc n) h = rw (h m (omega arith), totals-same f g (suc m) n (λ k l. h k (omega arith)))

-- The totals of an annual run are those of the reading.
pub annual-totals : (s : ℕ) (own : List Own) → Lawful s own
    → annual_totals (file_in (today_in s own) own) (today_in s own) ≡ years_totals (today_in s own) own
unfolding annual_totals years_totals file_in
annual-totals s own lw =
    totals-same (total_at (table 16 (ring_in own))) (total_in own)
    (month_of (today_in s own) - 14)
    (month_of (today_in s own) - 2 - (month_of (today_in s own) - 14))
    (λ k h. ring-says s own k lw (omega arith))
