-- The cover of the positions read from a history is the cover read from its lodgings and releases, and so is D: by induction on the history, what is
-- left at the eight places and what was released add up to what was lodged, through each day from today on.
-- Assumes nothing.
use Prim.Native.Nat.{ℕ, zero, suc, ◌+◌, ◌-◌, ◌≤◌}
use native.Mathlib.Omega.{arith}
use mathlib.Core.Path.{◌≡◌, refl, sym, ap, ◌∙◌}
use mathlib.Core.Bool.{Bool, true, false, cond, and-false}
use mathlib.Core.List.{List, [], ◌∷◌}
use lib.Dec.{leb, ltb}
use borrow.Author.Tests.{ltb-false, leb-true, le-leb, not-false, eq-eqb, ne_eqb}
use Rattle.laws.specs.Cases.{split}
use Rattle.laws.specs.Lists.{table}
use Rattle.laws.specs.Tabulated.{sum_below, sum_below-ext, sum_below-change}
use Rattle.file.specs.declared.Position.{Position}
use Rattle.file.specs.declared.Position.TheVariants.{Empty, Cash, Letter}
use Rattle.file.specs.Position.{amount_of, in_force_through, counts_through, cover_through, cover_on, filled, not_releasable, slot_of}
use Rattle.book.specs.Call.{admit, lodge, release, settle, annual_run, delete}
use Rattle.book.specs.Reading.Events.{Own, day_opened, act}
use Rattle.book.specs.Reading.Holdings.{last_lodged, released_since, less, left_at, position_in}
use Rattle.book.specs.Reading.Holdings.{lodged_where, released_where, cover_in, stays_in_force, deposited_in}
use Rattle.book.specs.Reading.Decisions.{own_causes}
use Rattle.book.proofs.Participant.Lawful.{today_in, Lawful}
use Rattle.book.proofs.Participant.Positions.{emptied-counts, unfilled-today, less-nothing-counts, release-takes}

-- The cover of a table of slots is the sum of what they count for.
pub cover-table : (d e n : ℕ) (p : ℕ → Position)
    → cover_through d e (table n (λ k. slot_of (p k))) ≡ sum_below n (λ k. counts_through d e (p k))
unfolding cover_through sum_below
cover-table d e zero p = refl
cover-table d e (suc n) p = ap (λ x. counts_through d e (p zero) + x) (cover-table d e n (λ k. p (suc k)))

-- What is left at the eight places counts from day d to day e for so much.
unfoldable pub left_through : ℕ → ℕ → List Own → ℕ
left_through d e own = sum_below 8 (λ k. counts_through d e (left_at k own))

-- What a lodging leaves at its own place, and at another.
pub left-lodged : (e k : ℕ) (h : Position) (own : List Own) → left_at k (act e (lodge k h) ∷ own) ≡ less 0 h
unfolding left_at last_lodged released_since
left-lodged e k h own = rw (eq-eqb k k refl)

pub left-lodged-other : (e k j : ℕ) (h : Position) (own : List Own) → (j ≡ k → ⊥)
    → left_at j own ≡ left_at j (act e (lodge k h) ∷ own)
unfolding left_at last_lodged released_since
left-lodged-other e k j h own ne = rw (ne_eqb k j (λ q. ne (sym q)))

-- What a release leaves at its own place, and at another.
pub left-released : (e k a : ℕ) (own : List Own)
    → left_at k (act e (release k a) ∷ own) ≡ less (a + released_since k own) (last_lodged k own)
unfolding left_at last_lodged released_since
left-released e k a own = rw (eq-eqb k k refl)

pub left-released-other : (e k j a : ℕ) (own : List Own) → (j ≡ k → ⊥)
    → left_at j own ≡ left_at j (act e (release k a) ∷ own)
unfolding left_at last_lodged released_since
left-released-other e k j a own ne = rw (ne_eqb k j (λ q. ne (sym q)))

-- A lodging adds to what is left what it counts for, where it replaces what counts for nothing.
pub lodging-adds : (day t d e k : ℕ) (h : Position) (own : List Own) → t ≤ e → ltb 7 k ≡ false
    → filled (position_in t k own) ≡ false
    → left_through d e (act day (lodge k h) ∷ own) ≡ counts_through d e h + left_through d e own
unfolding left_through position_in
lodging-adds day t d e k h own le place free =
    let new = act day (lodge k h) ∷ own in
    let change : counts_through d e (left_at k own) + sum_below 8 (λ j. counts_through d e (left_at j new))
    ≡ counts_through d e (left_at k new) + sum_below 8 (λ j. counts_through d e (left_at j own)) =
    sum_below-change 8 (λ j. counts_through d e (left_at j own)) (λ j. counts_through d e (left_at j new)) k
    (omega (arith, ltb-false 7 k place))
    (λ j ne. ap (counts_through d e) (left-lodged-other day k j h own ne)) in
    let old : counts_through d e (left_at k own) ≡ 0 = unfilled-today t d e (left_at k own) le free in
    let now : counts_through d e (left_at k new) ≡ counts_through d e h =
    ap (counts_through d e) (left-lodged day k h own) ∙ less-nothing-counts d e h in
    omega arith

-- At its own place a release takes its amount, where what was last lodged there is in force.
released-there : (day t d e k a : ℕ) (own : List Own) → filled (position_in t k own) ≡ true
    → not_releasable a (position_in t k own) ≡ false
    → counts_through d e (left_at k (act day (release k a) ∷ own)) + cond (in_force_through d e (last_lodged k own)) a 0
    ≡ counts_through d e (left_at k own)
unfolding position_in left_at
released-there day t d e k a own full allowed =
    rw (left-released day k a own) (release-takes t d e (released_since k own) a (last_lodged k own) full allowed)

-- An empty history leaves nothing.
nothing_left : (d e : ℕ) → left_through d e [] + 0 ≡ 0
unfolding left_through left_at last_lodged released_since counts_through sum_below
nothing_left d e = refl

-- A release takes from what is left its amount, where what was last lodged there is in force.
pub release-leaves : (day t d e k a : ℕ) (own : List Own) → ltb 7 k ≡ false → filled (position_in t k own) ≡ true
    → not_releasable a (position_in t k own) ≡ false
    → left_through d e (act day (release k a) ∷ own) + cond (in_force_through d e (last_lodged k own)) a 0 ≡ left_through d e own
unfolding left_through position_in
release-leaves day t d e k a own place full allowed =
    let new = act day (release k a) ∷ own in
    let change : counts_through d e (left_at k own) + sum_below 8 (λ j. counts_through d e (left_at j new))
    ≡ counts_through d e (left_at k new) + sum_below 8 (λ j. counts_through d e (left_at j own)) =
    sum_below-change 8 (λ j. counts_through d e (left_at j own)) (λ j. counts_through d e (left_at j new)) k
    (omega (arith, ltb-false 7 k place))
    (λ j ne. ap (counts_through d e) (left-released-other day k j a own ne)) in
    let taken = released-there day t d e k a own full allowed in
    omega arith

-- What is left at the eight places, with what was released, is what was lodged.
pub left-and-released : (s d e : ℕ) (own : List Own) → Lawful s own → today_in s own ≤ e
    → left_through d e own + released_where (in_force_through d e) own ≡ lodged_where (in_force_through d e) own
unfolding today_in released_where lodged_where own_causes left_through left_at last_lodged released_since
left-and-released s d e [] lw h = nothing_left d e
left-and-released s d e (day_opened day ∷ own) lw h =
    left-and-released s d e own lw.2 (omega (arith, lw.0))
left-and-released s d e (act day (admit role) ∷ own) lw h = left-and-released s d e own lw.2 h
left-and-released s d e (act day (lodge k p) ∷ own) lw h =
    let before = left-and-released s d e own lw.2 h in
    let causes = lw.1 in
    let adds = lodging-adds day day d e k p own (omega (arith, lw.0)) causes.1.0 causes.1.1.0 in
    let counted : counts_through d e p ≡ cond (in_force_through d e p) (amount_of p) 0 = unfold counts_through in refl in
    omega arith
left-and-released s d e (act day (release k a) ∷ own) lw h =
    let before = left-and-released s d e own lw.2 h in
    let causes = lw.1 in
    let leaves =
    release-leaves day day d e k a own causes.1.0 (not-false (filled (position_in day k own)) causes.1.1.0)
    causes.1.1.1.1.0 in
    omega arith
left-and-released s d e (act day (settle m figures) ∷ own) lw h = left-and-released s d e own lw.2 h
left-and-released s d e (act day annual_run ∷ own) lw h = left-and-released s d e own lw.2 h
left-and-released s d e (act day delete ∷ own) lw h = left-and-released s d e own lw.2 h

-- The positions of day t count through each day from t on for what is left, lapsed letters counting for nothing.
pub cover-of-positions : (t d e : ℕ) (own : List Own) → t ≤ e
    → cover_through d e (table 8 (λ k. slot_of (position_in t k own))) ≡ left_through d e own
unfolding left_through position_in
cover-of-positions t d e own h =
    cover-table d e 8 (λ k. position_in t k own)
    ∙ sum_below-ext 8 (λ k. counts_through d e (position_in t k own)) (λ k. counts_through d e (left_at k own))
    (λ k b. emptied-counts t d e (left_at k own) h)

-- So they count for the lodgings less the releases.
pub cover-through : (s d e : ℕ) (own : List Own) → Lawful s own → today_in s own ≤ e
    → cover_through d e (table 8 (λ k. slot_of (position_in (today_in s own) k own)))
    ≡ lodged_where (in_force_through d e) own - released_where (in_force_through d e) own
cover-through s d e own lw h = cover-of-positions (today_in s own) d e own h ∙ omega (arith, left-and-released s d e own lw h)

-- On a day this is the cover,
pub cover-is : (s d : ℕ) (own : List Own) → Lawful s own → today_in s own ≤ d
    → cover_on d (table 8 (λ k. slot_of (position_in (today_in s own) k own))) ≡ cover_in d own
unfolding cover_on cover_in
cover-is s d own lw h = cover-through s d d own lw h

-- and from today to the eleventh day after it D: what is in force on both is in force on all days between.
stays-through : (t : ℕ) (p : Position) → in_force_through t (t + 11) p ≡ stays_in_force t p
stays-through t Empty = refl
stays-through t (Cash a) = refl
stays-through t (Letter a first last) =
    split (leb first.0 t)
    (λ begun.
    let begun-then : leb first.0 (t + 11) ≡ true = le-leb first.0 (t + 11) (omega (arith, leb-true first.0 t begun)) in
    split (leb (t + 11) last.0)
    (λ lasts. simp (begun, begun-then, lasts, le-leb t last.0 (omega (arith, leb-true (t + 11) last.0 lasts))))
    (λ lapses. simp (begun, begun-then, lapses, and-false (leb t last.0))))
    (λ later. simp later)

pub deposit-is : (s : ℕ) (own : List Own) → Lawful s own
    → cover_through (today_in s own) (today_in s own + 11) (table 8 (λ k. slot_of (position_in (today_in s own) k own))) ≡ deposited_in (today_in s own) own
unfolding deposited_in
deposit-is s own lw =
    let t = today_in s own in
    cover-through s t (t + 11) own lw (omega arith)
    ∙ ap (λ (test : Position → Bool). lodged_where test own - released_where test own) (λ i p. stays-through t p i)
