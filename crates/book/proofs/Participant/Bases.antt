-- R, the base and the firm amount when a day is opened.
-- Assumes nothing.
use Prim.Native.Nat.{ℕ, suc, ◌≤◌, ◌<◌, max}
use native.Mathlib.Omega.{arith}
use mathlib.Core.Path.{◌≡◌, refl, ap, sym, ◌∙◌}
use mathlib.Core.Bool.{true, false, ◌&&◌}
use mathlib.Core.List.{List, [], ◌∷◌}
use lib.Dec.{leb, ltb, eqb}
use borrow.Author.Tests.{leb-true, ltb-true, ltb-false, le-leb, lt-leb, lt-ltb, le-ltb, eqb-true, eqb-false, ne_eqb}
use Rattle.laws.specs.Cases.{split}
use Rattle.calendar.specs.Civil.{is_first_october}
use Rattle.file.specs.declared.OpenCall.{OpenCall}
use Rattle.file.specs.Calls.{largest, amounts_of, keep, ends_at}
use Rattle.book.specs.Call.{admit, lodge, release, settle, annual_run, delete}
use Rattle.book.specs.Reading.Events.{Own, day_opened, act}
use Rattle.book.specs.Reading.Months.{next_in}
use Rattle.book.specs.Reading.Calls.{base_in, counts_from, firm_from, calls_in, firm_in, open_in}
use Rattle.book.proofs.Participant.Lawful.{today_in, Lawful}
use Rattle.book.proofs.Participant.Keep.{keep-none, largest-max}
use Rattle.book.proofs.Participant.OpenCallsNextDay.{ending_in-next}

-- The day after today, and the history with it opened.
abbrev pub next_day : ℕ → List Own → ℕ
next_day s own = suc (today_in s own)

abbrev pub with_next_day : ℕ → List Own → List Own
with_next_day s own = day_opened (next_day s own) ∷ own

-- From today on R and the base are the same.
pub base_same : (s d e : ℕ) (own : List Own) → Lawful s own → today_in s own ≤ d → today_in s own ≤ e → base_in d own ≡ base_in e own
unfolding base_in today_in
base_same s d e [] lw h k = refl
base_same s d e (day_opened b ∷ own) lw h k =
    rw (le-leb b d h, le-leb b e k)
    (rw (base_same s d e own lw.2 (omega (arith, lw.0)) (omega (arith, lw.0))))
base_same s d e (act b (admit role) ∷ own) lw h k = refl
base_same s d e (act b (lodge j a) ∷ own) lw h k = base_same s d e own lw.2 h k
base_same s d e (act b (release j a) ∷ own) lw h k = base_same s d e own lw.2 h k
base_same s d e (act b (settle m figures) ∷ own) lw h k = base_same s d e own lw.2 h k
base_same s d e (act b annual_run ∷ own) lw h k = base_same s d e own lw.2 h k
base_same s d e (act b delete ∷ own) lw h k = base_same s d e own lw.2 h k

-- R is not after today.
pub base-from : (s d : ℕ) (own : List Own) → Lawful s own → (base_in d own).from ≤ today_in s own
unfolding base_in today_in
base-from s d [] lw = omega arith
base-from s d (day_opened b ∷ own) lw =
    split (leb b d && (is_first_october b && (next_in own).set))
    (λ e. rw e (omega arith))
    (λ e. rw e (omega (arith, base-from s d own lw.2, lw.0)))
base-from s d (act b (admit role) ∷ own) lw = omega (arith, lw.0)
base-from s d (act b (lodge j a) ∷ own) lw = base-from s d own lw.2
base-from s d (act b (release j a) ∷ own) lw = base-from s d own lw.2
base-from s d (act b (settle m figures) ∷ own) lw = base-from s d own lw.2
base-from s d (act b annual_run ∷ own) lw = base-from s d own lw.2
base-from s d (act b delete ∷ own) lw = base-from s d own lw.2

-- A day opened changes no R or base of an earlier day.
pub base-before : (d e : ℕ) (own : List Own) → d < e → base_in d (day_opened e ∷ own) ≡ base_in d own
unfolding base_in
base-before d e own h = rw (lt-leb e d h)

-- A day opened changes no firm amount of an earlier day.
pub firm-before : (d e : ℕ) (own : List Own) → d < e → firm_in d (day_opened e ∷ own) ≡ firm_in d own
unfolding firm_in calls_in
firm-before d e own h = ap (λ b. firm_from d b (calls_in own)) (base-before d e own h)

-- R and the base on the day opened: where it is a 1 October with a next amount, that day and that amount; else those of today.
pub base-effect : (e : ℕ) (own : List Own) → (is_first_october e && (next_in own).set) ≡ true
    → base_in e (day_opened e ∷ own) ≡ record { from = e; amount = (next_in own).amount }
unfolding base_in
base-effect e own h = rw (le-leb e e (omega arith), h)

pub base_stays : (s : ℕ) (own : List Own) → Lawful s own
    → (is_first_october (next_day s own) && (next_in own).set) ≡ false
    → base_in (next_day s own) (with_next_day s own) ≡ base_in (today_in s own) own
unfolding base_in
base_stays s own lw h =
    let t = today_in s own in
    rw (le-leb (suc t) (suc t) (omega arith), h) (base_same s (suc t) t own lw (omega arith) (omega arith))

-- No call has R ≤ last free day < R, so the firm amount on R is the base.
none_between : (r l : ℕ) → (leb r l && ltb l r) ≡ false
none_between r l = split (leb r l) (λ h. rw (h, le-ltb l r (leb-true r l h))) (λ h. rw h)

pub firm-at-start : (r a : ℕ) (made : List OpenCall) → firm_from r (record { from = r; amount = a }) made ≡ a
unfolding firm_from largest
firm-at-start r a made = rw (keep-none (counts_from r r) made (λ c. none_between r c.last.0))

-- The calls that end today raise the largest of a window to the largest of the window one day longer.
pub window-longer : (r t b : ℕ) (made : List OpenCall) → r ≤ t
    → largest b (amounts_of (keep (counts_from r (suc t)) made))
    ≡ largest (largest b (amounts_of (keep (counts_from r t) made))) (amounts_of (keep (ends_at (suc t)) made))
unfolding keep largest
window-longer r t b [] h = refl
window-longer r t b (c ∷ made) h =
    let l : ℕ = c.last.0 in
    let shorter = largest b (amounts_of (keep (counts_from r t) made)) in
    let ending = amounts_of (keep (ends_at (suc t)) made) in
    let rest = window-longer r t b made h in
    let raised = ap (max c.amount) rest in
    split (ltb l t)
    (λ e.
    let lt : l < t = ltb-true l t e in
    rw (e, lt-ltb l (suc t) (omega arith), ne_eqb (suc l) (suc t) (λ q. omega arith))
    (split (leb r l) (λ f. rw f (raised ∙ sym (largest-max shorter c.amount ending))) (λ f. rw f rest)))
    (λ e.
    let ge : t ≤ l = ltb-false l t e in
    rw (e, le-leb r l (omega arith))
    (split (eqb (suc l) (suc t))
    (λ f. rw (f, lt-ltb l (suc t) (omega (arith, eqb-true (suc l) (suc t) f))) raised)
    (λ f. rw (f, le-ltb l (suc t) (omega (arith, eqb-false (suc l) (suc t) f))) rest)))

-- The firm amount on the day opened: the next amount, where that day is a 1 October and a next amount is set.
pub firm-effect : (e : ℕ) (own : List Own) → (is_first_october e && (next_in own).set) ≡ true
    → firm_in e (day_opened e ∷ own) ≡ (next_in own).amount
unfolding firm_in calls_in
firm-effect e own h =
    ap (λ b. firm_from e b (calls_in own)) (base-effect e own h) ∙ firm-at-start e (next_in own).amount (calls_in own)

-- Else it is today's, raised by the calls whose last free day is today.
pub firm-raised : (s : ℕ) (own : List Own) → Lawful s own
    → (is_first_october (next_day s own) && (next_in own).set) ≡ false
    → firm_in (next_day s own) (with_next_day s own)
    ≡ largest (firm_in (today_in s own) own) (amounts_of (keep (ends_at (next_day s own)) (open_in (today_in s own) own)))
unfolding firm_in firm_from calls_in
firm-raised s own lw h =
    let t = today_in s own in
    rw (ending_in-next t own, base_stays s own lw h)
    (window-longer (base_in t own).from t (base_in t own).amount (calls_in own) (base-from s t own lw))
