-- A call that opened no day left no admitted participant's shortfall higher, and one newly admitted began with none.
-- Assumes nothing.
use Prim.Native.Nat.{ℕ, ◌+◌, ◌-◌, ◌≤◌}
use native.Mathlib.Omega.{arith}
use mathlib.Core.Path.{◌≡◌, refl, ap, ◌∙◌}
use mathlib.Core.Bool.{true, false}
use mathlib.Core.List.{List, ◌∷◌}
use lib.Dec.{ltb}
use lib.IntN.{ℤ}
use borrow.Author.Tests.{ltb-false}
use Rattle.laws.specs.Cases.{clash}
use Rattle.manual.specs.Minimum.{minimum_of}
use Rattle.file.specs.declared.Position.{Position}
use Rattle.file.specs.Calls.{largest, keep}
use Rattle.book.specs.Call.{Act, admit, lodge, release, settle, annual_run, delete}
use Rattle.book.specs.Reading.Events.{Own, act, admitted_in}
use Rattle.book.specs.Reading.Holdings.{lodged_where, released_where, cover_in}
use Rattle.book.specs.Reading.Calls.{Base, base_in, firm_from, calls_in, firm_in}
use Rattle.book.specs.Reading.Decisions.{cover_left, must_stay, own_causes}
use Rattle.book.proofs.Participant.Lawful.{today_in, NoneHolds, Lawful}
use Rattle.book.proofs.Participant.Charges.{firm-behind, firm-settled, firm-deleted}
use Rattle.book.proofs.Participant.Blank.{blank-calls}

-- The shortfall on day t, by the reading.
abbrev pub shortfall_in : ℕ → List Own → ℕ
shortfall_in t own = firm_in t own - cover_in t own

-- A lodging leaves the firm amount as it was and only adds to the cover.
lodging-raises-none : (t k : ℕ) (h : Position) (own : List Own) → shortfall_in t (act t (lodge k h) ∷ own) ≤ shortfall_in t own
unfolding firm_in base_in calls_in cover_in lodged_where released_where
lodging-raises-none t k h own = omega arith

-- What must stay after a release is at least the firm amount.
firm-stays : (t : ℕ) (own : List Own) → firm_in t own ≤ must_stay t own
unfolding largest
firm-stays t own = omega arith

-- An accepted release leaves no shortfall.
release-leaves-none : (t k a : ℕ) (own : List Own) → ltb (cover_left t k a own) (must_stay t own) ≡ false
    → shortfall_in t (act t (release k a) ∷ own) ≡ 0
release-leaves-none t k a own enough =
    let same : firm_in t (act t (release k a) ∷ own) ≡ firm_in t own = unfold firm_in base_in calls_in in refl in
    let covered : must_stay t own ≤ cover_left t k a own = ltb-false (cover_left t k a own) (must_stay t own) enough in
    omega (arith, firm-stays t own)

-- A settlement changes neither: its call, if any, has its last free day ten days on.
settlement-raises-none : (t m : ℕ) (figures : List ℤ) (own : List Own)
    → shortfall_in t (act t (settle m figures) ∷ own) ≡ shortfall_in t own
unfolding cover_in lodged_where released_where
settlement-raises-none t m figures own =
    ap (λ (firm : ℕ). firm - cover_in t own) (firm-settled t t m figures own (omega arith))

-- Nor does an annual run.
annual-raises-none : (t : ℕ) (own : List Own) → shortfall_in t (act t annual_run ∷ own) ≤ shortfall_in t own
unfolding firm_in base_in calls_in cover_in lodged_where released_where
annual-raises-none t own = omega arith

-- Nor a deletion: its call, too, has its last free day ten days on.
deletion-raises-none : (t : ℕ) (own : List Own) → shortfall_in t (act t delete ∷ own) ≡ shortfall_in t own
unfolding cover_in lodged_where released_where
deletion-raises-none t own = ap (λ (firm : ℕ). firm - cover_in t own) (firm-deleted t t own (omega arith))

-- A call that opened no day left no admitted participant's shortfall higher.
pub shortfall-not-higher : (s : ℕ) (own : List Own) (a : Act) → Lawful s own → admitted_in own ≡ true
    → NoneHolds (own_causes (today_in s own) own a)
    → shortfall_in (today_in s own) (act (today_in s own) a ∷ own) ≤ shortfall_in (today_in s own) own
unfolding own_causes
shortfall-not-higher s own (admit role) lw admitted none = clash admitted none.0
shortfall-not-higher s own (lodge k h) lw admitted none = lodging-raises-none (today_in s own) k h own
shortfall-not-higher s own (release k a) lw admitted none =
    omega (arith, release-leaves-none (today_in s own) k a own none.1.1.1.1.1.0)
shortfall-not-higher s own (settle m figures) lw admitted none =
    omega (arith, settlement-raises-none (today_in s own) m figures own)
shortfall-not-higher s own annual_run lw admitted none = annual-raises-none (today_in s own) own
shortfall-not-higher s own delete lw admitted none = omega (arith, deletion-raises-none (today_in s own) own)

-- A participant's firm amount on the day of its admission is 0: the minimum's call has its last free day ten days on.
pub newly-admitted : (s role : ℕ) (own : List Own) → Lawful s own → admitted_in own ≡ false
    → firm_in (today_in s own) (act (today_in s own) (admit role) ∷ own) ≡ 0
unfolding firm_in base_in calls_in firm_from keep largest
newly-admitted s role own lw out =
    let t = today_in s own in
    let base : Base = record { from = t; amount = 0 } in
    firm-behind t base (calls_in own) (ltb 0 (minimum_of role)) (minimum_of role) (t + 10) (omega arith)
    ∙ ap (firm_from t base) (blank-calls s own lw out)

-- So a participant that a call made an admitted one begins with no shortfall.
pub begun-with-none : (s : ℕ) (own : List Own) (a : Act) → Lawful s own → admitted_in own ≡ false
    → admitted_in (act (today_in s own) a ∷ own) ≡ true → shortfall_in (today_in s own) (act (today_in s own) a ∷ own) ≡ 0
unfolding admitted_in
begun-with-none s own (admit role) lw out now = omega (arith, newly-admitted s role own lw out)
begun-with-none s own (lodge k h) lw out now = clash now out
begun-with-none s own (release k a) lw out now = clash now out
begun-with-none s own (settle m figures) lw out now = clash now out
begun-with-none s own annual_run lw out now = clash now out
begun-with-none s own delete lw out now = clash now out
