-- Each opened day charged exactly the late participants, once: the days charged grow by one, and the accrued charge by that day's charge,
-- where the cover at the opening is below the firm amount on that day; else neither changes.
-- Assumes nothing.
use Prim.Native.Nat.{ℕ, suc, ◌+◌, ◌-◌}
use native.Mathlib.Omega.{arith}
use mathlib.Core.Path.{◌≡◌, ◌∙◌}
use mathlib.Core.Bool.{true, cond}
use mathlib.Core.List.{List, ◌∷◌}
use lib.Dec.{ltb, eqb}
use borrow.Author.Tests.{ltb-true, ltb-false, eq-eqb, ne_eqb}
use Rattle.laws.specs.Cases.{split}
use Rattle.manual.specs.Charge.{day_charge}
use Rattle.book.specs.Reading.Events.{Own, day_opened, admitted_in}
use Rattle.book.specs.Reading.Holdings.{cover_in}
use Rattle.book.specs.Reading.Calls.{firm_in}
use Rattle.book.specs.Reading.Charges.{charged_in, accrued_in}
use Rattle.book.proofs.Participant.Lawful.{Lawful}
use Rattle.book.proofs.Participant.Bases.{next_day, with_next_day}
use Rattle.book.proofs.Participant.Days.{charged-opened, accrued-opened}

-- One more, or none, by whether a cover is below a firm amount.
pub one-if-short : (n firm cover : ℕ) → n + cond (eqb (firm - cover) 0) 0 1 ≡ cond (ltb cover firm) (suc n) n
one-if-short n firm cover =
    split (ltb cover firm)
    (λ e. rw (e, ne_eqb (firm - cover) 0 (λ q. omega (arith, ltb-true cover firm e))) (omega arith))
    (λ e. rw (e, eq-eqb (firm - cover) 0 (omega (arith, ltb-false cover firm e))) (omega arith))

-- A day's charge, or none.
pub charge-if-short : (n firm cover : ℕ) → n + day_charge (firm - cover) ≡ cond (ltb cover firm) (n + day_charge (firm - cover)) n
unfolding day_charge
charge-if-short n firm cover =
    split (ltb cover firm)
    (λ e. rw e)
    (λ e. rw (e, eq-eqb (firm - cover) 0 (omega (arith, ltb-false cover firm e))) (omega arith))

-- The days charged after the next day was opened.
pub day-counted : (s : ℕ) (own : List Own) → Lawful s own → admitted_in own ≡ true
    → charged_in (with_next_day s own)
    ≡ cond
    (ltb (cover_in (next_day s own) own) (firm_in (next_day s own) (with_next_day s own)))
    (suc (charged_in own))
    (charged_in own)
day-counted s own lw e =
    let d = next_day s own in
    charged-opened s own lw e ∙ one-if-short (charged_in own) (firm_in d (day_opened d ∷ own)) (cover_in d own)

-- The accrued charge after it.
pub day-charged : (s : ℕ) (own : List Own) → Lawful s own → admitted_in own ≡ true
    → accrued_in (with_next_day s own)
    ≡ cond
    (ltb (cover_in (next_day s own) own) (firm_in (next_day s own) (with_next_day s own)))
    (accrued_in own + day_charge (firm_in (next_day s own) (with_next_day s own) - cover_in (next_day s own) own))
    (accrued_in own)
day-charged s own lw e =
    let d = next_day s own in
    accrued-opened s own lw e ∙ charge-if-short (accrued_in own) (firm_in d (day_opened d ∷ own)) (cover_in d own)
