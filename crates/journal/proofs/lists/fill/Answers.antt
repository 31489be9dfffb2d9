-- `journal::lists::fill` meets its contract. The loop's invariant: the numbers that are left, written from place i on, give what all of them give.
-- Assumes nothing.
use Rattle.std.proofs.Common.{rules, arith, refl, to_z, of_z, w64, ◌≡◌}
use Rattle.journal.proofs.ListLaws.{filling_starts, filling_ends, filling_whole, filling_faults, filling_full, filling_goes, filled_err}
use Rattle.journal.proofs.lists.fill.Goals as goal

pub loop-i-init : goal.loop-i-init
loop-i-init c = filling_starts _ _ _ _

pub returns-in_err-number-clause-filled : goal.returns-in_err-number-clause-filled
returns-in_err-number-clause-filled c =
    filled_err _ _ c.from_residual.result c.in_err-number.field-0.0 _ c.loop-i.words _ c.from_residual.ensures.1
    (filling_faults _ _ _ _ _ _ _ c.loop-i.invariant c.loop-i-test.true _ c.in_err-number.ensures _)

pub returns-then-numbers-i-clause-filled : goal.returns-then-numbers-i-clause-filled
returns-then-numbers-i-clause-filled c =
    filling_full _ _ _ _ _ _ _ c.loop-i.invariant c.loop-i-test.true _ c.in_ok-number.ensures.0 c.if-numbers-i.true _

pub loop-i-preserved : goal.loop-i-preserved
loop-i-preserved c =
    let e : to_z w64 (of_z w64 c.in_ok-number.number) ≡ c.in_ok-number.number = search rules in
    rw e
    (filling_goes _ _ _ _ _ _ _ c.loop-i.invariant c.loop-i-test.true _ c.in_ok-number.ensures.0 c.if-numbers-i.false _ c.in_ok-number.ensures.1)

pub returns-clause-filled : goal.returns-clause-filled
returns-clause-filled c = filling_ends _ _ _ _ _ _ _ c.loop-i.invariant c.loop-i-test.false _ refl

pub returns-clause-whole : goal.returns-clause-whole
returns-clause-whole c = filling_whole _ _ _ _ _ _ _ c.loop-i.invariant c.loop-i-test.false c.loop-i.words refl (omega arith)
