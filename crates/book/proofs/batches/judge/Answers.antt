-- `book::batches::judge` meets its contract. The loop's invariant: the answers of the parts before i are kept, and none of them is refused.
-- Assumes nothing.
use mathlib.Core.Path.{◌∙◌}
use lib.ListN.{length-set}
use Rattle.book.specs.Settlements.{due_on}
use Rattle.book.proofs.Functions.OnBatches.{all-inside, ok-kept, judges-next}
use Rattle.book.proofs.batches.judge.Goals as goal
use native.Mathlib.Omega.{arith}

pub part_answer-requires : goal.part_answer-requires
part_answer-requires c =
    (c.requires.0, c.due_on-due.ensures ∙ (λ i. due_on (c.today_of.ensures i) (c.month.ensures i)), all-inside _ _ _ c.requires.1 c.loop-i-test.true)

pub loop-i-preserved : goal.loop-i-preserved
loop-i-preserved c =
    let kept = ok-kept _ _ _ _ _ c.map_err.ensures.cases c.map_err.ensures.variant c.in_ok-answers.was c.part_answer.ensures in (
      omega (arith, c.loop-i.invariant.0, length-set c.loop-i.answers c.loop-i.i-counter c.in_ok-answers.field-0),
      judges-next _ _ _ _ _ c.loop-i.invariant.1 (omega (arith, c.loop-i-test.true, c.loop-i.invariant.0)) kept,
    )
