-- `journal::fields::take_budget` meets its contract: the next word, or all the days that there are where no word is left.
-- Assumes nothing.
use Rattle.std.proofs.Common.{refl}
use Rattle.journal.proofs.FieldLaws.{budget_is, budget_none}
use Rattle.journal.proofs.fields.take_budget.Goals as goal

pub returns-in-Some : goal.returns-in-Some
returns-in-Some c = rw c.ok_or.ensures.value (budget_is _ _ _ _ c.next.new.self c.in-Some.ensures.steps refl c.read.ensures)

pub returns-in-None : goal.returns-in-None
returns-in-None c = budget_none _ _ c.in-None.ensures.steps.0 c.in-None.ensures.steps.1
