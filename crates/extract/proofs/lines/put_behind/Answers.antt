-- `extract::lines::put_behind` meets its contract: the reference with its mark where there is one, and the newline.
-- Assumes nothing.
use borrow.Author.Rules.{rules}
use Rattle.extract.specs.Lines.{commented, behind_call}
use Rattle.extract.proofs.PartLaws.{behind_none, behind_some}
use Rattle.extract.proofs.lines.put_behind.Goals.{then-not-is_empty, else-not-is_empty}
use Rattle.extract.proofs.lines.put_behind.Goals as goal

pub returns : goal.returns
unfolding behind_call commented
returns c = elim c.if-not-is_empty.branch [
  | then-not-is_empty w ↦ search (behind_some, rules)
  | else-not-is_empty w ↦ search (behind_none, rules)
]
