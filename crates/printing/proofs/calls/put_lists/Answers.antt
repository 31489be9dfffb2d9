-- `printing::calls::put_lists` meets its contract: each turn takes the first of the lists that are left.
-- Assumes nothing.
use borrow.Author.Rules.{rules}
use Rattle.printing.specs.WrittenLaws.{followed_all}
use Rattle.printing.proofs.LineLaws.{lists_step, lists_done}
use Rattle.printing.proofs.calls.put_lists.Goals as goal

pub loop-n-preserved : goal.loop-n-preserved
loop-n-preserved c = search (lists_step, rules)

pub returns : goal.returns
returns c = followed_all _ _ _ c.loop-n.invariant (lists_done _ _ _ c.loop-n-test.false)
