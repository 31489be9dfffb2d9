-- `special::quotients::nearest_whole` meets its contract: twice x plus n fits, and what is divided is that number.
-- Assumes nothing.
use Rattle.special.proofs.Rounding.{nearest-is}
use borrow.Author.Rules.{rules}
use Rattle.special.proofs.quotients.nearest_whole.Goals as goal

pub returns : goal.returns
returns c = search (nearest-is, rules)
