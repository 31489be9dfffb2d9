-- `special::amounts::raised` meets its contract: the larger of the two, which is not negative.
-- Assumes nothing.
use borrow.Author.Rules.{rules}
use Rattle.special.proofs.Amount.{raised_read}
use Rattle.special.proofs.amounts.raised.Goals as goal

pub returns : goal.returns
returns c = search (raised_read, rules)
