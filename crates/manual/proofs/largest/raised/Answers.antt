-- `manual::largest::raised` meets its contract: the larger of the two, a total below 0 counting as 0. Assumes nothing.
use borrow.Author.Rules.{rules}
use Rattle.manual.proofs.Machine.{raised_read}
use Rattle.manual.proofs.largest.raised.Goals as goal

pub returns : goal.returns
returns c = search (raised_read, rules)
