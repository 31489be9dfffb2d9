-- `inquiry::releases::most_releasable` meets its contract: a letter is released whole, where the cover without it is at least the floor.
-- Assumes nothing.
use Rattle.std.proofs.Common.{rules}
use Rattle.inquiry.proofs.Held.{floor-is, letter-most}
use Rattle.inquiry.proofs.releases.most_releasable.Goals as goal

pub returns-in-Letter : goal.returns-in-Letter
returns-in-Letter c = search (letter-most, floor-is, rules)
