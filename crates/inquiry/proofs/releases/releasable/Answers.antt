-- `inquiry::releases::releasable` meets its contract: the file that is read is the participant's, within its bounds today.
-- Assumes nothing.
use Rattle.std.proofs.Common.{rules}
use Rattle.std.proofs.lemmas.Bool.{not-false}
use Rattle.inquiry.proofs.Books.{sound-there, most-there}
use Rattle.inquiry.proofs.releases.releasable.Goals as goal

pub most_releasable-requires : goal.most_releasable-requires
most_releasable-requires c = (search (sound-there, rules), search rules)

pub returns-clause-most : goal.returns-clause-most
returns-clause-most c = search (most-there, not-false, rules)
