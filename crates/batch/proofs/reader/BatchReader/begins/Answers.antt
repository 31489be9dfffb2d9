-- `batch::reader::BatchReader::begins` meets its contract: the first part begins behind the pairs, each next one where the one before ends.
-- Assumes nothing.
use borrow.Author.Rules.{rules}
use Rattle.batch.proofs.PairLaws.{begins-first, begins-next}
use Rattle.batch.proofs.reader.BatchReader.begins.Goals as goal

pub returns-then-self-eq0 : goal.returns-then-self-eq0
returns-then-self-eq0 c = search (begins-first, rules)

pub returns : goal.returns
returns c = search (begins-next, rules)
