-- `batch::reader::BatchReader::part` meets its contract: the offset of the pair and the two bytes there.
-- Assumes nothing.
use borrow.Author.Rules.{rules}
use Rattle.batch.proofs.PartLaws.{part-is}
use Rattle.batch.proofs.reader.BatchReader.part.Goals as goal

pub returns : goal.returns
returns c = part-is _ _ _ _ _ (search rules) (search rules) (search rules) (search rules) (search rules)
