-- `report::put_title` meets its contract: four words with a blank between each two.
-- Assumes nothing.
use borrow.Author.Rules.{rules}
use Rattle.report.proofs.TableLaws.{title_put}
use Rattle.report.proofs.put_title.Goals as goal

pub returns : goal.returns
returns c = search (title_put, rules)
