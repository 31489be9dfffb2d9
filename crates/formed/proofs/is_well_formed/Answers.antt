-- `formed::is_well_formed` meets its contract, by its tests in turn.
-- Assumes nothing.
use borrow.Author.Rules.{rules}
use Rattle.formed.proofs.BookChecks.{layout-fails, day-fails, files-decide}
use Rattle.formed.proofs.is_well_formed.Goals as goal

pub returns-in-len2-up : goal.returns-in-len2-up
returns-in-len2-up c = files-decide _ _ (search rules) (search rules) (search rules) c.files_formed.ensures

pub returns-in_default-2 : goal.returns-in_default-2
returns-in_default-2 c = search (day-fails, rules)

pub returns-in_default-3 : goal.returns-in_default-3
returns-in_default-3 c = search (layout-fails, rules)
