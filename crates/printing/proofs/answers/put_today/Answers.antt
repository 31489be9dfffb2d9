-- `printing::answers::put_today` meets its contract: the date comes last.
-- Assumes nothing.
use Rattle.std.proofs.Common.{[], ◌∷◌}
use Rattle.words.specs.Text.{text}
use Rattle.printing.specs.Decimals.{decimal}
use Rattle.printing.specs.WrittenLaws.{joined_more}
use Rattle.printing.proofs.answers.put_today.Goals as goal

pub returns : goal.returns
returns c = joined_more _ _ _ (text "today") (decimal c.args.day.0 ∷ []) _ c.words.ensures c.spaced.ensures
