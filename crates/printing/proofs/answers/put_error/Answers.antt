-- `printing::answers::put_error` meets its contract: the reason comes last.
-- Assumes nothing.
use Rattle.std.proofs.Common.{[], ◌∷◌}
use Rattle.words.specs.Text.{text}
use Rattle.printing.specs.Decimals.{decimal}
use Rattle.printing.specs.WrittenLaws.{joined_more}
use Rattle.printing.proofs.answers.put_error.Goals as goal

pub returns : goal.returns
returns c = joined_more _ _ _ (text "error") (decimal c.args.line ∷ []) _ c.words.ensures c.spaced.ensures
