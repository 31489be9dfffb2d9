-- `printing::calls::put_settle` meets its contract: the words up to the month, and the figures.
-- Assumes nothing.
use Rattle.std.proofs.Common.{[], ◌∷◌}
use Rattle.words.specs.Text.{text}
use Rattle.printing.specs.Decimals.{decimal}
use Rattle.printing.specs.WrittenLaws.{joined_more}
use Rattle.printing.proofs.calls.put_settle.Goals as goal

pub returns : goal.returns
returns c = joined_more _ _ _ (text "settle") (decimal c.args.p ∷ decimal c.args.month ∷ []) _ c.words.ensures c.each_spaced.ensures
