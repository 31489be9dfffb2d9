-- `printing::calls::put_cash` meets its contract: the words up to the position, and those from `cash` on.
-- Assumes nothing.
use Rattle.std.proofs.Common.{[], ◌∷◌}
use Rattle.words.specs.Text.{text}
use Rattle.printing.specs.Decimals.{decimal}
use Rattle.printing.proofs.LineLaws.{words_more}
use Rattle.printing.proofs.calls.put_cash.Goals as goal

pub returns : goal.returns
returns c =
    words_more _ _ _ (text "lodge") (text "cash") (decimal c.args.p ∷ decimal c.args.q ∷ []) (decimal c.args.a ∷ []) c.words.ensures c.words-2.ensures
