-- `printing::calls::put_letter` meets its contract: the words up to the position, and those from `letter` on.
-- Assumes nothing.
use Rattle.std.proofs.Common.{[], ◌∷◌}
use Rattle.words.specs.Text.{text}
use Rattle.printing.specs.Decimals.{decimal}
use Rattle.printing.proofs.LineLaws.{words_more}
use Rattle.printing.proofs.calls.put_letter.Goals as goal

pub returns : goal.returns
returns c =
    words_more _ _ _ (text "lodge") (text "letter") (decimal c.args.p ∷ decimal c.args.q ∷ [])
    (decimal c.args.a ∷ decimal c.args.first ∷ decimal c.args.last ∷ []) c.words.ensures c.words-2.ensures
