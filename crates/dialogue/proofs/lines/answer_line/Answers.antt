-- `dialogue::lines::answer_line` meets its contract: the line is asked, applied and written.
-- Assumes nothing.
use Rattle.dialogue.proofs.LineLaws.{line_taken}
use Rattle.dialogue.specs.Turns.{next}
use Rattle.std.proofs.Common.{◌≤◌, length, refl, arith}
use Rattle.dialogue.proofs.lines.answer_line.Goals as goal

pub returns : goal.returns
unfolding next
returns c =
    let fits : length c.args.numbers.now ≤ 18446744073709551615 = omega (arith, c.well_formed) in
    line_taken _ _ _ _ _ _ _ _ _ _ _ _ _ _ _ _ c.ask-request.ensures refl c.apply_at-answer.ensures c.text_of.ensures c.put.ensures fits
