-- `dialogue::lines::answer_lines` meets its contract: after each turn the lines up to `used` are taken. The measure is what is left of the input.
-- Assumes nothing.
use Rattle.std.proofs.Common.{◌≡◌, ◌-◌, length}
use Rattle.layout.specs.WellFormed.{WellFormed}
use Rattle.dialogue.specs.Answers.{space, SameBytes, state_of, Taken}
use Rattle.dialogue.proofs.lines.answer_lines.Given as goal

abbrev pub invariant-loop-n : goal.invariant-loop-n
invariant-loop-n l = (length l.numbers ≡ length l.initial.numbers) × (space l.journal ≡ space l.initial.journal) × (space l.out ≡ space l.initial.out)
    × WellFormed l.book
    × Taken l.way (length l.initial.numbers) (state_of l.initial.book l.initial.place) l.input l.used (state_of l.book l.place) l.journal l.out
    × SameBytes l.initial.journal l.journal × SameBytes l.initial.out l.out

abbrev pub decreases-loop-n : goal.decreases-loop-n
decreases-loop-n l = length l.input - l.used
