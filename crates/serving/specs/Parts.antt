-- A part of an input, all complete lines of which are taken.
-- Assumes nothing.
use Rattle.std.specs.Prelude.{◌≡◌, ℕ, ◌≤◌, false, List, [], length, take, drop}
use Rattle.dialogue.specs.declared.Way.{Way}
use Rattle.dialogue.specs.Split.{lines_in, rest_in}
use Rattle.dialogue.specs.Turns.{State, ended, after_all}

-- The lines of the first `used` bytes of a part taken, which end with a newline; none only where no complete line is left or the lines have ended.
pub record Step (way : Way) (room : ℕ) (s : State) (input : List ℕ) (used : ℕ) (t : State) : Type 0 where
  pub within : used ≤ length input
  pub whole : rest_in (take used input) ≡ []
  pub left : t ≡ after_all way room s (lines_in (take used input))
  pub none : used ≡ 0 → ended way t.place ≡ false → lines_in input ≡ []

-- Such lines taken, of as many bytes as it may be.
pub record SomeTaken (way : Way) (room : ℕ) (s : State) (input : List ℕ) (t : State) : Type 0 where
  pub used : ℕ
  pub step : Step way room s input used t

-- The state is that of all lines of the part, and unless they have ended before its end, what is left of it is the rest behind its last newline.
pub record Drained (way : Way) (room : ℕ) (s : State) (input : List ℕ) (used : ℕ) (t : State) : Type 0 where
  pub within : used ≤ length input
  pub left : t ≡ after_all way room s (lines_in input)
  pub rest : ended way t.place ≡ false → drop used input ≡ rest_in input
