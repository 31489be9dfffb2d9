-- A buffer between two reads.
-- Assumes nothing.
use Rattle.std.specs.Prelude.{◌≡◌, ℕ, ◌+◌, ◌-◌, ◌%◌, ◌^◌, ◌<◌, ◌≤◌, Bool, false, cond, ◌||◌, List, [], length, take, drop, ◌==◌, nat_le, nat_lt, Result, Ok}
use Rattle.std.specs.Result.{result_unwrap_or}
use Rattle.laws.specs.Lists.{All}
use Rattle.dialogue.specs.declared.Way.{Way}
use Rattle.dialogue.specs.Split.{lines_in, rest_in, with_newlines}
use Rattle.dialogue.specs.Turns.{State, ended, after_all}
use Rattle.dialogue.specs.Whole.{known_place, stream_after}

-- One read behind the first `filled` bytes of a buffer, which was e and is f: those bytes stay as they were, no more are read than there is room
-- for, and where no more is to be taken, it answers 0, as at the end of the input.
pub record MoreRead {E : Type 0} (goes_on : Bool) (filled : ℕ) (e : List ℕ) (got : Result ℕ E) (f : List ℕ) : Type 0 where
  pub front : take filled f ≡ take filled e
  pub within : result_unwrap_or got 0 ≤ length e - filled
  pub none : goes_on ≡ false → got ≡ Ok 0

-- "longer than the buffer is an `error`": whether the line that has begun is too long, where it was before or not and has so many bytes in a buffer
-- with room for so many.
abbrev pub is_long : Bool → ℕ → ℕ → Bool
is_long before filled room = before || filled == room

-- How many of its bytes stay.
abbrev pub staying : Bool → ℕ → ℕ → ℕ
staying before filled room = cond before 0 (cond (nat_lt filled room) filled 0)

-- What is left behind the used bytes of the first `full` bytes of a buffer, which was e and is f: whether the line that they begin is too long, where it
-- was before or not, and those of its bytes that stay, at the buffer's front.
pub record RestKept (before : Bool) (e : List ℕ) (used full : ℕ) (long : Bool) (filled : ℕ) (f : List ℕ) : Type 0 where
  pub known : long ≡ is_long before (full - used) (length e)
  pub many : filled ≡ staying before (full - used) (length e)
  pub front : take filled f ≡ take filled (drop used e)

-- The complete lines of the part that is the first `full` bytes of a buffer taken, from state s: unless the lines have ended, the state t is that of
-- all lines of the part, with whether the line that has begun is too long, and what the buffer f begins with are the bytes that stay of what stands
-- behind the part's last newline.
pub record PartTaken (way : Way) (room : ℕ) (s : State) (e : List ℕ) (full : ℕ) (t : State) (used : ℕ) (f : List ℕ) : Type 0 where
  pub book : ended way t.place ≡ false → t.book ≡ (after_all way room s (lines_in (take full e))).book
  pub place : ended way t.place ≡ false
      → t.place
      ≡ known_place (is_long (after_all way room s (lines_in (take full e))).place.long (length (rest_in (take full e))) (length e))
      (after_all way room s (lines_in (take full e))).place
  pub many : ended way t.place ≡ false
      → used ≡ staying (after_all way room s (lines_in (take full e))).place.long (length (rest_in (take full e))) (length e)
  pub front : ended way t.place ≡ false → take used f ≡ take used (rest_in (take full e))

-- An input read to its end in parts into a buffer of `most` bytes, from state s, in which no line that is too long has begun. The system says
-- nothing of the bytes that it reads, so they are some bytes. Unless the lines have ended before the input's end, the state t is that of all complete
-- lines of those bytes, however the parts were cut, with whether what stands behind the last newline is too long; and the buffer f begins with that
-- rest, `used` bytes, or with nothing of it where it is too long.
pub record InputTaken (way : Way) (room : ℕ) (s : State) (most : ℕ) (t : State) (used : ℕ) (f : List ℕ) : Type 0 where
  pub bytes : List ℕ
  pub book : ended way t.place ≡ false → t.book ≡ (stream_after most way room s (lines_in bytes)).book
  pub place : ended way t.place ≡ false
      → t.place ≡ known_place (nat_le most (length (rest_in bytes))) (stream_after most way room s (lines_in bytes)).place
  pub many : ended way t.place ≡ false → used ≡ cond (nat_le most (length (rest_in bytes))) 0 (length (rest_in bytes))
  pub rest : ended way t.place ≡ false → take used f ≡ cond (nat_le most (length (rest_in bytes))) [] (rest_in bytes)

-- How many bytes the complete lines of a list have, with their newlines.
abbrev pub complete : List ℕ → ℕ
complete bytes = length (with_newlines (lines_in bytes))

-- The same of an input, and how many bytes are counted: where none of its complete lines is too long, all of theirs behind those counted before, of
-- some bytes, those that were read; what is counted of the bytes in the buffer, `take_part` says.
pub record InputCounted (way : Way) (room : ℕ) (s : State) (most : ℕ) (t : State) (used : ℕ) (f : List ℕ) (before after : ℕ) : Type 0 where
  pub taken : InputTaken way room s most t used f
  pub counted : ended way t.place ≡ false → All (λ (l : List ℕ). length l < most) (lines_in taken.bytes)
      → after ≡ (before + complete taken.bytes) % 2 ^ 64
