-- The replay of a journal, and what may stand behind its last newline.
-- Assumes nothing.
use Rattle.std.specs.Prelude.{◌≡◌, ℕ, Bool, true, not, ◌&&◌, ◌||◌, List, nat_lt}
use Rattle.dialogue.specs.declared.Way.{Way}
use Rattle.dialogue.specs.declared.Place.{Place}
use Rattle.dialogue.specs.Turns.{State}
use Rattle.serving.specs.Input.{InputCounted}

-- Whether so many bytes may be the rest of a kept line, at the place behind the complete lines: it is at most as long as one, and at least one kept
-- call or the line `role-retired` stands before it, since empty lines and comments may begin any file. The longest kept lines are those of batches,
-- below 20,480 bytes; older versions kept lines of up to 8,192 bytes, those of special guarantees.
abbrev pub is_rest : Place → ℕ → Bool
is_rest p n = ((nat_lt 0 p.kept || not p.early) && not p.long) && nat_lt n 20480

-- Whether a journal may be gone on with: nothing stands there, or such a rest.
abbrev pub passes : Place → ℕ → Bool
passes p n = not (p.long || nat_lt 0 n) || is_rest p n

-- A journal replayed to its end from state s, in which no line that is too long has begun: the state t is that of the complete lines of some bytes,
-- those that were read; what is counted of the bytes in the buffer, `take_part` says. The buffer f begins with what stands behind the last newline,
-- `used` bytes, which may stand there. Where none was refused or an error before, none of the lines was.
pub record Replayed (way : Way) (room : ℕ) (s t : State) (used : ℕ) (f : List ℕ) (before after : ℕ) : Type 0 where
  pub taken : InputCounted way room s 65536 t used f before after
  pub rest : passes t.place used ≡ true
  pub on : way.replays ≡ true → s.place.refused ≡ 0 → t.place.refused ≡ 0
