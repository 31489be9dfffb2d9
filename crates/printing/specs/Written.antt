-- What is written into lent bytes.
-- Assumes nothing.
use Rattle.std.specs.Prelude.{ℕ, ◌+◌, ◌-◌, ◌≤◌, List, ◌++◌, length, take, drop, replicate}
use Rattle.std.specs.Borrow.{MutBor}
use Rattle.printing.specs.declared.lent.Out.{Out}

-- Lent bytes and where what is written in them ends. The reference to them is a part of it, so who lent them knows what stands there afterwards.
abbrev pub Sheet : Type 0
Sheet = Out

-- What is written, for how many bytes there is room behind it, and the bytes that stand there, which no text has reached.

abbrev pub written_on : Sheet → List ℕ
written_on s = take s.end s.bytes.now

abbrev pub room_on : Sheet → ℕ
room_on s = length s.bytes.now - s.end

abbrev pub rest_on : Sheet → List ℕ
rest_on s = drop s.end s.bytes.now

-- What is written ends within the bytes.
abbrev pub EndsWithin : Sheet → Type 0
EndsWithin s = s.end ≤ length s.bytes.now

-- The same reference, behind which these bytes stand.
abbrev pub with_bytes : MutBor (List ℕ) → List ℕ → MutBor (List ℕ)
with_bytes r bytes = record { ref_ptr = r.ref_ptr; ghost_name = r.ghost_name; now = bytes }

-- Lent bytes in which nothing is written.
unfoldable pub lent : MutBor (List ℕ) → Sheet
lent r = record { bytes = r; end = 0 }

-- Lent bytes of which the first n are written; where there are no more than n, all are.
unfoldable pub lent_behind : MutBor (List ℕ) → ℕ → Sheet
lent_behind r n = record { bytes = r; end = n }

-- A text written behind what is there, as far as there is room. The bytes behind it stay as they are, and the reference is the same.
unfoldable pub followed : Sheet → List ℕ → Sheet
followed s t =
    record {
      bytes = with_bytes s.bytes (written_on s ++ (take (room_on s) t ++ drop (length t) (rest_on s)));
      end = s.end + length (take (room_on s) t);
    }

-- The same bytes with nothing written in them.
unfoldable pub emptied : Sheet → Sheet
emptied s = record { bytes = s.bytes; end = 0 }

-- Bytes that nobody lent.
abbrev pub nameless : List ℕ → MutBor (List ℕ)
nameless bytes = record { ref_ptr = (0, 0); ghost_name = 0; now = bytes }

-- What is written and for how much there is room, whatever bytes stand there and whoever lent them.
unfoldable pub sized : Sheet → Sheet
sized s = record { bytes = nameless (written_on s ++ replicate (room_on s) 0); end = length (written_on s) }

-- Nothing written, with room for n bytes, whatever they are.
unfoldable pub blank : ℕ → Sheet
blank n = record { bytes = nameless (replicate n 0); end = 0 }
