-- A whole input, however it comes in parts: its lines, of which one that is too long is an error, and what stands behind the last newline.
-- Assumes nothing.
use Rattle.std.specs.Prelude.{ℕ, Bool, cond, List, [], ◌∷◌, ◌++◌, length, nat_le}
use Rattle.answering.specs.Asked.{Asked}
use Rattle.dialogue.specs.declared.Way.{Way}
use Rattle.dialogue.specs.declared.Place.{Place}
use Rattle.dialogue.specs.Split.{lines_in, rest_in}
use Rattle.dialogue.specs.Asks.{asks}
use Rattle.dialogue.specs.Turns.{State, after, bytes_of, journal_of, ended}
use Rattle.dialogue.specs.Decided.{decided_of, decided_place}

-- The place at which a line is known to be too long, or not.
abbrev pub known_place : Bool → Place → Place
known_place long p = record p { long = long }

-- "No line is too long to be answered: longer than the buffer is an `error`": before line l of an input, where the buffer has `most` bytes.
abbrev pub place_before : ℕ → Place → List ℕ → Place
place_before most p l = known_place (nat_le most (length l)) p

abbrev pub state_before : ℕ → State → List ℕ → State
state_before most s l = record { book = s.book; place = place_before most s.place l }

-- The lines of an input in turn: the state that they leave, the bytes of their answers, the bytes for the journal, and what they asked, the
-- newest first, behind what was asked before.
unfoldable pub stream_after : ℕ → Way → ℕ → State → List (List ℕ) → State
stream_after most way room s [] = s
stream_after most way room s (l ∷ ls) =
    cond (ended way s.place) s (stream_after most way room (after way room (state_before most s l) l) ls)

unfoldable pub stream_bytes : ℕ → Way → ℕ → State → List (List ℕ) → List ℕ
stream_bytes most way room s [] = []
stream_bytes most way room s (l ∷ ls) =
    cond (ended way s.place) []
    (bytes_of way room (state_before most s l) l ++ stream_bytes most way room (after way room (state_before most s l) l) ls)

unfoldable pub stream_journal : ℕ → Way → ℕ → State → List (List ℕ) → List ℕ
stream_journal most way room s [] = []
stream_journal most way room s (l ∷ ls) =
    cond (ended way s.place) []
    (journal_of way room (state_before most s l) l ++ stream_journal most way room (after way room (state_before most s l) l) ls)

unfoldable pub stream_asks : ℕ → Way → ℕ → State → List Asked → List (List ℕ) → List Asked
stream_asks most way room s seen [] = seen
stream_asks most way room s seen (l ∷ ls) =
    cond (ended way s.place) seen
    (stream_asks most way room (after way room (state_before most s l) l) (asks way room (place_before most s.place l) l ∷ seen) ls)

-- The bytes of the answers by the reading of the history, and the place behind the lines.
unfoldable pub decided_stream : ℕ → Way → ℕ → Place → List Asked → List (List ℕ) → List ℕ
decided_stream most way room p seen [] = []
decided_stream most way room p seen (l ∷ ls) =
    let q = place_before most p l in
    cond (ended way p) [] (decided_of way room q seen l ++ decided_stream most way room (decided_place way room q seen l) (asks way room q l ∷ seen) ls)

unfoldable pub decided_end : ℕ → Way → ℕ → Place → List Asked → List (List ℕ) → Place
decided_end most way room p seen [] = p
decided_end most way room p seen (l ∷ ls) =
    let q = place_before most p l in
    cond (ended way p) p (decided_end most way room (decided_place way room q seen l) (asks way room q l ∷ seen) ls)

unfoldable pub decided_asks : ℕ → Way → ℕ → Place → List Asked → List (List ℕ) → List Asked
decided_asks most way room p seen [] = seen
decided_asks most way room p seen (l ∷ ls) =
    let q = place_before most p l in
    cond (ended way p) seen (decided_asks most way room (decided_place way room q seen l) (asks way room q l ∷ seen) ls)

-- What stands behind the last newline, if anything does, is a last line: in the kept way an error, else a line like any other.
abbrev pub last_line : List ℕ → List (List ℕ)
last_line [] = []
last_line (b ∷ r) = (b ∷ r) ∷ []

abbrev pub last_way : Way → Way
last_way way = record way { torn = way.keeps }

-- The whole input: the bytes of its answers, and those by the reading of the history.
unfoldable pub whole_bytes : ℕ → Way → ℕ → State → List ℕ → List ℕ
whole_bytes most way room s input =
    stream_bytes most way room s (lines_in input)
    ++ stream_bytes most (last_way way) room (stream_after most way room s (lines_in input)) (last_line (rest_in input))

unfoldable pub whole_decided : ℕ → Way → ℕ → Place → List Asked → List ℕ → List ℕ
whole_decided most way room p seen input =
    decided_stream most way room p seen (lines_in input)
    ++ decided_stream most (last_way way) room (decided_end most way room p seen (lines_in input)) (decided_asks most way room p seen (lines_in input))
    (last_line (rest_in input))
