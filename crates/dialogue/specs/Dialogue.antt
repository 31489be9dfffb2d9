-- The claim about the bytes of a whole input.
-- Assumes nothing.
use Rattle.std.specs.Prelude.{◌≡◌, ℕ, true, false, List, [], ◌++◌}
use Rattle.book.specs.Rule.{new_rule}
use Rattle.book.specs.Retired.{NoneGetsIt}
use Rattle.answering.specs.Asked.{Asked}
use Rattle.answering.specs.Session.{book_of, Session}
use Rattle.dialogue.specs.declared.Way.{Way}
use Rattle.dialogue.specs.Split.{lines_in, rest_in}
use Rattle.dialogue.specs.declared.Place.{Place}
use Rattle.dialogue.specs.Asks.{asks, rule_at}
use Rattle.dialogue.specs.Turns.{State, numeric, kept_text}
use Rattle.dialogue.specs.Whole.{stream_after, stream_bytes, stream_journal, stream_asks, last_line, last_way, whole_bytes, whole_decided}

-- How a journal is replayed: as the kept way takes an input, up to the first line that is refused or an error, its first stretch by the old
-- admission rule.
abbrev pub replaying : Way
replaying = record { keeps = true; reads = false; torn = false; bails = true; gathers = true; replays = true; words = false; csv = false }

-- A state t from which a journal may be replayed that was begun at state s: the same book, as many calls kept, no line refused, and the first
-- stretch lasting or not.
pub record Begins (s t : State) : Type 0 where
  pub book : t.book ≡ s.book
  pub kept : t.place.kept ≡ s.place.kept
  pub refused : t.place.refused ≡ 0
  pub early : t.place.early ≡ s.place.early

-- "no complete line is ever lost or repeated": the bytes j that a journal has of an input, taken again from t, lead to the book of `end` and its count of
-- kept calls that the input led to, and to whether the first stretch lasts; none of their lines is refused, and each is kept again, in the same bytes.
pub record Replayed (most room : ℕ) (t : State) (j : List ℕ) (end : State) : Type 0 where
  pub book : (stream_after most replaying room t (lines_in j)).book ≡ end.book
  pub kept : (stream_after most replaying room t (lines_in j)).place.kept ≡ end.place.kept
  pub refused : (stream_after most replaying room t (lines_in j)).place.refused ≡ 0
  pub early : (stream_after most replaying room t (lines_in j)).place.early ≡ end.place.early
  pub again : stream_journal most replaying room t (lines_in j) ≡ j

-- An input cut in two at any byte: what is answered, what is kept and the state are those of the first part, and then of what it leaves with the
-- second.
pub record Cut (most : ℕ) (way : Way) (room : ℕ) (s : State) (a b : List ℕ) : Type 0 where
  pub state : stream_after most way room s (lines_in (a ++ b))
      ≡ stream_after most way room (stream_after most way room s (lines_in a)) (lines_in (rest_in a ++ b))
  pub bytes : stream_bytes most way room s (lines_in (a ++ b))
      ≡ stream_bytes most way room s (lines_in a) ++ stream_bytes most way room (stream_after most way room s (lines_in a)) (lines_in (rest_in a ++ b))
  pub journal : stream_journal most way room s (lines_in (a ++ b))
      ≡ stream_journal most way room s (lines_in a) ++ stream_journal most way room (stream_after most way room s (lines_in a)) (lines_in (rest_in a ++ b))
  pub rest : rest_in (a ++ b) ≡ rest_in (rest_in a ++ b)

-- For every list of bytes, whatever lines led to the book and to the rule (`Led`; what is typed stands behind `role-retired`): the bytes of the answers are those that the reading of paper 01 decides; the lines are a
-- session, of whose calls the claim about a whole list of calls holds, and the book is theirs; the journal's bytes are complete lines, and
-- replayed they lead to the same book and none is refused; what stands behind the last newline adds nothing to the journal, and in the kept way
-- leaves the book; where its calls are under the new admission rule, nobody gets the retired role; and so it is wherever the input is cut.
pub record Dialogue (most : ℕ) (way : Way) (room : ℕ) (s : State) (seen : List Asked) (input : List ℕ) : Type 0 where
  pub answers : whole_bytes most way room s input ≡ whole_decided most way room s.place seen input
  pub session : Session (stream_asks most way room s seen (lines_in input))
  pub book : book_of (stream_asks most way room s seen (lines_in input)) ≡ (stream_after most way room s (lines_in input)).book
  pub whole : rest_in (stream_journal most way room s (lines_in input)) ≡ []
  pub replayed : way.keeps ≡ true → (t : State) → Begins s t
      → Replayed most room t (stream_journal most way room s (lines_in input)) (stream_after most way room s (lines_in input))
  -- "A comment .. means nothing to the book": the kept line with it asks what the call's numeric form asks alone
  pub comments : (p : Place) (before : ℕ) (l : List ℕ) → asks way room p (kept_text room before l) ≡ asks way room p (numeric room before l)
  pub last : stream_journal most (last_way way) room (stream_after most way room s (lines_in input)) (last_line (rest_in input)) ≡ []
  pub left : way.keeps ≡ true
      → (stream_after most (last_way way) room (stream_after most way room s (lines_in input)) (last_line (rest_in input))).book
      ≡ (stream_after most way room s (lines_in input)).book
  -- paper 02, Ask 3: nobody gets the retired role by an input that is typed, nor by one behind the end of a first stretch
  pub retired : rule_at way s.place ≡ new_rule → NoneGetsIt s.book (stream_after most way room s (lines_in input)).book
  pub retired_last : rule_at way s.place ≡ new_rule
      → NoneGetsIt s.book
      (stream_after most (last_way way) room (stream_after most way room s (lines_in input)) (last_line (rest_in input))).book
  pub cut : (a b : List ℕ) → a ++ b ≡ input → Cut most way room s a b
