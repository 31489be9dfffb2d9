-- What the functions on slices ensure: one line, and the lines of a slice.
-- Assumes nothing.
use Rattle.std.specs.Prelude.{◌≡◌, ℕ, ◌+◌, ◌<◌, ◌≤◌, Bool, true, not, ◌&&◌, ◌||◌, Option, Some, None, List, [], ◌∷◌, length, take, drop, ℤ, ◌==◌, nat_le}
use Rattle.layout.specs.Words.{book_of_words}
use Rattle.layout.specs.WellFormed.{WellFormed}
use Rattle.journal.specs.declared.Request.{Request}
use Rattle.printing.specs.declared.Answer.{Answer}
use Rattle.printing.specs.Written.{Sheet, written_on, room_on, blank, followed}
use Rattle.answering.specs.Asked.{Asked}
use Rattle.answering.specs.Kept.{takes, refuses}
use Rattle.dialogue.specs.declared.Way.{Way}
use Rattle.dialogue.specs.declared.Place.{Place}
use Rattle.dialogue.specs.Split.{lines_in, rest_in, until_newline}
use Rattle.dialogue.specs.Said.{Added}
use Rattle.dialogue.specs.Turns.{State, ends_stretch, further, after, bytes_of, journal_of, ended, after_all, all_bytes, all_journal}
use Rattle.dialogue.specs.Decided.{Led, decided_bytes}

-- The most bytes that one line adds to the journal and to the answers.
abbrev pub most_kept : ℕ
most_kept = 20480

abbrev pub most_said : ℕ
most_said = 16384

-- The state of words and a place.
abbrev pub state_of : List ℕ → Place → State
state_of words p = record { book = book_of_words words; place = p }

-- All the bytes of a sheet, written or not.
abbrev pub space : Sheet → ℕ
space s = length (written_on s) + room_on s

-- The reference to the lent bytes is the same, so who lent them knows what stands there.
abbrev pub SameBytes : (old new : Sheet) → Type 0
SameBytes old new = new.bytes.ghost_name ≡ old.bytes.ghost_name

-- A line's text with its request and answer, on the words that it left: what it adds, and the place q behind it.
pub record Turned (way : Way) (p : Place) (line : List ℕ) (request : Request) (answer : Answer) (numbers : List ℤ) (words : List ℕ) (j e : Sheet) (q : Place)
    (k f : Sheet) : Type 0 where
  pub kept : Bool
  pub whether : kept ≡ (way.keeps && takes answer)
  pub added : Added way line request answer kept (way.keeps && ends_stretch way p request kept) numbers words j e k f
  pub place : q ≡ further p kept (refuses answer) (ends_stretch way p request kept)

-- One line taken: the words m and the place q that it leaves, the journal's sheet, which was j and is k, and the answers', which was e and is f.
pub record LineTaken (way : Way) (room : ℕ) (words : List ℕ) (p : Place) (l : List ℕ) (j e : Sheet) (m : List ℕ) (q : Place) (k f : Sheet) : Type 0 where
  pub left : state_of m q ≡ after way room (state_of words p) l
  pub journal : k ≡ followed j (journal_of way room (state_of words p) l)
  pub bytes : f ≡ followed e (bytes_of way room (state_of words p) l)
  pub few_kept : length (journal_of way room (state_of words p) l) ≤ most_kept
  pub few_said : length (bytes_of way room (state_of words p) l) ≤ most_said
  pub formed : WellFormed m

-- Whether one more line is taken, where j is written of the journal and e of the answers: none behind a refusal or an error where that is the last,
-- none behind a kept line but where lines are kept together, and none where its bytes might have no room.
unfoldable pub goes_on : Way → Place → (j e : Sheet) → Bool
goes_on way p j e =
    (not (ended way p) && (way.gathers || length (written_on j) == 0)) && (nat_le most_kept (room_on j) && nat_le most_said (room_on e))

-- How many bytes the next line has, before which this is written: those up to the first newline of what is left, if one more line is taken and it
-- is complete.
pub record NextLine (way : Way) (p : Place) (rest : List ℕ) (j e : Sheet) (r : Option ℕ) : Type 0 where
  pub line : (n : ℕ) → r ≡ Some n → (goes_on way p j e ≡ true) × (n ≡ until_newline rest) × (n < length rest)
  pub none : r ≡ None → goes_on way p j e ≡ true → lines_in rest ≡ []

-- Each of the lines was one more that is taken.
abbrev pub WentOn : Way → (room : ℕ) → (j e : Sheet) → State → List (List ℕ) → Type 0
WentOn way room j e s [] = Unit {0}
WentOn way room j e s (l ∷ ls) =
    (goes_on way s.place j e ≡ true) × WentOn way room (followed j (journal_of way room s l)) (followed e (bytes_of way room s l)) (after way room s l) ls

-- The lines of the first `used` bytes of an input taken, which end with a newline: the state t that they leave, the journal's bytes, which are all
-- that is written on k, and the answers', which are all on f.
pub record Taken (way : Way) (room : ℕ) (s : State) (input : List ℕ) (used : ℕ) (t : State) (k f : Sheet) : Type 0 where
  pub within : used ≤ length input
  pub whole : rest_in (take used input) ≡ []
  pub left : t ≡ after_all way room s (lines_in (take used input))
  pub journal : written_on k ≡ all_journal way room s (lines_in (take used input))
  pub bytes : written_on f ≡ all_bytes way room s (lines_in (take used input))
  pub went : WentOn way room (blank (space k)) (blank (space f)) s (lines_in (take used input))

-- What `answer_lines` ensures: the lines of the first `used` bytes are taken, as long as one more is; and whatever lines led to the book and
-- to the rule, the bytes of the answers are those that the reading of the history decides.
pub record Answers (way : Way) (room : ℕ) (s : State) (input : List ℕ) (used : ℕ) (t : State) (k f : Sheet) : Type 0 where
  pub taken : Taken way room s input used t k f
  pub all : goes_on way t.place k f ≡ true → lines_in (drop used input) ≡ []
  pub decided : (seen : List Asked) → Led way s seen → written_on f ≡ decided_bytes way room s.place seen (lines_in (take used input))
