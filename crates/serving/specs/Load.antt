-- A file entered as one batch.
-- Assumes nothing.
use Rattle.std.specs.Prelude.{◌≡◌, ℕ, ◌<◌, ◌≤◌, Bool, true, false, cond, ◌&&◌, List, [], ◌∷◌, ◌++◌, map, length, pos, Option}
use Rattle.laws.specs.Lists.{All}
use Rattle.book.specs.Call.{batch}
use Rattle.book.specs.Rule.{new_rule}
use Rattle.book.specs.Account.{answer, step}
use Rattle.journal.specs.declared.Request.{Request}
use Rattle.printing.specs.Lines.{printed}
use Rattle.answering.specs.Asked.{call}
use Rattle.answering.specs.Kept.{takes, retired_line}
use Rattle.answering.specs.Shown.{shown}
use Rattle.dialogue.specs.declared.Way.{Way}
use Rattle.dialogue.specs.Asks.{asks}
use Rattle.dialogue.specs.Said.{said}
use Rattle.dialogue.specs.Turns.{State, ended, after_all, all_bytes, all_journal}
use Rattle.storage.specs.declared.kept.Journal.{Journal}
use Rattle.serving.specs.Delivery.{Grown}

-- Each number of a list is a byte.
pub record AreBytes (bytes : List ℕ) : Type 0 where
  pub all : All (λ (b : ℕ). b < 256) bytes

-- "the line `batch HEX`" that a file's bytes make, as a kept journal has it: without its newline, and with it.
unfoldable pub batch_text : List ℕ → List ℕ
batch_text bytes = printed (Request.Batch (length bytes)) (map pos bytes)

unfoldable pub batch_line : List ℕ → List ℕ
batch_line bytes = batch_text bytes ++ (10 ∷ [])

-- A file may be entered: its line is typed and not replayed, it is taken as a whole one, also where it is more than a question, none stands before it
-- that had no room, the lines have not ended, and there is room for the file's bytes, which are at most as many as a batch of the journal has.
pub record MayEnter (way : Way) (room : ℕ) (s : State) (bytes : List ℕ) : Type 0 where
  pub typed : way.replays ≡ false
  pub whole : way.torn ≡ false
  pub changes : way.reads ≡ false
  pub short : s.place.long ≡ false
  pub on : ended way s.place ≡ false
  pub fits : length bytes ≤ room
  pub most : length bytes ≤ 32768

-- Paper 02, Ask 1, "loaded as it is": the line of a file's bytes asks for the batch of just these bytes. The book is then as behind that call, what
-- is said is its answer, and a kept journal has the line where it is accepted, behind `role-retired` where that wasn't there yet.
pub record Loads (way : Way) (room : ℕ) (s : State) (bytes : List ℕ) : Type 0 where
  pub asked : asks way room s.place (batch_text bytes) ≡ call (batch bytes)
  pub book : (after_all way room s (batch_text bytes ∷ [])).book ≡ step new_rule s.book (batch bytes)
  pub answered : all_bytes way room s (batch_text bytes ∷ []) ≡ said way.words (shown (answer new_rule s.book (batch bytes))) (batch_text bytes)
  pub journal : all_journal way room s (batch_text bytes ∷ [])
      ≡ cond (way.keeps && takes (shown (answer new_rule s.book (batch bytes)))) (cond s.place.early retired_line [] ++ batch_line bytes) []

-- "enters a file as one batch": the state t is that behind the one line which a file's bytes make, taken from state s like a line of standard input; and
-- that line loads the file.
pub record Entered (way : Way) (room : ℕ) (s : State) (bytes : List ℕ) (t : State) : Type 0 where
  pub left : t ≡ after_all way room s (batch_text bytes ∷ [])
  pub loads : MayEnter way room s bytes → Loads way room s bytes

-- A file entered where the lines go on, behind a state and a journal: the journal r has grown by just the bytes that its line adds. Else nothing is
-- changed.
pub record EnteredIf (goes_on : Bool) (way : Way) (room : ℕ) (s : State) (before : Option Journal) (bytes : List ℕ) (t : State) (r : Option Journal)
    : Type 0 where
  pub entered : goes_on ≡ true → Entered way room s bytes t
  pub grown : goes_on ≡ true → Grown way.replays before (length (all_journal way room s (batch_text bytes ∷ []))) r
  pub state : goes_on ≡ false → t ≡ s
  pub journal : goes_on ≡ false → r ≡ before
