-- What the functions that load a batch ensure, part by part.
-- Assumes nothing.
use Rattle.std.specs.Prelude.{ℕ, zero, suc, ◌<◌, ◌≤◌, ◌≡◌, List, length, get_or, pos}
use Rattle.batch.specs.Batch.{participant_at}
use Rattle.file.specs.declared.Settled.{Settled}
use Rattle.file.specs.declared.Settled.TheVariants.{Recorded}
use Rattle.file.specs.Answer.{Answer, settlement_says}
use Rattle.layout.specs.Book.{Book}
use Rattle.book.specs.Call.{on, part_act}
use Rattle.book.specs.Rule.{new_rule}
use Rattle.book.specs.Account.{answer_on, step}

-- What the settlement of part k of a batch answers on book b, none of the others being made.
abbrev pub judged : Book → List ℕ → ℕ → Answer
judged b file k = answer_on new_rule b (participant_at file k) (part_act file k)

-- The book after the settlements of the first k parts were made in turn; one that is refused leaves it as it was.
unfoldable pub made_parts : Book → List ℕ → ℕ → Book
made_parts b file zero = b
made_parts b file (suc k) = step new_rule (made_parts b file k) (on (participant_at file k) (part_act file k))

-- There are k of these at least, and the first k are the answers of the first k parts, so none of those is refused.
pub record Judges (b : Book) (file : List ℕ) (k : ℕ) (answers : List Settled) : Type 0 where
  pub there : k ≤ length answers
  pub same : (j : ℕ) → j < k → settlement_says (get_or answers j (Recorded (pos 0))) ≡ judged b file j
