-- The calls of papers 01 and 02, with their arguments, and the answers that the code's results stand for.
-- Assumes nothing.
use Rattle.std.specs.Prelude.{ℕ, List, ltb, ℤ, not, cond, Result, Ok, Err}
use Rattle.file.specs.declared.Position.{Position}
use Rattle.file.specs.Answer.{Answer, refused, done, called, covered, recorded, annual, days_opened, stated, counted, batched, refused_pair, deletion}
use Rattle.file.specs.Answer.{accepted, says, statement_says}
use Rattle.laws.specs.Least.{least}
use Rattle.batch.specs.declared.Misfit.{Misfit}
use Rattle.batch.specs.Batch.{month_in, figures_at}
use Rattle.refusal.specs.declared.Refusal.{Refusal}
use Rattle.refusal.specs.Numbers.{number_of}
use Rattle.file.specs.declared.Statement.{Statement}

-- What a call asks of one participant's file.
pub data Act : Type 0 where
  -- "Admit (participant, role)"
  admit : (role : ℕ) → Act
  -- "Lodge (participant, position, cash or letter)"
  lodge : (place : ℕ) → Position → Act
  -- "Release (participant, position, amount)"
  release : (place amount : ℕ) → Act
  -- "Settle (participant, month M, 5 to 16 signed figures)"
  settle : (month : ℕ) → List ℤ → Act
  -- "Annual run (participant)"
  annual_run : Act
  -- paper 02, Ask 4: "A new call puts an admitted participant into that status", under deletion
  delete : Act

-- A call: "Each call takes the book as the call before it left it, a refused one too".
pub data Call : Type 0 where
  -- a call that names a participant
  on : (participant : ℕ) → Act → Call
  -- "Advance (day T, B)"
  advance : (day budget : ℕ) → Call
  -- "Statement (participant)"
  statement : (participant : ℕ) → Call
  -- the question for the sum of the counts of calls made
  calls_made : Call
  -- paper 02, Ask 1: "A month in one file", by its bytes
  batch : (file : List ℕ) → Call

-- The answer that an advance's stands for.
abbrev pub advanced_says : Result ℕ Refusal → Answer
advanced_says = says days_opened

-- The answer that the question for a statement has.
abbrev pub stated_says : Result Statement Refusal → Answer
stated_says = says statement_says

-- The answer that a batch's stands for.
abbrev pub loaded_says : Result ℕ Misfit → Answer
loaded_says (Ok n) = batched n
loaded_says (Err m) = refused_pair (number_of m.refusal) m.pair

-- Paper 02, Ask 1: what part k of a batch asks of its participant's file, the settlement of the batch's month by the part's figures.
abbrev pub part_act : List ℕ → ℕ → Act
part_act file k = settle (month_in file) (figures_at file k)

-- The number of a refusal.
abbrev pub refusal_of : Answer → ℕ
refusal_of (refused n) = n
refusal_of done = 0
refusal_of (called e asked last) = 0
refusal_of (covered e) = 0
refusal_of (recorded e) = 0
refusal_of (annual a n) = 0
refusal_of (days_opened n) = 0
refusal_of (stated f c s d a m) = 0
refusal_of (counted n) = 0
refusal_of (batched n) = 0
refusal_of (refused_pair n i) = n
refusal_of (deletion a calls) = 0

-- The first of n settlements, each with its answer, that is refused; n where none is.
unfoldable pub first_refused : (ℕ → Answer) → ℕ → ℕ
first_refused answers n = least (λ k. not (accepted (answers k))) n

-- "The first refusal is answered with its pair's index, from 0, ..; an accepted batch answers n": what a batch of this form answers, whose
-- settlements answer so, "all three [20, 21, 22] come before any settlement".
unfoldable pub batch_says : Result ℕ Misfit → (ℕ → Answer) → Answer
batch_says (Err m) answers = loaded_says (Err m)
batch_says (Ok n) answers =
    cond (ltb (first_refused answers n) n)
    (refused_pair (refusal_of (answers (first_refused answers n))) (first_refused answers n))
    (batched n)
