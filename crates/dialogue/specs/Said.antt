-- What is said to a line, and what is shown.
-- Assumes nothing.
use Rattle.std.specs.Prelude.{◌≡◌, ℕ, ◌<◌, ◌≤◌, Bool, true, false, cond, List, [], ◌∷◌, ◌++◌, length, ℤ, Option, Some, None}
use Rattle.std.specs.Int.Signed.{mag}
use Rattle.layout.specs.Book.{Book}
use Rattle.layout.specs.Words.{book_of_words}
use Rattle.journal.specs.declared.Request.{Request}
use Rattle.printing.specs.declared.Answer.{Answer}
use Rattle.printing.specs.Answers.{answer_line}
use Rattle.printing.specs.Written.{Sheet, followed}
use Rattle.report.specs.Table.{report_text}
use Rattle.report.specs.Csv.{report_csv}
use Rattle.report.specs.FileText.{file_text}
use Rattle.wording.specs.Wording.{wording}
use Rattle.words.specs.Comments.{reference_of}
use Rattle.answering.specs.Kept.{kept_line, retired_line}
use Rattle.dialogue.specs.declared.Way.{Way}

-- Whether an answer says something: nothing is said to an empty line, nor to the line that ends a first stretch.
abbrev pub speaks : Answer → Bool
speaks Answer.Nothing = false
speaks a = true

-- The numbers of an answer are of 64 bits.
abbrev pub Small : ℕ → Type 0
Small n = n < 18446744073709551616

abbrev pub SmallNumbers : Answer → Type 0
SmallNumbers Answer.Nothing = Unit {0}
SmallNumbers Answer.Done = Unit {0}
SmallNumbers (Answer.Refused n) = Small n
SmallNumbers (Answer.Called e a d) = Small e × Small a × Small d.0
SmallNumbers (Answer.Covered e) = Small (mag e)
SmallNumbers (Answer.Recorded e) = Small (mag e)
SmallNumbers (Answer.Annual a m) = Small a × Small m
SmallNumbers (Answer.Opened d) = Small d
SmallNumbers (Answer.Statement f c s d m n) = Small f × Small c × Small s × Small d × Small m × Small n
SmallNumbers (Answer.Calls n) = Small n
SmallNumbers (Answer.Special c) = Small c
SmallNumbers (Answer.Releasable c) = Small c
SmallNumbers (Answer.Today d) = Small d.0
SmallNumbers (Answer.Batch n) = Small n
SmallNumbers (Answer.RefusedPair n i) = Small n × Small i
SmallNumbers (Answer.Deletion a c) = Small a
SmallNumbers (Answer.Error l e) = Small l

-- Whether an answer says something is r; its numbers are small.
pub record Spoken (a : Answer) (r : Bool) : Type 0 where
  pub whether : r ≡ speaks a
  pub small : SmallNumbers a

-- "Answers, one line for each call line": the answer to a line with its newline; "behind the answer's line of today, before its newline" its wording,
-- where the way has words.
unfoldable pub said : (words : Bool) → Answer → List ℕ → List ℕ
said words a line = cond (speaks a) (answer_line a ++ cond words (wording a line) [] ++ (10 ∷ [])) []

-- Whether the table for people is asked for.
abbrev pub wants_table : Request → Bool
wants_table Request.Report = true
wants_table r = false

-- The table of the book, for people or as comma-separated values.
abbrev pub table_of : (csv : Bool) → Book → List ℕ
table_of csv b = cond csv (report_csv b) (report_text b)

-- Whose file is asked for, if one is.
abbrev pub whose_file : Request → Option ℕ
whose_file (Request.File p) = Some p
whose_file r = None

-- `file P`: a participant's file, nothing where it isn't admitted.
abbrev pub file_for : Option ℕ → Book → List ℕ
file_for (Some p) b = file_text b p
file_for None b = []

-- `report`: the table of the book; `file P`: the file.
unfoldable pub tabled : (csv : Bool) → Request → Book → List ℕ
tabled csv r b = cond (wants_table r) (table_of csv b) (file_for (whose_file r) b)

-- What is said and what is shown, written, and the most bytes of each.
pub record Said (words : Bool) (a : Answer) (line : List ℕ) (e f : Sheet) : Type 0 where
  pub put : f ≡ followed e (said words a line)
  pub most : length (said words a line) ≤ 436

pub record Tabled (csv : Bool) (request : Request) (b : Book) (e f : Sheet) : Type 0 where
  pub put : f ≡ followed e (tabled csv request b)
  pub most : length (tabled csv request b) ≤ 15000

-- What a line with a request and an answer adds, on the words that it left: `role-retired` where it ends the first stretch of a journal, its line of the
-- journal with its reference, where it is kept, and what is said and shown.
pub record Added (way : Way) (line : List ℕ) (request : Request) (answer : Answer) (kept ends : Bool) (numbers : List ℤ) (words : List ℕ) (j e k f : Sheet) : Type 0 where
  pub journal : k ≡ followed j (cond ends retired_line [] ++ cond kept (kept_line request numbers (reference_of line)) [])
  pub bytes : f ≡ followed e (said way.words answer line ++ tabled way.csv request (book_of_words words))
  pub most : length (said way.words answer line ++ tabled way.csv request (book_of_words words)) ≤ 16384
