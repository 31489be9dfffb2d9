-- The one count of calls made that a book had before paper 02's Ask 6: "The old question is answered with the sum of the counts." What that question
-- answered before, after every list of calls. No answer but its own looked at the one count and no file held it, so which calls are accepted, and the
-- files that they find, are by today's account what they were.
-- Assumes nothing.
use Rattle.std.specs.Prelude.{ℕ, zero, suc, ◌+◌, cond, List, [], ◌∷◌, length}
use Rattle.file.specs.declared.File.{File}
use Rattle.file.specs.Answer.{accepted}
use Rattle.file.specs.Admit.{calls_of_admission}
use Rattle.file.specs.Settle.{settlement_calls}
use Rattle.file.specs.Deletion.{deletion_calls}
use Rattle.layout.specs.Book.{Book}
use Rattle.batch.specs.Batch.{count_in, participant_at}
use Rattle.book.specs.Call.{Act, admit, lodge, release, settle, annual_run, delete, Call, on, advance, statement, calls_made, batch, part_act}
use Rattle.book.specs.Rule.{MadeCall}
use Rattle.book.specs.Account.{file_at, after_parts, answer, run}

-- How many calls for more an accepted call makes: an admission's minimum, a settlement's, and a deletion's, which "is counted among the calls made".
unfoldable pub calls_added : File → ℕ → Act → ℕ
calls_added f t (admit role) = length (calls_of_admission t role)
calls_added f t (lodge k h) = 0
calls_added f t (release k a) = 0
calls_added f t (settle m figures) = cond (settlement_calls f t m figures) 1 0
calls_added f t annual_run = 0
calls_added f t delete = cond (deletion_calls f t) 1 0

-- The settlements of the first k parts of a batch, each on the book that those before it leave.
unfoldable pub parts_added : Book → List ℕ → ℕ → ℕ
parts_added b file zero = 0
parts_added b file (suc k) =
    parts_added b file k
    + calls_added (file_at (after_parts b file k) (participant_at file k)) (after_parts b file k).today.0 (part_act file k)

-- An accepted call on book b.
unfoldable pub added : Book → Call → ℕ
added b (on p a) = calls_added (file_at b p) b.today.0 a
added b (advance day budget) = 0
added b (statement p) = 0
added b calls_made = 0
added b (batch file) = parts_added b file (count_in file)

-- "one count of calls made, admissions' calls included": none on a fresh book, and each accepted call adds those that it makes.
unfoldable pub count_before : ℕ → List MadeCall → ℕ
count_before s [] = 0
count_before s (e ∷ before) =
    count_before s before + cond (accepted (answer e.rule (run s before) e.call)) (added (run s before) e.call) 0
