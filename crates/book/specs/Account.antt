-- The book's account of paper 01, 'The calls', and of paper 02: what each call answers, and the book that it leaves, from the book that it finds.
-- Assumes nothing.
use Rattle.std.specs.Prelude.{ℕ, zero, suc, ◌-◌, min, Bool, false, cond, not, ◌&&◌, ◌||◌, List, [], ◌∷◌, map, ltb, eqb, get_or, set, replicate}
use Rattle.std.specs.List.{sum_by}
use Rattle.file.specs.declared.File.{File}
use Rattle.file.specs.Answer.{Answer, refused, done, days_opened, counted, decide, accepted, statement_says}
use Rattle.file.specs.Admit.{no_file, admitted_file}
use Rattle.file.specs.Lodge.{lodge_answer, lodged_file}
use Rattle.file.specs.Release.{release_answer, released_file}
use Rattle.file.specs.Settle.{settle_answer, settled_file}
use Rattle.file.specs.Annual.{annual_answer, annual_file}
use Rattle.file.specs.Deletion.{deletion_answer, deleted_file}
use Rattle.file.specs.Opening.{opened_file}
use Rattle.file.specs.Statement.{file_statement}
use Rattle.layout.specs.Book.{Book}
use Rattle.batch.specs.Batch.{count_in, participant_at, form_of}
use Rattle.book.specs.Call.{Act, admit, lodge, release, settle, annual_run, delete, Call, on, advance, statement, calls_made, batch}
use Rattle.book.specs.Call.{part_act, batch_says}
use Rattle.book.specs.Rule.{Rule, old_rule, new_rule, MadeCall}

-- "Fresh book on a day: no participants."
unfoldable pub fresh_book : ℕ → Book
fresh_book d = record { files = replicate 64 no_file; today = record { 0 = d } }

-- What asking for a fresh book answers. Its only cause is 17.
unfoldable pub fresh_answer : ℕ → Answer
fresh_answer d = decide refused (record { number = 17; holds = ltb 29219 d } ∷ []) done

-- The book beside that answer: "if fresh: a book on day 0 with no participants stands beside the number".
unfoldable pub fresh_book_beside : ℕ → Book
fresh_book_beside d = cond (accepted (fresh_answer d)) (fresh_book d) (fresh_book 0)

-- A participant's file.
unfoldable pub file_at : Book → ℕ → File
file_at b p = get_or b.files p no_file

-- The book with another file for participant p.
unfoldable pub with_file : Book → ℕ → File → Book
with_file b p f = record { files = set b.files p f; today = b.today }

-- Paper 02, Ask 6: "The old question is answered with the sum of the counts", those of the files.
unfoldable pub sum_of_counts : Book → ℕ
sum_of_counts b = sum_by (λ (f : File). f.made) b.files

-- Cause 1, "participant above 63", before the others of a call that names a participant.
unfoldable pub if_numbered : ℕ → Answer → Answer
if_numbered p answer = decide refused (record { number = 1; holds = ltb 63 p } ∷ []) answer

-- Cause 2, "participant not admitted", before those of a call on its file.
unfoldable pub if_admitted : File → Answer → Answer
if_admitted f answer = decide refused (record { number = 2; holds = not f.admitted } ∷ []) answer

-- What a call on a file answers on day t, after cause 1. An admission's causes are 3 and 4, under the new rule also 23, below.
unfoldable pub file_answer : File → ℕ → Act → Answer
file_answer f t (admit role) =
    decide refused (record { number = 3; holds = f.admitted } ∷ record { number = 4; holds = ltb 5 role } ∷ []) done
file_answer f t (lodge k h) = if_admitted f (lodge_answer f t k h)
file_answer f t (release k a) = if_admitted f (release_answer f t k a)
file_answer f t (settle m figures) = if_admitted f (settle_answer f t m figures)
file_answer f t annual_run = if_admitted f (annual_answer f t)
file_answer f t delete = if_admitted f (deletion_answer f t)

-- The file that an accepted call leaves.
unfoldable pub file_after : File → ℕ → Act → File
file_after f t (admit role) = admitted_file t role
file_after f t (lodge k h) = lodged_file f t k h
file_after f t (release k a) = released_file f t k a
file_after f t (settle m figures) = settled_file f t m figures
file_after f t annual_run = annual_file f t
file_after f t delete = deleted_file f t

-- Paper 02, Ask 3: "The regulator no longer registers Self-Supplied Customers." Whether a call admits one, role 1.
abbrev pub admits_retired : Act → Bool
admits_retired (admit role) = eqb role 1
admits_retired (lodge k h) = false
admits_retired (release k a) = false
admits_retired (settle m figures) = false
admits_retired annual_run = false
admits_retired delete = false

-- "Answers: 23 role 1 at admission, after 4": under the new rule such a call is refused where the old one accepts it.
abbrev pub unless_retired : Rule → Act → Answer → Answer
unless_retired old_rule a answer = answer
unless_retired new_rule a answer = cond (admits_retired a && accepted answer) (refused 23) answer

-- What a call that names participant p answers, and the book that it leaves where it is accepted.
abbrev pub answer_on : Rule → Book → ℕ → Act → Answer
answer_on rule b p a = if_numbered p (unless_retired rule a (file_answer (file_at b p) b.today.0 a))

abbrev pub applied_on : Book → ℕ → Act → Book
applied_on b p a = with_file b p (file_after (file_at b p) b.today.0 a)

-- Paper 02, Ask 1: "Parts are settled in pair order." The book after the settlements of the first k parts of a batch, each accepted ..
unfoldable pub after_parts : Book → List ℕ → ℕ → Book
after_parts b file zero = b
after_parts b file (suc k) = applied_on (after_parts b file k) (participant_at file k) (part_act file k)

-- .. and what the next one answers on it; a settlement is answered alike under both rules.
unfoldable pub part_answer : Book → List ℕ → ℕ → Answer
part_answer b file k = answer_on new_rule (after_parts b file k) (participant_at file k) (part_act file k)

-- 'Advance': "Opening day d, for every admitted participant".
unfoldable pub opened_if_admitted : ℕ → File → File
opened_if_admitted d f = cond f.admitted (opened_file f d) f

-- The book after the day after today was opened.
unfoldable pub open_day : Book → Book
open_day b =
    record {
      files = map (opened_if_admitted (suc b.today.0)) b.files;
      today = record { 0 = suc b.today.0 };
    }

-- The book after n days were opened in turn.
unfoldable pub open_days : ℕ → Book → Book
open_days zero b = b
open_days (suc n) b = open_days n (open_day b)

-- 'Advance': "the smaller of B and T − t".
abbrev pub days_to_open : Book → ℕ → ℕ → ℕ
days_to_open b day budget = min budget (day - b.today.0)

-- What each call answers, made under a rule.
unfoldable pub answer : Rule → Book → Call → Answer
answer rule b (on p a) = answer_on rule b p a
answer rule b (advance day budget) =
    decide refused
    (record { number = 17; holds = ltb 29219 day || ltb day b.today.0 } ∷ [])
    (days_opened (days_to_open b day budget))
answer rule b (statement p) =
    if_numbered p (if_admitted (file_at b p) (statement_says (file_statement (file_at b p) b.today.0)))
answer rule b calls_made = counted (sum_of_counts b)
answer rule b (batch file) = batch_says (form_of file) (part_answer b file)

-- The book that an accepted call leaves.
unfoldable pub applied : Book → Call → Book
applied b (on p a) = applied_on b p a
applied b (advance day budget) = open_days (days_to_open b day budget) b
applied b (statement p) = b
applied b calls_made = b
applied b (batch file) = after_parts b file (count_in file)

-- The book that a call leaves: a refused one leaves it as it was.
unfoldable pub step : Rule → Book → Call → Book
step rule b c = cond (accepted (answer rule b c)) (applied b c) b

-- The book that a list of calls, the newest first, each made under its rule, leads to from a fresh book on day s.
unfoldable pub run : ℕ → List MadeCall → Book
run s [] = fresh_book s
run s (e ∷ before) = step e.rule (run s before) e.call
