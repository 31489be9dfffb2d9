-- The claim about a whole session; and a line that is not kept leaves the book.
-- Assumes nothing.
use Rattle.std.specs.Prelude.{Result, Ok, Err}
use Prim.Native.Nat.{ℕ, ◌≤◌}
use mathlib.Core.Path.{◌≡◌, refl, sym, ap, ◌∙◌}
use mathlib.Core.Bool.{Bool, true, false, cond, ◌&&◌}
use mathlib.Core.List.{List, [], ◌∷◌}
use native.Mathlib.Omega.{arith}
use borrow.Author.Tests.{ltb-false}
use lib.Dec.{ltb}
use Rattle.laws.specs.Cases.{split, clash}
use Rattle.file.specs.Answer as Said
use lib.IntN.{ℤ}
use Rattle.calendar.specs.Civil.{month_of}
use Rattle.file.specs.Answer.{Cause, accepted, decide}
use Rattle.file.specs.declared.File.{File}
use Rattle.file.specs.Annual.{annual_answer}
use Rattle.file.specs.Deletion.{deletion_answer}
use Rattle.file.specs.Lodge.{lodge_answer}
use Rattle.file.specs.Release.{release_answer}
use Rattle.file.specs.CheckLaws.{settled-answer}
use Rattle.file.specs.Settle.{settlement_calls, check_due, settled_answer, settle_answer}
use Rattle.batch.specs.Batch.{form_of}
use Rattle.batch.specs.declared.Misfit.{Misfit}
use Rattle.layout.specs.Book.{Book}
use Rattle.book.specs.Call.{Call, Act, on, admit, lodge, release, settle, annual_run, delete, advance, statement, calls_made, batch}
use Rattle.book.specs.Call.{first_refused, batch_says}
use Rattle.book.specs.Rule.{Rule, old_rule, new_rule, history}
use Rattle.book.specs.Account.{fresh_book, fresh_answer, file_at, if_numbered, if_admitted, file_answer, part_answer, answer, applied, step, run}
use Rattle.book.specs.Account.{admits_retired, unless_retired}
use Rattle.book.proofs.History.Life.{life}
use Rattle.book.proofs.History.Lift.{decided}
use Rattle.answering.specs.Shown.{shown}
use Rattle.answering.specs.Asked.{Asked, call, fresh, guarantee, nothing, role_retired, file_asked, releasable_asked, today_asked, fault, answer_to, book_after}
use Rattle.answering.specs.Kept.{takes}
use Rattle.answering.specs.Session.{rule_behind, book_of, Since, history_of, since_with, since, events_since, Session}

-- ---- a fresh book's answer

fresh-accepted : (d : ℕ) → accepted (fresh_answer d) ≡ cond (ltb 29219 d) false true
unfolding fresh_answer decide
fresh-accepted d = split (ltb 29219 d) (λ e. rw e) (λ e. rw e)

-- ---- the book is that of the calls since the latest fresh book

-- The day and the calls give the book b; while the first stretch lasts there are none behind it.
record Leads (rule : Rule) (s : Since) (b : Book) : Type 0 where
  within : s.start ≤ 29219
  book : b ≡ run s.start (history_of s)
  first : rule ≡ old_rule → s.calls ≡ []

leads-fresh : (rule : Rule) (d : ℕ) (s : Since) (b : Book) → Leads rule s b
    → Leads rule (cond (ltb 29219 d) s (record { start = d; first = []; calls = [] })) (cond (accepted (fresh_answer d)) (fresh_book d) b)
unfolding run
leads-fresh rule d s b l =
    split (ltb 29219 d)
    (λ e. rw (fresh-accepted d, e) l)
    (λ e. rw (fresh-accepted d, e) (record { within = ltb-false 29219 d e; book = refl; first = λ old. refl }))

-- The new rule is not the old one.
not-old : new_rule ≡ old_rule → ⊥
not-old e = clash {t = true} refl (ap is_new e)
  where
    is_new : Rule → Bool
    is_new old_rule = false
    is_new new_rule = true

leads-call : (rule : Rule) (c : Call) (s : Since) (b : Book) → Leads rule s b → Leads rule (since_with rule c s) (step rule b c)
unfolding run
leads-call old_rule c s b l =
    let none : s.calls ≡ [] = l.first refl in
    record {
      within = l.within;
      book =
          ap (λ (k : Book). step old_rule k c) (l.book ∙ ap (λ (z : List Call). run s.start (history s.first z)) none)
          ∙ ap (λ (z : List Call). run s.start (history (c ∷ s.first) z)) (sym none);
      first = λ old. none;
    }
leads-call new_rule c s b l =
    record { within = l.within; book = ap (λ (k : Book). step new_rule k c) l.book; first = λ old. absurd (not-old old) }

leads : (lines : List Asked) → Leads (rule_behind lines) (since lines) (book_of lines)
unfolding since book_of rule_behind run
leads [] = record { within = omega arith; book = refl; first = λ old. refl }
leads (call c ∷ before) = leads-call (rule_behind before) c (since before) (book_of before) (leads before)
leads (fresh d ∷ before) = leads-fresh (rule_behind before) d (since before) (book_of before) (leads before)
leads (guarantee x ∷ before) = leads before
leads (nothing ∷ before) = leads before
leads (role_retired ∷ before) =
    record { within = (leads before).within; book = (leads before).book; first = λ old. absurd (not-old old) }
leads (file_asked p ∷ before) = leads before
leads (releasable_asked p k ∷ before) = leads before
leads (today_asked ∷ before) = leads before
leads (fault e ∷ before) = leads before

-- The claim about a whole session, for every list of lines.
pub session : (lines : List Asked) → Session lines
unfolding events_since
session lines =
    let l = leads lines in
    let s = (since lines).start in
    let calls = history_of (since lines) in
    record {
      within = l.within;
      book = l.book;
      life = life s calls l.within;
      answered = λ n c.
          ap shown (ap (λ (b : Book). answer (rule_behind lines) b c) l.book ∙ decided s calls l.within (rule_behind lines) c);
    }

-- ---- what is not kept

-- Whether an answer of the book tells what was asked for: a statement, or the count of calls made.
abbrev tells : Said.Answer → Bool
tells (Said.stated f c s d a m) = true
tells (Said.counted n) = true
tells x = false

-- A call that is not taken is refused, or its answer tells what was asked for.
untaken : (x : Said.Answer) → takes (shown x) ≡ false → tells x ≡ false → accepted x ≡ false
untaken (Said.refused n) h k = refl
untaken (Said.stated f c s d a m) h k = k
untaken (Said.counted n) h k = k
untaken (Said.refused_pair n i) h k = refl
untaken x h k = h

-- Only questions are told what they ask for: causes of refusal tell nothing, nor does the answer behind them.
decided-untold : (causes : List Cause) (x : Said.Answer) → tells x ≡ false → tells (decide Said.refused causes x) ≡ false
unfolding decide
decided-untold [] x h = h
decided-untold (c ∷ causes) x h = split c.holds (λ e. rw e refl) (λ e. rw e (decided-untold causes x h))

settled-untold : (f : File) (t m : ℕ) (figures : List ℤ) → tells (settled_answer f t m figures) ≡ false
settled-untold f t m figures =
    split (settlement_calls f t m figures)
    (λ e. rw (settled-answer f t m figures, e) refl)
    (λ e. rw (settled-answer f t m figures, e) (split (check_due (month_of t) m) (λ g. rw g refl) (λ g. rw g refl)))

file-untold : (f : File) (t : ℕ) (a : Act) → tells (file_answer f t a) ≡ false
unfolding file_answer if_admitted lodge_answer release_answer settle_answer annual_answer deletion_answer
file-untold f t (admit role) = decided-untold _ Said.done refl
file-untold f t (lodge k h) = decided-untold _ _ (decided-untold _ Said.done refl)
file-untold f t (release k a) = decided-untold _ _ (decided-untold _ Said.done refl)
file-untold f t (settle m figures) = decided-untold _ _ (decided-untold _ _ (settled-untold f t m figures))
file-untold f t annual_run = decided-untold _ _ (decided-untold _ _ refl)
file-untold f t delete = decided-untold _ _ (decided-untold _ _ refl)

registered-untold : (rule : Rule) (a : Act) (x : Said.Answer) → tells x ≡ false → tells (unless_retired rule a x) ≡ false
registered-untold old_rule a x h = h
registered-untold new_rule a x h = split (admits_retired a && accepted x) (λ e. rw e refl) (λ e. rw e h)

act-untold : (rule : Rule) (b : Book) (p : ℕ) (a : Act) → tells (answer rule b (on p a)) ≡ false
unfolding answer if_numbered
act-untold rule b p a = decided-untold _ _ (registered-untold rule a _ (file-untold (file_at b p) b.today.0 a))

advance-untold : (rule : Rule) (b : Book) (day k : ℕ) → tells (answer rule b (advance day k)) ≡ false
unfolding answer
advance-untold rule b day k = decided-untold _ _ refl

says-untold : (form : Result ℕ Misfit) (x : ℕ → Said.Answer) → tells (batch_says form x) ≡ false
unfolding batch_says
says-untold (Err m) x = refl
says-untold (Ok n) x = split (ltb (first_refused x n) n) (λ e. rw e refl) (λ e. rw e refl)

batch-untold : (rule : Rule) (b : Book) (file : List ℕ) → tells (answer rule b (batch file)) ≡ false
unfolding answer
batch-untold rule b file = says-untold (form_of file) (part_answer b file)

fresh-untold : (d : ℕ) → tells (fresh_answer d) ≡ false
unfolding fresh_answer
fresh-untold d = decided-untold _ _ refl

-- A question leaves the book, whatever it is answered.
question-leaves : (t : Bool) (b : Book) → cond t b b ≡ b
question-leaves true b = refl
question-leaves false b = refl

-- A line that is not taken leaves the book: it is refused, or it is a question.
pub not_taken : (rule : Rule) (b : Book) (n : ℕ) (a : Asked) → takes (answer_to rule b n a) ≡ false → book_after rule b a ≡ b
unfolding step applied
not_taken rule b n (call (on p a)) h = rw (untaken (answer rule b (on p a)) h (act-untold rule b p a)) refl
not_taken rule b n (call (advance day k)) h = rw (untaken (answer rule b (advance day k)) h (advance-untold rule b day k)) refl
not_taken rule b n (call (statement p)) h = question-leaves (accepted (answer rule b (statement p))) b
not_taken rule b n (call calls_made) h = question-leaves (accepted (answer rule b calls_made)) b
not_taken rule b n (call (batch file)) h = rw (untaken (answer rule b (batch file)) h (batch-untold rule b file)) refl
not_taken rule b n (fresh d) h = rw (untaken (fresh_answer d) h (fresh-untold d)) refl
not_taken rule b n (guarantee x) h = refl
not_taken rule b n nothing h = refl
not_taken rule b n role_retired h = refl
not_taken rule b n (file_asked p) h = refl
not_taken rule b n (releasable_asked p k) h = refl
not_taken rule b n today_asked h = refl
not_taken rule b n (fault e) h = refl
