-- The numbers of an answer: a signed word holds each of them, and what is read back from it is the number.
-- Assumes nothing.
use Prim.Native.Nat.{ℕ, ◌+◌, ◌-◌, ◌*◌, ◌≤◌}
use native.Mathlib.Omega.{arith}
use mathlib.Core.Path.{◌≡◌, sym, ap, subst, ◌∙◌}
use mathlib.Core.Bool.{◌&&◌}
use mathlib.Core.List.{List, [], ◌∷◌}
use borrow.Author.Tests.{ltb-false}
use lib.Dec.{ltb}
use lib.ListN.{length}
use lib.IntN.{ℤ, nat_abs}
use Rattle.laws.specs.Cases.{split, by-test}
use Rattle.laws.specs.Tabulated.{length-table}
use Rattle.calendar.specs.Civil.{month_of}
use Rattle.manual.specs.Figures.{sum_of}
use Rattle.manual.specs.Laws.{summed-total}
use Rattle.file.specs.declared.File.{File}
use Rattle.file.specs.Answer.{Answer, refused, done, annual, days_opened, batched, deletion, Cause, decide, accepted, statement_says}
use Rattle.file.specs.Fields.{shortfall_of}
use Rattle.file.specs.Totals.{total_at}
use Rattle.file.specs.TotalLaws.{totals-length}
use Rattle.file.specs.Lodge.{lodge_answer}
use Rattle.file.specs.Release.{release_answer}
use Rattle.file.specs.CheckLaws.{settled-answer}
use Rattle.file.specs.Settle.{settlement_calls, check_due, settled_answer, settle_answer}
use Rattle.file.specs.Annual.{annual_totals, annual_amount_of, annual_answer}
use Rattle.file.specs.Deletion.{deletion_amount_of, deletion_calls, deletion_answer}
use Rattle.file.specs.Statement.{file_statement}
use Rattle.file.specs.Sound.{Sound}
use Rattle.file.specs.KeepsPositions.{sound-cover}
use Rattle.file.specs.KeepsCalls.{annual-bound, deletion-bound}
use Rattle.layout.specs.Parts.{slot_of_words}
use Rattle.layout.specs.Files.{slots_of_words, file_of_words, words_at}
use Rattle.layout.specs.Words.{place, book_of_words}
use Rattle.layout.specs.WellFormed.{WellFormed}
use Rattle.std.specs.Prelude.{Result, Ok, Err}
use Rattle.batch.specs.declared.Misfit.{Misfit}
use Rattle.batch.specs.Batch.{form_of}
use Rattle.book.specs.Call.{Act, admit, lodge, release, settle, annual_run, delete, Call, on, advance, statement, calls_made, batch}
use Rattle.book.specs.Call.{first_refused, batch_says}
use Rattle.book.specs.Rule.{new_rule}
use Rattle.book.specs.Account.{file_at, if_numbered, if_admitted, file_answer, part_answer, days_to_open, admits_retired, unless_retired, answer}
use Rattle.book.proofs.Participant.Lawful.{NoneHolds}
use Rattle.book.specs.Reached.{Given}
use Rattle.book.specs.InWords.{GivenWords}
use Rattle.replay.specs.Encoding.{WithinSigned}
use Rattle.book.proofs.Participant.Decide.{decide_true, decide-false}
use Rattle.book.proofs.Functions.SoundBook.{sound-file, made-bound}
use Rattle.book.proofs.Functions.OnWords.{counts-few, file-there}

-- ---- the bounds of an answer's numbers

-- A decision's numbers are within where those of the answer with no cause are.
decide-within : (causes : List Cause) (x : Answer) → (NoneHolds causes → WithinSigned x) → WithinSigned (decide refused causes x)
unfolding decide
decide-within [] x h = h tt
decide-within (c ∷ causes) x h =
    split c.holds
    (λ e. subst WithinSigned (sym (decide_true c causes x e)) tt)
    (λ e. subst WithinSigned (sym (decide-false c causes x e)) (decide-within causes x (λ n. h (e, n))))

-- A settlement's.
settlement-within : (f : File) (t m : ℕ) (figures : List ℤ) → nat_abs (sum_of figures) ≤ 16000000000000 → WithinSigned (settled_answer f t m figures)
settlement-within f t m figures h =
    split (settlement_calls f t m figures)
    (λ e. rw (settled-answer f t m figures, e) (omega arith, omega arith))
    (λ e. rw (settled-answer f t m figures, e) (split (check_due (month_of t) m) (λ g. rw g tt) (λ g. rw g tt)))

settle-within : (f : File) (t m : ℕ) (figures : List ℤ) → WithinSigned (settle_answer f t m figures)
unfolding settle_answer
settle-within f t m figures =
    decide-within _ (settled_answer f t m figures) (λ n. settlement-within f t m figures (summed-total figures n.1.0 n.1.1.0))

-- An annual run's.
annual-within : (f : File) (t : ℕ) → Sound t f → WithinSigned (annual_answer f t)
unfolding annual_answer annual_totals
annual-within f t s =
    let few = totals-length (total_at f.totals) (month_of t - 14) (month_of t - 2 - (month_of t - 14)) in
    let low = annual-bound f t s in
    decide-within _ (annual (annual_amount_of f t) (length (annual_totals f t))) (λ n. (omega arith, omega arith))

-- A deletion's.
deletion-within : (f : File) (t : ℕ) → Sound t f → WithinSigned (deletion_answer f t)
unfolding deletion_answer
deletion-within f t s =
    let low = deletion-bound f t s in
    decide-within _ (deletion (deletion_amount_of f t) (deletion_calls f t)) (λ n. omega arith)

-- A statement's.
statement-within : (f : File) (t : ℕ) → Sound t f → length f.slots ≡ 8 → WithinSigned (statement_says (file_statement f t))
unfolding file_statement shortfall_of
statement-within f t s n =
    let cover = sound-cover t t f s n in
    (omega (arith, s.firm), omega arith, omega (arith, s.firm), omega (arith, s.charged, s.day), omega (arith, s.charged, s.day, s.accrued), omega (arith, made-bound t f s))

-- A call's on a participant's file.
file-within : (f : File) (t : ℕ) (a : Act) → Sound t f → WithinSigned (file_answer f t a)
unfolding file_answer if_admitted lodge_answer release_answer
file-within f t (admit role) s = decide-within _ done (λ n. tt)
file-within f t (lodge k h) s = decide-within _ (lodge_answer f t k h) (λ n. decide-within _ done (λ n. tt))
file-within f t (release k a) s = decide-within _ (release_answer f t k a) (λ n. decide-within _ done (λ n. tt))
file-within f t (settle m figures) s = decide-within _ (settle_answer f t m figures) (λ n. settle-within f t m figures)
file-within f t annual_run s = decide-within _ (annual_answer f t) (λ n. annual-within f t s)
file-within f t delete s = decide-within _ (deletion_answer f t) (λ n. deletion-within f t s)

-- .. also where an admission is refused with 23.
registered-within : (a : Act) (x : Answer) → WithinSigned x → WithinSigned (unless_retired new_rule a x)
registered-within a x h = by-test (admits_retired a && accepted x) (refused 23) x WithinSigned (λ e. tt) (λ e. h)

-- A participant's file in words has eight positions.
eight : (l : List ℕ) (p : ℕ) → p ≤ 63 → length (file_at (book_of_words l) p).slots ≡ 8
unfolding file_of_words slots_of_words
eight l p h =
    let w = words_at l (place p) in
    ap (λ (f : File). length f.slots) (file-there l p h)
    ∙ length-table 8 (λ k. slot_of_words (w (10 + 4 * k)) (w (11 + 4 * k)) (w (12 + 4 * k)) (w (13 + 4 * k)))

-- A batch's are small by its bytes.
batch-within : (form : Result ℕ Misfit) (answers : ℕ → Answer) → WithinSigned (batch_says form answers)
unfolding batch_says
batch-within (Err m) answers = tt
batch-within (Ok n) answers =
    by-test (ltb (first_refused answers n) n) _ (batched n) WithinSigned (λ e. tt) (λ e. tt)

-- The numbers of every answer of a book in well-formed words are within.
answer-within : (l : List ℕ) (c : Call) → WellFormed l → WithinSigned (answer new_rule (book_of_words l) c)
unfolding answer if_numbered if_admitted
answer-within l (on p a) w =
    let b = book_of_words l in
    let x = file_answer (file_at b p) b.today.0 a in
    decide-within _ (unless_retired new_rule a x)
    (λ n. registered-within a x (file-within (file_at b p) b.today.0 a (sound-file b p w.sound)))
answer-within l (advance day budget) w = decide-within _ (days_opened (days_to_open (book_of_words l) day budget)) (λ n. tt)
answer-within l (statement p) w =
    let b = book_of_words l in
    decide-within _ (if_admitted (file_at b p) (statement_says (file_statement (file_at b p) b.today.0)))
    (λ n. decide-within _ (statement_says (file_statement (file_at b p) b.today.0))
    (λ m. statement-within (file_at b p) b.today.0 (sound-file b p w.sound) (eight l p (ltb-false 63 p n.0))))
answer-within l (batch file) w = batch-within (form_of file) (part_answer (book_of_words l) file)
answer-within l calls_made w = let few = counts-few l w in omega arith

-- .. so those of what a question or a call gives are.
pub asked-within : (l : List ℕ) (c : Call) (x : Answer) → WellFormed l → Given (book_of_words l) c x (book_of_words l) → WithinSigned x
asked-within l c x w g = subst WithinSigned (sym g.answered) (answer-within l c w)

pub given-within : (l m : List ℕ) (c : Call) (x : Answer) → WellFormed l → GivenWords l c x m → WithinSigned x
given-within l m c x w g = subst WithinSigned (sym g.given.answered) (answer-within l c w)

pub ruleset within = (asked-within, given-within)
