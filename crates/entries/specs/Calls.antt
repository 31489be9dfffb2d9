-- The entries of a participant's accepted call, by the call and what it answers.
-- Assumes nothing.
use Rattle.std.specs.Prelude.{ℕ, ◌+◌, ◌-◌, Bool, true, false, cond, List, [], ◌∷◌, ltb, eqb, length, Option, Some, None, slice_get}
use Rattle.calendar.specs.declared.Month.{Month}
use Rattle.manual.specs.Minimum.{minimum_of}
use Rattle.file.specs.declared.File.{File}
use Rattle.file.specs.declared.OpenCall.{OpenCall}
use Rattle.file.specs.declared.Position.TheVariants.{Cash, Letter}
use Rattle.file.specs.Fields.{open_calls}
use Rattle.journal.specs.Grammar.{day_numbered}
use Rattle.journal.specs.declared.Request.{Request}
use Rattle.printing.specs.declared.Answer.{Answer}
use Rattle.entries.specs.Lines.{lines_of}
use Rattle.entries.specs.declared.entry.Entry.{Entry}
use Rattle.entries.specs.declared.entry.Origin.{Origin}

-- Whether a request is a change of participant p's own file.
unfoldable pub is_of : ℕ → Request → Bool
is_of p (Request.Admit q r) = eqb q p
is_of p (Request.LodgeCash q k a) = eqb q p
is_of p (Request.LodgeLetter q k a f l) = eqb q p
is_of p (Request.Release q k a) = eqb q p
is_of p (Request.Settle q m n) = eqb q p
is_of p (Request.Annual q) = eqb q p
is_of p (Request.Delete q) = eqb q p
is_of p r = false

-- A call made on day t of an admission or a deletion: its last free day is t + 10, as a number of 32 bits.
unfoldable pub call_on : ℕ → ℕ → OpenCall
call_on t a = record { amount = a; last = day_numbered (t + 10) }

-- An admission on day t: the role, and a call where its minimum is above 0.
unfoldable pub admission_entries : ℕ → ℕ → List Entry
admission_entries t role =
    Entry.Admitted role
    ∷ cond (ltb 0 (minimum_of role)) (Entry.Called (call_on t (minimum_of role)) Origin.Admission ∷ []) []

-- What an admission, a lodging or a release gives on day t, where it is done.
unfoldable pub done_entries : ℕ → Request → List Entry
done_entries t (Request.Admit p role) = admission_entries t role
done_entries t (Request.LodgeCash p k a) = Entry.Lodged k (Cash a) ∷ []
done_entries t (Request.LodgeLetter p k a first last) = Entry.Lodged k (Letter a first last) ∷ []
done_entries t (Request.Release p k a) = Entry.Released k a ∷ []
done_entries t r = []

-- What a settlement gives that calls: the call, from the settlement of its month.
unfoldable pub settled_entries : Request → OpenCall → List Entry
settled_entries (Request.Settle p m n) c = Entry.Called c (Origin.Settlement m) ∷ []
settled_entries r c = []

-- A deletion on day t of an amount, which may be called: the call, and the status.
unfoldable pub deletion_entries : ℕ → ℕ → Bool → List Entry
deletion_entries t a true = Entry.Called (call_on t a) Origin.Deletion ∷ Entry.Leaving ∷ []
deletion_entries t a false = Entry.Leaving ∷ []

-- The entries of a call by its answer. A settlement that is covered or recorded gives none, nor does what is refused.
unfoldable pub answer_entries : ℕ → Request → Answer → List Entry
answer_entries t r Answer.Done = done_entries t r
answer_entries t r (Answer.Called e asked last) = settled_entries r (record { amount = e; last = last })
answer_entries t r (Answer.Annual a n) = Entry.NextSet a ∷ []
answer_entries t r (Answer.Deletion a called) = deletion_entries t a called
answer_entries t r x = []

-- The entries of participant p from a call on day t: none of a call of another, or of one that changes no file.
unfoldable pub called_entries : ℕ → ℕ → Request → Answer → List Entry
called_entries t p r x = cond (is_of p r) (answer_entries t r x) []

-- Their lines, with the call's reference.
unfoldable pub called_lines : ℕ → ℕ → Request → Answer → List ℕ → List ℕ
called_lines t p r x reference = lines_of t reference (called_entries t p r x)

-- The newest open call of a file, which is the last of them.
unfoldable pub newest_call : File → Option OpenCall
newest_call f = slice_get (open_calls f) (length (open_calls f) - 1)

-- The entry of a call from the settlement of month m, where there is one.
unfoldable pub call_entries : Month → Option OpenCall → List Entry
call_entries m (Some c) = Entry.Called c (Origin.Settlement m) ∷ []
call_entries m None = []

-- The entries of a participant from a batch of month m, by its files before and after: the newest open call where one more was made.
unfoldable pub batch_entries : Month → File → File → List Entry
batch_entries m before after = cond (ltb before.made after.made) (call_entries m (newest_call after)) []

-- Their lines on day t, with the batch's reference.
unfoldable pub batch_lines : ℕ → Month → File → File → List ℕ → List ℕ
batch_lines t m before after reference = lines_of t reference (batch_entries m before after)
