-- The extract of a history for one participant: "P's own accepted calls with their days and the days opened, and nothing of any other participant: by
-- paper 01's reading that is all that P's figures hang on."
-- Assumes nothing.
use Rattle.std.specs.Prelude.{ℕ, ◌<◌, ◌≡◌, true, cond, List, [], ◌∷◌, ◌++◌, map, eqb, Option, Some, None, Result, Ok, Err}
use Rattle.laws.specs.Least.{least}
use Rattle.laws.specs.Lists.{All}
use Rattle.batch.specs.declared.Misfit.{Misfit}
use Rattle.batch.specs.Batch.{participant_at, form_of, below}
use Rattle.file.specs.Answer.{Answer, accepted}
use Rattle.book.specs.Call.{Call, on, advance, batch, part_act}
use Rattle.book.specs.Rule.{MadeCall, under}
use Rattle.book.specs.Account.{file_at, run}
use Rattle.book.specs.Reading.Decisions.{decision, events_of}
use Rattle.book.specs.Life.{answers_of}
use Rattle.book.specs.Private.{AgreeOn, TellsAlike, concerns, concerning, NoBatch}

-- Which part of a batch is participant p's, if one is; "a participant twice" is refused, so that it is the only one. A file that is no batch
-- has none.
abbrev pub part_in : ℕ → List ℕ → Result ℕ Misfit → Option ℕ
part_in p file (Ok n) = below (least (λ k. eqb (participant_at file k) p) n) n
part_in p file (Err m) = None

unfoldable pub own_part : ℕ → List ℕ → Option ℕ
own_part p file = part_in p file (form_of file)

-- "A batch counts in the history as its settlements": a part as the settlement of its participant.
abbrev pub settlement : ℕ → List ℕ → Option ℕ → List Call
settlement p file (Some k) = on p (part_act file k) ∷ []
settlement p file None = []

-- What an accepted call puts into participant p's extract: a call on p's file, "the advances as they stand in the journal", and "a batch is its
-- settlement .. where a part of it is P's"; nothing of other participants' calls, nor questions.
unfoldable pub own_calls : ℕ → Call → List Call
own_calls p (on q a) = cond (eqb q p) (on q a ∷ []) []
own_calls p (advance day budget) = advance day budget ∷ []
own_calls p (batch file) = settlement p file (own_part p file)
own_calls p c = []

-- The extract of a list of calls, the newest first, from a fresh book on day s: what each accepted call puts in, under the rule that it was made
-- under. A refused call leaves nothing in it.
unfoldable pub extract_of : ℕ → ℕ → List MadeCall → List MadeCall
extract_of p s [] = []
extract_of p s (e ∷ before) =
    cond (accepted (decision e.rule s (events_of s before) e.call))
    (map (under e.rule) (own_calls p e.call) ++ extract_of p s before)
    (extract_of p s before)

-- What the reading decides of the extract's calls in the whole history, each after the calls before the one that put it in.
unfoldable pub decided_of : ℕ → ℕ → List MadeCall → List Answer
decided_of p s [] = []
decided_of p s (e ∷ before) =
    cond (accepted (decision e.rule s (events_of s before) e.call))
    (map (decision e.rule s (events_of s before)) (own_calls p e.call) ++ decided_of p s before)
    (decided_of p s before)

-- No call of a list names another participant: each is on p's file, or an advance.
abbrev pub OnlyOf : ℕ → List MadeCall → Type 0
OnlyOf p calls = All (λ (e : MadeCall). concerns p e.call ≡ true) calls

-- What holds of participant p's extract of every list of calls.
pub record Extracted (s p : ℕ) (calls : List MadeCall) : Type 0 where
  -- it has p's own accepted calls, on the same days, and the same days opened ..
  pub agrees : AgreeOn s p calls (extract_of p s calls)
  -- .. so that the book that it leads to tells p the same: its statement, and the answer to each call on its file ..
  pub tells : TellsAlike s p calls (extract_of p s calls)
  -- .. p's file is the same, and so is today
  pub file : p < 64 → file_at (run s calls) p ≡ file_at (run s (extract_of p s calls)) p
  pub today : (run s calls).today.0 ≡ (run s (extract_of p s calls)).today.0
  -- each call in it is answered what was decided of it in the whole history, and accepted
  pub answers : answers_of s (extract_of p s calls) ≡ decided_of p s calls
  pub each : All (λ (x : Answer). accepted x ≡ true) (answers_of s (extract_of p s calls))
  -- "nothing of any other participant"
  pub only : OnlyOf p (extract_of p s calls)
  -- the extract of an extract is the extract
  pub again : extract_of p s (extract_of p s calls) ≡ extract_of p s calls
  -- without batches it hangs on p's own calls and the advances alone, whatever the others did
  pub alone : NoBatch calls → extract_of p s calls ≡ extract_of p s (concerning p calls)
