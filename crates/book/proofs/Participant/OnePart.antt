-- One participant on any day of a lawful history: each call's answer and the file that it leaves, the calls that it adds, the next day opened,
-- the statement and the shortfall are those of the readings.
-- Assumes nothing.
use Prim.Native.Nat.{ℕ, suc, ◌+◌, ◌-◌, ◌≤◌}
use native.Mathlib.Nat.{zero-add}
use mathlib.Core.Path.{◌≡◌, ap}
use mathlib.Core.Bool.{true, false}
use mathlib.Core.List.{List, ◌∷◌}
use lib.ListN.{length}
use Rattle.file.specs.Answer.{refused, decide, statement_says}
use Rattle.file.specs.Fields.{cover_of, shortfall_of}
use Rattle.file.specs.Statement.{file_statement}
use Rattle.book.specs.Call.{Act, admit, lodge, release, settle, annual_run, delete}
use Rattle.book.specs.Account.{file_answer, file_after, opened_if_admitted}
use Rattle.book.specs.OneCount.{calls_added}
use Rattle.book.specs.Reading.Events.{Own, day_opened, act, admitted_in}
use Rattle.book.specs.Reading.Holdings.{cover_in}
use Rattle.book.specs.Reading.Calls.{calls_in}
use Rattle.book.specs.Reading.Decisions.{own_causes, own_answer, own_statement}
use Rattle.book.specs.Kept.{file_in}
use Rattle.book.proofs.Participant.Lawful.{today_in, NoneHolds, Lawful}
use Rattle.book.proofs.Participant.Admitting.{admit-answer, admit-file, admit-calls}
use Rattle.book.proofs.Participant.Lodging.{lodging-answers, lodging-leaves}
use Rattle.book.proofs.Participant.Releasing.{releasing-answers, releasing-leaves}
use Rattle.book.proofs.Participant.Settling.{settle-answer, settle-file, settle-calls}
use Rattle.book.proofs.Participant.Annual.{annual-answer, annual-file}
use Rattle.book.proofs.Participant.Deleting.{delete-answer, delete-file, delete-calls}
use Rattle.book.proofs.Participant.Opening.{day-opened}
use Rattle.book.proofs.Participant.Statements.{cover-of-file, statement-is}
use Rattle.book.proofs.Participant.Shortfalls.{shortfall_in, shortfall-not-higher, begun-with-none}

-- A participant on day t, `own` being its part of the history.
pub record OnePart (t : ℕ) (own : List Own) : Type 0 where
  pub answered : (a : Act) → file_answer (file_in t own) t a ≡ decide refused (own_causes t own a) (own_answer t own a)
  pub left : (a : Act) → NoneHolds (own_causes t own a) → file_after (file_in t own) t a ≡ file_in t (act t a ∷ own)
  pub called : (a : Act) → NoneHolds (own_causes t own a)
      → calls_added (file_in t own) t a + length (calls_in own) ≡ length (calls_in (act t a ∷ own))
  pub opened : suc t ≤ 29219 → opened_if_admitted (suc t) (file_in t own) ≡ file_in (suc t) (day_opened (suc t) ∷ own)
  pub stated : statement_says (file_statement (file_in t own) t) ≡ own_statement t own
  pub cover : cover_of (file_in t own) t ≡ cover_in t own
  pub shortfall : shortfall_of (file_in t own) t ≡ shortfall_in t own
  -- an accepted call raises no shortfall, and an admission begins with none
  pub kept : (a : Act) → NoneHolds (own_causes t own a) → admitted_in own ≡ true → shortfall_in t (act t a ∷ own) ≤ shortfall_in t own
  pub begun : (a : Act) → admitted_in own ≡ false → admitted_in (act t a ∷ own) ≡ true → shortfall_in t (act t a ∷ own) ≡ 0

-- .. as it stands on the last day of a lawful part.
module _ (s : ℕ) (own : List Own) (lw : Lawful s own) where
  abbrev t : ℕ
  t = today_in s own

  -- Each call's answer.
  answered-as : (a : Act) → file_answer (file_in t own) t a ≡ decide refused (own_causes t own a) (own_answer t own a)
  answered-as (admit role) = admit-answer t own role
  answered-as (lodge k h) = lodging-answers t k h own
  answered-as (release k a) = releasing-answers s k a own lw
  answered-as (settle m figures) = settle-answer s own m figures lw
  answered-as annual_run = annual-answer s own lw
  answered-as delete = delete-answer s own lw

  -- The file that each accepted call leaves.
  left_as : (a : Act) → NoneHolds (own_causes t own a) → file_after (file_in t own) t a ≡ file_in t (act t a ∷ own)
  left_as (admit role) none = admit-file s own role lw none
  left_as (lodge k h) none = lodging-leaves s k h own lw none
  left_as (release k a) none = releasing-leaves s k a own lw none
  left_as (settle m figures) none = settle-file s own m figures lw none
  left_as annual_run none = annual-file s own lw none
  left_as delete none = delete-file s own lw none

  -- The calls that each adds.
  called-as : (a : Act) → NoneHolds (own_causes t own a)
      → calls_added (file_in t own) t a + length (calls_in own) ≡ length (calls_in (act t a ∷ own))
  unfolding calls_added calls_in
  called-as (admit role) none = admit-calls s own role lw none
  called-as (lodge k h) none = zero-add (length (calls_in own))
  called-as (release k a) none = zero-add (length (calls_in own))
  called-as (settle m figures) none = settle-calls s own m figures lw
  called-as annual_run none = zero-add (length (calls_in own))
  called-as delete none = delete-calls s own lw

  -- The shortfall.
  shortfall-as : shortfall_of (file_in t own) t ≡ shortfall_in t own
  unfolding shortfall_of file_in
  shortfall-as = ap (λ (c : ℕ). (file_in t own).firm - c) (cover-of-file s own lw)

  pub one-part : OnePart t own
  one-part =
      record {
        answered = answered-as;
        left = left_as;
        called = called-as;
        opened = day-opened s own lw;
        stated = statement-is s own lw;
        cover = cover-of-file s own lw;
        shortfall = shortfall-as;
        kept = λ a none admitted. shortfall-not-higher s own a lw admitted none;
        begun = λ a. begun-with-none s own a lw;
      }
