-- A deletion: the file's answer is the reading's decision, and an accepted one leaves the file of the readings.
-- Assumes nothing.
use Prim.Native.Nat.{ℕ, ◌+◌, ◌-◌}
use mathlib.Core.Path.{◌≡◌, refl, sym, ap, ◌∙◌}
use mathlib.Core.Bool.{true, cond, not, ◌&&◌, ◌||◌}
use mathlib.Core.List.{List, [], ◌∷◌}
use native.Mathlib.Omega.{arith}
use lib.Dec.{leb}
use lib.IntN.{ℤ}
use lib.ListN.{length}
use Rattle.laws.specs.Lists.{table}
use Rattle.laws.specs.Cases.{cond-true}
use Rattle.calendar.specs.Civil.{month_of, in_deletion_months}
use Rattle.manual.specs.Deletion.{deletion_amount}
use Rattle.file.specs.Answer.{refused, deletion, decide, accepted}
use Rattle.file.specs.Position.{slot_of}
use Rattle.file.specs.Calls.{call_of, in_places}
use Rattle.file.specs.Totals.{total_at}
use Rattle.file.specs.Fields.{open_amounts, with_deletion}
use Rattle.file.specs.Deletion.{deletion_totals, last_three, deletion_amount_of, deletion_calls, deletion_answer, calls_deleted, deleted_file}
use Rattle.file.specs.DeletionLaws.{exceeds-largest}
use Rattle.book.specs.Account.{if_admitted, file_answer, file_after}
use Rattle.book.specs.OneCount.{calls_added}
use Rattle.book.specs.Call.{delete}
use Rattle.book.specs.Reading.Events.{Own, act, admitted_in, leaving_in, role_in}
use Rattle.book.specs.Reading.Holdings.{last_lodged, released_since, left_at, position_in}
use Rattle.book.specs.Reading.Months.{total_in, next_in, deletion_in}
use Rattle.book.specs.Reading.Calls.{calls_in, deletion_called, firm_in, open_in}
use Rattle.book.specs.Reading.Decisions.{cause, own_causes, own_answer}
use Rattle.book.specs.Kept.{ring_in, file_in}
use Rattle.book.proofs.Participant.Lawful.{today_in, NoneHolds, Lawful}
use Rattle.book.proofs.Participant.OpenCalls.{open-calls, open-behind, length-behind}
use Rattle.book.proofs.Participant.Charges.{firm-deleted, charged-act, accrued-act}
use Rattle.book.proofs.Participant.Ring.{ring-says, totals-same}
use Rattle.book.proofs.Participant.Latest.{latest-three}

module _ (s : ℕ) (own : List Own) (lw : Lawful s own) where
  -- The amount, and whether it calls, are the reading's.
  amount : deletion_amount_of (file_in (today_in s own) own) (today_in s own) ≡ deletion_in (today_in s own) own
  unfolding deletion_amount_of deletion_totals deletion_in file_in
  amount =
      let p = month_of (today_in s own) in
      ap (λ (totals : List ℤ). deletion_amount (last_three totals))
      (totals-same (total_at (table 16 (ring_in own))) (total_in own) (p - 14) (p - 1 - (p - 14)) (λ k h. ring-says s own k lw (omega arith)))
      ∙ latest-three (total_in own) p

  calls_same : deletion_calls (file_in (today_in s own) own) (today_in s own) ≡ deletion_called (today_in s own) own (calls_in own)
  unfolding deletion_calls deletion_called
  calls_same =
      exceeds-largest (deletion_amount_of (file_in (today_in s own) own) (today_in s own)) (file_in (today_in s own) own).firm
      (open_amounts (file_in (today_in s own) own))
      ∙ rw (amount, open-calls (today_in s own) own) (unfold file_in firm_in open_in in refl)

  -- The causes after cause 2.
  file-answer : deletion_answer (file_in (today_in s own) own) (today_in s own)
      ≡ decide refused
      (cause 24 (not (in_deletion_months (today_in s own)) || leaving_in own)
      ∷ cause 13 (deletion_called (today_in s own) own (calls_in own) && leb 4 (length (open_in (today_in s own) own)))
      ∷ [])
      (deletion (deletion_in (today_in s own) own) (deletion_called (today_in s own) own (calls_in own)))
  unfolding deletion_answer
  file-answer = rw (calls_same, amount, open-calls (today_in s own) own) (unfold file_in in refl)

  -- (1) Its answer.
  pub delete-answer : file_answer (file_in (today_in s own) own) (today_in s own) delete
      ≡ decide refused (own_causes (today_in s own) own delete) (own_answer (today_in s own) own delete)
  unfolding file_answer if_admitted own_causes own_answer
  delete-answer = rw file-answer (unfold file_in decide in refl)

  -- (3) The calls that it makes.
  pub delete-calls : calls_added (file_in (today_in s own) own) (today_in s own) delete + length (calls_in own)
      ≡ length (calls_in (act (today_in s own) delete ∷ own))
  unfolding calls_added calls_in
  delete-calls =
      rw calls_same
      (length-behind (calls_in own) (deletion_called (today_in s own) own (calls_in own))
      (call_of (deletion_in (today_in s own) own) (today_in s own + 10)))

  made : length (calls_in own) + cond (deletion_calls (file_in (today_in s own) own) (today_in s own)) 1 0
      ≡ length (calls_in (act (today_in s own) delete ∷ own))
  unfolding calls_added
  made = omega (arith, delete-calls)

  -- The open calls that it leaves.
  opens : calls_deleted (file_in (today_in s own) own) (today_in s own) ≡ open_in (today_in s own) (act (today_in s own) delete ∷ own)
  unfolding calls_deleted open_in calls_in
  opens =
      rw (calls_same, amount, open-calls (today_in s own) own)
      (sym
      (open-behind (today_in s own) (calls_in own) (deletion_called (today_in s own) own (calls_in own)) (deletion_in (today_in s own) own)
      (today_in s own + 10) (omega arith)))

  module _ (none : NoneHolds (own_causes (today_in s own) own delete)) where
    taken : accepted (deletion_answer (file_in (today_in s own) own) (today_in s own)) ≡ true
    unfolding own_causes decide
    taken = rw (file-answer, none.1.0, none.1.1.0)

    -- (2) The file that it leaves.
    placed : with_deletion (file_in (today_in s own) own) (calls_deleted (file_in (today_in s own) own) (today_in s own))
        (cond (deletion_calls (file_in (today_in s own) own) (today_in s own)) 1 0)
        ≡ file_in (today_in s own) (act (today_in s own) delete ∷ own)
    unfolding file_in admitted_in leaving_in role_in position_in left_at last_lodged released_since next_in ring_in
    placed = λ i.
        record {
          admitted = admitted_in own;
          leaving = true;
          role = role_in own;
          firm = (sym (firm-deleted (today_in s own) (today_in s own) own (omega arith))) i;
          slots = table 8 (λ k. slot_of (position_in (today_in s own) k own));
          calls = in_places (opens i);
          count = length (opens i);
          next = next_in own;
          totals = table 16 (ring_in own);
          charged = (sym (charged-act s own delete lw none)) i;
          accrued = (sym (accrued-act s own delete lw none)) i;
          made = made i;
        }

    pub delete-file : file_after (file_in (today_in s own) own) (today_in s own) delete
        ≡ file_in (today_in s own) (act (today_in s own) delete ∷ own)
    unfolding file_after deleted_file
    delete-file =
        cond-true (accepted (deletion_answer (file_in (today_in s own) own) (today_in s own)))
        (with_deletion (file_in (today_in s own) own) (calls_deleted (file_in (today_in s own) own) (today_in s own))
        (cond (deletion_calls (file_in (today_in s own) own) (today_in s own)) 1 0))
        (file_in (today_in s own) own)
        taken
        ∙ placed
