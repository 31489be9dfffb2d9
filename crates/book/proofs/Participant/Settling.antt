-- A settlement: the file's answer is the reading's decision, and an accepted one leaves the file of the readings.
-- Assumes nothing.
use Prim.Native.Nat.{ℕ, ◌+◌, ◌%◌}
use mathlib.Core.Path.{◌≡◌, refl, sym}
use mathlib.Core.Bool.{Bool, true, false, cond, ◌&&◌}
use mathlib.Core.List.{List, [], ◌∷◌}
use native.Mathlib.Omega.{arith}
use lib.Dec.{leb}
use lib.IntN.{ℤ, nat_abs}
use lib.ListN.{length}
use Rattle.laws.specs.Lists.{table}
use Rattle.laws.specs.Tabulated.{set-table}
use Rattle.calendar.specs.Civil.{month_of}
use Rattle.std.specs.Prelude.{Option, Some, None}
use Rattle.manual.specs.declared.Call.{Call}
use Rattle.manual.specs.Check.{checked}
use Rattle.manual.specs.Figures.{sum_of, wrong_count, out_of_range}
use Rattle.file.specs.Answer.{refused, recorded, decide, accepted}
use Rattle.file.specs.Position.{slot_of}
use Rattle.file.specs.Calls.{amounts_of, call_of, in_places}
use Rattle.file.specs.Totals.{total_of, with_total}
use Rattle.file.specs.Fields.{with_totals}
use Rattle.file.specs.Settle.{outside_months, check_due, deposited, settlement_calls, check_says, settled_answer, settle_answer, calls_settled, settled_file}
use Rattle.book.specs.Account.{if_admitted, file_answer, file_after}
use Rattle.book.specs.OneCount.{calls_added}
use Rattle.book.specs.Call.{settle}
use Rattle.book.specs.Reading.Events.{Own, act, admitted_in, leaving_in, role_in}
use Rattle.book.specs.Reading.Holdings.{last_lodged, released_since, left_at, position_in, deposited_in}
use Rattle.book.specs.Reading.Months.{next_in}
use Rattle.book.specs.Reading.Calls.{calls_in, called_in, firm_in, open_in}
use Rattle.book.specs.Reading.Decisions.{cause, settlement_answer, own_causes, own_answer}
use Rattle.book.specs.Kept.{ring_in, file_in}
use Rattle.book.proofs.Participant.Lawful.{today_in, NoneHolds, Lawful}
use Rattle.book.proofs.Participant.OpenCalls.{open-calls, open-behind, length-behind}
use Rattle.book.proofs.Participant.Cover.{deposit-is}
use Rattle.book.proofs.Participant.Charges.{firm-settled, charged-act, accrued-act}

-- A settlement's answer is no refusal.
no-refusal : (due : Bool) (x : ℤ) (last : ℕ) (c : Option Call) → accepted (cond due (check_says x last c) (recorded x)) ≡ true
no-refusal true x last (Some call) = refl
no-refusal true x last None = refl
no-refusal false x last c = refl

module _ (s : ℕ) (own : List Own) (m : ℕ) (figures : List ℤ) (lw : Lawful s own) where
  -- D, and whether it calls, are the reading's.
  deposit : deposited (file_in (today_in s own) own) (today_in s own) ≡ deposited_in (today_in s own) own
  unfolding deposited file_in
  deposit = deposit-is s own lw

  calls_same : settlement_calls (file_in (today_in s own) own) (today_in s own) m figures
      ≡ called_in (today_in s own) m figures own (calls_in own)
  unfolding settlement_calls called_in
  calls_same = rw (deposit, open-calls (today_in s own) own) (unfold file_in firm_in open_in in refl)

  -- The causes after cause 2.
  file-answer : settle_answer (file_in (today_in s own) own) (today_in s own) m figures
      ≡ decide refused
      (cause 12 (outside_months (month_of (today_in s own)) m)
      ∷ cause 10 (wrong_count figures)
      ∷ cause 11 (out_of_range figures)
      ∷ cause 13 (called_in (today_in s own) m figures own (calls_in own) && leb 4 (length (open_in (today_in s own) own)))
      ∷ [])
      (settlement_answer (today_in s own) m figures own)
  unfolding settle_answer settled_answer settlement_answer
  file-answer = rw (calls_same, deposit, open-calls (today_in s own) own) (unfold file_in in refl)

  -- (1) Its answer.
  pub settle-answer : file_answer (file_in (today_in s own) own) (today_in s own) (settle m figures)
      ≡ decide refused (own_causes (today_in s own) own (settle m figures)) (own_answer (today_in s own) own (settle m figures))
  unfolding file_answer if_admitted own_causes own_answer
  settle-answer = rw file-answer (unfold file_in decide in refl)

  -- (3) The calls that it makes.
  pub settle-calls : calls_added (file_in (today_in s own) own) (today_in s own) (settle m figures) + length (calls_in own)
      ≡ length (calls_in (act (today_in s own) (settle m figures) ∷ own))
  unfolding calls_added calls_in
  settle-calls =
      rw calls_same
      (length-behind (calls_in own) (called_in (today_in s own) m figures own (calls_in own))
      (call_of (nat_abs (sum_of figures)) (today_in s own + 10)))

  made : length (calls_in own) + cond (settlement_calls (file_in (today_in s own) own) (today_in s own) m figures) 1 0
      ≡ length (calls_in (act (today_in s own) (settle m figures) ∷ own))
  unfolding calls_added
  made = omega (arith, settle-calls)

  -- The open calls and month totals that it leaves.
  opens : calls_settled (file_in (today_in s own) own) (today_in s own) m figures
      ≡ open_in (today_in s own) (act (today_in s own) (settle m figures) ∷ own)
  unfolding calls_settled open_in calls_in
  opens =
      rw (calls_same, open-calls (today_in s own) own)
      (sym
      (open-behind (today_in s own) (calls_in own) (called_in (today_in s own) m figures own (calls_in own)) (nat_abs (sum_of figures))
      (today_in s own + 10) (omega arith)))

  totals : with_total (table 16 (ring_in own)) m (sum_of figures) ≡ table 16 (ring_in (act (today_in s own) (settle m figures) ∷ own))
  unfolding with_total ring_in
  totals = set-table 16 (ring_in own) (m % 16) (total_of m (sum_of figures))

  module _ (none : NoneHolds (own_causes (today_in s own) own (settle m figures))) where
    taken : accepted (settle_answer (file_in (today_in s own) own) (today_in s own) m figures) ≡ true
    unfolding own_causes decide settlement_answer
    taken =
        rw (file-answer, none.1.0, none.1.1.0, none.1.1.1.0, none.1.1.1.1.0)
        (no-refusal (check_due (month_of (today_in s own)) m) (sum_of figures) (today_in s own + 10)
        (checked (sum_of figures) (deposited_in (today_in s own) own) (firm_in (today_in s own) own) (amounts_of (open_in (today_in s own) own))))

    -- (2) The file that it leaves.
    settled : with_totals (file_in (today_in s own) own)
        (with_total (table 16 (ring_in own)) m (sum_of figures))
        (calls_settled (file_in (today_in s own) own) (today_in s own) m figures)
        (cond (settlement_calls (file_in (today_in s own) own) (today_in s own) m figures) 1 0)
        ≡ file_in (today_in s own) (act (today_in s own) (settle m figures) ∷ own)
    unfolding file_in admitted_in leaving_in role_in position_in left_at last_lodged released_since next_in
    settled = λ i.
        record {
          admitted = admitted_in own;
          leaving = leaving_in own;
          role = role_in own;
          firm = (sym (firm-settled (today_in s own) (today_in s own) m figures own (omega arith))) i;
          slots = table 8 (λ k. slot_of (position_in (today_in s own) k own));
          calls = in_places (opens i);
          count = length (opens i);
          next = next_in own;
          totals = totals i;
          charged = (sym (charged-act s own (settle m figures) lw none)) i;
          accrued = (sym (accrued-act s own (settle m figures) lw none)) i;
          made = made i;
        }

    pub settle-file : file_after (file_in (today_in s own) own) (today_in s own) (settle m figures)
        ≡ file_in (today_in s own) (act (today_in s own) (settle m figures) ∷ own)
    unfolding file_after settled_file
    settle-file = rw taken (unfold file_in in settled)
