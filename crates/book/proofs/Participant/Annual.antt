-- An annual run: the file's answer is the reading's decision, and an accepted one leaves the file of the readings.
-- Assumes nothing.
use Prim.Native.Nat.{ℕ}
use mathlib.Core.Path.{◌≡◌, refl, sym, ap, ◌∙◌}
use mathlib.Core.Bool.{true}
use mathlib.Core.List.{List, ◌∷◌}
use lib.ListN.{length}
use Rattle.laws.specs.Lists.{table}
use Rattle.laws.specs.Cases.{cond-true}
use Rattle.manual.specs.Annual.{annual_amount}
use Rattle.file.specs.Answer.{refused, decide, accepted}
use Rattle.file.specs.Position.{slot_of}
use Rattle.file.specs.Calls.{in_places}
use Rattle.file.specs.Fields.{set_to, with_next}
use Rattle.file.specs.Annual.{annual_amount_of, annual_answer, annual_file}
use Rattle.book.specs.Account.{if_admitted, file_answer, file_after}
use Rattle.book.specs.Call.{annual_run}
use Rattle.book.specs.Reading.Events.{Own, act, admitted_in, leaving_in, role_in}
use Rattle.book.specs.Reading.Holdings.{last_lodged, released_since, left_at, position_in}
use Rattle.book.specs.Reading.Months.{next_in, annual_in}
use Rattle.book.specs.Reading.Calls.{base_in, calls_in, firm_in, open_in}
use Rattle.book.specs.Reading.Decisions.{own_causes, own_answer}
use Rattle.book.specs.Kept.{ring_in, file_in}
use Rattle.book.proofs.Participant.Lawful.{today_in, NoneHolds, Lawful}
use Rattle.book.proofs.Participant.Charges.{charged-act, accrued-act}
use Rattle.book.proofs.Participant.Ring.{annual-totals}

module _ (s : ℕ) (own : List Own) (lw : Lawful s own) where
  -- The amount is the reading's.
  amount : annual_amount_of (file_in (today_in s own) own) (today_in s own) ≡ annual_in (today_in s own) own
  unfolding annual_amount_of annual_in
  amount = unfold file_in in ap (annual_amount (role_in own)) (annual-totals s own lw)

  -- (1) Its answer.
  pub annual-answer : file_answer (file_in (today_in s own) own) (today_in s own) annual_run
      ≡ decide refused (own_causes (today_in s own) own annual_run) (own_answer (today_in s own) own annual_run)
  unfolding file_answer if_admitted annual_answer decide own_causes own_answer
  annual-answer = rw (amount, annual-totals s own lw) (unfold file_in in refl)

  module _ (none : NoneHolds (own_causes (today_in s own) own annual_run)) where
    taken : accepted (annual_answer (file_in (today_in s own) own) (today_in s own)) ≡ true
    unfolding own_causes annual_answer decide file_in
    taken = rw (none.1.0, none.1.1.0)

    -- (2) The file that it leaves.
    set_next : with_next (file_in (today_in s own) own) (set_to (annual_amount_of (file_in (today_in s own) own) (today_in s own)))
        ≡ file_in (today_in s own) (act (today_in s own) annual_run ∷ own)
    unfolding file_in admitted_in leaving_in role_in firm_in base_in calls_in position_in left_at last_lodged released_since open_in next_in ring_in
    set_next = λ i.
        record {
          admitted = admitted_in own;
          leaving = leaving_in own;
          role = role_in own;
          firm = firm_in (today_in s own) own;
          slots = table 8 (λ k. slot_of (position_in (today_in s own) k own));
          calls = in_places (open_in (today_in s own) own);
          count = length (open_in (today_in s own) own);
          next = set_to (amount i);
          totals = table 16 (ring_in own);
          charged = (sym (charged-act s own annual_run lw none)) i;
          accrued = (sym (accrued-act s own annual_run lw none)) i;
          made = length (calls_in own);
        }

    pub annual-file : file_after (file_in (today_in s own) own) (today_in s own) annual_run
        ≡ file_in (today_in s own) (act (today_in s own) annual_run ∷ own)
    unfolding file_after annual_file
    annual-file =
        cond-true (accepted (annual_answer (file_in (today_in s own) own) (today_in s own)))
        (with_next (file_in (today_in s own) own) (set_to (annual_amount_of (file_in (today_in s own) own) (today_in s own))))
        (file_in (today_in s own) own)
        taken
        ∙ set_next
