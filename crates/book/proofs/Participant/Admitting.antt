-- An admission: the file's answer is the reading's decision, and an accepted one leaves the file of the readings.
-- Assumes nothing.
use Prim.Native.Nat.{ℕ, ◌+◌}
use mathlib.Core.Path.{◌≡◌, refl, sym, ap, ◌∙◌}
use mathlib.Core.Bool.{true, false}
use mathlib.Core.List.{List, [], ◌∷◌}
use native.Mathlib.Omega.{arith}
use lib.Dec.{ltb}
use lib.ListN.{length, replicate}
use Rattle.laws.specs.Lists.{table}
use Rattle.manual.specs.Minimum.{minimum_of}
use Rattle.file.specs.declared.Position.TheVariants.{Empty}
use Rattle.file.specs.Answer.{refused, decide}
use Rattle.file.specs.Position.{slot_of}
use Rattle.file.specs.Calls.{keep, in_places}
use Rattle.file.specs.Totals.{no_total}
use Rattle.file.specs.Fields.{unset}
use Rattle.file.specs.Admit.{calls_of_admission, admitted_file}
use Rattle.book.specs.Account.{file_answer, file_after}
use Rattle.book.specs.OneCount.{calls_added}
use Rattle.book.specs.Call.{admit}
use Rattle.book.specs.Reading.Events.{Own, act, admitted_in, leaving_in, role_in}
use Rattle.book.specs.Reading.Holdings.{last_lodged, released_since, left_at, position_in}
use Rattle.book.specs.Reading.Months.{next_in}
use Rattle.book.specs.Reading.Calls.{calls_in, open_on, open_in}
use Rattle.book.specs.Reading.Charges.{charged_in, accrued_in}
use Rattle.book.specs.Reading.Decisions.{own_causes, own_answer}
use Rattle.book.specs.Kept.{ring_in, file_in}
use Rattle.book.proofs.Participant.Lawful.{today_in, NoneHolds, Lawful}
use Rattle.book.proofs.Participant.Charges.{charged-act, accrued-act}
use Rattle.book.proofs.Participant.Blank.{blank-leaving, blank-calls, blank-next, blank-slots, blank-totals, blank-charged, blank-accrued}
use Rattle.book.proofs.Participant.OpenCalls.{open-behind}
use Rattle.book.proofs.Participant.Shortfalls.{newly-admitted}

-- (1) Its answer, from any history.
pub admit-answer : (t : ℕ) (own : List Own) (role : ℕ)
    → file_answer (file_in t own) t (admit role) ≡ decide refused (own_causes t own (admit role)) (own_answer t own (admit role))
unfolding file_answer file_in own_causes own_answer
admit-answer t own role = refl

-- What an accepted admission finds and leaves.
module _ (s : ℕ) (own : List Own) (role : ℕ) (lw : Lawful s own) (none : NoneHolds (own_causes (today_in s own) own (admit role))) where
  unadmitted : admitted_in own ≡ false
  unfolding own_causes
  unadmitted = none.0

  made : calls_in (act (today_in s own) (admit role) ∷ own) ≡ calls_of_admission (today_in s own) role
  unfolding calls_in calls_of_admission
  made = rw (blank-calls s own lw unadmitted)

  opens : open_in (today_in s own) (act (today_in s own) (admit role) ∷ own) ≡ calls_of_admission (today_in s own) role
  unfolding open_in calls_of_admission open_on keep
  opens =
      ap (open_on (today_in s own)) made
      ∙ open-behind (today_in s own) [] (ltb 0 (minimum_of role)) (minimum_of role) (today_in s own + 10) (omega arith)

  slots : table 8 (λ k. slot_of (position_in (today_in s own) k (act (today_in s own) (admit role) ∷ own))) ≡ replicate 8 (slot_of Empty)
  unfolding position_in left_at last_lodged released_since
  slots = blank-slots s own lw unadmitted (today_in s own)

  leaving : leaving_in (act (today_in s own) (admit role) ∷ own) ≡ false
  unfolding leaving_in
  leaving = blank-leaving s own lw unadmitted

  next : next_in (act (today_in s own) (admit role) ∷ own) ≡ unset
  unfolding next_in
  next = blank-next s own lw unadmitted

  totals : table 16 (ring_in (act (today_in s own) (admit role) ∷ own)) ≡ replicate 16 no_total
  unfolding ring_in
  totals = blank-totals s own lw unadmitted

  charged : charged_in (act (today_in s own) (admit role) ∷ own) ≡ 0
  charged = charged-act s own (admit role) lw none ∙ blank-charged s own lw unadmitted

  accrued : accrued_in (act (today_in s own) (admit role) ∷ own) ≡ 0
  accrued = accrued-act s own (admit role) lw none ∙ blank-accrued s own lw unadmitted

  -- (2) The file that it leaves.
  admit-file-sym : file_in (today_in s own) (act (today_in s own) (admit role) ∷ own)
      ≡ file_after (file_in (today_in s own) own) (today_in s own) (admit role)
  unfolding file_after file_in admitted_file admitted_in role_in
  admit-file-sym = λ i.
      record {
        admitted = true;
        leaving = leaving i;
        role = role;
        firm = newly-admitted s role own lw unadmitted i;
        slots = slots i;
        calls = in_places (opens i);
        count = length (opens i);
        next = next i;
        totals = totals i;
        charged = charged i;
        accrued = accrued i;
        made = ap length made i;
      }

  pub admit-file : file_after (file_in (today_in s own) own) (today_in s own) (admit role)
      ≡ file_in (today_in s own) (act (today_in s own) (admit role) ∷ own)
  admit-file = sym admit-file-sym

  -- (3) The calls that it makes.
  pub admit-calls : calls_added (file_in (today_in s own) own) (today_in s own) (admit role) + length (calls_in own)
      ≡ length (calls_in (act (today_in s own) (admit role) ∷ own))
  unfolding calls_added
  admit-calls = rw (made, blank-calls s own lw unadmitted) (omega arith)
