-- A lodging: the file of the readings answers what the reading decides, and becomes the file of the history with the lodging added.
-- Assumes nothing.
use Prim.Native.Nat.{ℕ}
use mathlib.Core.Path.{◌≡◌, refl, sym, ap, ◌∙◌}
use mathlib.Core.Bool.{false, not}
use mathlib.Core.List.{List, [], ◌∷◌}
use lib.Dec.{ltb}
use lib.ListN.{set}
use Rattle.laws.specs.Cases.{cond-true}
use Rattle.laws.specs.Tabulated.{set-table-as}
use Rattle.file.specs.declared.Position.{Position}
use Rattle.file.specs.Answer.{refused, Cause, done, decide, accepted}
use Rattle.file.specs.Position.{amount_of, filled, emptied_on, outside_amounts, against_days, slot_of, position_at}
use Rattle.file.specs.Fields.{with_slots}
use Rattle.file.specs.Lodge.{lodge_answer, lodged_file}
use Rattle.book.specs.Account.{if_admitted, file_answer, file_after}
use Rattle.book.specs.Call.{lodge}
use Rattle.book.specs.Reading.Events.{Own, act, admitted_in, leaving_in, role_in}
use Rattle.book.specs.Reading.Holdings.{left_at, position_in}
use Rattle.book.specs.Reading.Months.{next_in}
use Rattle.book.specs.Reading.Calls.{base_in, calls_in, firm_in, open_in}
use Rattle.book.specs.Reading.Decisions.{cause, own_causes, own_answer}
use Rattle.book.specs.Kept.{ring_in, file_in}
use Rattle.book.proofs.Participant.Lawful.{today_in, NoneHolds, Lawful}
use Rattle.book.proofs.Participant.Decide.{decide-none, decide-first, decide-same}
use Rattle.book.proofs.Participant.Positions.{lodged-stands}
use Rattle.book.proofs.Participant.Slots.{slots_in, position_at_lem, with-slots-of}
use Rattle.book.proofs.Participant.Cover.{left-lodged, left-lodged-other}
use Rattle.book.proofs.Participant.Charges.{charged-act, accrued-act}

-- The causes of a lodging after cause 5, over what stands at its place.
abbrev causes_at : ℕ → Position → Position → List Cause
causes_at t p h =
    cause 6 (filled p) ∷ cause 8 (outside_amounts (amount_of h)) ∷ cause 9 (against_days t h) ∷ []

-- The causes of a lodging after cause 2, by the reading.
abbrev lodge_causes : ℕ → ℕ → Position → List Own → List Cause
lodge_causes t k h own = cause 5 (ltb 7 k) ∷ causes_at t (position_in t k own) h

-- The file's answer by the reading's causes: past the eighth place both refuse with 5.
lodge-answer : (t k : ℕ) (h : Position) (own : List Own)
    → lodge_answer (file_in t own) t k h ≡ decide refused (lodge_causes t k h own) done
unfolding lodge_answer file_in
lodge-answer t k h own =
    decide-same (cause 5 (ltb 7 k)) (causes_at t (position_at (slots_in t own) k) h) (causes_at t (position_in t k own) h) done done
    (λ e. ap (λ (p : Position). decide refused (causes_at t p h) done) (position_at_lem t k own e))

-- What the file answers to a lodging is what the reading decides.
pub lodging-answers : (t k : ℕ) (h : Position) (own : List Own)
    → file_answer (file_in t own) t (lodge k h) ≡ decide refused (own_causes t own (lodge k h)) (own_answer t own (lodge k h))
unfolding file_answer if_admitted own_causes own_answer file_in
lodging-answers t k h own =
    decide-first (cause 2 (not (admitted_in own))) (lodge_causes t k h own) (lodge_answer (file_in t own) t k h) done
    (λ e. lodge-answer t k h own)

-- The positions after a lodging that the causes allow.
lodged-slots : (t k : ℕ) (h : Position) (own : List Own) → outside_amounts (amount_of h) ≡ false → against_days t h ≡ false
    → set (slots_in t own) k (slot_of h) ≡ slots_in t (act t (lodge k h) ∷ own)
unfolding position_in
lodged-slots t k h own amount days =
    let new = act t (lodge k h) ∷ own in
    set-table-as 8 (λ j. slot_of (emptied_on t (left_at j own))) (λ j. slot_of (emptied_on t (left_at j new))) k (slot_of h)
    (ap slot_of (sym (ap (emptied_on t) (left-lodged t k h own) ∙ lodged-stands t h amount days)))
    (λ j ne. ap (λ (p : Position). slot_of (emptied_on t p)) (left-lodged-other t k j h own ne))

-- The file with those positions is the file of the history with the lodging added.
lodged-kept : (s k : ℕ) (h : Position) (own : List Own) → Lawful s own
    → NoneHolds (own_causes (today_in s own) own (lodge k h))
    → with_slots (file_in (today_in s own) own) (set (slots_in (today_in s own) own) k (slot_of h))
    ≡ file_in (today_in s own) (act (today_in s own) (lodge k h) ∷ own)
unfolding admitted_in leaving_in role_in firm_in base_in calls_in open_in next_in ring_in own_causes
lodged-kept s k h own lw none =
    let t = today_in s own in
    with-slots-of t own (act t (lodge k h) ∷ own) (set (slots_in t own) k (slot_of h))
    (lodged-slots t k h own none.1.1.1.0 none.1.1.1.1.0)
    refl refl refl refl refl refl
    (λ j. refl)
    (sym (charged-act s own (lodge k h) lw none))
    (sym (accrued-act s own (lodge k h) lw none))
    refl

-- An accepted lodging leaves the file of the readings.
pub lodging-leaves : (s k : ℕ) (h : Position) (own : List Own) → Lawful s own
    → NoneHolds (own_causes (today_in s own) own (lodge k h))
    → file_after (file_in (today_in s own) own) (today_in s own) (lodge k h)
    ≡ file_in (today_in s own) (act (today_in s own) (lodge k h) ∷ own)
unfolding file_after lodged_file file_in own_causes
lodging-leaves s k h own lw none =
    let t = today_in s own in
    let allowed : lodge_answer (file_in t own) t k h ≡ done =
    lodge-answer t k h own ∙ decide-none (lodge_causes t k h own) done none.1 in
    cond-true (accepted (lodge_answer (file_in t own) t k h))
    (with_slots (file_in t own) (set (slots_in t own) k (slot_of h)))
    (file_in t own)
    (ap accepted allowed)
    ∙ lodged-kept s k h own lw none
