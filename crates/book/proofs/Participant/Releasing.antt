-- A release: the file of the readings answers what the reading decides, and becomes the file of the history with the release added.
-- Assumes nothing.
use Prim.Native.Nat.{ℕ, ◌+◌}
use native.Mathlib.Omega.{arith}
use native.Mathlib.Nat.{le_refl}
use mathlib.Core.Path.{◌≡◌, refl, sym, ap, ap₂, ◌∙◌}
use mathlib.Core.Bool.{Bool, true, false, cond, not}
use mathlib.Core.List.{List, [], ◌∷◌}
use lib.Dec.{ltb}
use borrow.Author.Tests.{not-false}
use Rattle.laws.specs.Cases.{cond-true}
use Rattle.laws.specs.Tabulated.{set-table-as}
use Rattle.file.specs.declared.OpenCall.{OpenCall}
use Rattle.file.specs.declared.Position.{Position}
use Rattle.file.specs.Answer.{refused, Cause, done, decide, accepted}
use Rattle.file.specs.Position.{cover_on, in_force, filled, emptied_on, less_released, not_releasable, outside_amounts, slot_of, position_at}
use Rattle.file.specs.Calls.{largest, amounts_of}
use Rattle.file.specs.Fields.{with_slots}
use Rattle.file.specs.Release.{release_floor, slots_left, release_answer, released_file}
use Rattle.book.specs.Account.{if_admitted, file_answer, file_after}
use Rattle.book.specs.Call.{release}
use Rattle.book.specs.Reading.Events.{Own, act, admitted_in, leaving_in, role_in}
use Rattle.book.specs.Reading.Holdings.{last_lodged, released_since, left_at, position_in, lodged_where, released_where, cover_in}
use Rattle.book.specs.Reading.Months.{next_in}
use Rattle.book.specs.Reading.Calls.{base_in, calls_in, firm_in, open_in}
use Rattle.book.specs.Reading.Decisions.{cause, cover_left, must_stay, own_causes, own_answer}
use Rattle.book.specs.Kept.{ring_in, file_in}
use Rattle.book.proofs.Participant.Lawful.{today_in, NoneHolds, Lawful}
use Rattle.book.proofs.Participant.Decide.{decide-none, decide-first, decide-same}
use Rattle.book.proofs.Participant.Positions.{less-released}
use Rattle.book.proofs.Participant.Slots.{slots_in, position_at_lem, with-slots-of}
use Rattle.book.proofs.Participant.OpenCalls.{open-calls}
use Rattle.book.proofs.Participant.Cover.{left_through, left-released, left-released-other, release-leaves, left-and-released, cover-of-positions}
use Rattle.book.proofs.Participant.Charges.{charged-act, accrued-act}

-- What must stay covered, by the file and by the reading.
pub floor-is : (t : ℕ) (own : List Own) → release_floor (file_in t own) ≡ must_stay t own
unfolding release_floor file_in
floor-is t own =
    ap (λ (l : List OpenCall). largest (next_in own).amount (firm_in t own ∷ amounts_of l)) (open-calls t own)

-- At its own place a release leaves what the reading says.
released-here : (t k a : ℕ) (own : List Own) → filled (position_in t k own) ≡ true
    → not_releasable a (position_in t k own) ≡ false
    → less_released a (position_in t k own) ≡ position_in t k (act t (release k a) ∷ own)
unfolding position_in left_at
released-here t k a own full allowed =
    less-released t (released_since k own) a (last_lodged k own) full allowed ∙ sym (ap (emptied_on t) (left-released t k a own))

-- At the others it changes nothing.
released-elsewhere : (t k j a : ℕ) (own : List Own) → (j ≡ k → ⊥) → position_in t j own ≡ position_in t j (act t (release k a) ∷ own)
unfolding position_in
released-elsewhere t k j a own ne = ap (emptied_on t) (left-released-other t k j a own ne)

-- The positions after a release that the causes 5, 7 and 15 allow.
released-slots : (t k a : ℕ) (own : List Own) → ltb 7 k ≡ false → filled (position_in t k own) ≡ true
    → not_releasable a (position_in t k own) ≡ false
    → slots_left (file_in t own) k a ≡ slots_in t (act t (release k a) ∷ own)
unfolding slots_left file_in
released-slots t k a own place full allowed =
    let new = act t (release k a) ∷ own in
    set-table-as 8 (λ j. slot_of (position_in t j own)) (λ j. slot_of (position_in t j new)) k
    (slot_of (less_released a (position_at (slots_in t own) k)))
    (ap (λ (p : Position). slot_of (less_released a p)) (position_at_lem t k own place) ∙ ap slot_of (released-here t k a own full allowed))
    (λ j ne. ap slot_of (released-elsewhere t k j a own ne))

-- The cover left by such a release, by the file and by the reading.
pub cover-after-release : (s k a : ℕ) (own : List Own) → Lawful s own → ltb 7 k ≡ false
    → filled (position_in (today_in s own) k own) ≡ true → not_releasable a (position_in (today_in s own) k own) ≡ false
    → cover_on (today_in s own) (slots_left (file_in (today_in s own) own) k a) ≡ cover_left (today_in s own) k a own
unfolding cover_on cover_in lodged_where released_where
cover-after-release s k a own lw place full allowed =
    let t = today_in s own in
    let new = act t (release k a) ∷ own in
    let taken : left_through t t new + cond (in_force t (last_lodged k own)) a 0 ≡ left_through t t own =
    release-leaves t t t t k a own place full allowed in
    let lodged : left_through t t own + released_where (in_force t) own ≡ lodged_where (in_force t) own = left-and-released s t t own lw (le_refl t) in
    let left : left_through t t new ≡ cover_in t new = omega arith in
    ap (cover_on t) (released-slots t k a own place full allowed) ∙ cover-of-positions t t t new (le_refl t) ∙ left

-- The causes of a release after cause 5, over what stands at its place and whether too little cover would be left.
abbrev causes_at : ℕ → Position → Bool → List Cause
causes_at a p little =
    cause 7 (not (filled p))
    ∷ cause 8 (outside_amounts a)
    ∷ cause 15 (not_releasable a p)
    ∷ cause 16 little
    ∷ []

-- The causes of a release after cause 2, by the reading.
abbrev release_causes : ℕ → ℕ → ℕ → List Own → List Cause
release_causes t k a own =
    cause 5 (ltb 7 k) ∷ causes_at a (position_in t k own) (ltb (cover_left t k a own) (must_stay t own))

-- Cause 16, by the file and by the reading, where the causes before it do not hold.
little-left : (s k a : ℕ) (own : List Own) → Lawful s own → ltb 7 k ≡ false
    → filled (position_in (today_in s own) k own) ≡ true → not_releasable a (position_in (today_in s own) k own) ≡ false
    → ltb (cover_on (today_in s own) (slots_left (file_in (today_in s own) own) k a)) (release_floor (file_in (today_in s own) own))
    ≡ ltb (cover_left (today_in s own) k a own) (must_stay (today_in s own) own)
little-left s k a own lw place full allowed =
    ap₂ ltb (cover-after-release s k a own lw place full allowed) (floor-is (today_in s own) own)

-- The causes after 5 decide the same with either test for cause 16 where these agree once the others do not hold.
causes-same : (a : ℕ) (p : Position) (x y : Bool) → (filled p ≡ true → not_releasable a p ≡ false → x ≡ y)
    → decide refused (causes_at a p x) done ≡ decide refused (causes_at a p y) done
causes-same a p x y same =
    decide-same (cause 7 (not (filled p)))
    (cause 8 (outside_amounts a) ∷ cause 15 (not_releasable a p) ∷ cause 16 x ∷ [])
    (cause 8 (outside_amounts a) ∷ cause 15 (not_releasable a p) ∷ cause 16 y ∷ [])
    done
    done
    (λ e₇.
    decide-same (cause 8 (outside_amounts a))
    (cause 15 (not_releasable a p) ∷ cause 16 x ∷ [])
    (cause 15 (not_releasable a p) ∷ cause 16 y ∷ [])
    done
    done
    (λ e₈.
    decide-same (cause 15 (not_releasable a p)) (cause 16 x ∷ []) (cause 16 y ∷ []) done done
    (λ e₁₅.
    ap (λ (b : Bool). decide refused (cause 16 b ∷ []) done) (same (not-false (filled p) e₇) e₁₅))))

-- The file's answer by the reading's causes: past the eighth place both refuse with 5.
release-answer : (s k a : ℕ) (own : List Own) → Lawful s own
    → release_answer (file_in (today_in s own) own) (today_in s own) k a ≡ decide refused (release_causes (today_in s own) k a own) done
unfolding release_answer file_in
release-answer s k a own lw =
    let t = today_in s own in
    let left = ltb (cover_on t (slots_left (file_in t own) k a)) (release_floor (file_in t own)) in
    let stays = ltb (cover_left t k a own) (must_stay t own) in
    decide-same (cause 5 (ltb 7 k)) (causes_at a (position_at (slots_in t own) k) left) (causes_at a (position_in t k own) stays) done done
    (λ e.
    ap (λ (p : Position). decide refused (causes_at a p left) done) (position_at_lem t k own e)
    ∙ causes-same a (position_in t k own) left stays (little-left s k a own lw e))

-- What the file answers to a release is what the reading decides.
pub releasing-answers : (s k a : ℕ) (own : List Own) → Lawful s own
    → file_answer (file_in (today_in s own) own) (today_in s own) (release k a)
    ≡ decide refused (own_causes (today_in s own) own (release k a)) (own_answer (today_in s own) own (release k a))
unfolding file_answer if_admitted own_causes own_answer file_in
releasing-answers s k a own lw =
    let t = today_in s own in
    decide-first (cause 2 (not (admitted_in own))) (release_causes t k a own) (release_answer (file_in t own) t k a) done
    (λ e. release-answer s k a own lw)

-- The file with the positions after the release is the file of the history with the release added.
released-kept : (s k a : ℕ) (own : List Own) → Lawful s own → NoneHolds (own_causes (today_in s own) own (release k a))
    → with_slots (file_in (today_in s own) own) (slots_left (file_in (today_in s own) own) k a)
    ≡ file_in (today_in s own) (act (today_in s own) (release k a) ∷ own)
unfolding admitted_in leaving_in role_in firm_in base_in calls_in open_in next_in ring_in own_causes
released-kept s k a own lw none =
    let t = today_in s own in
    with-slots-of t own (act t (release k a) ∷ own) (slots_left (file_in t own) k a)
    (released-slots t k a own none.1.0 (not-false (filled (position_in t k own)) none.1.1.0) none.1.1.1.1.0)
    refl
    refl
    refl
    refl
    refl
    refl
    (λ j. refl)
    (sym (charged-act s own (release k a) lw none))
    (sym (accrued-act s own (release k a) lw none))
    refl

-- An accepted release leaves the file of the readings.
pub releasing-leaves : (s k a : ℕ) (own : List Own) → Lawful s own → NoneHolds (own_causes (today_in s own) own (release k a))
    → file_after (file_in (today_in s own) own) (today_in s own) (release k a)
    ≡ file_in (today_in s own) (act (today_in s own) (release k a) ∷ own)
unfolding file_after released_file own_causes
releasing-leaves s k a own lw none =
    let t = today_in s own in
    let allowed : release_answer (file_in t own) t k a ≡ done =
    release-answer s k a own lw ∙ decide-none (release_causes t k a own) done none.1 in
    cond-true (accepted (release_answer (file_in t own) t k a)) (with_slots (file_in t own) (slots_left (file_in t own) k a)) (file_in t own)
    (ap accepted allowed)
    ∙ released-kept s k a own lw none
