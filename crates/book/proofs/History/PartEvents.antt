-- The events of a batch: its settlements, one after the other, each of another participant.
-- Assumes nothing.
use Prim.Native.Nat.{ℕ, zero, suc, ◌≤◌, ◌<◌}
use native.Mathlib.Omega.{arith}
use mathlib.Core.Path.{◌≡◌, refl, sym, ap, subst, ◌∙◌}
use mathlib.Core.Bool.{true, false}
use mathlib.Core.List.{List, [], ◌∷◌}
use lib.Dec.{ltb}
use Rattle.batch.specs.Batch.{count_in, participant_at}
use Rattle.batch.specs.FormLaws.{Whole}
use Rattle.file.specs.Answer.{accepted}
use Rattle.book.specs.Call.{Act, part_act}
use Rattle.book.specs.Rule.{Rule, new_rule}
use Rattle.book.specs.Reading.Events.{Event, did, mine, today_of}
use Rattle.book.specs.Reading.Decisions.{cause, own_causes, own_answer, decision_on, part_decision, with_parts}
use Rattle.book.proofs.Participant.Lawful.{NoneHolds}
use Rattle.book.proofs.Participant.Decide.{none_before}
use Rattle.book.proofs.History.Parts.{NotAmong, not-among}
use Rattle.book.proofs.History.Events.{mine-other, LawfulAll, lawful-did, decided-alike}

-- A batch opens no day.
pub today-parts : (s t : ℕ) (file : List ℕ) (k : ℕ) (events : List Event) → today_of s (with_parts t file k events) ≡ today_of s events
unfolding today_of with_parts
today-parts s t file zero events = refl
today-parts s t file (suc k) events = today-parts s t file k events

-- The part of a participant that none of the settlements names is as it was.
pub mine-parts : (t : ℕ) (file : List ℕ) (k p : ℕ) (events : List Event) → NotAmong file k p → mine p (with_parts t file k events) ≡ mine p events
unfolding with_parts
mine-parts t file zero p events other = refl
mine-parts t file (suc k) p events other =
    sym (mine-other t (participant_at file k) p (part_act file k) (with_parts t file k events) (λ e. other k (omega arith) (sym e)))
    ∙ mine-parts t file k p events (λ j h. other j (omega arith))

-- So is what is decided of its calls.
pub decided-parts : (rule : Rule) (s t : ℕ) (file : List ℕ) (k p : ℕ) (a : Act) (events : List Event) → NotAmong file k p
    → decision_on rule s (with_parts t file k events) p a ≡ decision_on rule s events p a
decided-parts rule s t file k p a events other =
    decided-alike rule s p a (with_parts t file k events) events (mine-parts t file k p events other)

-- Each settlement of an accepted batch has no cause of refusal behind those before it.
module _ (s : ℕ) (events : List Event) (file : List ℕ) where
  abbrev t : ℕ
  t = today_of s events

  abbrev pub behind : ℕ → List Event
  behind k = with_parts (today_of s events) file k events

  pub none-of-part : Whole file → (k : ℕ) → k < count_in file → accepted (part_decision s events file k) ≡ true
      → (ltb 63 (participant_at file k) ≡ false)
      × NoneHolds (own_causes (today_of s (behind k)) (mine (participant_at file k) (behind k)) (part_act file k))
  unfolding part_decision
  none-of-part w k h e =
      let p = participant_at file k in
      let a = part_act file k in
      let same = decided-parts new_rule s t file k p a events (not-among file w k h) in
      none_before (cause 1 (ltb 63 p)) (own_causes (today_of s (behind k)) (mine p (behind k)) a) []
      (own_answer (today_of s (behind k)) (mine p (behind k)) a)
      (ap accepted same ∙ e)

  -- The events with the first k settlements are lawful.
  pub lawful-parts : LawfulAll s events → Whole file → (k : ℕ) → k ≤ count_in file
      → ((j : ℕ) → j < count_in file → accepted (part_decision s events file j) ≡ true) → LawfulAll s (behind k)
  unfolding with_parts
  lawful-parts lw w zero h each = lw
  lawful-parts lw w (suc k) h each =
      subst (λ (d : ℕ). LawfulAll s (did d (participant_at file k) (part_act file k) ∷ behind k)) (today-parts s t file k events)
      (lawful-did s (participant_at file k) (part_act file k) (behind k) (lawful-parts lw w k (omega arith) each)
      (none-of-part w k (omega arith) (each k (omega arith))).1)
