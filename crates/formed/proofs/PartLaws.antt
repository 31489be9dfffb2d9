-- The words of a part of a file say whether it is sound.
-- Assumes nothing.
use Prim.Native.Nat.{ℕ, ◌+◌, ◌*◌}
use mathlib.Core.Path.{◌≡◌}
use mathlib.Core.Bool.{Bool}
use mathlib.Core.List.{List}
use native.Mathlib.Omega.{arith}
use borrow.Author.Tests.{ltb-false, le-ltb}
use lib.Dec.{ltb}
use Rattle.file.specs.declared.Slot.{Slot}
use Rattle.file.specs.declared.OpenCall.{OpenCall}
use Rattle.file.specs.Sound.{SoundPosition}
use Rattle.layout.specs.Parts.{slot_of_words, open_call_of_words}
use Rattle.layout.specs.Files.{slot_in, call_in, words_at}
use Rattle.formed.specs.Decides.{Decides}
use Rattle.formed.specs.Checks.{SoundSlot, SoundPlaced, SlotAt, CallAt}
use Rattle.formed.proofs.Decided.{as-well}

module _ (l : List ℕ) (at k : ℕ) where
  -- A slot's words are sound where the position read there is.
  pub slot-decides : (r : Bool) (s : Slot) → s ≡ slot_in l (at + (10 + 4 * k)) → Decides r (SoundPosition s.position) → Decides r (SlotAt l at k)
  unfolding SoundSlot slot_of_words
  slot-decides r s e d =
      let first : at + (10 + 4 * k) + 1 ≡ at + (11 + 4 * k) = omega arith in
      let second : at + (10 + 4 * k) + 2 ≡ at + (12 + 4 * k) = omega arith in
      let third : at + (10 + 4 * k) + 3 ≡ at + (13 + 4 * k) = omega arith in
      rw (e, first, second, third) at d

  -- A call's words are sound where the call read there is.
  pub call-decides : (r : Bool) (c : OpenCall) (n : ℕ) → c ≡ call_in l (at + (42 + 2 * k)) → n ≡ words_at l at 4 → Decides r (SoundPlaced c (ltb k n))
      → Decides r (CallAt l at k)
  unfolding open_call_of_words
  call-decides r c n e m d =
      let at_last : at + (42 + 2 * k) + 1 ≡ at + (43 + 2 * k) = omega arith in
      let place : Decides r (SoundPlaced (call_in l (at + (42 + 2 * k))) (ltb k (words_at l at 4))) = rw (← e, ← m) d in
      as-well (rw at_last at place)
      (λ s. record { amount = s.amount; last = s.last; behind = λ h. s.behind (le-ltb k (words_at l at 4) h) })
      (λ s. record { amount = s.amount; last = s.last; behind = λ h. s.behind (ltb-false k (words_at l at 4) h) })
