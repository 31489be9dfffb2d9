-- The cover of the positions of a file in words from one day through another, summed one position after the other.
-- Assumes nothing.
use Prim.Native.Nat.{ℕ, ◌+◌, ◌*◌, ◌≤◌, ◌<◌}
use mathlib.Core.Path.{◌≡◌, sym, ap, ◌∙◌}
use mathlib.Core.List.{List}
use native.Mathlib.Omega.{arith}
use mir.Val.{Fits}
use mir.Syntax.{w64}
use lib.ListN.{get_or, take}
use lib.Seq.{take_all}
use Rattle.std.specs.List.{sum_by}
use Rattle.std.proofs.lemmas.List.Sums.{sum_by_more, sum_by_more_le}
use Rattle.laws.specs.Lists.{All}
use Rattle.file.specs.declared.Slot.{Slot}
use Rattle.file.specs.declared.Position.TheVariants.{Empty}
use Rattle.file.specs.Position.{slot_of, counts_through, cover_through}
use Rattle.file.specs.Sound.{SoundPosition}
use Rattle.file.proofs.Sums.{cover-sum, sum-fits}
use Rattle.layout.specs.Files.{slot_in, slots_of_words, words_at}
use Rattle.layout.proofs.FileLaws.{slot-there, slots-long}

module _ (l : List ℕ) (at d e : ℕ) where
  abbrev slots : List Slot
  slots = slots_of_words (words_at l at)

  -- What a slot counts for, and the first i of the slots.
  abbrev counted : Slot → ℕ
  counted s = counts_through d e s.position

  abbrev pub cover_to : ℕ → ℕ
  cover_to i = sum_by counted (take i slots)

  module _ (k x : ℕ) (s : Slot) (h : k < 8) (is : s ≡ slot_in l (at + (10 + 4 * k))) (counts : x ≡ counts_through d e s.position) where
    there : x ≡ counted (get_or slots k (slot_of Empty))
    there = counts ∙ ap counted (is ∙ sym (slot-there l at k (slot_of Empty) h))

    -- One more position.
    pub cover-step : (sum : ℕ) → sum ≡ cover_to k → sum + x ≡ cover_to (k + 1)
    cover-step sum so = omega (arith, there, sum_by_more counted slots k (slot_of Empty) (omega (arith, slots-long (words_at l at))))

    -- The sum fits.
    pub cover-fits : (sum : ℕ) → sum ≡ cover_to k → All (λ (z : Slot). SoundPosition z.position) slots → Fits w64 (sum + x)
    cover-fits sum so all =
        let long = slots-long (words_at l at) in
        record { fits = omega (arith, there, sum_by_more_le counted slots k (slot_of Empty) (omega (arith, long)), sum-fits d e slots long all) }

  -- All positions are summed.
  pub cover-end : (k sum : ℕ) → 8 ≤ k → sum ≡ cover_to k → sum ≡ cover_through d e slots
  cover-end k sum h so = so ∙ ap (sum_by counted) (take_all k slots (omega (arith, slots-long (words_at l at)))) ∙ cover-sum d e slots
