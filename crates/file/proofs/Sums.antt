-- The cover of eight positions from one day through another, as a sum.
-- Assumes nothing.
use Prim.Native.Nat.{ℕ, ◌+◌, ◌<◌}
use mathlib.Core.Path.{◌≡◌, refl, ap, ◌∙◌}
use mathlib.Core.List.{List, [], ◌∷◌}
use native.Mathlib.Omega.{arith}
use lib.ListN.{length}
use Rattle.std.specs.List.{sum_by}
use Rattle.std.proofs.lemmas.List.Sums.{sum_by-cons}
use Rattle.laws.specs.Lists.{All}
use Rattle.file.specs.declared.Slot.{Slot}
use Rattle.file.specs.Position.{counts_through, cover_through, cover_on}
use Rattle.file.specs.Sound.{SoundPosition}
use Rattle.file.specs.KeepsPositions.{cover-bound}

-- The cover is the sum of what each position counts for.
pub cover-sum : (d e : ℕ) (l : List Slot) → sum_by (λ s. counts_through d e s.position) l ≡ cover_through d e l
unfolding cover_through
cover-sum d e [] = refl
cover-sum d e (s ∷ l) = sum_by-cons (λ s. counts_through d e s.position) s l ∙ ap (λ n. counts_through d e s.position + n) (cover-sum d e l)

-- .. which fits.
pub sum-fits : (d e : ℕ) (l : List Slot) → length l ≡ 8 → All (λ (s : Slot). SoundPosition s.position) l
    → sum_by (λ s. counts_through d e s.position) l < 18446744073709551616
sum-fits d e l long a = omega (arith, cover-sum d e l, cover-bound d e l a)

-- .. of one day.
pub cover_sum_on : (d : ℕ) (l : List Slot) → sum_by (λ s. counts_through d d s.position) l ≡ cover_on d l
unfolding cover_on
cover_sum_on d l = cover-sum d d l
