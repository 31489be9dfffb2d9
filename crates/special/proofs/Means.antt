-- The mean of the three kept rates, as the code adds and rounds them.
-- Assumes nothing.
use Prim.Native.Nat.{ℕ, ◌+◌, ◌*◌, ◌^◌, ◌≤◌, ◌<◌}
use native.Mathlib.Omega.{arith}
use mathlib.Core.Path.{◌≡◌, ap, ◌∙◌}
use mathlib.Core.Bool.{true}
use mathlib.Core.List.{List, [], ◌∷◌}
use lib.ListN.{length, take, length-take}
use lib.IntN.{ℤ, pos, nat_abs, ◌+ℤ◌, ◌*ℤ◌, +ℤ_idr}
use lib.Signed.{mag}
use mir.Syntax.{w64}
use mir.Val.{SFits}
use mir.Facts.{to_z-of_z}
use Rattle.laws.specs.Integers.{sum_of, nat_abs-add, Within}
use Rattle.laws.specs.Signed.{nearest, nat_abs_mul, floor_div-bound, fits_nat_abs}
use Rattle.laws.specs.Largest.{falling, three_largest, mean_of_three}
use Rattle.special.specs.Ranges.{rates_in_range}
use Rattle.laws.specs.Read.{read, read_is, read-abs}
use Rattle.special.specs.Ratio.{ratio}
use Rattle.special.proofs.InRange.{largest-in-range}
use Rattle.special.proofs.Sums.{all-within, sum_bound}

-- the magnitude of x / n to the nearest whole
pub nearest-bound : (x : ℤ) (n : ℕ) → nat_abs (nearest x n) * (2 * n) ≤ 2 * nat_abs x + n + 2 * n
unfolding nearest
nearest-bound x n =
    omega (arith, floor_div-bound (pos 2 *ℤ x +ℤ pos n) (2 * n), nat_abs-add (pos 2 *ℤ x) (pos n), nat_abs_mul (pos 2) x)

module _ (a b c : ℤ) (small : rates_in_range (a ∷ b ∷ c ∷ []) ≡ true) where
  each : (nat_abs a ≤ 100000) × (nat_abs b ≤ 100000) × (nat_abs c ≤ 100000)
  unfolding Within
  each = let w = all-within 100000 (a ∷ b ∷ c ∷ []) small in (w.0, w.1.0, w.1.1.0)

  small-sum : nat_abs (sum_of (a ∷ b ∷ c ∷ [])) ≤ 3 * 100000
  small-sum = sum_bound 100000 (a ∷ b ∷ c ∷ []) small

  two : read b +ℤ read c ≡ b +ℤ c
  two = rw (read-abs b (omega (arith, each.1)), read-abs c (omega (arith, each.2)))

  two-small : nat_abs (b +ℤ c) ≤ 200000
  two-small = omega (arith, nat_abs-add b c, each.1, each.2)

  pub fits-two : SFits w64 (read b +ℤ read c)
  fits-two = rw two (fits_nat_abs (b +ℤ c) (omega (arith, two-small)))

  three : read a +ℤ read (read b +ℤ read c) ≡ sum_of (a ∷ b ∷ c ∷ [])
  unfolding sum_of
  three = rw (read-abs a (omega (arith, each.0)), to_z-of_z fits-two, two, +ℤ_idr c)

  pub fits-three : SFits w64 (read a +ℤ read (read b +ℤ read c))
  fits-three = rw three (fits_nat_abs (sum_of (a ∷ b ∷ c ∷ [])) (omega (arith, small-sum)))

  three-read : read (read a +ℤ read (read b +ℤ read c)) ≡ sum_of (a ∷ b ∷ c ∷ [])
  three-read = to_z-of_z fits-three ∙ three

  pub three-small : nat_abs (read (read a +ℤ read (read b +ℤ read c))) ≤ 4000000000000000000
  three-small = rw three-read (omega (arith, small-sum))

  pub mean-is : (r : ℤ) → mag r < 2 ^ 63 → r ≡ nearest (read (read a +ℤ read (read b +ℤ read c))) 3 → read r ≡ mean_of_three (a ∷ b ∷ c ∷ [])
  unfolding mean_of_three
  mean-is r f e = read_is r f ∙ e ∙ ap (λ z. nearest z 3) three-read

-- the bound of a ratio, for the products
mean-small : (l : List ℤ) → length l ≤ 3 → rates_in_range l ≡ true → nat_abs (mean_of_three l) ≤ 100001
unfolding mean_of_three
mean-small l few e = omega (arith, nearest-bound (sum_of l) 3, sum_bound 100000 l e)

pub ratio-small : (rates : List ℤ) → rates_in_range rates ≡ true → nat_abs (ratio rates) ≤ 100001
unfolding ratio three_largest
ratio-small rates e =
    mean-small (take 3 (falling rates)) (omega (arith, length-take 3 (falling rates))) (largest-in-range rates e)
