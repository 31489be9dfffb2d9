-- x / n to the nearest whole, from twice x plus n.
-- Assumes nothing.
use Prim.Native.Nat.{ℕ, ◌*◌, ◌^◌, ◌≤◌, ◌<◌}
use native.Mathlib.Omega.{arith}
use mathlib.Core.Path.{◌≡◌, refl, ap, ap₂, ◌∙◌}
use lib.IntN.{ℤ, pos, negsuc, ◌+ℤ◌, ◌*ℤ◌, nat_abs}
use lib.Signed.{mag}
use mir.Syntax.{w64}
use mir.Val.{SFits, to_z}
use mir.Facts.{to_z_pos, to_z-of_z}
use Rattle.std.specs.Int.{int_div_euclid}
use Rattle.laws.specs.Integers.{nat_abs-add}
use Rattle.laws.specs.Signed.{floor_div, nearest, nat_abs_mul, fits_nat_abs}
use Rattle.laws.specs.Read.{read, read_of}

-- std's quotient by a natural number is rounded down
rounded-down : (x : ℤ) (n : ℕ) → int_div_euclid x (pos n) ≡ floor_div x n
unfolding floor_div
rounded-down (pos a) n = refl
rounded-down (negsuc a) n = refl

module _ (x : ℤ) (n : ℕ) (fx : SFits w64 x) (small : n ≤ 10000) (bound : nat_abs x ≤ 4000000000000000000) where
  twice : pos 2 *ℤ read x ≡ pos 2 *ℤ x
  twice = ap (λ z. pos 2 *ℤ z) (to_z-of_z fx)

  pub fits-twice : SFits w64 (pos 2 *ℤ read x)
  fits-twice = rw twice (fits_nat_abs (pos 2 *ℤ x) (omega (arith, nat_abs_mul (pos 2) x)))

  raised : read (pos 2 *ℤ read x) +ℤ to_z w64 n ≡ pos 2 *ℤ x +ℤ pos n
  raised = rw (to_z-of_z fits-twice, twice, to_z_pos w64 {n = n} (omega arith))

  pub fits-raised : SFits w64 (read (pos 2 *ℤ read x) +ℤ to_z w64 n)
  fits-raised =
      rw raised (fits_nat_abs (pos 2 *ℤ x +ℤ pos n) (omega (arith, nat_abs-add (pos 2 *ℤ x) (pos n), nat_abs_mul (pos 2) x)))

  pub nearest-is : (r : ℤ) → mag r < 2 ^ 63 → r ≡ int_div_euclid (read (read (pos 2 *ℤ read x) +ℤ to_z w64 n)) (to_z w64 (2 * n)) → read r ≡ nearest x n
  unfolding nearest
  nearest-is r f e =
      read_of r _ f (e ∙ ap₂ int_div_euclid (to_z-of_z fits-raised ∙ raised) (to_z_pos w64 {n = 2 * n} (omega arith)) ∙ rounded-down (pos 2 *ℤ x +ℤ pos n) (2 * n))
