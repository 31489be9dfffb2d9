-- The magnitude of a machine's signed number x, read from its bits: below zero it is one more than -1 - x, which is not negative. And a
-- magnitude of at most 63 bits, negated. Assumes nothing.
use Rattle.std.specs.Prelude.{ℕ, zero, suc, ◌+◌, ◌^◌, ◌≤◌, ◌<◌, ◌≡◌, refl, true, false, T, ℤ, pos, negsuc, neg_ℤ, ◌-ℤ◌, nat_abs}
use Rattle.std.proofs.Common.{arith, ap, ◌∙◌, ltb-true, Fits, SFits, to_z, to_z-of_z}
use Rattle.std.proofs.Math.IntN.{pred_ℤ, +ℤ_comm, -ℤ_one}
use Rattle.std.specs.Int.Signed.{mag, lt_z, non_neg}
use Rattle.std.specs.Int.{w64}
use Rattle.std.proofs.Math.Facts.{to_z_pos}
use Rattle.laws.specs.Integers.{cast_fits, cast-natural}
use Rattle.laws.specs.Signed.{nat_abs-minus, fits_nat_abs}
use Rattle.laws.specs.Read.{read}

-- -1 less q is -(q + 1)
pub less-pos : (q : ℕ) → negsuc 0 -ℤ pos q ≡ negsuc q
less-pos q = +ℤ_comm (negsuc 0) (neg_ℤ (pos q)) ∙ -ℤ_one (neg_ℤ (pos q)) ∙ down q
  where
    down : (q : ℕ) → pred_ℤ (neg_ℤ (pos q)) ≡ negsuc q
    down zero = refl
    down (suc q) = refl

-- -1 less a number below zero
minus : (x : ℤ) → lt_z x (pos 0) ≡ true → negsuc 0 -ℤ x ≡ pos (mag x)
minus (pos a) e = absurd (omega (arith, ltb-true a 0 e))
minus (negsuc a) e = +ℤ_comm (negsuc 0) (pos (suc a)) ∙ -ℤ_one (pos (suc a))

one_more : (x : ℤ) → lt_z x (pos 0) ≡ true → mag x + 1 ≡ nat_abs x
one_more (pos a) e = absurd (omega (arith, ltb-true a 0 e))
one_more (negsuc a) e = omega arith

module _ (x : ℤ) (f : SFits w64 x) (below : lt_z (read x) (pos 0) ≡ true) where
  negative : lt_z x (pos 0) ≡ true
  negative = rw (to_z-of_z f) at below

  flipped : negsuc 0 -ℤ read x ≡ pos (mag x)
  flipped = ap (λ z. negsuc 0 -ℤ z) (to_z-of_z f) ∙ minus x negative

  pub fits-flipped : SFits w64 (negsuc 0 -ℤ read x)
  fits-flipped = record { sfits = rw flipped f.sfits }

  pub read-flipped : read (negsuc 0 -ℤ read x) ≡ pos (mag x)
  read-flipped = to_z-of_z fits-flipped ∙ flipped

  pub natural-flipped : T (non_neg (read (negsuc 0 -ℤ read x)))
  natural-flipped = rw read-flipped tt

  pub cast-flipped : Fits w64 (nat_abs (read (negsuc 0 -ℤ read x)))
  cast-flipped = cast_fits (negsuc 0 -ℤ read x) fits-flipped

  pub magnitude-below : nat_abs (read (negsuc 0 -ℤ read x)) + 1 ≡ nat_abs x
  magnitude-below = ap (λ (z : ℤ). nat_abs z + 1) read-flipped ∙ one_more x negative

  pub fits-magnitude : Fits w64 (nat_abs (read (negsuc 0 -ℤ read x)) + 1)
  fits-magnitude = record { fits = rw read-flipped (omega (arith, f.sfits)) }

module _ (x : ℤ) (f : SFits w64 x) (above : lt_z (read x) (pos 0) ≡ false) where
  pub natural-above : T (non_neg (read x))
  natural-above = cast-natural x f (rw (to_z-of_z f) at above)

  pub magnitude-above : nat_abs (read x) ≡ nat_abs x
  magnitude-above = ap nat_abs (to_z-of_z f)

pub fits-negated : (n : ℕ) → n ≤ 9223372036854775807 → SFits w64 (pos 0 -ℤ to_z w64 n)
fits-negated n h =
    let small : n < 2 ^ 63 = omega arith in
    rw (to_z_pos w64 small) (fits_nat_abs (pos 0 -ℤ pos n) (omega (arith, nat_abs-minus (pos 0) (pos n))))
