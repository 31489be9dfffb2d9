-- A signed parameter e is read from its bits, `read e`, which is e itself since e fits: what the code's tests and casts say of e.
-- Assumes nothing.
use Prim.Native.Nat.{ℕ, zero, suc, ◌≤◌, max}
use native.Mathlib.Omega.{arith}
use borrow.Author.Tests.{lt-ltb, ltb-true, ltb-false}
use Rattle.std.specs.Int.{int_max}
use Rattle.laws.specs.Cases.{split}
use mathlib.Core.Path.{◌≡◌, refl, sym, ◌∙◌, ap}
use mathlib.Core.Bool.{Bool, true}
use native.Mathlib.Nat.{le_of_lt}
use lib.Dec.{T, ltb}
use lib.IntN.{ℤ, pos, negsuc, nat_abs}
use lib.Signed.{lt_z, non_neg}
use mir.Syntax.{w64}
use mir.Val.{SFits}
use mir.Facts.{to_z-of_z}
use Rattle.laws.specs.Integers.{above-not-negative, above-less, cast-natural, larger}
use Rattle.laws.specs.Read.{read}

-- ---- an amount, raised to a total

-- a natural number is the larger of itself and 0
natural-top : (n : ℕ) → nat_abs (int_max (pos n) (pos 0)) ≡ n
natural-top zero = refl
natural-top (suc n) = let above : ltb 0 (suc n) ≡ true = lt-ltb 0 (suc n) (omega arith) in simp above

pub raised_is : (a : ℕ) (e : ℤ) → max a (nat_abs (int_max e (pos 0))) ≡ nat_abs (larger e (pos a))
unfolding larger
raised_is a (pos n) =
    rw (natural-top n) (split (ltb n a) (λ p. rw p (omega (arith, ltb-true n a p))) (λ p. rw p (omega (arith, ltb-false n a p))))
raised_is a (negsuc n) = omega arith

pub raised_read : (a : ℕ) (e m : ℤ) (r : ℕ) → SFits w64 e → SFits w64 m → m ≡ int_max (read e) (pos 0) → r ≡ max a (nat_abs (read m))
    → r ≡ nat_abs (larger e (pos a))
raised_read a e m r f g p q =
    q ∙ ap (λ (z : ℤ). max a (nat_abs z)) (to_z-of_z g ∙ p ∙ ap (λ (z : ℤ). int_max z (pos 0)) (to_z-of_z f)) ∙ raised_is a e

-- ---- a total e against an amount n, by what the test t said

module _ (t : Bool) (n : ℕ) (e : ℤ) (f : SFits w64 e) (said : t ≡ lt_z (pos n) (read e)) where
  pub exceeded : t ≡ lt_z (pos n) e
  exceeded = rw (to_z-of_z f) at said

  pub cast-above : t ≡ true → T (non_neg (read e))
  cast-above p = cast-natural e f (above-not-negative n e (sym exceeded ∙ p))

  pub at_most : t ≡ true → n ≤ nat_abs (read e)
  at_most p = rw (to_z-of_z f) (le_of_lt (above-less n e (sym exceeded ∙ p)))
