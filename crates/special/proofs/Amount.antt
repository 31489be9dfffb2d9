-- The guarantee of the ratios and sums, as the code multiplies, rounds, subtracts and raises.
-- Assumes nothing.
use Prim.Native.Nat.{ℕ, ◌≤◌}
use native.Mathlib.Nat.{mul-le-mul}
use native.Mathlib.Omega.{arith}
use mathlib.Core.Path.{◌≡◌, refl, ap, ◌∙◌}
use borrow.Author.Tests.{ltb-true, ltb-false}
use lib.Dec.{ltb}
use lib.IntN.{ℤ, pos, negsuc, nat_abs, ◌+ℤ◌, ◌-ℤ◌, ◌*ℤ◌}
use mir.Syntax.{w64}
use mir.Val.{SFits}
use mir.Facts.{to_z-of_z}
use Rattle.std.specs.Int.{int_max}
use Rattle.laws.specs.Cases.{split}
use Rattle.laws.specs.Integers.{nat_abs-add}
use Rattle.laws.specs.Signed.{nearest, nat_abs-minus, nat_abs_mul, fits_nat_abs}
use Rattle.special.specs.Guarantee.{at_least, amount, Bounded}
use Rattle.laws.specs.Read.{read, read-abs}
use Rattle.special.proofs.Means.{nearest-bound}

-- ---- the minimum

raised_is : (x : ℤ) → nat_abs (int_max x (pos 500000)) ≡ at_least 500000 x
unfolding at_least
raised_is (pos n) = split (ltb 500000 n) (λ e. simp e (omega (arith, ltb-true 500000 n e))) (λ e. simp e (omega (arith, ltb-false 500000 n e)))
raised_is (negsuc n) = refl

pub raised_read : (x m : ℤ) (r : ℕ) → SFits w64 x → SFits w64 m → m ≡ int_max (read x) (pos 500000) → r ≡ nat_abs (read m) → r ≡ at_least 500000 x
raised_read x m r f g p q = q ∙ ap nat_abs (to_z-of_z g ∙ p ∙ ap (λ (z : ℤ). int_max z (pos 500000)) (to_z-of_z f)) ∙ raised_is x

-- ---- one product

module _ (r s : ℤ) (hr : nat_abs r ≤ 100001) (hs : nat_abs s ≤ 16000000000000) where
  product : read r *ℤ read s ≡ r *ℤ s
  product = rw (read-abs r (omega arith), read-abs s (omega arith))

  product_small : nat_abs (r *ℤ s) ≤ 1600016000000000000
  product_small = omega (arith, nat_abs_mul r s, mul-le-mul hr hs)

  pub fits-product : SFits w64 (read r *ℤ read s)
  fits-product = rw product (fits_nat_abs (r *ℤ s) (omega (arith, product_small)))

  product-read : read (read r *ℤ read s) ≡ r *ℤ s
  product-read = ap read product ∙ read-abs (r *ℤ s) (omega (arith, product_small))

-- ---- the settlements times the ratios, of which mr, ms, lr and ls are what the code reads

module _ (mr ms lr ls : ℤ) (hmr : nat_abs mr ≤ 100001) (hms : nat_abs ms ≤ 16000000000000) (hlr : nat_abs lr ≤ 100001)
    (hls : nat_abs ls ≤ 16000000000000) where
  gross : read (read mr *ℤ read ms) +ℤ read (read lr *ℤ read ls) ≡ mr *ℤ ms +ℤ lr *ℤ ls
  gross = rw (product-read mr ms hmr hms, product-read lr ls hlr hls)

  gross-small : nat_abs (mr *ℤ ms +ℤ lr *ℤ ls) ≤ 3200032000000000000
  gross-small =
      omega (arith, nat_abs-add (mr *ℤ ms) (lr *ℤ ls), product_small mr ms hmr hms, product_small lr ls hlr hls)

  pub fits-gross : SFits w64 (read (read mr *ℤ read ms) +ℤ read (read lr *ℤ read ls))
  fits-gross = rw gross (fits_nat_abs (mr *ℤ ms +ℤ lr *ℤ ls) (omega (arith, gross-small)))

  gross-read : read (read (read mr *ℤ read ms) +ℤ read (read lr *ℤ read ls)) ≡ mr *ℤ ms +ℤ lr *ℤ ls
  gross-read = ap read gross ∙ read-abs (mr *ℤ ms +ℤ lr *ℤ ls) (omega (arith, gross-small))

  pub gross-bound : nat_abs (read (read (read mr *ℤ read ms) +ℤ read (read lr *ℤ read ls))) ≤ 4000000000000000000
  gross-bound = rw gross-read (omega (arith, gross-small))

-- ---- the excesses

module _ (me le : ℤ) (hme : nat_abs me ≤ 16000000000000) (hle : nat_abs le ≤ 16000000000000) where
  excess : read me +ℤ read le ≡ me +ℤ le
  excess = rw (read-abs me (omega arith), read-abs le (omega arith))

  excess_small : nat_abs (me +ℤ le) ≤ 32000000000000
  excess_small = omega (arith, nat_abs-add me le)

  pub fits-excess : SFits w64 (read me +ℤ read le)
  fits-excess = rw excess (fits_nat_abs (me +ℤ le) (omega (arith, excess_small)))

-- ---- the whole: n is the rounded amount

module _ (mr ms lr ls me le : ℤ) (h : Bounded mr ms lr ls me le) (n : ℤ)
    (e : n ≡ nearest (read (read (read mr *ℤ read ms) +ℤ read (read lr *ℤ read ls))) 10000) where
  rounded : n ≡ nearest (mr *ℤ ms +ℤ lr *ℤ ls) 10000
  rounded = e ∙ ap (λ z. nearest z 10000) (gross-read mr ms lr ls h.medium-ratio h.medium-sum h.low-ratio h.low_sum)

  rounded-small : nat_abs n ≤ 400000000000000
  rounded-small =
      omega (
        arith,
        ap nat_abs rounded,
        nearest-bound (mr *ℤ ms +ℤ lr *ℤ ls) 10000,
        gross-small mr ms lr ls h.medium-ratio h.medium-sum h.low-ratio h.low_sum,
      )

  less : nat_abs (me +ℤ le) ≤ 32000000000000
  less = excess_small me le h.medium-excess h.low-excess

  net : read n -ℤ read (read me +ℤ read le) ≡ nearest (mr *ℤ ms +ℤ lr *ℤ ls) 10000 -ℤ (me +ℤ le)
  net =
      rw (
        read-abs n (omega (arith, rounded-small)),
        excess me le h.medium-excess h.low-excess,
        read-abs (me +ℤ le) (omega (arith, less)),
        rounded,
      )

  net-small : nat_abs (read n -ℤ read (read me +ℤ read le)) ≤ 500000000000000
  net-small =
      rw net (omega (arith, nat_abs-minus (nearest (mr *ℤ ms +ℤ lr *ℤ ls) 10000) (me +ℤ le), rounded-small, ap nat_abs rounded, less))

  pub fits-net : SFits w64 (read n -ℤ read (read me +ℤ read le))
  fits-net = fits_nat_abs (read n -ℤ read (read me +ℤ read le)) (omega (arith, net-small))

  pub amount-is : (r : ℕ) → r ≡ at_least 500000 (read (read n -ℤ read (read me +ℤ read le))) → r ≡ amount mr ms lr ls me le
  unfolding amount
  amount-is r k =
      k ∙ ap (at_least 500000) (read-abs (read n -ℤ read (read me +ℤ read le)) (omega (arith, net-small)) ∙ net)
