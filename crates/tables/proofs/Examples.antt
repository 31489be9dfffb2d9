-- The figures of 002's worked examples by the definitions, computed.
-- Assumes nothing.
use Prim.Native.Nat.{ℕ, ◌+◌, ◌*◌, ◌/◌, ◌<◌, ◌^◌}
use native.Mathlib.Omega.{arith}
use mathlib.Core.Path.{◌≡◌, refl, sym, ◌∙◌, ap}
use mathlib.Core.List.{List, [], ◌∷◌}
use borrow.Author.Tests.{le-leb}
use mir.Facts.{to_z_pos}
use mir.Syntax.{w32, w64}
use mir.Val.{Fits, to_z, of_z}
use lib.Dec.{T}
use lib.IntN.{ℤ, pos, nat_abs}
use lib.Signed.{non_neg}
use Rattle.laws.specs.Integers.{sum_of}
use Rattle.manual.specs.Minimum.{minimum_of}
use Rattle.manual.specs.Largest.{larger, largest_total, largest_at_least}
use Rattle.manual.specs.Annual.{annual_amount}
use Rattle.manual.specs.Check.{exceeds_tolerance, exceeds_each, call_is_made, checked}
use Rattle.manual.specs.Figures.{bound, summed, wrong_count, all_within, out_of_range}
use Rattle.std.specs.Prelude.{Option, Some, None, Result, Ok, Err}
use Rattle.std.specs.Result.{result_unwrap_or}
use Rattle.manual.specs.declared.Call.{Call}
use Rattle.refusal.specs.declared.Refusal.{Refusal}

-- ---- 002, 5.1: the annual amount of a supplier with the twelve totals

abbrev twelve : List ℤ
twelve =
    pos 68780100 ∷ pos 55688700 ∷ pos 55726000 ∷ pos 64462000 ∷ pos 69286800 ∷ pos 65431300 ∷ pos 62967400 ∷ pos 66956600
    ∷ pos 67228600 ∷ pos 77372900 ∷ pos 59657000 ∷ pos 72350800 ∷ []

amount : annual_amount 0 twelve ≡ 77372900
unfolding annual_amount largest_at_least largest_total larger minimum_of
amount = refl

pub amount-of-twelve : (r : ℕ) → r ≡ annual_amount 0 twelve → r ≡ 77372900
amount-of-twelve r e = e ∙ amount

-- ---- the sum of one amount and four zeros

one : (n : ℕ) → n < 4294967296 → summed (pos n ∷ pos 0 ∷ pos 0 ∷ pos 0 ∷ pos 0 ∷ []) ≡ Ok (pos n)
unfolding summed wrong_count out_of_range all_within sum_of
one n f =
    let e : n + 0 ≡ n = omega arith in
    simp (le-leb n bound (omega arith), e)

module _ (n : ℕ) (r : Result ℤ Refusal) (f : Fits w32 n) (e : r ≡ summed (to_z w64 n ∷ pos 0 ∷ pos 0 ∷ pos 0 ∷ pos 0 ∷ [])) where
  known : r ≡ Ok (pos n)
  known =
      let small : n < 2 ^ 63 = omega arith in
      e ∙ ap (λ (x : ℤ). summed (x ∷ pos 0 ∷ pos 0 ∷ pos 0 ∷ pos 0 ∷ [])) (to_z_pos w64 small) ∙ one n (omega arith)

  module _ (x d : ℤ) (k : x ≡ result_unwrap_or r d) where
    bits : to_z w64 (of_z w64 x) ≡ pos n
    bits =
        let small : n < 2 ^ 63 = omega arith in
        ap (λ (y : ℤ). to_z w64 (of_z w64 y)) (k ∙ ap (λ (q : Result ℤ Refusal). result_unwrap_or q d) known) ∙ to_z_pos w64 small

    pub sum-natural : T (non_neg (to_z w64 (of_z w64 x)))
    sum-natural = rw bits tt

    pub sum-magnitude : nat_abs (to_z w64 (of_z w64 x)) ≡ n
    sum-magnitude = ap nat_abs bits

    pub sum_fits : Fits w32 (nat_abs (to_z w64 (of_z w64 x)))
    sum_fits = rw sum-magnitude f

-- ---- 002, 5.2: the check of August 2021 against the guarantee of example 1

call : checked (pos 93679500) 77372900 77372900 [] ≡ Some (record { amount = 93679500; asked = 16306600 })
unfolding checked call_is_made exceeds_tolerance exceeds_each
call = refl

module _ (r : Option Call) (s d : ℕ) (e : s ≡ 93679500) (h : d ≡ 77372900) (q : r ≡ checked (to_z w64 s) d d []) where
  pub called : r ≡ Some (record { amount = 93679500; asked = 16306600 })
  called = q ∙ ap (λ (n : ℕ). checked (to_z w64 n) d d []) e ∙ ap (λ (n : ℕ). checked (pos 93679500) n n []) h ∙ call

-- ---- 002, section 8: the guarantee by the sums of the rates and of the settlements, not rounded before

pub guarantee-known :
    (a s b t r : ℕ) → r ≡ (a * s + b * t + 15000) / 30000 → a ≡ 130 → s ≡ 226999336 → b ≡ 12024 → t ≡ 24409692 → r ≡ 10767068
guarantee-known a s b t r e ea es eb et = e ∙ rw ea (rw es (rw eb (rw et refl)))
