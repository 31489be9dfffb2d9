-- The loop over a month's figures: what is summed and what is left make the whole, and each figure passed is within its bound. Assumes nothing.
use Prim.Native.Nat.{ℕ, ◌+◌, ◌*◌, ◌≤◌, ◌<◌}
use mathlib.Core.Path.{◌≡◌, sym, ◌∙◌, ap}
use mathlib.Core.Bool.{Bool, true, false, ◌||◌}
use mathlib.Core.List.{List}
use native.Mathlib.Nat.{le_trans}
use native.Mathlib.Omega.{arith}
use native.Mathlib.Numerals.{add-one}
use borrow.Author.Tests.{le-ltb, ltb-false, leb-true}
use lib.Dec.{leb, ltb}
use lib.ListN.{length, get_or, drop, drop_of_length-le}
use lib.Seq.{drop-cons}
use lib.IntN.{ℤ, pos, nat_abs, ◌+ℤ◌, +ℤ_idr}
use mir.Syntax.{w64}
use mir.Val.{SFits, to_z, of_z}
use mir.Facts.{to_z-of_z}
use Rattle.laws.specs.Cases.{cond-true, or-first, or-second}
use Rattle.laws.specs.Integers.{nat_abs-add, sum_of, sum_of-turn}
use Rattle.laws.specs.Signed.{fits_nat_abs}
use Rattle.laws.specs.Read.{read}
use Rattle.manual.specs.Figures.{bound, wrong_count, all_within, out_of_range, summed}
use Rattle.std.specs.Prelude.{Ok, Err}
use Rattle.refusal.specs.declared.Refusal.TheVariants.{FigureCount, OutOfRange}

-- ---- cause 10, by the number of the figures

module _ (t : Bool) (n : ℕ) (said : t ≡ (ltb n 5 || ltb 16 n)) where
  pub at-least-five : t ≡ false → 5 ≤ n
  at-least-five h = ltb-false n 5 (or-first (ltb n 5) (ltb 16 n) (sym said ∙ h))

  pub at-most-sixteen : t ≡ false → n ≤ 16
  at-most-sixteen h = ltb-false 16 n (or-second (ltb n 5) (ltb 16 n) (sym said ∙ h))

  pub wrong-number : (l : List ℤ) → length l ≡ n → t ≡ true → Err FigureCount ≡ summed l
  unfolding summed wrong_count
  wrong-number l e h =
      sym (cond-true (ltb (length l) 5 || ltb 16 (length l)) (Err FigureCount) _ (ap (λ (k : ℕ). ltb k 5 || ltb 16 k) e ∙ sym said ∙ h))

-- ---- a turn at the next figure, which t found within the bound or not

-- The loop's invariant, with the sum s and i figures passed: each passed is within its bound, the sum is at most a bound for each,
-- and with the figures left it makes the whole.
abbrev pub SoFar : List ℤ → ℤ → ℕ → Type 0
SoFar l s i = (i ≤ length l) × (all_within (drop i l) ≡ all_within l) × (nat_abs s ≤ i * bound) × (s +ℤ sum_of (drop i l) ≡ sum_of l)

-- |s + x| is at most one bound more than |s|
grown : (s x : ℤ) (k : ℕ) → nat_abs s ≤ k * bound → nat_abs x ≤ bound → nat_abs (s +ℤ x) ≤ (k + 1) * bound
grown s x k p q = le_trans (nat_abs-add s x) (omega arith)

-- n figures, of which x is that at i
module _ (t : Bool) (l : List ℤ) (s x : ℤ) (i n : ℕ) (f : SFits w64 x) (given : x ≡ get_or l i (pos 0)) (many : length l ≡ n) (h : i < n) (few : n ≤ 16)
    (said : t ≡ leb (nat_abs (read x)) bound) (inv : SoFar l s i) where
  there : i < length l
  there = omega arith

  tested : t ≡ leb (nat_abs x) bound
  tested = rw (to_z-of_z f) at said

  found : t ≡ leb (nat_abs (get_or l i (pos 0))) bound
  found = tested ∙ ap (λ (z : ℤ). leb (nat_abs z) bound) given

  one_out : t ≡ false → false ≡ all_within l
  unfolding all_within
  one_out p = rw (drop-cons l i (pos 0) there, sym found ∙ p) at inv.1

  -- cause 11
  pub out_of_range_lem : 5 ≤ n → t ≡ false → Err OutOfRange ≡ summed l
  unfolding summed wrong_count out_of_range
  out_of_range_lem g p =
      let enough : 5 ≤ length l = omega arith in
      let most : length l ≤ 16 = omega arith in
      rw (le-ltb (length l) 5 enough, le-ltb 16 (length l) most, sym (one_out p))

  in-range : t ≡ true → all_within (drop (i + 1) l) ≡ all_within l
  unfolding all_within
  in-range p = rw (add-one i) (rw (drop-cons l i (pos 0) there, sym found ∙ p) at inv.1)

  small : t ≡ true → nat_abs (s +ℤ read x) ≤ (i + 1) * bound
  small p = rw (to_z-of_z f) (grown s x i inv.2 (leb-true (nat_abs x) bound (sym tested ∙ p)))

  -- the sum does not overflow
  pub sum_fits : t ≡ true → SFits w64 (s +ℤ read x)
  sum_fits p = fits_nat_abs _ (omega (arith, small p))

  pub sum-again : t ≡ true → SoFar l (to_z w64 (of_z w64 (s +ℤ read x))) (i + 1)
  sum-again p =
      let e = to_z-of_z (sum_fits p) in
      let next : (s +ℤ x) +ℤ sum_of (drop (i + 1) l) ≡ sum_of l =
      ap (λ (z : ℤ). (s +ℤ z) +ℤ sum_of (drop (i + 1) l)) given ∙ sym (sum_of-turn s l i there) ∙ inv.3 in
      (omega arith, in-range p, rw e (small p), rw (e, to_z-of_z f) next)

-- ---- the loop's end

all-passed : (l : List ℤ) (i : ℕ) → length l ≤ i → all_within (drop i l) ≡ all_within l → true ≡ all_within l
unfolding all_within
all-passed l i h kept = rw (drop_of_length-le l h) at kept

all-summed : (l : List ℤ) (i : ℕ) (z : ℤ) → length l ≤ i → z +ℤ sum_of (drop i l) ≡ sum_of l → z ≡ sum_of l
unfolding sum_of
all-summed l i z h p = sym (+ℤ_idr z) ∙ (rw (drop_of_length-le l h) at p)

pub sum-ends : (l : List ℤ) (s : ℤ) (i n : ℕ) → length l ≡ n → n ≤ i → 5 ≤ n → n ≤ 16 → SoFar l s i → Ok s ≡ summed l
unfolding summed wrong_count out_of_range
sum-ends l s i n e h g few inv =
    let enough : 5 ≤ length l = omega arith in
    let most : length l ≤ 16 = omega arith in
    let past : length l ≤ i = omega arith in
    ap Ok (all-summed l i s past inv.3)
    ∙ rw (le-ltb (length l) 5 enough, le-ltb 16 (length l) most, sym (all-passed l i past inv.1))
