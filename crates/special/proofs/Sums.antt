-- The sum of a list of amounts.
-- Assumes nothing.
use Prim.Native.Nat.{ℕ, zero, suc, ◌+◌, ◌*◌, ◌≤◌, ◌<◌}
use native.Mathlib.Omega.{arith}
use mathlib.Core.Path.{◌≡◌, refl, sym, ap, ◌∙◌}
use mathlib.Core.Bool.{true, false≢true}
use mathlib.Core.List.{List, [], ◌∷◌}
use borrow.Author.Tests.{leb-true}
use lib.Dec.{leb}
use lib.ListN.{length, get_or, drop, drop_of_length-le}
use lib.IntN.{ℤ, pos, negsuc, neg_ℤ, nat_abs, ◌+ℤ◌, +ℤ_idl, +ℤ_idr}
use mir.Syntax.{w64}
use mir.Val.{SFits}
use mir.Facts.{to_z-of_z}
use Rattle.laws.specs.Cases.{and_left, and_right}
use Rattle.laws.specs.Integers.{sum_of, Within, sum_of-bound, sum_of-turn, nat_abs-add}
use Rattle.laws.specs.Signed.{fits_nat_abs}
use Rattle.laws.specs.Every.{every-head, every-tail, every-default}
use Rattle.laws.specs.Read.{read}
use Rattle.special.specs.Ranges.{every, between, Amounts}

-- a number within plus or minus a bound, as a bound on its magnitude
within : (bound : ℕ) (x : ℤ) → between (neg_ℤ (pos bound)) (pos bound) x ≡ true → nat_abs x ≤ bound
within zero (pos n) e = leb-true n zero (and_right (leb zero n) (leb n zero) e)
within (suc b) (pos n) e = leb-true n (suc b) e
within zero (negsuc n) e = absurd (false≢true e)
within (suc b) (negsuc n) e = omega (arith, leb-true n b (and_left (leb n b) true e))

pub all-within : (bound : ℕ) (l : List ℤ) → every (between (neg_ℤ (pos bound)) (pos bound)) l ≡ true → Within bound l
unfolding Within
all-within bound [] e = tt
all-within bound (x ∷ l) e = (within bound x (every-head _ _ _ e), all-within bound l (every-tail _ _ _ e))

pub sum_bound : (bound : ℕ) (l : List ℤ) → every (between (neg_ℤ (pos bound)) (pos bound)) l ≡ true → nat_abs (sum_of l) ≤ length l * bound
sum_bound bound l e = sum_of-bound bound l (all-within bound l e)

-- ---- the running sum of the first i amounts

-- The loop's invariant: the sum t is at most 10^12 for each, and with the amounts left it makes the whole.
abbrev pub Summed : List ℤ → ℤ → ℕ → Type 0
Summed l t i = (i ≤ length l) × (nat_abs t ≤ i * 1000000000000) × (t +ℤ sum_of (drop i l) ≡ sum_of l)

pub sum-none : (l : List ℤ) → Summed l (pos 0) 0
sum-none l = (omega arith, omega arith, +ℤ_idl (sum_of l))

-- a turn: the amount at i is added to the sum t
module _ (l : List ℤ) (i : ℕ) (t : ℤ) (a : Amounts l) (h : i < length l) (f : SFits w64 (get_or l i (pos 0))) (s : Summed l t i) where
  small : nat_abs (get_or l i (pos 0)) ≤ 1000000000000
  small = within 1000000000000 (get_or l i (pos 0)) (every-default _ l i (pos 0) refl a.small)

  grown : nat_abs (t +ℤ get_or l i (pos 0)) ≤ (i + 1) * 1000000000000
  grown = omega (arith, nat_abs-add t (get_or l i (pos 0)), small, s.1)

  pub sum-adds : SFits w64 (t +ℤ read (get_or l i (pos 0)))
  sum-adds = rw (to_z-of_z f) (fits_nat_abs (t +ℤ get_or l i (pos 0)) (omega (arith, grown, a.few)))

  stored : read (t +ℤ read (get_or l i (pos 0))) ≡ t +ℤ get_or l i (pos 0)
  stored = to_z-of_z sum-adds ∙ ap (λ (z : ℤ). t +ℤ z) (to_z-of_z f)

  pub sum-again : Summed l (read (t +ℤ read (get_or l i (pos 0)))) (i + 1)
  sum-again =
      (omega arith, rw stored grown, rw stored (sym (sum_of-turn t l i h) ∙ s.2))

pub sum-all : (l : List ℤ) (i : ℕ) (t : ℤ) → length l ≤ i → Summed l t i → t ≡ sum_of l
unfolding sum_of
sum-all l i t h s = sym (+ℤ_idr t) ∙ (rw (drop_of_length-le l h) at s.2)
