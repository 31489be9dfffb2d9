-- Laws of the recorded totals of months one after another.
-- Assumes nothing.
use Prim.Native.Nat.{ℕ, zero, suc, ◌+◌, ◌%◌, ◌≤◌}
use Rattle.std.specs.Prelude.{◌≡◌, refl, Bool, true, false, cond, ◌&&◌, eqb, get_or, ℤ, nat_abs}
use Rattle.std.proofs.Common.{◌∙◌}
use Rattle.std.proofs.Math.Path.{ap}
use mathlib.Core.List.{List, [], ◌++◌}
use native.Mathlib.Omega.{arith}
use Rattle.std.proofs.Math.ListN.{length}
use Rattle.laws.specs.Lists.{All, all-default}
use Rattle.laws.specs.Integers.{Within}
use Rattle.file.specs.declared.MonthTotal.{MonthTotal}
use Rattle.file.specs.Totals.{Total, none, total, no_total, total_here, total_at, added, totals_from}

-- a total in front of two lists
added-append : (x : Total) (l k : List ℤ) → added x (l ++ k) ≡ added x l ++ k
added-append none l k = refl
added-append (total e) l k = refl

module _ (look : ℕ → Total) where
  -- one more month at the end
  pub totals-next : (m n : ℕ) → totals_from look m (suc n) ≡ totals_from look m n ++ added (look (m + n)) []
  unfolding totals_from
  totals-next m zero = let e : m ≡ m + 0 = omega arith in ap (λ (k : ℕ). added (look k) []) e
  totals-next m (suc n) =
      let e : suc m + n ≡ m + suc n = omega arith in
      ap (added (look m)) (totals-next (suc m) n ∙ ap (λ (k : ℕ). totals_from look (suc m) n ++ added (look k) []) e)
      ∙ added-append (look m) (totals_from look (suc m) n) (added (look (m + suc n)) [])

  -- no more totals than months
  pub totals-length : (m n : ℕ) → length (totals_from look m n) ≤ n
  unfolding totals_from
  totals-length m zero = omega arith
  totals-length m (suc n) = at_most (look m) (totals_from look (suc m) n) (totals-length (suc m) n)
    where
      at_most : (x : Total) (l : List ℤ) → length l ≤ n → length (added x l) ≤ suc n
      at_most none l h = omega arith
      at_most (total e) l h = omega arith

-- within the bounds of the ring's totals
pub totals-within : (b : ℕ) (totals : List MonthTotal) → All (λ (r : MonthTotal). nat_abs r.total ≤ b) totals → (m n : ℕ)
    → Within b (totals_from (total_at totals) m n)
unfolding totals_from total_at total_here Within
totals-within b totals a m zero = tt
totals-within b totals a m (suc n) =
    pick ((get_or totals (m % 16) no_total).recorded && eqb (get_or totals (m % 16) no_total).month.0 m) (totals-within b totals a (suc m) n)
  where
    pick : (t : Bool) → Within b (totals_from (total_at totals) (suc m) n)
        → Within b (added (cond t (total (get_or totals (m % 16) no_total).total) none) (totals_from (total_at totals) (suc m) n))
    pick true w = (all-default (λ (r : MonthTotal). nat_abs r.total ≤ b) totals (m % 16) no_total (omega arith) a, w)
    pick false w = w
