-- The usable rates of two lists, walked from the end, and the three largest of them.
-- Assumes nothing.
use Prim.Native.Nat.{ℕ, zero, suc, ◌+◌, ◌-◌, ◌^◌, ◌≤◌, ◌<◌}
use native.Mathlib.Numerals.{add-one}
use native.Mathlib.Omega.{arith}
use mathlib.Core.Path.{◌≡◌, refl, ap, ◌∙◌}
use mathlib.Core.Bool.{true, cond}
use mathlib.Core.List.{List, [], ◌∷◌, ◌++◌}
use borrow.Author.Tests.{eq-eqb, ne_eqb, leb-true, lt-ltb}
use lib.Dec.{eqb}
use lib.ListN.{length, get_or, take, drop, length-drop}
use lib.Seq.{drop-length}
use lib.IntN.{ℤ, pos, negsuc, neg_ℤ}
use lib.Signed.{mag, lt_z, le_z}
use Rattle.laws.specs.Cases.{split, and_left}
use Rattle.laws.specs.Every.{every-default}
use Rattle.laws.specs.Largest.{insert, falling, insert-take, insert-append}
use Rattle.laws.specs.Read.{read, read_is}
use Rattle.special.specs.declared.rates.Best.{Best}
use Rattle.special.specs.Ranges.{between, rates_in_range}
use Rattle.special.specs.Ratio.{usable}
use Rattle.special.specs.Best.{kept, empty, BestOf}
use Rattle.special.proofs.Walks.{drop-back}

-- without marks every rate is usable
pub usable-all : (rates : List ℤ) → usable rates [] ≡ rates
unfolding usable
usable-all [] = refl
usable-all (x ∷ rates) = ap (λ l. x ∷ l) (usable-all rates)

-- the mark at j decides on the rate x, and those after it on the others
usable_at : (x : ℤ) (rates : List ℤ) (marks : List ℕ) (j : ℕ) → usable (x ∷ rates) (drop j marks)
    ≡ cond (eqb (get_or marks j 0) 0) (x ∷ usable rates (drop (suc j) marks)) (usable rates (drop (suc j) marks))
unfolding usable
usable_at x rates [] zero = refl
usable_at x rates [] (suc j) = refl
usable_at x rates (m ∷ marks) zero = refl
usable_at x rates (m ∷ marks) (suc j) = usable_at x rates marks j

usable-length : (rates : List ℤ) (marks : List ℕ) → length (usable rates marks) ≤ length rates
unfolding usable
usable-length [] marks = omega arith
usable-length (x ∷ rates) [] = omega (arith, usable-length rates [])
usable-length (x ∷ rates) (m ∷ marks) =
    split (eqb m 0) (λ t. rw t (omega (arith, usable-length rates marks))) (λ t. rw t (omega (arith, usable-length rates marks)))

-- a rate is above what stands in an empty place
above-empty : (x : ℤ) → between (neg_ℤ (pos 100000)) (pos 100000) x ≡ true → lt_z (neg_ℤ (pos 100001)) x ≡ true
above-empty (pos n) e = refl
above-empty (negsuc n) e = lt-ltb n 100000 (omega (arith, leb-true n 99999 (and_left (le_z (negsuc 99999) (negsuc n)) true e)))

-- ---- the walk

module _ (rates : List ℤ) (marks : List ℕ) where
  -- the usable rates from an index on
  abbrev from : ℕ → List ℤ
  from i = usable (drop i rates) (drop i marks)

  pub from-none : (best : Best) → kept best ≡ empty → best.n ≡ 0 → BestOf (from (length rates)) best
  unfolding falling usable
  from-none best e n = rw drop-length (record { largest = e; number = n })

  pub from-fits : (i : ℕ) (best : Best) → 0 < i → i ≤ length rates → length rates < 2 ^ 64 → BestOf (from i) best → best.n + 1 < 2 ^ 64
  from-fits i best h k f b = omega (arith, b.number, usable-length (drop i rates) (drop i marks), length-drop i rates)

  module _ (i mark : ℕ) (h : 0 < i) (k : i ≤ length rates) (m : mark ≡ get_or marks (i - 1) 0) where
    -- the rate before an index, if its mark is 0, and those from the index on
    back : from (i - 1) ≡ cond (eqb mark 0) (get_or rates (i - 1) (pos 0) ∷ from i) (from i)
    back =
        let e : suc (i - 1) ≡ i = omega arith in
        rw (drop-back rates i (pos 0) h k, m) (rw e at (usable_at (get_or rates (i - 1) (pos 0)) (drop i rates) marks (i - 1)))

    pub from-marked : (best : Best) → (mark ≡ 0 → ⊥) → BestOf (from i) best → BestOf (from (i - 1)) best
    from-marked best z b = rw (back, ne_eqb mark 0 z) b

    pub from-unmarked : (old new : Best) → rates_in_range rates ≡ true → mark ≡ 0 → mag (get_or rates (i - 1) (pos 0)) < 2 ^ 63 → BestOf (from i) old
        → (kept new ≡ take 3 (insert (read (get_or rates (i - 1) (pos 0))) (kept old))) × (new.n ≡ old.n + 1) → BestOf (from (i - 1)) new
    unfolding falling
    from-unmarked old new r z f b e =
        let x = get_or rates (i - 1) (pos 0) in
        rw (back, eq-eqb mark 0 z)
        (record {
          largest =
              e.0 ∙ rw (read_is x f, b.largest) (insert-take 3 x (falling (from i) ++ empty))
              ∙ ap (take 3) (insert-append x _ (falling (from i)) _ (above-empty x (every-default _ rates (i - 1) (pos 0) refl r)));
          number = e.1 ∙ add-one old.n ∙ ap suc b.number;
        })
