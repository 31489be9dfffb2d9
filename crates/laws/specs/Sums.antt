-- Sums over a table, which is a list given by a rule, and over the places below a number.
-- Assumes nothing.
use Rattle.std.specs.Prelude.{ℕ, zero, suc, ◌+◌, ◌*◌, ◌≤◌, ◌<◌, ◌≡◌, refl}
use Rattle.std.specs.List.{sum_by, range_with_len}
use Rattle.std.proofs.Common.{arith, ap, sym, mul-suc, ◌∙◌}
use Rattle.std.proofs.lemmas.List.Sums.{sum_by-cons}
use Rattle.laws.specs.Lists.{table}
use Rattle.laws.specs.Tabulated.{table-ext}

module _ {A : Type 0} (g : A → ℕ) where
  -- one element more is added behind the others
  pub sum-table-more : (n : ℕ) (h : ℕ → A) → sum_by g (table (suc n) h) ≡ g (h n) + sum_by g (table n h)
  sum-table-more zero h = sum_by-cons g (h zero) (table zero h)
  sum-table-more (suc n) h =
      omega (
        arith,
        sum_by-cons g (h zero) (table (suc n) (λ k. h (suc k))),
        sum_by-cons g (h zero) (table n (λ k. h (suc k))),
        sum-table-more n (λ k. h (suc k)),
      )

  -- a sum over places is one over the table of what stands there
  sum-places-from : (a n : ℕ) (h : ℕ → A) → sum_by (λ k. g (h k)) (range_with_len a n) ≡ sum_by g (table n (λ k. h (a + k)))
  sum-places-from a zero h = refl
  sum-places-from a (suc n) h =
      let first : a + 0 ≡ a = omega arith in
      let rest = table-ext n (λ k. h (a + 1 + k)) (λ k. h (a + suc k)) (λ k b. let e : a + 1 + k ≡ a + suc k = omega arith in ap h e) in
      sum_by-cons (λ k. g (h k)) a (range_with_len (a + 1) n)
      ∙ (λ i. g (h (sym first i)) + (sum-places-from (a + 1) n h ∙ ap (sum_by g) rest) i)
      ∙ sym (sum_by-cons g (h (a + 0)) (table n (λ k. h (a + suc k))))

  pub sum-places : (n : ℕ) (h : ℕ → A) → sum_by (λ k. g (h k)) (range_with_len 0 n) ≡ sum_by g (table n h)
  sum-places n h = sum-places-from 0 n h ∙ ap (sum_by g) (table-ext n (λ k. h (0 + k)) h (λ k b. let e : 0 + k ≡ k = omega arith in ap h e))

  -- elements of at most m each
  pub sum-table-bound : (n m : ℕ) (h : ℕ → A) → ((k : ℕ) → k < n → g (h k) ≤ m) → sum_by g (table n h) ≤ m * n
  sum-table-bound zero m h few = omega arith
  sum-table-bound (suc n) m h few =
      omega (arith, sum-table-more n h, few n (omega arith), sum-table-bound n m h (λ k b. few k (omega arith)), more)
    where
      more : m * suc n ≡ m * n + m
      more = mul-suc m n ∙ omega arith
