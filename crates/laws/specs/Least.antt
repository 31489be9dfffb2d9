-- The least of the places below a bound at which a test holds.
-- Assumes nothing.
use Rattle.std.specs.Prelude.{ℕ, zero, suc, ◌+◌, ◌≤◌, ◌<◌, ◌≡◌, refl, Bool, true, false, cond, eqb, ltb}
use Rattle.std.proofs.Common.{arith, ap, ◌∙◌, eqb-true, ltb-true, ltb-false}
use Rattle.std.proofs.lemmas.Bool.{eqb-false}
use Rattle.laws.specs.Cases.{split, cond-true, cond-false}

-- The least place below n at which a test holds, or n where there is none.
unfoldable pub least : (ℕ → Bool) → ℕ → ℕ
least test zero = zero
least test (suc n) = cond (test zero) zero (suc (least (λ k. test (suc k)) n))

-- The test holds at none of the first n places.
abbrev pub NoneBelow : (ℕ → Bool) → ℕ → Type 0
NoneBelow test n = (k : ℕ) → k < n → test k ≡ false

-- It is at most n.
pub least-most : (test : ℕ → Bool) (n : ℕ) → least test n ≤ n
unfolding least
least-most test zero = omega arith
least-most test (suc n) =
    split (test zero)
    (λ e. let same = cond-true (test zero) zero (suc (least (λ k. test (suc k)) n)) e in omega arith)
    (λ e.
    let same = cond-false (test zero) zero (suc (least (λ k. test (suc k)) n)) e in
    let most = least-most (λ k. test (suc k)) n in
    omega arith)

-- Where none holds it is n ..
pub least-none : (test : ℕ → Bool) (n : ℕ) → NoneBelow test n → least test n ≡ n
unfolding least
least-none test zero none = refl
least-none test (suc n) none =
    cond-false (test zero) zero (suc (least (λ k. test (suc k)) n)) (none zero (omega arith))
    ∙ ap suc (least-none (λ k. test (suc k)) n (λ k h. none (suc k) (omega arith)))

-- .. and where the test holds at i and at none before, it is i.
pub least-found : (test : ℕ → Bool) (n i : ℕ) → i < n → NoneBelow test i → test i ≡ true → least test n ≡ i
unfolding least
least-found test zero i h none e = absurd (omega arith)
least-found test (suc n) zero h none e = cond-true (test zero) zero (suc (least (λ k. test (suc k)) n)) e
least-found test (suc n) (suc i) h none e =
    cond-false (test zero) zero (suc (least (λ k. test (suc k)) n)) (none zero (omega arith))
    ∙ ap suc (least-found (λ k. test (suc k)) n i (omega arith) (λ k j. none (suc k) (omega arith)) e)

-- The test holds at none of the places before it.
pub least-before : (test : ℕ → Bool) (n : ℕ) → NoneBelow test (least test n)
unfolding least
least-before test zero k h = absurd (omega arith)
least-before test (suc n) zero h =
    split (test zero)
    (λ e. let same = cond-true (test zero) zero (suc (least (λ j. test (suc j)) n)) e in absurd (omega arith))
    (λ e. e)
least-before test (suc n) (suc k) h =
    split (test zero)
    (λ e. let same = cond-true (test zero) zero (suc (least (λ j. test (suc j)) n)) e in absurd (omega arith))
    (λ e.
    let same = cond-false (test zero) zero (suc (least (λ j. test (suc j)) n)) e in
    least-before (λ j. test (suc j)) n k (omega arith))

-- So it holds at none below n where the least is n.
pub none_below : (test : ℕ → Bool) (n : ℕ) → n ≤ least test n → NoneBelow test n
none_below test n h k l = least-before test n k (omega arith)

-- One more place at which it does not hold.
pub none-next : (test : ℕ → Bool) (n : ℕ) → NoneBelow test n → test n ≡ false → NoneBelow test (n + 1)
none-next test n none e k h =
    split (eqb k n) (λ same. ap test (eqb-true k n same) ∙ e) (λ other. let ne = eqb-false k n other in none k (less ne))
  where
    less : (k ≡ n → ⊥) → k < n
    less ne = split (ltb k n) (ltb-true k n) (λ not. absurd (ne (let least = ltb-false k n not in omega arith)))

-- Two tests that agree below n have one least place.
pub least-agree : (test other : ℕ → Bool) (n : ℕ) → ((k : ℕ) → k < n → test k ≡ other k) → least test n ≡ least other n
unfolding least
least-agree test other zero same = refl
least-agree test other (suc n) same =
    ap (λ (t : Bool). cond t zero (suc (least (λ k. test (suc k)) n))) (same zero (omega arith))
    ∙ ap (λ (m : ℕ). cond (other zero) zero (suc m))
    (least-agree (λ k. test (suc k)) (λ k. other (suc k)) n (λ k h. same (suc k) (omega arith)))
