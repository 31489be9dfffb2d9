-- The greatest amount that passes a test passes it, and none above it does. So an amount that passes, above which none does, is the greatest.
-- Assumes nothing.
use Rattle.std.specs.Prelude.{ℕ, zero, suc, ◌≤◌, ◌<◌, ◌≡◌, Bool, true, false, eqb, ltb}
use Rattle.std.proofs.Common.{arith, ap, ◌∙◌, eqb-true, ltb-true, ltb-false}
use Rattle.std.proofs.lemmas.Bool.{eqb-false}
use Rattle.laws.specs.Cases.{split, clash, cond-true, cond-false}
use Rattle.inquiry.specs.Releasable.{greatest}

-- It is at most the amount that the search begins with.
pub greatest-most : (test : ℕ → Bool) (n : ℕ) → greatest test n ≤ n
unfolding greatest
greatest-most test zero = omega arith
greatest-most test (suc n) =
    split (test (suc n))
    (λ e. let same = cond-true (test (suc n)) (suc n) (greatest test n) e in omega arith)
    (λ e. let same = cond-false (test (suc n)) (suc n) (greatest test n) e in omega (arith, greatest-most test n))

-- It passes, where it isn't 0.
pub greatest-passes : (test : ℕ → Bool) (n : ℕ) → 1 ≤ greatest test n → test (greatest test n) ≡ true
unfolding greatest
greatest-passes test zero h = absurd (omega (arith, h))
greatest-passes test (suc n) h =
    split (test (suc n))
    (λ e. let same = cond-true (test (suc n)) (suc n) (greatest test n) e in ap test same ∙ e)
    (λ e.
    let same = cond-false (test (suc n)) (suc n) (greatest test n) e in
    ap test same ∙ greatest-passes test n (omega (arith, h)))

-- Of the amounts above it that the search tries, none passes.
pub greatest-above : (test : ℕ → Bool) (n a : ℕ) → greatest test n < a → a ≤ n → test a ≡ false
unfolding greatest
greatest-above test zero a h g = absurd (omega (arith, h, g))
greatest-above test (suc n) a h g =
    split (test (suc n))
    (λ e. let same = cond-true (test (suc n)) (suc n) (greatest test n) e in absurd (omega (arith, h, g)))
    (λ e.
    let same = cond-false (test (suc n)) (suc n) (greatest test n) e in
    split (eqb a (suc n)) (λ q. ap test (eqb-true a (suc n) q) ∙ e)
    (λ q. let ne = eqb-false a (suc n) q in greatest-above test n a (omega (arith, h)) (omega (arith, g, ne))))

-- An amount, 0 or one that passes, above which none passes, is the greatest.
pub greatest-is : (test : ℕ → Bool) (n m : ℕ) → m ≤ n → (1 ≤ m → test m ≡ true) → ((a : ℕ) → m < a → a ≤ n → test a ≡ false) → greatest test n ≡ m
greatest-is test n m low passes none =
    split (ltb (greatest test n) m)
    (λ e. let h = ltb-true (greatest test n) m e in clash (passes (omega (arith, h))) (greatest-above test n m h low))
    (λ e.
    split (ltb m (greatest test n))
    (λ q.
    let h = ltb-true m (greatest test n) q in
    clash (greatest-passes test n (omega (arith, h))) (none (greatest test n) h (greatest-most test n)))
    (λ q. let h = ltb-false (greatest test n) m e in let g = ltb-false m (greatest test n) q in omega (arith, h, g)))
