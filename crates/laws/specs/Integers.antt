-- Integers: the order as tests that answer a Bool, the larger of two, absolute values, and sums of lists. Assumes nothing.
use Rattle.std.specs.Prelude.{ℕ, suc, ◌+◌, ◌*◌, ◌≤◌, ◌<◌, ◌≡◌, refl, true, false, not, cond, List, [], ◌∷◌, T, ltb, length, get_or, drop, ℤ, pos, negsuc, nat_abs, ◌+ℤ◌}
use Rattle.std.proofs.Common.{sym, ◌∙◌, ap, le_trans, suc-mul, arith, add-one, drop-cons, SFits, Fits, to_z, of_z, to_z-of_z, ltb-true, ltb-false, lt-ltb, le-ltb}
use Rattle.std.proofs.Math.IntN.{sub_ℕ, +ℤ_assoc}
use Rattle.std.specs.Int.Signed.{lt_z, le_z, non_neg}
use Rattle.std.specs.Int.{w64}
use Rattle.std.proofs.Math.Facts.{Fits-nat_abs}
use Rattle.laws.specs.Cases.{split, clash, leb-not-ltb, cond-true, cond-false}

-- ---- the order: `lt_z a b` is whether a is below b, `le_z a b` whether it is at most b

pub lt_z-trans : (a b c : ℤ) → lt_z a b ≡ true → lt_z b c ≡ true → lt_z a c ≡ true
lt_z-trans (pos a) (pos b) (pos c) p q = lt-ltb a c (omega (arith, ltb-true a b p, ltb-true b c q))
lt_z-trans (pos a) (pos b) (negsuc c) p q = q
lt_z-trans (pos a) (negsuc b) c p q = cc
lt_z-trans (negsuc a) b (pos c) p q = refl
lt_z-trans (negsuc a) (pos b) (negsuc c) p q = cc
lt_z-trans (negsuc a) (negsuc b) (negsuc c) p q = lt-ltb c a (omega (arith, ltb-true b a p, ltb-true c b q))

-- where a is not below b, nor b below c, a is not below c
pub lt_z-not-trans : (a b c : ℤ) → lt_z a b ≡ false → lt_z b c ≡ false → lt_z a c ≡ false
lt_z-not-trans (pos a) (pos b) (pos c) p q = le-ltb a c (omega (arith, ltb-false a b p, ltb-false b c q))
lt_z-not-trans (pos a) b (negsuc c) p q = refl
lt_z-not-trans (pos a) (negsuc b) (pos c) p q = cc
lt_z-not-trans (negsuc a) (pos b) c p q = cc
lt_z-not-trans (negsuc a) (negsuc b) (pos c) p q = q
lt_z-not-trans (negsuc a) (negsuc b) (negsuc c) p q = le-ltb c a (omega (arith, ltb-false b a p, ltb-false c b q))

pub lt_z-asym : (a b : ℤ) → lt_z a b ≡ true → lt_z b a ≡ false
lt_z-asym (pos a) (pos b) p = le-ltb b a (omega (arith, ltb-true a b p))
lt_z-asym (pos a) (negsuc b) p = cc
lt_z-asym (negsuc a) (pos b) p = refl
lt_z-asym (negsuc a) (negsuc b) p = le-ltb a b (omega (arith, ltb-true b a p))

-- two of which neither is below the other are equal
pub lt_z-connex : (a b : ℤ) → lt_z a b ≡ false → lt_z b a ≡ false → a ≡ b
lt_z-connex (pos a) (pos b) p q = ap pos (omega (arith, ltb-false a b p, ltb-false b a q))
lt_z-connex (pos a) (negsuc b) p q = cc
lt_z-connex (negsuc a) (pos b) p q = cc
lt_z-connex (negsuc a) (negsuc b) p q = ap negsuc (omega (arith, ltb-false b a p, ltb-false a b q))

-- a is at most b where b is not below a
pub le_z-lt_z : (a b : ℤ) → le_z a b ≡ not (lt_z b a)
le_z-lt_z (pos a) (pos b) = leb-not-ltb a b
le_z-lt_z (pos a) (negsuc b) = refl
le_z-lt_z (negsuc a) (pos b) = refl
le_z-lt_z (negsuc a) (negsuc b) = leb-not-ltb b a

-- ---- natural numbers among them

-- what exceeds a natural number is one itself, and is larger
pub above-natural : (n : ℕ) (e : ℤ) → lt_z (pos n) e ≡ true → e ≡ pos (nat_abs e)
above-natural n (pos m) p = refl
above-natural n (negsuc m) p = cc

pub above-less : (n : ℕ) (e : ℤ) → lt_z (pos n) e ≡ true → n < nat_abs e
above-less n (pos m) p = ltb-true n m p
above-less n (negsuc m) p = clash refl (sym p)

pub above-positive : (n : ℕ) (e : ℤ) → lt_z (pos n) e ≡ true → lt_z (pos 0) e ≡ true
above-positive n (pos m) p = lt-ltb 0 m (omega (arith, ltb-true n m p))
above-positive n (negsuc m) p = p

-- what exceeds a natural number is not below 0
pub above-not-negative : (n : ℕ) (e : ℤ) → lt_z (pos n) e ≡ true → lt_z e (pos 0) ≡ false
above-not-negative n (pos m) p = le-ltb m 0 (omega arith)
above-not-negative n (negsuc m) p = sym p

-- a number that is not below 0 exceeds the naturals below its absolute value
pub not-negative-above : (n : ℕ) (e : ℤ) → lt_z e (pos 0) ≡ false → lt_z (pos n) e ≡ ltb n (nat_abs e)
not-negative-above n (pos m) p = refl
not-negative-above n (negsuc m) p = clash refl p

-- no natural number is below one that is below 0
pub negative-above : (n : ℕ) (e : ℤ) → lt_z e (pos 0) ≡ true → lt_z (pos n) e ≡ false
negative-above n (pos m) p = clash p (le-ltb m 0 (omega arith))
negative-above n (negsuc m) p = refl

-- a machine's signed number, read from its bits, has an absolute value that fits an unsigned number
pub cast_fits : (e : ℤ) → SFits w64 e → Fits w64 (nat_abs (to_z w64 (of_z w64 e)))
cast_fits e f = rw (to_z-of_z f) (Fits-nat_abs tt f)

-- and where it is not below 0, the cast to an unsigned number is allowed
pub cast-natural : (e : ℤ) → SFits w64 e → lt_z e (pos 0) ≡ false → T (non_neg (to_z w64 (of_z w64 e)))
cast-natural e f p = rw (to_z-of_z f) (not_negative e p)
  where
    not_negative : (e : ℤ) → lt_z e (pos 0) ≡ false → T (non_neg e)
    not_negative (pos m) p = tt
    not_negative (negsuc m) p = clash refl p

-- ---- the larger of two

-- The larger of two integers.
unfoldable pub larger : ℤ → ℤ → ℤ
larger a b = cond (lt_z a b) b a

pub larger-comm : (a b : ℤ) → larger a b ≡ larger b a
unfolding larger
larger-comm a b =
    split (lt_z a b) (λ p. cond-true _ b a p ∙ sym (cond-false _ a b (lt_z-asym a b p)))
    (λ p. split (lt_z b a) (λ q. cond-false _ b a p ∙ sym (cond-true _ a b q))
    (λ q. cond-false _ b a p ∙ lt_z-connex a b p q ∙ sym (cond-false _ a b q)))

pub larger-assoc : (a b c : ℤ) → larger (larger a b) c ≡ larger a (larger b c)
unfolding larger
larger-assoc a b c =
    split (lt_z a b)
    (λ p. split (lt_z b c) (λ q. simp (p, q, lt_z-trans a b c p q)) (λ q. simp (p, q)))
    (λ p. split (lt_z b c) (λ q. simp (p, q)) (λ q. simp (p, q, lt_z-not-trans a b c p q)))

-- the larger of two is one of them
pub larger-within : (a b : ℤ) (k : ℕ) → nat_abs a ≤ k → nat_abs b ≤ k → nat_abs (larger a b) ≤ k
unfolding larger
larger-within a b k p q = split (lt_z a b) (λ t. rw t q) (λ t. rw t p)

-- ---- absolute values and sums

nat_abs-sub : (a b : ℕ) → nat_abs (sub_ℕ a b) ≤ a + b
nat_abs-sub a b =
    split (ltb a b) (λ t. rw t (omega (arith, ltb-true a b t))) (λ t. rw t (omega arith))

-- |a + b| ≤ |a| + |b|
pub nat_abs-add : (a b : ℤ) → nat_abs (a +ℤ b) ≤ nat_abs a + nat_abs b
nat_abs-add (pos a) (pos b) = omega arith
nat_abs-add (pos a) (negsuc b) = nat_abs-sub a (suc b)
nat_abs-add (negsuc a) (pos b) = omega (arith, nat_abs-sub b (suc a))
nat_abs-add (negsuc a) (negsuc b) = omega arith

-- The sum of a list.
unfoldable pub sum_of : List ℤ → ℤ
sum_of [] = pos 0
sum_of (x ∷ rest) = x +ℤ sum_of rest

-- Each element of a list is within plus or minus k.
unfoldable pub Within : ℕ → List ℤ → Type 0
Within k [] = Unit {0}
Within k (x ∷ rest) = (nat_abs x ≤ k) × Within k rest

-- a sum is at most as many times k as there are elements
pub sum_of-bound : (k : ℕ) (l : List ℤ) → Within k l → nat_abs (sum_of l) ≤ length l * k
unfolding sum_of Within
sum_of-bound k [] w = omega arith
sum_of-bound k (x ∷ l) w = le_trans (nat_abs-add x (sum_of l)) (omega (arith, w.0, sum_of-bound k l w.1, suc-mul (length l) k))

-- a running sum: what is summed and what is left make the whole, before and after one more element
pub sum_of-turn : (s : ℤ) (l : List ℤ) (i : ℕ) → i < length l → s +ℤ sum_of (drop i l) ≡ (s +ℤ get_or l i (pos 0)) +ℤ sum_of (drop (i + 1) l)
unfolding sum_of
sum_of-turn s l i h = rw (add-one, drop-cons l i (pos 0) h) (sym (+ℤ_assoc s (get_or l i (pos 0)) (sum_of (drop (suc i) l))))
