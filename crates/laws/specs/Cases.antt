-- Tests that answer a Bool: cases on one without writing the goal again, choices, conjunctions, and two tests of order that agree.
-- Assumes nothing.
use Rattle.std.specs.Prelude.{ℕ, ◌≤◌, ◌≡◌, refl, Bool, true, false, not, cond, ◌&&◌, ◌||◌, leb, ltb}
use Rattle.std.proofs.Common.{sym, ap, ◌∙◌, true≢false, leb-true, leb-false, le-leb, lt-ltb, le-ltb}

-- A claim that holds whichever way a test goes.
pub split {ℓ} : {G : Type ℓ} (t : Bool) → (t ≡ true → G) → (t ≡ false → G) → G
split true f g = f refl
split false f g = g refl

-- No test goes both ways.
pub clash {ℓ} : {G : Type ℓ} {t : Bool} → t ≡ true → t ≡ false → G
clash p q = absurd (true≢false (sym p ∙ q))

-- The choice that a test makes.
pub cond-true {ℓ} : {A : Type ℓ} (t : Bool) (x y : A) → t ≡ true → cond t x y ≡ x
cond-true true x y e = refl
cond-true false x y e = cc

pub cond-false {ℓ} : {A : Type ℓ} (t : Bool) (x y : A) → t ≡ false → cond t x y ≡ y
cond-false true x y e = cc
cond-false false x y e = refl

-- A conjunction holds where both parts do.
pub and_left : (a b : Bool) → (a && b) ≡ true → a ≡ true
and_left true b e = refl
and_left false b e = e

pub and_right : (a b : Bool) → (a && b) ≡ true → b ≡ true
and_right true b e = e
and_right false b e = cc

pub and_both : (a b : Bool) → a ≡ true → b ≡ true → (a && b) ≡ true
and_both true b p q = q
and_both false b p q = p

pub and-refused : (a b : Bool) → a ≡ false → (a && b) ≡ false
and-refused true b p = cc
and-refused false b p = refl

-- A disjunction that does not hold has no part that does.
pub or-first : (a b : Bool) → (a || b) ≡ false → a ≡ false
or-first true b e = e
or-first false b e = refl

pub or-second : (a b : Bool) → (a || b) ≡ false → b ≡ false
or-second true b e = cc
or-second false b e = e

-- Two tests of order agree where each follows from the other.
pub leb-agree : (a b c d : ℕ) → (a ≤ b → c ≤ d) → (c ≤ d → a ≤ b) → leb a b ≡ leb c d
leb-agree a b c d f g =
    split (leb a b) (λ e. e ∙ sym (le-leb c d (f (leb-true a b e))))
    (λ e. split (leb c d) (λ h. le-leb a b (g (leb-true c d h)) ∙ sym h) (λ h. e ∙ sym h))

-- a is at most b where b is not below a.
pub leb-not-ltb : (a b : ℕ) → leb a b ≡ not (ltb b a)
leb-not-ltb a b =
    split (leb a b) (λ e. e ∙ sym (ap not (le-ltb b a (leb-true a b e))))
    (λ e. e ∙ sym (ap not (lt-ltb b a (leb-false a b e))))

-- What holds of both choices holds of the choice.
pub by-test : {A : Type 0} (t : Bool) (x y : A) (P : A → Type 0) → (t ≡ true → P x) → (t ≡ false → P y) → P (cond t x y)
by-test true x y P f g = f refl
by-test false x y P f g = g refl
