-- Rules over a range of numbers: one test that is computed at each number below a bound proves the rule for all of them.
-- Assumes nothing.
use Rattle.std.specs.Prelude.{ℕ, zero, suc, ◌<◌, ◌≡◌, refl, Bool, true, false, ◌&&◌, T}
use Rattle.std.proofs.Common.{sym, subst, ⊎_elim, not-suc-le-zero, eq-or-lt_of_le, le_of_suc-le-suc}
use Rattle.std.specs.Bool.{beq}

-- the parts of a test that is the conjunction of two
pub and_left : (a b : Bool) → T (a && b) → T a
and_left true b t = tt
and_left false b t = t

pub and_right : (a b : Bool) → T (a && b) → T b
and_right true b t = t
and_right false b t = absurd t

-- two tests that agree are equal
pub beq-eq : (a b : Bool) → T (beq a b) → a ≡ b
beq-eq true true t = refl
beq-eq true false t = absurd t
beq-eq false true t = absurd t
beq-eq false false t = refl

-- the test f passes at each number below n
unfoldable pub every : (ℕ → Bool) → ℕ → Bool
every f zero = true
every f (suc n) = f n && every f n

-- a test that passes at each number below n passes at k, where k is below n
pub every-at : (f : ℕ → Bool) (n : ℕ) → T (every f n) → (k : ℕ) → k < n → T (f k)
unfolding every
every-at f zero t k h = absurd (not-suc-le-zero h)
every-at f (suc n) t k h =
    ⊎_elim (λ (e : k ≡ n). subst (λ (m : ℕ). T (f m)) (sym e) (and_left (f n) (every f n) t))
    (λ (l : k < n). every-at f n (and_right (f n) (every f n) t) k l)
    (eq-or-lt_of_le (le_of_suc-le-suc h))
