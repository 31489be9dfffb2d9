-- Division of signed numbers rounded down and to the nearest whole, with what bounds them.
-- Bounds are kept in ℕ, by `nat_abs`.
-- Assumes nothing.
use Rattle.std.specs.Prelude.{ℕ, zero, suc, ◌+◌, ◌*◌, ◌/◌, ◌^◌, ◌≤◌, ◌<◌, ◌≡◌, refl, false, T, leb, ltb, ℤ, pos, negsuc, neg_ℤ, nat_abs, ◌+ℤ◌, ◌-ℤ◌, ◌*ℤ◌, ◌≤ℤ◌, ◌<ℤ◌}
use Rattle.std.proofs.Common.{div-mul-le_self, zero-mul, suc-mul, add-one, arith, sym, ap, leb→le, ltb→lt, le→leb, lt→ltb, SFits}
use Rattle.std.proofs.Math.Nat.{lt-div-mul-add, div-eq_of_lt-le}
use Rattle.std.proofs.Math.Dec.{leb-zero, leb-suc-zero, leb-suc-suc}
use Rattle.std.proofs.Math.IntN.{suc_ℤ}
use Rattle.std.specs.Int.Signed.{mag, lt_z, le_z}
use Rattle.std.specs.Int.{w64}
use Rattle.laws.specs.Integers.{nat_abs-add}

-- x / n rounded down, for n above 0: the whole number q with q × n ≤ x < (q + 1) × n (`floor_div-law`).
unfoldable pub floor_div : ℤ → ℕ → ℤ
floor_div (pos a) n = pos (a / n)
floor_div (negsuc a) n = negsuc (a / n)

-- x / n to the nearest whole, halves upward, below zero too: x / n + 1/2 rounded down (`nearest-law`, `nearest-only`).
unfoldable pub nearest : ℤ → ℕ → ℤ
nearest x n = floor_div (pos 2 *ℤ x +ℤ pos n) (2 * n)

-- ---- the law of the division

-- the order of two numbers of which the one is -m and the other -(a + 1), as an order of naturals
neg-le : (m a : ℕ) → le_z (neg_ℤ (pos m)) (negsuc a) ≡ ltb a m
neg-le zero a = sym (leb-suc-zero a)
neg-le (suc m) a = sym (leb-suc-suc a m)

lt-neg : (m a : ℕ) → lt_z (negsuc a) (neg_ℤ (pos m)) ≡ leb m a
lt-neg zero a = sym (leb-zero a)
lt-neg (suc m) a = refl

-- no natural number is below -m
pos-neg : (m a : ℕ) → lt_z (pos a) (neg_ℤ (pos m)) ≡ false
pos-neg zero a = leb-suc-zero a
pos-neg (suc m) a = refl

-- the number after -(q + 1) is -q
after : (q n : ℕ) → suc_ℤ (negsuc q) *ℤ pos n ≡ neg_ℤ (pos (q * n))
after zero n = rw (zero-mul n)
after (suc q) n = refl

next : (a n : ℕ) → 0 < n → a < suc (a / n) * n
next a n h = rw suc-mul (lt-div-mul-add h)

pub floor_div-law : (x : ℤ) (n : ℕ) → 0 < n → ((floor_div x n *ℤ pos n) ≤ℤ x) × (x <ℤ (suc_ℤ (floor_div x n) *ℤ pos n))
unfolding floor_div
floor_div-law (pos a) n h =
    (record { le = le→leb (a / n * n) a (div-mul-le_self a n) }, record { lt = lt→ltb a (suc (a / n) * n) (next a n h) })
floor_div-law (negsuc a) n h = (
  record { le = rw (neg-le (suc (a / n) * n) a) (lt→ltb a (suc (a / n) * n) (next a n h)) },
  record { lt = rw (after (a / n) n, lt-neg (a / n * n) a) (le→leb (a / n * n) a (div-mul-le_self a n)) },
)

quotient : (q a n : ℕ) → T (leb (q * n) a) → T (ltb a (suc q * n)) → q ≡ a / n
quotient q a n l u = sym (div-eq_of_lt-le n (leb→le (q * n) a l) (rw (add-one q) (ltb→lt a (suc q * n) u)))

-- no other whole number has the two bounds
pub floor_div-only : (x q : ℤ) (n : ℕ) → (q *ℤ pos n) ≤ℤ x → x <ℤ (suc_ℤ q *ℤ pos n) → q ≡ floor_div x n
unfolding floor_div
floor_div-only (pos a) (pos q) n l u = ap pos (quotient q a n l.le u.lt)
floor_div-only (pos a) (negsuc q) n l u = absurd (rw (after q n, pos-neg (q * n) a) at u.lt)
floor_div-only (negsuc a) (pos q) n l u = absurd l.le
floor_div-only (negsuc a) (negsuc q) n l u =
    ap negsuc (quotient q a n (rw (after q n, lt-neg (q * n) a) at u.lt) (rw (neg-le (suc q * n) a) at l.le))

-- `nearest x n` is the nearest whole number to x / n, halves upward: it is the only whole number q with q - 1/2 ≤ x / n < q + 1/2. Both
-- bounds are stated in integers, multiplied by 2 × n: 2 × n × q ≤ 2 × x + n < 2 × n × (q + 1).
pub nearest-law : (x : ℤ) (n : ℕ) → 0 < n
    → ((nearest x n *ℤ pos (2 * n)) ≤ℤ (pos 2 *ℤ x +ℤ pos n)) × ((pos 2 *ℤ x +ℤ pos n) <ℤ (suc_ℤ (nearest x n) *ℤ pos (2 * n)))
unfolding nearest
nearest-law x n h = floor_div-law (pos 2 *ℤ x +ℤ pos n) (2 * n) (omega arith)

pub nearest-only : (x q : ℤ) (n : ℕ) → (q *ℤ pos (2 * n)) ≤ℤ (pos 2 *ℤ x +ℤ pos n)
    → (pos 2 *ℤ x +ℤ pos n) <ℤ (suc_ℤ q *ℤ pos (2 * n)) → q ≡ nearest x n
unfolding nearest
nearest-only x q n l u = floor_div-only (pos 2 *ℤ x +ℤ pos n) q (2 * n) l u

-- ---- bounds

nat_abs-neg : (x : ℤ) → nat_abs (neg_ℤ x) ≡ nat_abs x
nat_abs-neg (pos zero) = refl
nat_abs-neg (pos (suc n)) = refl
nat_abs-neg (negsuc n) = refl

pub nat_abs-minus : (x y : ℤ) → nat_abs (x -ℤ y) ≤ nat_abs x + nat_abs y
nat_abs-minus x y = omega (arith, nat_abs-add x (neg_ℤ y), nat_abs-neg y)

pub nat_abs_mul : (x y : ℤ) → nat_abs (x *ℤ y) ≡ nat_abs x * nat_abs y
nat_abs_mul (pos a) (pos b) = refl
nat_abs_mul (pos a) (negsuc b) = nat_abs-neg (pos (a * suc b))
nat_abs_mul (negsuc a) (pos b) = nat_abs-neg (pos (suc a * b))
nat_abs_mul (negsuc a) (negsuc b) = refl

pub floor_div-bound : (x : ℤ) (n : ℕ) → nat_abs (floor_div x n) * n ≤ nat_abs x + n
unfolding floor_div
floor_div-bound (pos a) n = omega (arith, div-mul-le_self a n)
floor_div-bound (negsuc a) n = rw suc-mul (omega (arith, div-mul-le_self a n))

mag-nat_abs : (x : ℤ) → mag x ≤ nat_abs x
mag-nat_abs (pos a) = omega arith
mag-nat_abs (negsuc a) = omega arith

-- a number whose magnitude is below 2^63 fits an `i64`
pub fits_nat_abs : (x : ℤ) → nat_abs x < 2 ^ 63 → SFits w64 x
fits_nat_abs x h = record { sfits = omega (arith, mag-nat_abs x) }
