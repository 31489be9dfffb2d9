-- Texts in columns: blanks, digits and numbers with a point, as they are written one after the other.
-- Assumes nothing.
use Rattle.std.proofs.Common.{◌≡◌, ℕ, zero, suc, ◌+◌, ◌-◌, ◌*◌, ◌/◌, ◌%◌, ◌^◌, ◌≤◌, ◌<◌, [], ◌∷◌, length, replicate, refl, sym, ap, ◌∙◌, arith, length-append}
use Rattle.std.proofs.Math.Nat.{div-div-eq-div-mul, pow-suc}
use Rattle.std.specs.List.{fold, range_with_len}
use lib.ListN.{replicate-append-replicate}
use Rattle.printing.specs.Decimals.{decimal}
use Rattle.printing.specs.Written.{Sheet, followed}
use Rattle.printing.specs.WrittenLaws.{followed_none, followed_twice, decimal_step, decimal-small}
use Rattle.printing.specs.Columns.{digits, fixed}

-- How many digits a number has.

one_is : (k : ℕ) → 1 ≤ 10 ^ k
one_is zero = omega arith
one_is (suc k) = let e : 10 ^ suc k ≡ 10 ^ k * 10 = pow-suc 10 k in omega (arith, e, one_is k)

pub count_none : (n : ℕ) → n ≡ 0 → 1 ≡ length (decimal n)
count_none n e = rw (decimal-small n (omega arith))

-- One more than the number of tens in the largest power of ten that isn't above it.
pub count_power : (k n : ℕ) → 10 ^ k ≤ n → n < 10 * 10 ^ k → k + 1 ≡ length (decimal n)
count_power zero n l h = rw (decimal-small n h)
count_power (suc k) n l h =
    let e : 10 ^ suc k ≡ 10 ^ k * 10 = pow-suc 10 k in
    let d : k + 1 ≡ length (decimal (n / 10)) = count_power k (n / 10) (omega (arith, l, e)) (omega (arith, h, e)) in
    rw (decimal_step n (omega (arith, l, e, one_is k))) (omega (arith, d, length-append (decimal (n / 10)) ((48 + n % 10) ∷ [])))

-- The last digits of a number.

pub digits_none : (s : Sheet) (k n : ℕ) → k ≤ 0 → s ≡ followed s (digits k n)
unfolding digits
digits_none s k n h = let e : k ≡ 0 = omega arith in rw e (sym (followed_none s))

pub digits_more : (s u v : Sheet) (k n b : ℕ) → 0 < k → b ≡ 48 + n % 10 → u ≡ followed s (digits (k - 1) (n / 10)) → v ≡ followed u (b ∷ [])
    → v ≡ followed s (digits k n)
unfolding digits
digits_more s u v zero n b h m x y = absurd (omega arith)
digits_more s u v (suc k) n b h m x y =
    let i : suc k - 1 ≡ k = omega arith in
    rw (← m, ← followed_twice, ← (rw i at x)) y

pub digits-count : (k n : ℕ) → length (digits k n) ≡ k
unfolding digits
digits-count zero n = refl
digits-count (suc k) n = omega (arith, length-append (digits k (n / 10)) ((48 + n % 10) ∷ []), digits-count k (n / 10))

-- A number without its last digits.

wholes-ahead : (a k n : ℕ) → fold (λ left (_ : ℕ). left / 10) n (range_with_len a k) ≡ n / 10 ^ k
wholes-ahead a zero n = omega arith
wholes-ahead a (suc k) n =
    wholes-ahead (a + 1) k (n / 10) ∙ div-div-eq-div-mul n 10 (10 ^ k) ∙ ap (λ (p : ℕ). n / p) (let e : 10 ^ suc k ≡ 10 ^ k * 10 = pow-suc 10 k in omega (arith, e))

pub all_wholes : (k n : ℕ) → fold (λ left (_ : ℕ). left / 10) n (range_with_len 0 k) ≡ n / 10 ^ k
all_wholes k n = wholes-ahead 0 k n

-- A number with a point.

pub fixed_count : (k n : ℕ) → length (fixed k n) ≡ length (decimal (n / 10 ^ k)) + suc k
unfolding fixed
fixed_count k n = omega (arith, length-append (decimal (n / 10 ^ k)) (46 ∷ digits k n), digits-count k n)

-- Blanks, one by one.

pub no_blanks : (s : Sheet) → s ≡ followed s (replicate 0 32)
no_blanks s = sym (followed_none s)

pub blanks_more : (s u v : Sheet) (i : ℕ) → u ≡ followed s (replicate i 32) → v ≡ followed u (32 ∷ []) → v ≡ followed s (replicate (i + 1) 32)
blanks_more s u v i x y = rw (← replicate-append-replicate {A = ℕ} i 1 32, ← followed_twice, ← x) y
