-- Leap years, the lengths of months and their first days, by the tests and sums of the code.
-- Assumes nothing.
use Prim.Native.Nat.{ℕ, zero, suc, ◌+◌, ◌*◌, ◌/◌, ◌%◌, ◌≤◌, ◌<◌}
use mathlib.Core.Path.{◌≡◌, sym, ◌∙◌}
use native.Mathlib.Nat.{min-eq_left, min-eq_right}
use native.Mathlib.Omega.{arith}
use Rattle.calendar.specs.Civil.{length_in, length_of, first_day, first_day_of}
use Rattle.calendar.specs.Laws.{first_day-mono, first_day-suc}
use Rattle.calendar.specs.Years.{first_day-year, first_day-last}
use Rattle.std.specs.List.{sum_by, range_with_len}
use Rattle.std.proofs.lemmas.List.Sums.{sum_by-cons}

-- the first day of a number that is no month
pub first_day_of-none : (m : ℕ) → 960 ≤ m → 29220 ≡ first_day_of m
unfolding first_day_of
first_day_of-none m h = rw (min-eq_right h) (sym first_day-last)

pub first_day_of-is : (m : ℕ) → m < 960 → first_day_of m ≡ first_day m
unfolding first_day_of
first_day_of-is m h = let l : m ≤ 960 = omega arith in rw (min-eq_left l)

-- a month's length more
month-more : (y i : ℕ) → i < 12 → first_day (12 * y + i) + length_in (2020 + y) i ≡ first_day (12 * y + (i + 1))
unfolding length_of
month-more y i h =
    let a : 12 * y + (i + 1) ≡ suc (12 * y + i) = omega arith in
    let b : (12 * y + i) / 12 ≡ y = omega arith in
    let g : (12 * y + i) % 12 ≡ i = omega arith in
    let l : length_of (12 * y + i) ≡ length_in (2020 + y) i = rw (b, g) in
    rw a (omega (arith, first_day-suc (12 * y + i)))

-- the sum of the lengths of n months of a year, from month a on
months-more : (y a n : ℕ) → a + n ≤ 12
    → first_day (12 * y + a) + sum_by (λ i. length_in (2020 + y) i) (range_with_len a n) ≡ first_day (12 * y + (a + n))
months-more y a zero h = let e : a + 0 ≡ a = omega arith in rw e (omega arith)
months-more y a (suc n) h =
    let e : a + suc n ≡ a + 1 + n = omega arith in
    rw e (omega (arith, sum_by-cons (λ (i : ℕ). length_in (2020 + y) i) a (range_with_len (a + 1) n), month-more y a (omega arith), months-more y (a + 1) n (omega arith)))

-- the same of the months before a month in its year, behind the year's first day
lengths : (m : ℕ) → m < 960
    → 365 * (m / 12) + (m / 12 + 3) / 4 + sum_by (λ i. length_in (2020 + m / 12) i) (range_with_len 0 (m % 12)) ≡ first_day m
lengths m h =
    let e : 12 * (m / 12) + (0 + m % 12) ≡ m = omega arith in
    let z : 12 * (m / 12) + 0 ≡ 12 * (m / 12) = omega arith in
    let all : first_day (12 * (m / 12)) + sum_by (λ i. length_in (2020 + m / 12) i) (range_with_len 0 (m % 12)) ≡ first_day m
    = rw (e, z) at (months-more (m / 12) 0 (m % 12) (omega arith)) in
    omega (arith, all, first_day-year (m / 12) (omega arith))

first_day-small : (m : ℕ) → m ≤ 960 → first_day m ≤ 29220
first_day-small m h = omega (arith, first_day-last, first_day-mono m 960 h)

pub lengths-small : (m : ℕ) → m < 960
    → 365 * (m / 12) + (m / 12 + 3) / 4 + sum_by (λ i. length_in (2020 + m / 12) i) (range_with_len 0 (m % 12)) ≤ 29220
lengths-small m h = omega (arith, lengths m h, first_day-small m (omega arith))

pub lengths-end : (m s : ℕ) → m < 960 → s ≡ sum_by (λ i. length_in (2020 + m / 12) i) (range_with_len 0 (m % 12))
    → 365 * (m / 12) + (m / 12 + 3) / 4 + s ≡ first_day_of m
lengths-end m s h e = rw e (lengths m h) ∙ sym (first_day_of-is m h)
