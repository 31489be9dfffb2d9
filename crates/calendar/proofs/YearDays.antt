-- The month of a day from its year and its number there: the months of a leap year, and the cycle of a leap year and three common years.
-- Assumes nothing.
use Prim.Native.Nat.{ℕ, zero, suc, ◌+◌, ◌-◌, ◌*◌, ◌/◌, ◌%◌, ◌≤◌, ◌<◌}
use mathlib.Core.Path.{◌≡◌, sym, ap, ◌∙◌}
use mathlib.Core.Bool.{Bool, false, cond}
use mathlib.Core.List.{List, [], ◌∷◌}
use native.Mathlib.Nat.{add-suc}
use native.Mathlib.Omega.{arith}
use borrow.Author.Tests.{leb-true, leb-false, le-leb, lt-leb, ne_eqb}
use lib.Dec.{leb, eqb, eqb→eq, lit≤, lit<}
use lib.ListN.{get_or}
use Rattle.laws.specs.Cases.{split}
use Rattle.laws.specs.Tables.{every, every-at}
use Rattle.calendar.specs.Civil.{leap, length_in, length_of, first_day, begun, month_of}
use Rattle.calendar.specs.Laws.{first_day-mono, begun-le, begun_first, begun-next, begun-at, month_of-is}
use Rattle.calendar.specs.Years.{length_at, days_before, leap-fourth, first_day-at, first_day-year, first_day-cycle}
use Rattle.calendar.specs.Places.{with_leap_day}

-- the first days of the months of 2020, and of January 2021
abbrev firsts : List ℕ
firsts = 0 ∷ 31 ∷ 60 ∷ 91 ∷ 121 ∷ 152 ∷ 182 ∷ 213 ∷ 244 ∷ 274 ∷ 305 ∷ 335 ∷ 366 ∷ []

listed : ℕ → Bool
listed m = eqb (first_day m) (get_or firsts m 0)

first_day-listed : (m : ℕ) → m < 13 → first_day m ≡ get_or firsts m 0
unfolding listed every first_day length_of length_in leap
first_day-listed m h = eqb→eq (first_day m) (get_or firsts m 0) (every-at listed 13 tt m h)

-- the month of 2020 that holds a day, where it is not December
pub place_at : (m n : ℕ) → m < 11 → get_or firsts m 0 ≤ n → n < get_or firsts (suc m) 0 → m ≡ begun 11 n
place_at m n h f g =
    sym
    (begun-at 11 m n (omega arith) (omega (arith, first_day-listed m (omega arith)))
    (λ l. omega (arith, first_day-listed (suc m) (omega arith))))

pub place-december : (n : ℕ) → 335 ≤ n → 11 ≡ begun 11 n
place-december n h = sym (begun-at 11 11 n (lit≤ tt) (omega (arith, first_day-listed 11 (lit< tt))) (λ l. omega arith))

-- a day of the cycle's leap year
pub month-in-leap : (k n : ℕ) → k < 20 → n < 366 → month_of (1461 * k + n) ≡ 48 * k + begun 11 n
month-in-leap k n h l =
    let b : begun 11 n ≤ 11 = begun-le 11 n in
    let e : 48 * k + suc (begun 11 n) ≡ suc (48 * k + begun 11 n) = add-suc (48 * k) (begun 11 n) in
    month_of-is (48 * k + begun 11 n) (1461 * k + n) (omega arith)
    (omega (arith, first_day-cycle k (begun 11 n) (omega arith), begun_first 11 n))
    (omega (
      arith,
      ap first_day e,
      first_day-cycle k (suc (begun 11 n)) (omega arith),
      begun-next 11 n (omega (arith, first_day-listed 12 (lit< tt))),
    ))

-- the days before a month in a common year: one fewer than in a leap year from March on
fewer : ℕ → Bool
fewer p = eqb (first_day p) (days_before false p + cond (leb 2 p) 1 0)

days_before-common : (p : ℕ) → p < 13 → first_day p ≡ days_before false p + cond (leb 2 p) 1 0
unfolding fewer every first_day length_of length_in leap days_before length_at
days_before-common p h = eqb→eq (first_day p) (days_before false p + cond (leb 2 p) 1 0) (every-at fewer 13 tt p h)

days_before-march : (p : ℕ) → 2 ≤ p → p < 13 → first_day p ≡ days_before false p + 1
days_before-march p h l = rw (le-leb 2 p h) at (days_before-common p l)

-- a day of a common year is numbered alike in a leap year before March, and one higher from March on
pub with_leap_day-early : (n : ℕ) → n < 59 → with_leap_day n ≡ n
unfolding with_leap_day
with_leap_day-early n h = rw (lt-leb 59 n h) (omega arith)

pub with_leap_day-late : (n : ℕ) → 59 ≤ n → with_leap_day n ≡ n + 1
unfolding with_leap_day
with_leap_day-late n h = rw (le-leb 59 n h)

with_leap_day-le : (n : ℕ) → with_leap_day n ≤ n + 1
unfolding with_leap_day
with_leap_day-le n = split (leb 59 n) (λ t. rw t (omega arith)) (λ t. rw t (omega arith))

-- the month that holds the day in a leap year holds it in the common year
abbrev Holds : ℕ → ℕ → ℕ → Type 0
Holds p n s = p < 12 → first_day p ≤ s → s < first_day (suc p) → (days_before false p ≤ n) × (n < days_before false (suc p))

holds-early : (p n : ℕ) → n < 59 → Holds p n n
holds-early zero n e h f g = omega (arith, days_before-common 0 (lit< tt), days_before-common 1 (lit< tt))
holds-early (suc zero) n e h f g =
    omega (arith, days_before-common 1 (lit< tt), days_before-common 2 (lit< tt), first_day-listed 2 (lit< tt))
holds-early (suc (suc p)) n e h f g =
    omega (arith, first_day-listed 2 (lit< tt), first_day-mono 2 (suc (suc p)) (omega arith))

holds-late : (p n : ℕ) → 59 ≤ n → Holds p n (n + 1)
holds-late zero n e h f g = omega (arith, first_day-listed 1 (lit< tt))
holds-late (suc zero) n e h f g = omega (arith, first_day-listed 2 (lit< tt))
holds-late (suc (suc p)) n e h f g =
    omega (
      arith,
      days_before-march (suc (suc p)) (omega arith) (omega arith),
      days_before-march (suc (suc (suc p))) (omega arith) (omega arith),
    )

holds : (p n : ℕ) → Holds p n (with_leap_day n)
holds p n =
    split (leb 59 n) (λ t. let l : 59 ≤ n = leb-true 59 n t in rw (with_leap_day-late n l) (holds-late p n l))
    (λ t. let l : n < 59 = leb-false 59 n t in rw (with_leap_day-early n l) (holds-early p n l))

-- the three years after a leap year are common
after-leap : (k q : ℕ) → k < 20 → q < 3 → leap (2020 + (4 * k + 1 + q)) ≡ false
after-leap k q h l =
    leap-fourth (4 * k + 1 + q) (omega arith) ∙ ne_eqb ((4 * k + 1 + q) % 4) 0 (λ e. omega arith)

-- the first days of the months of such a year
common-first : (k q p : ℕ) → k < 20 → q < 3 → p ≤ 12
    → first_day (12 * (4 * k + 1 + q) + p) ≡ 1461 * k + 366 + 365 * q + days_before false p
common-first k q p h l m =
    omega (
      arith,
      first_day-at (4 * k + 1 + q) p m,
      first_day-year (4 * k + 1 + q) (omega arith),
      ap (λ (b : Bool). days_before b p) (after-leap k q h l),
    )

-- a day of one of the cycle's common years
pub month-in-common : (k q n : ℕ) → k < 20 → q < 3 → n < 365
    → month_of (1461 * k + 366 + 365 * q + n) ≡ 12 * (4 * k + 1 + q) + begun 11 (with_leap_day n)
month-in-common k q n h l m =
    let s : with_leap_day n < first_day 12 = omega (arith, first_day-listed 12 (lit< tt), with_leap_day-le n) in
    let b : begun 11 (with_leap_day n) ≤ 11 = begun-le 11 (with_leap_day n) in
    let within : (days_before false (begun 11 (with_leap_day n)) ≤ n) × (n < days_before false (suc (begun 11 (with_leap_day n))))
    = holds (begun 11 (with_leap_day n)) n (omega arith) (begun_first 11 (with_leap_day n)) (begun-next 11 (with_leap_day n) s) in
    month_of-is (12 * (4 * k + 1 + q) + begun 11 (with_leap_day n)) (1461 * k + 366 + 365 * q + n) (omega arith)
    (omega (arith, common-first k q (begun 11 (with_leap_day n)) h l (omega arith)))
    (omega (
      arith,
      ap first_day (add-suc (12 * (4 * k + 1 + q)) (begun 11 (with_leap_day n))),
      common-first k q (suc (begun 11 (with_leap_day n))) h l (omega arith),
    ))

-- the month of a day of the calendar, by the day's place in its cycle
pub month_early : (d : ℕ) → d ≤ 29219 → d % 1461 < 366 → 12 * (4 * (d / 1461)) + begun 11 (d % 1461) ≡ month_of d
month_early d h l =
    let e : 1461 * (d / 1461) + d % 1461 ≡ d = omega arith in
    omega (arith, month-in-leap (d / 1461) (d % 1461) (omega arith) l, ap month_of e)

pub month_later : (d : ℕ) → d ≤ 29219 → 366 ≤ d % 1461
    → 12 * (4 * (d / 1461) + 1 + (d % 1461 - 366) / 365) + begun 11 (with_leap_day ((d % 1461 - 366) % 365)) ≡ month_of d
month_later d h l =
    let e : 1461 * (d / 1461) + 366 + 365 * ((d % 1461 - 366) / 365) + (d % 1461 - 366) % 365 ≡ d = omega arith in
    let q : ℕ = (d % 1461 - 366) / 365 in
    let n : ℕ = (d % 1461 - 366) % 365 in
    sym (month-in-common (d / 1461) q n (omega arith) (omega arith) (omega arith)) ∙ ap month_of e
