-- Laws of the years 2020 to 2099: one of four is a leap year, and each year has 365 days or, a leap year, 366.
-- Assumes nothing.
use Rattle.std.specs.Prelude.{ℕ, zero, suc, ◌+◌, ◌*◌, ◌/◌, ◌%◌, ◌≤◌, ◌<◌, ◌≡◌, refl, Bool, true, false, cond, ◌&&◌, eqb, get_or}
use Rattle.std.proofs.Common.{ap, sym, ◌∙◌, add-suc, arith, eqb-true, lit≤}
use Rattle.std.specs.Bool.{beq}
use Rattle.std.proofs.lemmas.Bool.{eqb-false}
use Rattle.laws.specs.Cases.{split}
use Rattle.laws.specs.Tables.{beq-eq, every, every-at}
use Rattle.calendar.specs.Civil.{leap, common_lengths, length_in, length_of, first_day}

fourth : ℕ → Bool
fourth q = beq (leap (2020 + q)) (eqb (q % 4) 0)

-- in 2020 to 2099 every fourth year is a leap year, the first of them 2020
pub leap-fourth : (q : ℕ) → q < 80 → leap (2020 + q) ≡ eqb (q % 4) 0
unfolding leap every fourth
leap-fourth q h = beq-eq (leap (2020 + q)) (eqb (q % 4) 0) (every-at fourth 80 tt q h)

-- the length of the month at a place of a leap year (true) or of a common one, and the days of that year before it
unfoldable pub length_at : Bool → ℕ → ℕ
length_at b p = get_or common_lengths p 0 + cond (b && eqb p 1) 1 0

unfoldable pub days_before : Bool → ℕ → ℕ
days_before b zero = 0
days_before b (suc p) = days_before b p + length_at b p

-- the length of the month at place p of the year 2020 + y
pub length_of-at : (y p : ℕ) → p < 12 → length_of (12 * y + p) ≡ length_at (leap (2020 + y)) p
unfolding length_of length_in length_at
length_of-at y p h =
    let e : (12 * y + p) / 12 ≡ y = omega arith in
    let f : (12 * y + p) % 12 ≡ p = omega arith in
    rw (e, f)

-- a month's first day: that of its year, and the days of the year before it
pub first_day-at : (y p : ℕ) → p ≤ 12 → first_day (12 * y + p) ≡ first_day (12 * y) + days_before (leap (2020 + y)) p
unfolding days_before first_day
first_day-at y zero h = let e : 12 * y + 0 ≡ 12 * y = omega arith in rw e (omega arith)
first_day-at y (suc p) h =
    let l : p ≤ 12 = omega arith in
    rw (add-suc (12 * y) p) (omega (arith, first_day-at y p l, length_of-at y p h))

-- the days of a whole year
pub days_before-year : (b : Bool) → days_before b 12 ≡ 365 + cond b 1 0
unfolding days_before length_at
days_before-year true = refl
days_before-year false = refl

-- the leap years before a year, and that year if it is one
leaps-step : (y : ℕ) → cond (eqb (y % 4) 0) 1 0 + (y + 3) / 4 ≡ (suc y + 3) / 4
leaps-step y =
    split (eqb (y % 4) 0) (λ t. let e : y % 4 ≡ 0 = eqb-true (y % 4) 0 t in rw t (omega arith))
    (λ t. let e : y % 4 ≡ 0 → ⊥ = eqb-false (y % 4) 0 t in rw t (omega arith))

year-length : (y : ℕ) → y < 80 → days_before (leap (2020 + y)) 12 + (y + 3) / 4 ≡ 365 + (suc y + 3) / 4
year-length y h = rw (leap-fourth y h) (omega (arith, days_before-year (eqb (y % 4) 0), leaps-step y))

first_day-zero : first_day 0 ≡ 0
unfolding first_day
first_day-zero = refl

-- a year's first day: 365 days for each year before it, and one for each leap year before it
pub first_day-year : (y : ℕ) → y ≤ 80 → first_day (12 * y) ≡ 365 * y + (y + 3) / 4
first_day-year zero h = first_day-zero
first_day-year (suc y) h =
    let l : y ≤ 80 = omega arith in
    let e : 12 * suc y ≡ 12 * y + 12 = omega arith in
    rw e (omega (arith, first_day-at y 12 (lit≤ tt), first_day-year y l, year-length y h))

-- month 960 would begin on day 29,220
pub first_day-last : first_day 960 ≡ 29220
first_day-last = first_day-year 80 (lit≤ tt)

-- a year of a later cycle is a leap year where that of the first cycle is
pub leap-cycle : (k q : ℕ) → 4 * k + q < 80 → leap (2020 + (4 * k + q)) ≡ leap (2020 + q)
leap-cycle k q h =
    let l : q < 80 = omega arith in
    let e : (4 * k + q) % 4 ≡ q % 4 = omega arith in
    leap-fourth (4 * k + q) h ∙ ap (λ (r : ℕ). eqb r 0) e ∙ sym (leap-fourth q l)

in-cycle : (k q p : ℕ) → p < 12 → 4 * k + q < 80 → first_day (12 * (4 * k + q) + p) ≡ 1461 * k + first_day (12 * q + p)
in-cycle k q p h l =
    omega (
      arith,
      first_day-at (4 * k + q) p (omega arith),
      first_day-at q p (omega arith),
      first_day-year (4 * k + q) (omega arith),
      first_day-year q (omega arith),
      ap (λ (b : Bool). days_before b p) (leap-cycle k q l),
    )

-- a month's first day in a cycle of four years: 1,461 days for each cycle before it
pub first_day-cycle : (k j : ℕ) → 48 * k + j < 960 → first_day (48 * k + j) ≡ 1461 * k + first_day j
first_day-cycle k j h =
    let e : 48 * k + j ≡ 12 * (4 * k + j / 12) + j % 12 = omega arith in
    let f : j ≡ 12 * (j / 12) + j % 12 = omega arith in
    ap first_day e ∙ in-cycle k (j / 12) (j % 12) (omega arith) (omega arith) ∙ ap (λ (m : ℕ). 1461 * k + first_day m) (sym f)
