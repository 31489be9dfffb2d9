-- From 1 September to 10 October of a year.
-- Assumes nothing.
use Prim.Native.Nat.{ℕ, suc, ◌+◌, ◌-◌, ◌%◌, ◌≤◌, ◌<◌}
use mathlib.Core.Path.{◌≡◌, refl, ap, ◌∙◌}
use mathlib.Core.Bool.{true, false}
use native.Mathlib.Omega.{arith}
use lib.Dec.{leb, eqb}
use borrow.Author.Tests.{leb-true, le-leb, eqb-true, eqb-false, eq-eqb}
use Rattle.laws.specs.Cases.{split, clash, and_left, and_right, and_both}
use Rattle.calendar.specs.Civil.{place_of, first_day, length_of, month_of, day_of_month, is_september, in_annual_days, is_first_october}
use Rattle.calendar.specs.Laws.{first_day-mono, first_day-suc, month_of-first, month_of-last, month_of-is, month_of-in, day_of_month-in, day_of_month-sum, length_of-range}
use Rattle.calendar.specs.Years.{first_day-last}
use Rattle.figures.specs.DeletionLaws.{in_first_ten_of_october}

-- The next 1 October after day t, which lies in September.
pub record NextOctober (t : ℕ) : Type 0 where
  pub day : ℕ
  pub first : is_first_october day ≡ true
  pub later : t < day
  pub september : (d : ℕ) → t ≤ d → d < day → is_september (month_of d) ≡ true
  pub ten : (d : ℕ) → day ≤ d → d ≤ day + 9 → in_first_ten_of_october d ≡ true

-- A day of 1 to 10 September, and the 1 October after it.
module _ (t : ℕ) (h : in_annual_days t ≡ true) where
  small : t ≤ 29219
  unfolding in_annual_days
  small = leb-true t 29219 (and_left _ _ h)

  place : month_of t % 12 ≡ 8
  unfolding in_annual_days is_september
  place = eqb-true (month_of t % 12) 8 (and_left _ _ (and_right (leb t 29219) _ h))

  tenth : day_of_month t ≤ 10
  unfolding in_annual_days
  tenth = leb-true (day_of_month t) 10 (and_right (is_september (month_of t)) _ (and_right (leb t 29219) _ h))

  month : suc (month_of t) < 959
  month = omega (arith, place, month_of-last t small)

  abbrev october : ℕ
  october = first_day (suc (month_of t))

  starts : first_day (suc (month_of t)) ≤ 29192
  starts =
      omega (
        arith,
        month,
        first_day-mono (suc (suc (month_of t))) 960 (omega (arith, month)),
        first_day-suc (suc (month_of t)),
        (length_of-range (suc (month_of t))).0,
        first_day-last,
      )

  -- The k-th day after that 1 October.
  module _ (d k : ℕ) (e : d ≡ october + k) (l : k < 10) where
    within : k < length_of (suc (month_of t))
    within = omega (arith, l, (length_of-range (suc (month_of t))).0)

    calendar-day : leb d 29219 ≡ true
    calendar-day = le-leb d 29219 (omega (arith, e, l, starts))

    in-october : eqb (place_of (month_of d)) 9 ≡ true
    in-october =
        let next : suc (month_of t) % 12 ≡ 9 = omega (arith, place) in
        eq-eqb (month_of d % 12) 9
        (ap (λ (x : ℕ). month_of x % 12) e
        ∙ ap (λ (x : ℕ). x % 12) (month_of-in (suc (month_of t)) k (omega (arith, month)) within)
        ∙ next)

    day-is : day_of_month d ≡ k + 1
    day-is = ap day_of_month e ∙ day_of_month-in (suc (month_of t)) k (omega (arith, month)) within

    one-of-ten : in_first_ten_of_october d ≡ true
    unfolding in_first_ten_of_october
    one-of-ten = and_both _ _ calendar-day (and_both _ _ in-october (le-leb (day_of_month d) 10 (omega (arith, day-is, l))))

    the-first : k ≡ 0 → is_first_october d ≡ true
    unfolding is_first_october
    the-first z = and_both _ _ calendar-day (and_both _ _ in-october (eq-eqb (day_of_month d) 1 (omega (arith, day-is, z))))

  same-month : (d : ℕ) → t ≤ d → d < october → is_september (month_of d) ≡ true
  unfolding is_september
  same-month d from to =
      ap (λ (m : ℕ). eqb (m % 12) 8) (month_of-is (month_of t) d (omega (arith, month)) (omega (arith, month_of-first t, from)) to)
      ∙ eq-eqb (month_of t % 12) 8 place

  pub next-october : NextOctober t
  next-october =
      record {
        day = october;
        first = the-first october 0 (omega arith) (omega arith) refl;
        later = omega (arith, first_day-suc (month_of t), (length_of-range (month_of t)).0, day_of_month-sum t, tenth);
        september = same-month;
        ten = λ d from to. one-of-ten d (d - october) (omega (arith, from)) (omega (arith, from, to));
      }

-- A call of one of these days has ended by that 1 October.
pub ended-by-october : (t : ℕ) (h : in_annual_days t ≡ true) → t + 10 < (next-october t h).day
unfolding next-october
ended-by-october t h = omega (arith, first_day-suc (month_of t), (length_of-range (month_of t)).0, day_of_month-sum t, tenth t h)

-- The same 1 October is the next one a day later, where that day isn't it.
abbrev pub one-day-on : (t : ℕ) (o : NextOctober t) → is_first_october (suc t) ≡ false → NextOctober (suc t)
one-day-on t o h =
    record {
      day = o.day;
      first = o.first;
      later =
          split (eqb (suc t) o.day)
          (λ e. clash (ap is_first_october (eqb-true (suc t) o.day e) ∙ o.first) h)
          (λ e. omega (arith, eqb-false (suc t) o.day e, o.later));
      september = λ d from to. o.september d (omega (arith, from)) to;
      ten = o.ten;
    }

-- No 1 October lies in a September.
pub not-in-september : (d : ℕ) → is_first_october d ≡ true → is_september (month_of d) ≡ true → ⊥
unfolding is_first_october is_september
not-in-september d f h =
    let nine : month_of d % 12 ≡ 9 = eqb-true (month_of d % 12) 9 (and_left _ _ (and_right (leb d 29219) _ f)) in
    let eight : month_of d % 12 ≡ 8 = eqb-true (month_of d % 12) 8 h in
    omega arith
