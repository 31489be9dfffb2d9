-- Days and months as words: the form, the date's parts held in 32 bits, and the calendar's answer.
-- Assumes nothing.
use Rattle.std.proofs.Common.{ℕ, ◌+◌, ◌-◌, ◌≤◌, min, ◌≡◌, sym, ap, ◌∙◌, true, false, ◌&&◌, List, Option, Some, None, length, take, drop, get_or, arith}
use borrow.Author.Tests.{eqb-true}
use lib.Dec.{eqb}
use Rattle.laws.specs.Cases.{split, and_left}
use Rattle.calendar.specs.Civil.{first_day, month_of}
use Rattle.calendar.specs.Dates.{is_date, month_number, day_of_date}
use Rattle.calendar.specs.DateLaws.{is-exists, number_small, number-length}
use Rattle.calendar.specs.Laws.{length_of-range, month_of-in}
use Rattle.calendar.specs.declared.Day.{Day}
use Rattle.words.specs.Numerals.{natural, value}
use Rattle.words.specs.Dates.{is_dated, is_monthed, numbered, dated_day, numbered_month, dated_month}

-- what there is of a date's first of the month
first-day : (y m : ℕ) → is_date y m 1 ≡ true → day_of_date y m 1 ≡ Some (record { 0 = first_day (month_number y m) + (1 - 1) })
unfolding day_of_date
first-day y m t = rw t

no-day : (y m d : ℕ) → is_date y m d ≡ false → day_of_date y m d ≡ None
unfolding day_of_date
no-day y m d t = rw t

first-month : (y m : ℕ) → is_date y m 1 ≡ true → month_of (first_day (month_number y m) + (1 - 1)) ≡ month_number y m
first-month y m t =
    month_of-in (month_number y m) (1 - 1) (number_small y m 1 (is-exists y m 1 t))
    (omega (arith, length_of-range (month_number y m)))

same-day : (x : Option Day) (a b : Day) → x ≡ Some a → x ≡ Some b → a ≡ b
same-day x a b e f = cc

never_both : (x : Option Day) (a : Day) → x ≡ Some a → x ≡ None → ⊥
never_both x a e f = let z : ◌≡◌ {A = ℕ} 0 1 = cc in omega arith

pub month_on : (y m : ℕ) (d : Day) → day_of_date y m 1 ≡ Some d → Some (month_of d.0) ≡ numbered_month y m
unfolding numbered_month
month_on y m d e =
    split (is_date y m 1)
    (λ t.
    let s = same-day (day_of_date y m 1) d (record { 0 = first_day (month_number y m) + (1 - 1) }) e (first-day y m t) in
    let k : month_of d.0 ≡ month_number y m = ap (λ (z : Day). month_of z.0) s ∙ first-month y m t in
    rw (t, k))
    (λ t. absurd (never_both (day_of_date y m 1) d e (no-day y m 1 t)))

pub month_none : (y m : ℕ) → day_of_date y m 1 ≡ None → None ≡ numbered_month y m
unfolding numbered_month
month_none y m e =
    split (is_date y m 1)
    (λ t. absurd (never_both (day_of_date y m 1) (record { 0 = first_day (month_number y m) + (1 - 1) }) (first-day y m t) e))
    (λ t. rw t)

-- A word of the form 2021-10 or 2021-10-01 is that long.

module _ (w : List ℕ) where
  pub monthed_long : is_monthed w ≡ true → length w ≡ 7
  unfolding is_monthed
  monthed_long e =
      eqb-true (length w) 7
      (and_left (eqb (length w) 7) (eqb (get_or w 4 0) 45 && (natural (take 4 (drop 0 w)) && natural (take 2 (drop 5 w)))) e)

  pub dated_long : is_dated w ≡ true → length w ≡ 10
  unfolding is_dated
  dated_long e =
      eqb-true (length w) 10
      (and_left (eqb (length w) 10)
      (eqb (get_or w 4 0) 45 && (eqb (get_or w 7 0) 45 && (natural (take 4 (drop 0 w)) && (natural (take 2 (drop 5 w)) && natural (take 2 (drop 8 w))))))
      e)

-- Parts held in 32 bits give the same day.

-- the parts of a date are small
parts-small : (y m d : ℕ) → is_date y m d ≡ true → (y ≤ 2099) × (m ≤ 12) × (d ≤ 31)
parts-small y m d t =
    let e = is-exists y m d t in
    (e.to, e.december, omega (arith, e.last, number-length y m d e, length_of-range (month_number y m)))

module _ (y m d : ℕ) where
  abbrev held : ℕ → ℕ
  held n = min n 4294967295

  held_same : (held y ≡ y) × (held m ≡ m) × (held d ≡ d) → day_of_date (held y) (held m) (held d) ≡ day_of_date y m d
  held_same e = rw (e.0, e.1, e.2)

  held-parts : is_date (held y) (held m) (held d) ≡ true → (held y ≡ y) × (held m ≡ m) × (held d ≡ d)
  held-parts t = let p = parts-small (held y) (held m) (held d) t in (omega arith, omega arith, omega arith)

  true-parts : is_date y m d ≡ true → (held y ≡ y) × (held m ≡ m) × (held d ≡ d)
  true-parts t = let p = parts-small y m d t in (omega arith, omega arith, omega arith)

  pub held-day : day_of_date (held y) (held m) (held d) ≡ day_of_date y m d
  held-day =
      split (is_date (held y) (held m) (held d)) (λ t. held_same (held-parts t))
      (λ t.
      split (is_date y m d) (λ u. held_same (true-parts u))
      (λ u. no-day (held y) (held m) (held d) t ∙ sym (no-day y m d u)))

module _ (y m : ℕ) where
  -- the same for a month
  month-parts : (is_date (min y 4294967295) (min m 4294967295) 1 ≡ true) → (min y 4294967295 ≡ y) × (min m 4294967295 ≡ m)
  month-parts t = let p = parts-small (min y 4294967295) (min m 4294967295) 1 t in (omega arith, omega arith)

  month-true : is_date y m 1 ≡ true → (min y 4294967295 ≡ y) × (min m 4294967295 ≡ m)
  month-true t = let p = parts-small y m 1 t in (omega arith, omega arith)

  month-same : (min y 4294967295 ≡ y) × (min m 4294967295 ≡ m) → numbered_month (min y 4294967295) (min m 4294967295) ≡ numbered_month y m
  month-same e = rw (e.0, e.1)

  pub held-month : numbered_month (min y 4294967295) (min m 4294967295) ≡ numbered_month y m
  unfolding numbered_month
  held-month =
      split (is_date (min y 4294967295) (min m 4294967295) 1) (λ t. month-same (month-parts t))
      (λ t. split (is_date y m 1) (λ u. month-same (month-true u)) (λ u. rw (t, u)))

-- The words.

module _ (w : List ℕ) where
  dated-held : is_dated w ≡ true → (y m d : ℕ) → y ≡ min (value (take (4 - 0) (drop 0 w))) 4294967295
      → m ≡ min (value (take (7 - 5) (drop 5 w))) 4294967295 → d ≡ min (value (take (10 - 8) (drop 8 w))) 4294967295
      → numbered (day_of_date y m d) ≡ dated_day w
  unfolding dated_day
  dated-held t y m d e g h =
      rw (e, g, h, t) (ap numbered (held-day (value (take 4 (drop 0 w))) (value (take 2 (drop 5 w))) (value (take 2 (drop 8 w)))))

  pub dated_is : is_dated w ≡ true → (y m d : ℕ) → y ≡ min (value (take (4 - 0) (drop 0 w))) 4294967295
      → m ≡ min (value (take (7 - 5) (drop 5 w))) 4294967295 → d ≡ min (value (take (10 - 8) (drop 8 w))) 4294967295
      → (x : Day) → day_of_date y m d ≡ Some x → Some x.0 ≡ dated_day w
  unfolding numbered
  dated_is t y m d e g h x k = sym (ap numbered k) ∙ dated-held t y m d e g h

  pub dated_none : is_dated w ≡ true → (y m d : ℕ) → y ≡ min (value (take (4 - 0) (drop 0 w))) 4294967295
      → m ≡ min (value (take (7 - 5) (drop 5 w))) 4294967295 → d ≡ min (value (take (10 - 8) (drop 8 w))) 4294967295
      → day_of_date y m d ≡ None → None ≡ dated_day w
  unfolding numbered
  dated_none t y m d e g h k = sym (ap numbered k) ∙ dated-held t y m d e g h

  pub dated_not : is_dated w ≡ false → None ≡ dated_day w
  unfolding dated_day
  dated_not e = rw e

  pub monthed_is : is_monthed w ≡ true → (y m : ℕ) → y ≡ min (value (take (4 - 0) (drop 0 w))) 4294967295
      → m ≡ min (value (take (7 - 5) (drop 5 w))) 4294967295 → numbered_month y m ≡ dated_month w
  unfolding dated_month
  monthed_is t y m e g = rw (e, g, t) (held-month (value (take 4 (drop 0 w))) (value (take 2 (drop 5 w))))

  pub monthed_not : is_monthed w ≡ false → None ≡ dated_month w
  unfolding dated_month
  monthed_not e = rw e
