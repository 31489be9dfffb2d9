-- Positions, amounts and days at their bounds (paper 01, 'One participant's file', 'Lodge' and 'Release').
-- Assumes nothing.
use Rattle.std.specs.Prelude.{ℕ, ◌≡◌, true, false}
use Rattle.file.specs.declared.Position.{Position}
use Rattle.file.specs.declared.Position.TheVariants.{Empty, Cash, Letter}
use Rattle.file.specs.Position.{amount_of, in_force_through, in_force, counts_through, filled, lapsed_by, emptied_on, not_releasable, outside_amounts, against_days}

-- A letter of an amount, with its first and its last day.
abbrev pub letter_with : ℕ → ℕ → ℕ → Position
letter_with a first last = Letter a (record { 0 = first }) (record { 0 = last })

pub record Positions : Type 0 where
  -- "Each is empty, cash with its amount, or a letter with amount, first day and last day"
  pub amount-empty : amount_of Empty ≡ 0
  pub amount-cash : amount_of (Cash 5) ≡ 5
  pub amount-letter : amount_of (letter_with 5 10 20) ≡ 5
  pub filled-empty : filled Empty ≡ false
  pub filled-cash : filled (Cash 5) ≡ true
  pub filled-letter : filled (letter_with 5 10 20) ≡ true
  -- "first day and last day, both included": whether its days include a day
  pub before-its-first : in_force 9 (letter_with 5 10 20) ≡ false
  pub on-its-first : in_force 10 (letter_with 5 10 20) ≡ true
  pub on-its-last : in_force 20 (letter_with 5 10 20) ≡ true
  pub after-its-last : in_force 21 (letter_with 5 10 20) ≡ false
  -- .. or all from one day to another
  pub through-its-days : in_force_through 10 20 (letter_with 5 10 20) ≡ true
  pub through-from-before : in_force_through 9 20 (letter_with 5 10 20) ≡ false
  pub through-to-after : in_force_through 10 21 (letter_with 5 10 20) ≡ false
  pub through-none : in_force_through 10 20 Empty ≡ false
  pub through-cash : in_force_through 29219 29230 (Cash 5) ≡ true
  -- "all cash plus every letter whose days include it"
  pub counts-cash : counts_through 0 0 (Cash 5) ≡ 5
  pub counts-empty : counts_through 0 0 Empty ≡ 0
  pub counts-letter : counts_through 20 20 (letter_with 5 10 20) ≡ 5
  pub counts-no-letter : counts_through 21 21 (letter_with 5 10 20) ≡ 0
  -- 'Advance': "letters with last day before d are emptied"
  pub lapsed-not : lapsed_by 20 (letter_with 5 10 20) ≡ false
  pub lapsed : lapsed_by 21 (letter_with 5 10 20) ≡ true
  pub lapsed-cash : lapsed_by 29219 (Cash 5) ≡ false
  pub emptied-not : emptied_on 20 (letter_with 5 10 20) ≡ letter_with 5 10 20
  pub emptied : emptied_on 21 (letter_with 5 10 20) ≡ Empty
  pub emptied-cash : emptied_on 29219 (Cash 5) ≡ Cash 5
  -- a letter that has not begun is not emptied
  pub emptied-later : emptied_on 5 (letter_with 5 10 20) ≡ letter_with 5 10 20
  -- "Amount 1 to 10^12"
  pub amount-0 : outside_amounts 0 ≡ true
  pub amount-1 : outside_amounts 1 ≡ false
  pub amount-largest : outside_amounts 1000000000000 ≡ false
  pub amount-above : outside_amounts 1000000000001 ≡ true
  -- "A letter's first day isn't after its last", on day 10
  pub one-day-letter : against_days 10 (letter_with 5 15 15) ≡ false
  pub first-after-last : against_days 10 (letter_with 5 16 15) ≡ true
  -- ".. and its last is at least t and at most 29,219"; its first may be before t
  pub last-before-today : against_days 10 (letter_with 5 5 9) ≡ true
  pub last-today : against_days 10 (letter_with 5 5 10) ≡ false
  pub last-of-calendar : against_days 10 (letter_with 5 5 29219) ≡ false
  pub last-past-calendar : against_days 10 (letter_with 5 5 29220) ≡ true
  pub cash-has-no-days : against_days 29219 (Cash 5) ≡ false
  -- 'Release': "Cash in part or whole; a letter only whole."
  pub cash-in-part : not_releasable 99 (Cash 100) ≡ false
  pub cash-whole : not_releasable 100 (Cash 100) ≡ false
  pub cash-above : not_releasable 101 (Cash 100) ≡ true
  pub letter-in-part : not_releasable 99 (letter_with 100 10 20) ≡ true
  pub letter-whole : not_releasable 100 (letter_with 100 10 20) ≡ false
  pub letter-above : not_releasable 101 (letter_with 100 10 20) ≡ true
