-- Items and their lines, worked out by hand and computed by the definitions.
-- Assumes nothing.
use Prim.Native.Nat.{ℕ}
use mathlib.Core.Path.{◌≡◌, refl, ap}
use mathlib.Core.List.{List, [], ◌∷◌}
use Rattle.std.specs.Prelude.{Some}
use Rattle.calendar.specs.Civil.{is_first_october, month_of, holding, length_of, length_in, leap}
use Rattle.file.specs.Calls.{largest, keep}
use Rattle.calendar.specs.DateLaws.{date_of-day_of_date, october-2021}
use Rattle.words.specs.Text.{text}
use Rattle.file.specs.declared.Position.TheVariants.{Cash, Letter}
use Rattle.file.specs.Admit.{no_file}
use Rattle.printing.specs.Decimals.{numeral, decimal, spaced, joined}
use Rattle.printing.specs.Columns.{padded, digits, fixed}
use Rattle.printing.specs.Dates.{dated_text, date_text}
use Rattle.manual.specs.Charge.{day_charge}
use Rattle.manual.specs.Minimum.{minimum_of}
use Rattle.book.specs.Call.{admit, lodge}
use Rattle.book.specs.Reading.Events.{Own, day_opened, act, admitted_in}
use Rattle.book.specs.Reading.Holdings.{cover_in, lodged_where, released_where}
use Rattle.book.specs.Reading.Months.{next_in}
use Rattle.book.specs.Reading.Calls.{base_in, firm_from, calls_in, firm_in}
use Rattle.book.specs.Reading.Charges.{before, opening_shortfall, days_since}
use Rattle.items.specs.declared.Charged.{Charged}
use Rattle.items.specs.declared.Run.{Run}
use Rattle.items.specs.declared.Form.TheVariants.{Columns, Csv}
use Rattle.items.specs.Items.{day_in, charged_among, charged_days, begun, extends, ending, with_charged, items_of, items_in, days_of, charge_a_day, charge_of, sum_of_days, sum_of_charges, spelled, first_days}
use Rattle.items.specs.ByBook.{charged_by, with_day}
use Rattle.items.specs.State.{in_word, state_of, all_days, all_mills}
use Rattle.items.specs.Lines.{listed, comma_joined, line, heading, sum_line}

-- A charged day, and a run.
abbrev on_day : (d firm cover : ℕ) → Charged
on_day d firm cover = record { day = record { 0 = d }; firm = firm; cover = cover }

abbrev run_of : (from to firm cover : ℕ) → Run
run_of from to firm cover = record { from = record { 0 = from }; to = record { 0 = to }; firm = firm; cover = cover }

-- Two charged days with the same figures, one behind the other, are one item.
pub same-figures : items_of (on_day 12 2000000 500000 ∷ on_day 11 2000000 500000 ∷ []) ≡ run_of 11 12 2000000 500000 ∷ []
unfolding items_of with_charged extends begun ending
same-figures = refl

-- With another cover, or another firm amount, they are two, although the shortfall is the same.
pub other-cover : items_of (on_day 12 2000000 400000 ∷ on_day 11 2000000 500000 ∷ [])
    ≡ run_of 12 12 2000000 400000 ∷ run_of 11 11 2000000 500000 ∷ []
unfolding items_of with_charged extends begun ending
other-cover = refl

pub other-firm : items_of (on_day 12 2100000 600000 ∷ on_day 11 2000000 500000 ∷ [])
    ≡ run_of 12 12 2100000 600000 ∷ run_of 11 11 2000000 500000 ∷ []
unfolding items_of with_charged extends begun ending
other-firm = refl

-- With a day between them that was not charged they are two.
pub day-between : items_of (on_day 13 2000000 500000 ∷ on_day 11 2000000 500000 ∷ [])
    ≡ run_of 13 13 2000000 500000 ∷ run_of 11 11 2000000 500000 ∷ []
unfolding items_of with_charged extends begun ending
day-between = refl

-- Three days on which 2,000,000 euros were missing and one on which 15,000 were: 2,000 euros a day, and the least, 1,000.
abbrev four_days : List Run
four_days = run_of 14 14 2000000 500000 ∷ run_of 11 13 200000000 0 ∷ []

pub sums : (sum_of_days four_days ≡ 4) × (sum_of_charges four_days ≡ 700000000)
unfolding sum_of_days sum_of_charges days_of charge_of charge_a_day day_charge
sums = (refl, refl)

pub days-one-by-one : spelled four_days
    ≡ on_day 14 2000000 500000 ∷ on_day 13 200000000 0 ∷ on_day 12 200000000 0 ∷ on_day 11 200000000 0 ∷ []
unfolding spelled first_days days_of
days-one-by-one = refl

-- A supplier admitted on day 0, whose first call is free until day 10, is short from day 11 on: by 20,000 euros on days 11 and 12, by 5,000 behind a
-- lodging on day 13, by nothing on day 14, on which a letter counts, and by 5,000 again on day 15.
abbrev supplier : List Own
supplier =
    day_opened 15
    ∷ day_opened 14
    ∷ act 13 (lodge 1 (Letter 500000 (record { 0 = 14 }) (record { 0 = 14 })))
    ∷ day_opened 13
    ∷ act 12 (lodge 0 (Cash 1500000))
    ∷ day_opened 12
    ∷ day_opened 11
    ∷ day_opened 10
    ∷ act 0 (admit 0)
    ∷ []

pub suppliers-items : items_in supplier ≡ run_of 15 15 2000000 1500000 ∷ run_of 13 13 2000000 1500000 ∷ run_of 11 12 2000000 0 ∷ []
unfolding items_in charged_days days_since charged_among day_in opening_shortfall before firm_in base_in calls_in firm_from cover_in lodged_where
    released_where minimum_of admitted_in next_in largest keep is_first_october month_of holding length_of length_in leap items_of with_charged extends
    begun ending
suppliers-items = refl

-- A file that isn't admitted adds no day.
pub not-admitted : with_day no_file 11 four_days ≡ four_days
unfolding with_day charged_by
not-admitted = refl

-- What is kept of items, and their sums.
pub kept : state_of four_days ≡ record { run = Some (run_of 14 14 2000000 500000); days = 3; mills = 600000000 }
unfolding state_of in_word sum_of_days sum_of_charges days_of charge_of charge_a_day day_charge
kept = refl

pub kept-sums : (all_days (state_of four_days) ≡ 4) × (all_mills (state_of four_days) ≡ 700000000)
unfolding all_days all_mills state_of in_word sum_of_days sum_of_charges days_of charge_of charge_a_day day_charge
kept-sums = (refl, refl)

-- 1 October 2021 is day 639.
date : date_text 639 ≡ text "2021-10-01"
unfolding date_text digits
date = ap dated_text (date_of-day_of_date 2021 10 1 (record { 0 = 639 }) october-2021)

pub in-columns : line Columns (run_of 639 639 2000000 500000)
    ≡ text "2021-10-01 2021-10-01      1          20000.00           5000.00          15000.00        1000.00000            1000.00000\n"
unfolding line padded joined spaced fixed digits decimal numeral days_of charge_of charge_a_day day_charge in_word
in-columns = rw date

pub with-commas : line Csv (run_of 639 639 2000000 500000)
    ≡ text "2021-10-01,2021-10-01,1,20000.00,5000.00,15000.00,1000.00000,1000.00000\n"
unfolding line comma_joined listed fixed digits decimal numeral days_of charge_of charge_a_day day_charge in_word
with-commas = rw date

-- The columns have their names above their last digits, and the sums their figures below.
pub above-and-below :
    (heading Columns
    ≡ text "      from         to   days          firm EUR         cover EUR     shortfall EUR  charge a day EUR            charge EUR\n")
    × (sum_line (text "sum                  ") 4 700000000
    ≡ text "sum                        4                                                                                    7000.00000\n")
unfolding heading sum_line padded joined spaced fixed digits decimal numeral
above-and-below = (refl, refl)
