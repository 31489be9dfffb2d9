-- Paper 01, 'Figures to reproduce (those with * are proved)': the starred figures as one table of facts about the definitions, which
-- proofs/Table.antt closes. Amounts are cents, charges are mills, rates are hundredths of a percent.
-- Assumes nothing.
use Rattle.std.specs.Prelude.{ℕ, ◌≡◌, List, [], ◌∷◌, ◌++◌, Option, Some, None, Ok, ℤ, pos, negsuc, ◌-ℤ◌}
use Rattle.manual.specs.Largest.{largest_total}
use Rattle.manual.specs.Annual.{annual_amount}
use Rattle.manual.specs.Check.{checked}
use Rattle.manual.specs.Charge.{day_charge}
use Rattle.manual.specs.declared.Call.{Call}
use Rattle.special.specs.Ratio.{usable, ratio}
use Rattle.special.specs.Guarantee.{special_guarantee}
use Rattle.book.specs.Call as Calls
use Rattle.figures.specs.History.{admits, cash, settles, to_day, shortfalls, accrued_by, accrued_of}

-- ---- the givens

-- 002, 5.1: the totals of August 2020 to June 2021, after that of July 2020.
abbrev pub later_totals : List ℤ
later_totals =
    pos 55688700 ∷ pos 55726000 ∷ pos 64462000 ∷ pos 69286800 ∷ pos 65431300 ∷ pos 62967400 ∷ pos 66956600 ∷ pos 67228600
    ∷ pos 77372900 ∷ pos 59657000 ∷ pos 72350800 ∷ []

-- 002, 5.1: the twelve totals of July 2020 to June 2021.
abbrev pub totals : List ℤ
totals = pos 68780100 ∷ later_totals

-- 002, section 8: the medium voltage rates of E, Z, H, Θ and I.
abbrev pub medium_rates : List ℤ
medium_rates = pos 126 ∷ negsuc 17 ∷ pos 4 ∷ negsuc 233 ∷ pos 0 ∷ []

-- 002, section 8: the low voltage rates of E, Z, H, Θ, I and Π.
abbrev pub low_rates : List ℤ
low_rates = pos 3253 ∷ pos 4048 ∷ pos 4723 ∷ pos 1326 ∷ pos 780 ∷ pos 11291 ∷ []

-- 002, section 8: Π "has recently started being active in LV".
abbrev pub marks : List ℕ
marks = 0 ∷ 0 ∷ 0 ∷ 0 ∷ 0 ∷ 1 ∷ []

-- 002, section 8: the medium voltage zero settlements of the four semesters of 2019 and 2020.
abbrev pub medium_zeros : List ℤ
medium_zeros = pos 18633458 ∷ pos 39457632 ∷ pos 73289522 ∷ pos 95618724 ∷ []

-- 002, section 8: the low voltage zero settlements of the same semesters.
abbrev pub low_zeros : List ℤ
low_zeros = pos 2338818 ∷ pos 5389234 ∷ pos 7762366 ∷ pos 8919274 ∷ []

-- 002, section 8: no interim medium voltage settlement.
abbrev pub medium_excesses : List ℤ
medium_excesses = pos 0 ∷ pos 0 ∷ pos 0 ∷ pos 0 ∷ []

-- 002, section 8: the interim low voltage result of the first semester of 2020, 105.887,54, less the zero one.
abbrev pub low_excesses : List ℤ
low_excesses = pos 0 ∷ pos 0 ∷ (pos 10588754 -ℤ pos 7762366) ∷ pos 0 ∷ []

-- ---- the readings that the facts use

-- "In the checks the firm amount is D and no call is open": the check of the total E.
abbrev pub check_at : ℕ → ℤ → Option Call
check_at d e = checked e d d []

-- 002, example 3, as calls of a Producer from day 60 on: €773,729 in cash, the total of €936,795, €100,000 paid when two days were charged, and
-- three more days.
abbrev pub example3 : List Calls.Call
example3 = admits 3 ∷ cash 0 77372900 ∷ settles 0 93679500 ∷ to_day 72 ∷ cash 1 10000000 ∷ to_day 75 ∷ []

-- .. the rest paid then, and one more day.
abbrev pub example3_paid : List Calls.Call
example3_paid = example3 ++ cash 2 6306600 ∷ to_day 76 ∷ []

-- A total of 150,000,000 with nothing lodged, 100,000,000 paid when one day was charged, and one more day.
abbrev pub two_days : List Calls.Call
two_days = admits 3 ∷ settles 0 150000000 ∷ to_day 71 ∷ cash 0 100000000 ∷ to_day 72 ∷ []

-- ---- the facts

pub record Figures : Type 0 where
  -- "Example 1: the largest of twelve months is €773,729; so is the amount." The participant's role is Supplier, 0.
  pub example-1-largest : largest_total (pos 68780100) later_totals ≡ pos 77372900
  pub example-1-amount : annual_amount 0 totals ≡ 77372900
  -- "D = 77,372,900: E = 75,446,400 is covered; E = 93,679,500 calls, asked 16,306,600."
  pub example-2-july : check_at 77372900 (pos 75446400) ≡ None
  pub example-2-august : check_at 77372900 (pos 93679500) ≡ Some (record { amount = 93679500; asked = 16306600 })
  -- "D = 1,000,000: E = 1,200,000 calls, 1,199,999 doesn't."
  pub at-20-percent : check_at 1000000 (pos 1200000) ≡ Some (record { amount = 1200000; asked = 200000 })
  pub below-20-percent : check_at 1000000 (pos 1199999) ≡ None
  -- "D = 0, E = 0 or −5: covered."
  pub nothing-due : check_at 0 (pos 0) ≡ None
  pub credit : check_at 0 (negsuc 4) ≡ None
  -- "S = 0: 0; 1: 100,000,000; 100,000,000: the same; 100,000,001: 100,000,001."
  pub charge-of-0 : day_charge 0 ≡ 0
  pub charge-of-1 : day_charge 1 ≡ 100000000
  pub charge-at-least : day_charge 100000000 ≡ 100000000
  pub charge-above-least : day_charge 100000001 ≡ 100000001
  -- "Example 3: shortfall 16,306,600 for two days, then 6,306,600 for three: 500,000,000 mills."
  pub example-3-shortfalls : shortfalls 60 example3 (71 ∷ 72 ∷ 73 ∷ 74 ∷ 75 ∷ [])
      ≡ 16306600 ∷ 16306600 ∷ 6306600 ∷ 6306600 ∷ 6306600 ∷ []
  pub example-3 : accrued_by 60 example3 ≡ 500000000
  pub example-3-book : accrued_of 60 example3 ≡ 500000000
  -- 'Readings that 002 tempts one into': "Charging the day after payment". The next day costs no more.
  pub example-3-paid : accrued_by 60 example3_paid ≡ 500000000
  pub example-3-paid-book : accrued_of 60 example3_paid ≡ 500000000
  -- "S = 150,000,000, then 50,000,000: 250,000,000 mills." and not, "comparing the sum of charges once with n × €1,000", 200,000,000.
  pub two-days-shortfalls : shortfalls 60 two_days (71 ∷ 72 ∷ []) ≡ 150000000 ∷ 50000000 ∷ []
  pub two-days : accrued_by 60 two_days ≡ 250000000
  pub two-days-book : accrued_of 60 two_days ≡ 250000000
  -- "Rates 126, 4, 0 give 43; 3,253, 4,048, 4,723 give 4,008."
  pub medium-ratio-of-three : ratio (pos 126 ∷ pos 4 ∷ pos 0 ∷ []) ≡ pos 43
  pub low-ratio-of-three : ratio (pos 3253 ∷ pos 4048 ∷ pos 4723 ∷ []) ≡ pos 4008
  -- The same ratios from the whole rate tables of 002, section 8.
  pub medium-ratio : ratio medium_rates ≡ pos 43
  pub low-ratio : ratio (usable low_rates marks) ≡ pos 4008
  -- "002, section 8: 7,933,114 cents." and not, "multiplying by an unrounded ratio", 7,940,680.
  pub section-8 : special_guarantee medium_rates low_rates marks medium_zeros low_zeros medium_excesses low_excesses ≡ Ok 7933114
