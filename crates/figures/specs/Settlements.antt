-- A settlement's months, figures and check, and the annual run, at their bounds (paper 01, 'Settle', 'Annual run', 'Day charge').
-- Assumes nothing.
use Rattle.std.specs.Prelude.{ℕ, ◌≡◌, true, false, cond, [], ◌∷◌, map, eqb, replicate, Some, None, pos, negsuc}
use Rattle.laws.specs.Causes.{decide}
use Rattle.laws.specs.Integers.{sum_of, larger}
use Rattle.manual.specs.Minimum.{minimum_of}
use Rattle.manual.specs.Figures.{wrong_count, out_of_range}
use Rattle.manual.specs.Check.{exceeds_tolerance, exceeds_each, call_is_made, checked}
use Rattle.manual.specs.Largest.{largest_total}
use Rattle.manual.specs.Annual.{annual_amount}
use Rattle.manual.specs.Charge.{day_charge}
use Rattle.file.specs.declared.OpenCall.{OpenCall}
use Rattle.file.specs.Answer.{refused, done, called, covered}
use Rattle.file.specs.Calls.{largest, amounts_of, call_of, keep}
use Rattle.file.specs.Settle.{outside_months, check_due, check_says}
use Rattle.file.specs.Totals.{Total, none, total, totals_from, year_totals}
use Rattle.book.specs.Reading.Decisions.{cause}

-- Every month's total is its own number; and all but month 7's are recorded.
abbrev pub by_number : ℕ → Total
by_number m = total (pos m)

abbrev pub but_month7 : ℕ → Total
but_month7 m = cond (eqb m 7) none (total (pos m))

pub record Settlements : Type 0 where
  -- "P − 14 ≤ M ≤ P − 2": P is 21, October 2021
  pub month-p-15 : outside_months 21 6 ≡ true
  pub month-p-14 : outside_months 21 7 ≡ false
  pub month-p-2 : outside_months 21 19 ≡ false
  pub month-p-1 : outside_months 21 20 ≡ true
  -- .. and in the calendar's first months: in February 2020 there is no month P − 2, in March it is month 0
  pub no-month-yet : outside_months 1 0 ≡ true
  pub first-month : outside_months 2 0 ≡ false
  -- "If M = P − 2 and P isn't a September": P is 9, October 2020, and 8, September 2020
  pub due : check_due 9 7 ≡ true
  pub not-due-p-3 : check_due 9 6 ≡ false
  pub not-due-p-1 : check_due 9 8 ≡ false
  pub not-due-september : check_due 8 6 ≡ false
  pub due-august : check_due 7 5 ≡ true
  -- "5 to 16 signed figures"
  pub figures-4 : wrong_count (replicate 4 (pos 1)) ≡ true
  pub figures-5 : wrong_count (replicate 5 (pos 1)) ≡ false
  pub figures-16 : wrong_count (replicate 16 (pos 1)) ≡ false
  pub figures-17 : wrong_count (replicate 17 (pos 1)) ≡ true
  -- "Each is within plus or minus 10^12", the last one too
  pub figure-largest : out_of_range (pos 1000000000000 ∷ []) ≡ false
  pub figure-above : out_of_range (pos 1000000000001 ∷ []) ≡ true
  pub figure-least : out_of_range (negsuc 999999999999 ∷ []) ≡ false
  pub figure-below : out_of_range (negsuc 1000000000000 ∷ []) ≡ true
  pub last-figure-above : out_of_range (pos 1 ∷ pos 1000000000001 ∷ []) ≡ true
  -- "E, their sum"
  pub sum : sum_of (pos 7 ∷ negsuc 2 ∷ pos 5 ∷ negsuc 10 ∷ pos 1 ∷ []) ≡ negsuc 0
  -- "A call is made when E > D": 5 × E ≥ 6 × D holds of all three where D is 0
  pub above-cover : exceeds_tolerance (pos 1) 0 ≡ true
  pub at-cover : exceeds_tolerance (pos 0) 0 ≡ false
  pub credit : exceeds_tolerance (negsuc 0) 0 ≡ false
  -- ".. 5 × E ≥ 6 × D"
  pub tolerance-at-20-percent : exceeds_tolerance (pos 12) 10 ≡ true
  pub tolerance-below : exceeds_tolerance (pos 11) 10 ≡ false
  pub tolerance-uneven : exceeds_tolerance (pos 14) 12 ≡ false
  pub tolerance-uneven-above : exceeds_tolerance (pos 15) 12 ≡ true
  -- ".. E exceeds the firm amount": D is 0
  pub at-firm : call_is_made (pos 100) 0 100 [] ≡ false
  pub above-firm : call_is_made (pos 101) 0 100 [] ≡ true
  -- ".. and E exceeds every open call": the first, and the last
  pub at-first-call : call_is_made (pos 200) 0 100 (200 ∷ 150 ∷ []) ≡ false
  pub above-first-call : call_is_made (pos 201) 0 100 (200 ∷ 150 ∷ []) ≡ true
  pub at-last-call : call_is_made (pos 200) 0 100 (150 ∷ 200 ∷ []) ≡ false
  pub exceeds-no-call : exceeds_each (pos 0) [] ≡ true
  -- ".. and 5 × E ≥ 6 × D" though E exceeds the firm amount and every open call
  pub within-tolerance : call_is_made (pos 119) 100 100 [] ≡ false
  -- "amount E, .. asked E − D": D is not the firm amount
  pub asked : checked (pos 300) 100 200 (250 ∷ []) ≡ Some (record { amount = 300; asked = 200 })
  pub not-called : checked (pos 250) 100 200 (250 ∷ []) ≡ None
  -- "The answer is called (E, asked, last free day), covered (E)"
  pub says-called : check_says (pos 300) 70 (Some (record { amount = 300; asked = 200 })) ≡ called 300 200 70
  pub says-covered : check_says (negsuc 4) 70 None ≡ covered (negsuc 4)
  -- The amounts of calls, and the largest of an amount and a list
  pub amounts : amounts_of (call_of 5 10 ∷ call_of 6 11 ∷ []) ≡ 5 ∷ 6 ∷ []
  pub call-amount : (call_of 5 10).amount ≡ 5
  pub call-last : (call_of 5 10).last.0 ≡ 10
  pub largest-itself : largest 5 (3 ∷ 4 ∷ []) ≡ 5
  pub largest-first : largest 3 (5 ∷ 4 ∷ []) ≡ 5
  pub largest-last : largest 3 (4 ∷ 5 ∷ []) ≡ 5
  -- The calls that pass a test, in their order
  pub kept : keep (λ (c : OpenCall). eqb c.last.0 10) (call_of 5 10 ∷ call_of 6 11 ∷ call_of 7 10 ∷ []) ≡ call_of 5 10 ∷ call_of 7 10 ∷ []
  -- "months P − 14 to P − 3 (July to June)": P is 20, September 2021, and 8, September 2020, before which there are six of them
  pub july-to-june : year_totals by_number 20 ≡ map pos (6 ∷ 7 ∷ 8 ∷ 9 ∷ 10 ∷ 11 ∷ 12 ∷ 13 ∷ 14 ∷ 15 ∷ 16 ∷ 17 ∷ [])
  pub january-to-june : year_totals by_number 8 ≡ map pos (0 ∷ 1 ∷ 2 ∷ 3 ∷ 4 ∷ 5 ∷ [])
  pub a-whole-year : year_totals by_number 14 ≡ map pos (0 ∷ 1 ∷ 2 ∷ 3 ∷ 4 ∷ 5 ∷ 6 ∷ 7 ∷ 8 ∷ 9 ∷ 10 ∷ 11 ∷ [])
  -- only the recorded ones
  pub recorded-only : totals_from but_month7 6 3 ≡ map pos (6 ∷ 8 ∷ [])
  pub none-recorded : year_totals (λ m. none) 20 ≡ []
  -- "The largest recorded total", wherever it stands; of credits too
  pub larger-one : larger (negsuc 4) (negsuc 2) ≡ negsuc 2
  pub largest-in-front : largest_total (pos 9) (pos 7 ∷ pos 8 ∷ []) ≡ pos 9
  pub largest-at-end : largest_total (pos 7) (pos 8 ∷ pos 9 ∷ []) ≡ pos 9
  pub largest-credit : largest_total (negsuc 8) (negsuc 2 ∷ negsuc 4 ∷ []) ≡ negsuc 2
  -- ".. raised to the role's minimum if below it": a Supplier's is €20,000
  pub annual-below : annual_amount 0 (pos 1999999 ∷ []) ≡ 2000000
  pub annual-at : annual_amount 0 (pos 2000000 ∷ []) ≡ 2000000
  pub annual-above : annual_amount 0 (pos 2000001 ∷ []) ≡ 2000001
  -- ".. the minimum if none is recorded"; a Producer's is 0, also where only a credit is recorded
  pub annual-none : annual_amount 2 [] ≡ 1000000
  pub annual-nothing : annual_amount 3 [] ≡ 0
  pub annual-credit : annual_amount 3 (negsuc 4 ∷ []) ≡ 0
  -- "Roles and minimum guarantees": 0 to 5, and a number that is no role
  pub minimums : map minimum_of (0 ∷ 1 ∷ 2 ∷ 3 ∷ 4 ∷ 5 ∷ 6 ∷ []) ≡ 2000000 ∷ 2000000 ∷ 1000000 ∷ 0 ∷ 0 ∷ 0 ∷ 0 ∷ []
  -- 'Day charge': "the larger of S and 100,000,000 mills" just below the bound; its other sides are starred figures
  pub charge-below : day_charge 99999999 ≡ 100000000
  -- "A call is accepted when none of its causes of refusal holds, and is otherwise refused with the first that does."
  pub no-cause : decide refused (cause 5 false ∷ cause 6 false ∷ []) done ≡ done
  pub first-cause : decide refused (cause 5 true ∷ cause 6 true ∷ []) done ≡ refused 5
  pub second-cause : decide refused (cause 5 false ∷ cause 6 true ∷ cause 8 true ∷ []) done ≡ refused 6
