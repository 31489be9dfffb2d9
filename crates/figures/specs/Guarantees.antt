-- The special guarantee's bounds, roundings and order of causes (paper 01, 'Special guarantee' and 'Causes of refusal').
-- Assumes nothing.
use Rattle.std.specs.Prelude.{ℕ, ◌≡◌, true, false, List, [], ◌∷◌, replicate, Result, Ok, Err, ℤ, pos, negsuc}
use Rattle.laws.specs.Signed.{nearest}
use Rattle.laws.specs.Largest.{three_largest}
use Rattle.special.specs.Ranges.{rates_in_range, marks_in_range, zeros_in_range, excesses_in_range}
use Rattle.special.specs.Ratio.{usable, ratio}
use Rattle.special.specs.Causes.{wrong_lengths, too_few}
use Rattle.special.specs.Guarantee.{at_least, amount, special_guarantee}
use Rattle.refusal.specs.Numbers.{number_of}
use Rattle.refusal.specs.declared.Refusal.{Refusal}
use Rattle.refusal.specs.declared.Refusal.TheVariants.{OutOfRange, TooFewRates, ListLengths}

-- Three rates of 1%, three marks, and one semester.
abbrev pub rates : List ℤ
rates = pos 100 ∷ pos 100 ∷ pos 100 ∷ []

abbrev pub unmarked : List ℕ
unmarked = 0 ∷ 0 ∷ 0 ∷ []

abbrev pub nothing : List ℤ
nothing = pos 0 ∷ []

-- The guarantee of one semester with these zero settlements and excesses, both ratios being 1%.
abbrev pub of_semester : ℤ → ℤ → ℤ → ℤ → Result ℕ Refusal
of_semester medium low excess_medium excess_low =
    special_guarantee rates rates unmarked (medium ∷ []) (low ∷ []) (excess_medium ∷ []) (excess_low ∷ [])

pub record Guarantees : Type 0 where
  -- "more than 64 rates": in the medium list, in the low list
  pub medium-64 : wrong_lengths 64 3 3 1 1 1 1 ≡ false
  pub medium-65 : wrong_lengths 65 3 3 1 1 1 1 ≡ true
  pub low-64 : wrong_lengths 3 64 64 1 1 1 1 ≡ false
  pub low-65 : wrong_lengths 3 65 65 1 1 1 1 ≡ true
  -- ".. marks not as many as low rates"
  pub marks-fewer : wrong_lengths 3 3 2 1 1 1 1 ≡ true
  pub marks-more : wrong_lengths 3 3 4 1 1 1 1 ≡ true
  -- ".. or the four lists unequal or above 16"; "four lists of one length, 0 to 16"
  pub semesters-0 : wrong_lengths 3 3 3 0 0 0 0 ≡ false
  pub semesters-16 : wrong_lengths 3 3 3 16 16 16 16 ≡ false
  pub semesters-17 : wrong_lengths 3 3 3 17 17 17 17 ≡ true
  pub medium-zeros-unequal : wrong_lengths 3 3 3 2 1 1 1 ≡ true
  pub low-zeros-unequal : wrong_lengths 3 3 3 1 2 1 1 ≡ true
  pub medium-excesses-unequal : wrong_lengths 3 3 3 1 1 2 1 ≡ true
  pub low-excesses-unequal : wrong_lengths 3 3 3 1 1 1 2 ≡ true
  -- "Rates are hundredths of a percent within plus or minus 100,000"
  pub rate-largest : rates_in_range (pos 100000 ∷ []) ≡ true
  pub rate-above : rates_in_range (pos 100001 ∷ []) ≡ false
  pub rate-least : rates_in_range (negsuc 99999 ∷ []) ≡ true
  pub rate-below : rates_in_range (negsuc 100000 ∷ []) ≡ false
  -- the last of a list too
  pub last-rate-above : rates_in_range (pos 1 ∷ pos 100001 ∷ []) ≡ false
  -- "a mark above 1"
  pub mark-1 : marks_in_range (0 ∷ 1 ∷ []) ≡ true
  pub mark-2 : marks_in_range (0 ∷ 2 ∷ []) ≡ false
  -- "Zero settlements are cents within plus or minus 10^12"
  pub zero-largest : zeros_in_range (pos 1000000000000 ∷ []) ≡ true
  pub zero-above : zeros_in_range (pos 1000000000001 ∷ []) ≡ false
  pub zero-least : zeros_in_range (negsuc 999999999999 ∷ []) ≡ true
  pub zero-below : zeros_in_range (negsuc 1000000000000 ∷ []) ≡ false
  -- ".. excesses 0 to 10^12"
  pub excess-0 : excesses_in_range (pos 0 ∷ []) ≡ true
  pub excess-negative : excesses_in_range (negsuc 0 ∷ []) ≡ false
  pub excess-largest : excesses_in_range (pos 1000000000000 ∷ []) ≡ true
  pub excess-above : excesses_in_range (pos 1000000000001 ∷ []) ≡ false
  -- "fewer than three usable rates in a list": either list
  pub three-rates : too_few rates rates ≡ false
  pub two-medium : too_few (pos 1 ∷ pos 1 ∷ []) rates ≡ true
  pub two-low : too_few rates (pos 1 ∷ pos 1 ∷ []) ≡ true
  -- "marked ones skipped"
  pub marked-skipped : usable (pos 7 ∷ pos 8 ∷ pos 9 ∷ []) (0 ∷ 1 ∷ 0 ∷ []) ≡ pos 7 ∷ pos 9 ∷ []
  -- "the three largest rates", equal ones as often as they stand there
  pub three-largest : three_largest (pos 1 ∷ pos 7 ∷ negsuc 8 ∷ pos 5 ∷ pos 7 ∷ []) ≡ pos 7 ∷ pos 7 ∷ pos 5 ∷ []
  -- "the mean .., to the nearest whole": 4/3, 5/3, and below zero −4/3, −5/3
  pub mean-down : ratio (pos 2 ∷ pos 1 ∷ pos 1 ∷ []) ≡ pos 1
  pub mean-up : ratio (pos 2 ∷ pos 2 ∷ pos 1 ∷ []) ≡ pos 2
  pub mean-below-up : ratio (negsuc 1 ∷ negsuc 0 ∷ negsuc 0 ∷ []) ≡ negsuc 0
  pub mean-below-down : ratio (negsuc 1 ∷ negsuc 1 ∷ negsuc 0 ∷ []) ≡ negsuc 1
  -- "halves upward means toward the larger number, below zero too": 1/2 and 0.4999, −1/2 and −0.5001
  pub half : nearest (pos 5000) 10000 ≡ pos 1
  pub below_half : nearest (pos 4999) 10000 ≡ pos 0
  pub minus-half : nearest (negsuc 4999) 10000 ≡ pos 0
  pub below-minus-half : nearest (negsuc 5000) 10000 ≡ negsuc 0
  -- "at least €5,000"
  pub least-below : at_least 500000 (pos 499999) ≡ 500000
  pub least_at : at_least 500000 (pos 500000) ≡ 500000
  pub least_above : at_least 500000 (pos 500001) ≡ 500001
  pub least-negative : at_least 500000 (negsuc 499999) ≡ 500000
  -- "(medium ratio × medium sum + low ratio × low sum) / 10,000, .. less all excesses": 2% of 30,000,000 and 3% of 20,000,000 are
  -- 1,200,000, less 100,000 and 50,000
  pub amount-of : amount (pos 200) (pos 30000000) (pos 300) (pos 20000000) (pos 100000) (pos 50000) ≡ 1050000
  -- the sums are those of all semesters: 1% of (20,000,000 + 40,000,000) and of 30,000,000, less 100,000
  pub semesters-summed :
      special_guarantee rates rates unmarked (pos 20000000 ∷ pos 40000000 ∷ []) (pos 30000000 ∷ pos 0 ∷ [])
      (pos 40000 ∷ pos 0 ∷ []) (pos 0 ∷ pos 60000 ∷ [])
      ≡ Ok 800000
  -- a marked rate has no part in the ratio: 1% of 100,000,000
  pub marked-not-in-ratio :
      special_guarantee rates (pos 40000 ∷ rates) (1 ∷ unmarked) nothing (pos 100000000 ∷ []) nothing nothing ≡ Ok 1000000
  -- the least guarantee that is more than €5,000: 1% of 50,000,050 and 50,000,049 cents
  pub half-a-cent : of_semester (pos 50000050) (pos 0) (pos 0) (pos 0) ≡ Ok 500001
  pub below-half-a-cent : of_semester (pos 50000049) (pos 0) (pos 0) (pos 0) ≡ Ok 500000
  -- no semester: at least €5,000
  pub no-semester : special_guarantee rates rates unmarked [] [] [] [] ≡ Ok 500000
  -- Each list is judged by its own range: "a .. rate, zero settlement or excess out of its range, a mark above 1" is 11
  pub cause-medium-rate : special_guarantee (pos 100001 ∷ rates) rates unmarked nothing nothing nothing nothing ≡ Err OutOfRange
  pub cause-low-rate : special_guarantee rates (pos 100001 ∷ pos 1 ∷ pos 1 ∷ []) unmarked nothing nothing nothing nothing ≡ Err OutOfRange
  pub cause-mark : special_guarantee rates rates (2 ∷ 0 ∷ 0 ∷ []) nothing nothing nothing nothing ≡ Err OutOfRange
  pub cause-medium-zero : of_semester (pos 1000000000001) (pos 0) (pos 0) (pos 0) ≡ Err OutOfRange
  pub cause-low-zero : of_semester (pos 0) (negsuc 1000000000000) (pos 0) (pos 0) ≡ Err OutOfRange
  pub cause-medium-excess : of_semester (pos 0) (pos 0) (negsuc 0) (pos 0) ≡ Err OutOfRange
  pub cause-low-excess : of_semester (pos 0) (pos 0) (pos 0) (negsuc 0) ≡ Err OutOfRange
  -- a marked rate that is out of its range is refused too
  pub cause-marked-rate :
      special_guarantee rates (pos 100001 ∷ rates) (1 ∷ unmarked) nothing nothing nothing nothing ≡ Err OutOfRange
  -- the numbers of its causes: lengths 19, ranges 11, too few rates 18
  pub number-of-lengths : number_of ListLengths ≡ 19
  pub number-of-ranges : number_of OutOfRange ≡ 11
  pub number-of-too-few : number_of TooFewRates ≡ 18
  -- "fewer than three usable rates" is 18: a marked rate is not usable
  pub cause-too-few : special_guarantee rates rates (1 ∷ 0 ∷ 0 ∷ []) nothing nothing nothing nothing ≡ Err TooFewRates
  pub cause-enough : special_guarantee rates (pos 9 ∷ rates) (1 ∷ unmarked) nothing nothing nothing nothing ≡ Ok 500000
  -- "special 19, 11, 18": two causes at a time
  pub lengths-before-range : special_guarantee rates rates (2 ∷ 0 ∷ []) nothing nothing nothing nothing ≡ Err ListLengths
  pub range-before-few : special_guarantee (pos 100001 ∷ []) rates unmarked nothing nothing nothing nothing ≡ Err OutOfRange
  pub lengths-before-few : special_guarantee [] rates unmarked nothing [] nothing nothing ≡ Err ListLengths
  -- the lengths of the lists themselves: 65 rates, 17 semesters
  pub cause-65-rates : special_guarantee (replicate 65 (pos 1)) rates unmarked nothing nothing nothing nothing ≡ Err ListLengths
  pub cause-17-semesters :
      special_guarantee rates rates unmarked (replicate 17 (pos 0)) (replicate 17 (pos 0)) (replicate 17 (pos 0)) (replicate 17 (pos 0))
      ≡ Err ListLengths
