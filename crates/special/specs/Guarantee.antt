-- The special guarantee of paper 01, 'Special guarantee' (002, section 7).
-- Assumes nothing.
use Rattle.std.specs.Prelude.{ℕ, ◌≤◌, max, cond, List, length, Result, Ok, Err, ℤ, pos, negsuc, nat_abs, ◌+ℤ◌, ◌-ℤ◌, ◌*ℤ◌}
use Rattle.laws.specs.Integers.{sum_of}
use Rattle.laws.specs.Signed.{nearest}
use Rattle.special.specs.Ratio.{usable, ratio}
use Rattle.special.specs.Causes.{wrong_lengths, outside_ranges, too_few}
use Rattle.refusal.specs.declared.Refusal.{Refusal}
use Rattle.refusal.specs.declared.Refusal.TheVariants.{ListLengths, OutOfRange, TooFewRates}

-- ".. and at least €5,000": an amount in cents, raised to the minimum if below it.
unfoldable pub at_least : ℕ → ℤ → ℕ
at_least minimum (pos n) = max minimum n
at_least minimum (negsuc n) = minimum

-- "(medium ratio × medium sum + low ratio × low sum) / 10,000, to the nearest cent, halves upward, less all excesses, and at
-- least €5,000", of the two ratios, the two sums and the sums of the two lists of excesses.
unfoldable pub amount : ℤ → ℤ → ℤ → ℤ → ℤ → ℤ → ℕ
amount medium_ratio sum_of_medium low_ratio sum_of_low medium_excess low_excess =
    at_least 500000 (nearest (medium_ratio *ℤ sum_of_medium +ℤ low_ratio *ℤ sum_of_low) 10000 -ℤ (medium_excess +ℤ low_excess))

-- What the ranges leave of the two ratios and the four sums: a ratio is the mean of three rates, a sum has at most 16 amounts.
pub record Bounded (medium_ratio sum_of_medium low_ratio sum_of_low medium_excess low_excess : ℤ) : Type 0 where
  pub medium-ratio : nat_abs medium_ratio ≤ 100001
  pub medium-sum : nat_abs sum_of_medium ≤ 16000000000000
  pub low-ratio : nat_abs low_ratio ≤ 100001
  pub low_sum : nat_abs sum_of_low ≤ 16000000000000
  pub medium-excess : nat_abs medium_excess ≤ 16000000000000
  pub low-excess : nat_abs low_excess ≤ 16000000000000

-- The guarantee of the seven lists, or the first cause that refuses them: "special 19, 11, 18".
unfoldable pub special_guarantee : List ℤ → List ℤ → List ℕ → List ℤ → List ℤ → List ℤ → List ℤ → Result ℕ Refusal
special_guarantee medium low marks zero_medium zero_low excess_medium excess_low =
    cond
    (wrong_lengths (length medium) (length low) (length marks) (length zero_medium) (length zero_low) (length excess_medium) (length excess_low))
    (Err ListLengths)
    (cond (outside_ranges medium low marks zero_medium zero_low excess_medium excess_low) (Err OutOfRange)
    (cond (too_few medium (usable low marks)) (Err TooFewRates)
    (Ok
    (amount (ratio medium) (sum_of zero_medium) (ratio (usable low marks)) (sum_of zero_low) (sum_of excess_medium) (sum_of excess_low)))))
