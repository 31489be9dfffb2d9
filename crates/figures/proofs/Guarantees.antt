-- The special guarantee's bounds and order of causes: each fact is computed from the definitions.
-- Assumes nothing.
use mathlib.Core.Path.{refl}
use Rattle.laws.specs.Every.{every}
use Rattle.laws.specs.Integers.{sum_of}
use Rattle.laws.specs.Largest.{insert, falling, three_largest, mean_of_three}
use Rattle.laws.specs.Signed.{floor_div, nearest}
use Rattle.special.specs.Causes.{wrong_lengths, outside_ranges, too_few}
use Rattle.special.specs.Guarantee.{at_least, amount, special_guarantee}
use Rattle.special.specs.Ratio.{usable, ratio}
use Rattle.figures.specs.Guarantees.{Guarantees}

pub guarantees : Guarantees
unfolding every sum_of insert falling three_largest mean_of_three floor_div nearest wrong_lengths outside_ranges too_few at_least
    amount special_guarantee usable ratio
guarantees =
    record {
      medium-64 = refl;
      medium-65 = refl;
      low-64 = refl;
      low-65 = refl;
      marks-fewer = refl;
      marks-more = refl;
      semesters-0 = refl;
      semesters-16 = refl;
      semesters-17 = refl;
      medium-zeros-unequal = refl;
      low-zeros-unequal = refl;
      medium-excesses-unequal = refl;
      low-excesses-unequal = refl;
      rate-largest = refl;
      rate-above = refl;
      rate-least = refl;
      rate-below = refl;
      last-rate-above = refl;
      mark-1 = refl;
      mark-2 = refl;
      zero-largest = refl;
      zero-above = refl;
      zero-least = refl;
      zero-below = refl;
      excess-0 = refl;
      excess-negative = refl;
      excess-largest = refl;
      excess-above = refl;
      three-rates = refl;
      two-medium = refl;
      two-low = refl;
      marked-skipped = refl;
      three-largest = refl;
      mean-down = refl;
      mean-up = refl;
      mean-below-up = refl;
      mean-below-down = refl;
      half = refl;
      below_half = refl;
      minus-half = refl;
      below-minus-half = refl;
      least-below = refl;
      least_at = refl;
      least_above = refl;
      least-negative = refl;
      amount-of = refl;
      semesters-summed = refl;
      marked-not-in-ratio = refl;
      half-a-cent = refl;
      below-half-a-cent = refl;
      no-semester = refl;
      cause-medium-rate = refl;
      cause-low-rate = refl;
      cause-mark = refl;
      cause-medium-zero = refl;
      cause-low-zero = refl;
      cause-medium-excess = refl;
      cause-low-excess = refl;
      cause-marked-rate = refl;
      number-of-lengths = refl;
      number-of-ranges = refl;
      number-of-too-few = refl;
      cause-too-few = refl;
      cause-enough = refl;
      lengths-before-range = refl;
      range-before-few = refl;
      lengths-before-few = refl;
      cause-65-rates = refl;
      cause-17-semesters = refl;
    }
