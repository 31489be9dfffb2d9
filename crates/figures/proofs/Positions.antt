-- Positions, amounts and days at their bounds: each fact is computed from the definitions.
-- Assumes nothing.
use mathlib.Core.Path.{refl}
use Rattle.file.specs.Position.{counts_through, emptied_on, outside_amounts}
use Rattle.figures.specs.Positions.{Positions}

pub positions : Positions
unfolding counts_through emptied_on outside_amounts
positions =
    record {
      amount-empty = refl;
      amount-cash = refl;
      amount-letter = refl;
      filled-empty = refl;
      filled-cash = refl;
      filled-letter = refl;
      before-its-first = refl;
      on-its-first = refl;
      on-its-last = refl;
      after-its-last = refl;
      through-its-days = refl;
      through-from-before = refl;
      through-to-after = refl;
      through-none = refl;
      through-cash = refl;
      counts-cash = refl;
      counts-empty = refl;
      counts-letter = refl;
      counts-no-letter = refl;
      lapsed-not = refl;
      lapsed = refl;
      lapsed-cash = refl;
      emptied-not = refl;
      emptied = refl;
      emptied-cash = refl;
      emptied-later = refl;
      amount-0 = refl;
      amount-1 = refl;
      amount-largest = refl;
      amount-above = refl;
      one-day-letter = refl;
      first-after-last = refl;
      last-before-today = refl;
      last-today = refl;
      last-of-calendar = refl;
      last-past-calendar = refl;
      cash-has-no-days = refl;
      cash-in-part = refl;
      cash-whole = refl;
      cash-above = refl;
      letter-in-part = refl;
      letter-whole = refl;
      letter-above = refl;
    }
