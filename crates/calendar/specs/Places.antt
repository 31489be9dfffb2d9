-- Where in its year a day lies.
-- Assumes nothing.
use Rattle.std.specs.Prelude.{ℕ, ◌+◌, cond, leb}

-- The number, from 0, that a day of a common year has in a leap year: from 1 March on it is one more.
unfoldable pub with_leap_day : ℕ → ℕ
with_leap_day n = n + cond (leb 59 n) 1 0
