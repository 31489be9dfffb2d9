-- `printing::numbers::put_digits` ends: a number of two digits or more is above its tenth.
-- Assumes nothing.
use Rattle.printing.proofs.numbers.+put_digits.Given as goal

abbrev pub decreases-put_digits : goal.decreases-put_digits
decreases-put_digits l = l.n
