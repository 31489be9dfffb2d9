-- The measure of `printing::columns::put_digits` is how many digits are asked for: those before the last are those of a tenth.
-- Assumes nothing.
use Rattle.printing.proofs.columns.+put_digits.Given as goal

abbrev pub decreases-put_digits : goal.decreases-put_digits
decreases-put_digits l = l.count
