-- `tables::annual_example::guarantee` meets its contract: the annual amount of 002's twelve totals is computed, and is below 2^32.
-- Assumes nothing.
use native.Mathlib.Omega.{arith}
use Rattle.tables.proofs.Examples.{amount-of-twelve}
use Rattle.tables.proofs.annual_example.guarantee.Goals as goal

pub overflow_cast-result : goal.overflow_cast-result
overflow_cast-result c = omega (arith, amount-of-twelve _ c.annual_amount.ensures)

pub returns : goal.returns
returns c = amount-of-twelve _ c.annual_amount.ensures
