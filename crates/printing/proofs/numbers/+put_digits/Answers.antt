-- `printing::numbers::put_digits` meets its contract: the digits of a tenth, then the last; or the only one.
-- Assumes nothing.
use Rattle.printing.proofs.DecimalLaws.{digits_more, digits_one}
use Rattle.printing.proofs.numbers.+put_digits.Goals as goal
use Rattle.printing.proofs.numbers.+put_digits.Goals.{then-n-ge10, else-n-ge10}

pub returns : goal.returns
returns t c =
    elim c.if-n-ge10.branch [
      | then-n-ge10 w ↦
          digits_more _ _ _ _ c.args.n _ w.if-n-ge10.true w.put_digits.ensures w.out-is c.last_digit.ensures c.byte.ensures
      | else-n-ge10 w ↦ digits_one _ _ _ c.args.n _ w.if-n-ge10.false w.out-is c.last_digit.ensures c.byte.ensures
    ]
