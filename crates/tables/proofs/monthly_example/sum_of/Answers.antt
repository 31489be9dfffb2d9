-- `tables::monthly_example::sum_of` meets its contract: the sum of one amount and four zeros is that amount, and no cause refuses them.
-- Assumes nothing.
use borrow.Author.Rules.{rules}
use mir.Syntax.{w32}
use mir.Val.{Fits}
use Rattle.tables.proofs.Examples.{sum-natural, sum_fits, sum-magnitude}
use Rattle.tables.proofs.monthly_example.sum_of.Goals as goal

pub overflow_cast-result : goal.overflow_cast-result
overflow_cast-result c =
    let f : Fits w32 c.args.settled = search rules in
    (sum-natural _ _ f c.sum_figures.ensures _ _ c.unwrap_or.ensures, sum_fits _ _ f c.sum_figures.ensures _ _ c.unwrap_or.ensures)

pub returns : goal.returns
returns c = sum-magnitude _ _ (search rules) c.sum_figures.ensures _ _ c.unwrap_or.ensures
