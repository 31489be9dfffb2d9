-- `report::rows::put_statement` meets its contract: the seven columns and the end of the line.
-- Assumes nothing.
use Rattle.printing.specs.Decimals.{decimal}
use Rattle.printing.specs.Columns.{padded, fixed}
use Rattle.report.specs.Table.{role_text, line_of, table_line, in_columns}
use Rattle.report.proofs.TableLaws.{seven_columns}
use Rattle.report.proofs.rows.put_statement.Goals as goal

pub returns : goal.returns
unfolding line_of table_line in_columns
returns c =
    let name = rw c.role_name.ensures at c.spaced.ensures in
    let amounts = rw (c.euros.ensures, c.euros-2.ensures, c.euros-3.ensures) at c.each_spaced.ensures in
    seven_columns _ _ _ _ _ _ _ (padded 11 (decimal c.args.participant)) (padded 16 (role_text c.args.role)) (padded 17 (fixed 2 c.args.s.firm))
    (padded 17 (fixed 2 c.args.s.cover)) (padded 17 (fixed 2 c.args.s.shortfall)) (padded 12 (decimal c.args.s.charged)) (padded 21 (fixed 5 c.args.s.accrued))
    c.put.ensures name amounts c.spaced-2.ensures c.spaced-3.ensures c.byte.ensures
