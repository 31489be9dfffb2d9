-- `report::csv::put_values` meets its contract: the values with commas between them, and the end of the line.
-- Assumes nothing.
use mathlib.Core.List.{[], ◌∷◌}
use Rattle.file.specs.Fields.{cover_of, shortfall_of}
use Rattle.printing.specs.Decimals.{decimal}
use Rattle.printing.specs.Columns.{fixed}
use Rattle.report.specs.Table.{role_text}
use Rattle.report.specs.Csv.{csv_values}
use Rattle.report.proofs.CsvLaws.{commas_more, csv_line_put}
use Rattle.report.proofs.csv.put_values.Goals as goal

pub returns : goal.returns
unfolding csv_values
returns c =
    let f = c.args.file.now in
    let t = c.args.today.0 in
    let role = rw c.role_name.ensures at c.put_behind_comma.ensures in
    let four = commas_more _ _ _ (role_text f.role ∷ []) (fixed 2 f.firm ∷ fixed 2 (cover_of f t) ∷ fixed 2 (shortfall_of f t) ∷ []) role c.put_standing.ensures in
    let five = commas_more _ _ _ (role_text f.role ∷ fixed 2 f.firm ∷ fixed 2 (cover_of f t) ∷ fixed 2 (shortfall_of f t) ∷ []) (decimal f.charged ∷ []) four
    c.put_behind_comma-2.ensures in
    let six = commas_more _ _ _ (role_text f.role ∷ fixed 2 f.firm ∷ fixed 2 (cover_of f t) ∷ fixed 2 (shortfall_of f t) ∷ decimal f.charged ∷ [])
    (fixed 5 f.accrued ∷ []) five c.put_behind_comma-3.ensures in
    csv_line_put _ _ _ _ (decimal c.args.participant)
    (role_text f.role ∷ fixed 2 f.firm ∷ fixed 2 (cover_of f t) ∷ fixed 2 (shortfall_of f t) ∷ decimal f.charged ∷ fixed 5 f.accrued ∷ [])
    c.put.ensures six c.byte.ensures
