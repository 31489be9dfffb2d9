-- `file::File::amount_of_deletion` meets its contract: what the window found are the recorded totals of months P − 14 to P − 2, and the part of them
-- that is looked at are the last three.
-- Assumes nothing.
use mathlib.Core.Path.{◌∙◌, ap}
use Rattle.std.proofs.Common.{◌-◌, length, arith, length-drop, take_all}
use Rattle.manual.specs.Deletion.{deletion_amount}
use Rattle.file.proofs.Deletions.{amount_last}
use Rattle.file.proofs.File.amount_of_deletion.Goals as goal

pub returns : goal.returns
returns c =
    let found = c.recorded-totals.result.now in
    amount_last c.args.self.now c.args.today.0 _ _ _ _ found c.month_of-current.ensures c.months_before.ensures c.months_before-2.ensures
    c.recorded-totals.ensures
    (c.deletion_amount.ensures
    ∙ rw c.saturating_sub.ensures (ap deletion_amount (take_all _ _ (omega (arith, length-drop (length found - 3) found)))))
