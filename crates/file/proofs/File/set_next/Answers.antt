-- `file::File::set_next` meets its contract: refused outside the annual days and under deletion; otherwise what was found are the recorded totals of months P − 14
-- to P − 3, and the amount is theirs.
-- Assumes nothing.
use mathlib.Core.Path.{◌∙◌, sym}
use Rattle.file.proofs.Runs.{run-refused, run-leaving, run-done}
use Rattle.file.proofs.File.set_next.Goals as goal

pub returns-then-not-in_annual_days : goal.returns-then-not-in_annual_days
returns-then-not-in_annual_days c = run-refused c.args.self.now c.args.today.0 (sym c.in_annual_days.ensures ∙ c.if-not-in_annual_days.true)

pub returns-then-self : goal.returns-then-self
returns-then-self c = run-leaving c.args.self.now c.args.today.0 (sym c.in_annual_days.ensures ∙ c.if-not-in_annual_days.false) c.if-self.true

pub returns : goal.returns
returns c =
    run-done c.args.self.now c.args.today.0 _ _ _ _ _ (sym c.in_annual_days.ensures ∙ c.if-not-in_annual_days.false) c.if-self.false c.month_of-current.ensures
    c.months_before.ensures c.months_before-2.ensures c.recorded-totals.ensures c.annual_amount-amount.ensures
