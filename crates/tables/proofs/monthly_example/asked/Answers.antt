-- `tables::monthly_example::asked` meets its contract: the check of August 2021 against the known guarantee is computed.
-- Assumes nothing.
use mathlib.Core.Path.{◌≡◌}
use native.Mathlib.Omega.{arith}
use borrow.Author.Rules.{rules}
use Rattle.tables.proofs.Examples.{called}
use Rattle.tables.proofs.monthly_example.asked.Goals as goal

pub overflow_cast-result : goal.overflow_cast-result
overflow_cast-result c =
    let m = rw (called _ _ _ c.sum_of.ensures c.guarantee-deposited.ensures c.check.ensures) at c.map_or.ensures in
    let e : c.map_or.result ≡ 16306600 = search (m, rules) in
    record { fits = omega (arith, e) }

pub returns : goal.returns
returns c =
    let m = rw (called _ _ _ c.sum_of.ensures c.guarantee-deposited.ensures c.check.ensures) at c.map_or.ensures in
    search (m, rules)
