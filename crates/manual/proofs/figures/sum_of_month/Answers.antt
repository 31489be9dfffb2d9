-- `manual::figures::sum_of_month` meets its contract. A wrong count is cause 10, and the first figure out of its range is cause 11.
-- Assumes nothing.
use borrow.Author.Rules.{rules}
use native.Mathlib.Omega.{arith}
use mathlib.Core.Path.{refl}
use borrow.Author.Tests.{not-false}
use lib.IntN.{+ℤ_idl}
use Rattle.manual.proofs.Sums.{wrong-number, at-least-five, at-most-sixteen, out_of_range_lem, sum_fits, sum-again, sum-ends}
use Rattle.manual.proofs.figures.sum_of_month.Goals as goal

pub returns-then-wrong_count : goal.returns-then-wrong_count
returns-then-wrong_count g c = search (wrong-number, rules)

pub loop-i-init : goal.loop-i-init
loop-i-init g c = (search (at-least-five, rules), search (at-most-sixteen, rules), search rules, (omega arith, refl, omega arith, +ℤ_idl _))

pub returns-then-not-within : goal.returns-then-not-within
returns-then-not-within g c =
    search (out_of_range_lem, rules)

pub overflow_add-total : goal.overflow_add-total
overflow_add-total g c =
    search (sum_fits, not-false, rules)

pub loop-i-preserved : goal.loop-i-preserved
loop-i-preserved g c =
    (search rules, search rules, search rules, search (sum-again, rules))

pub returns : goal.returns
returns g c = search (sum-ends, rules)
