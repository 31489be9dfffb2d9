-- `manual::monthly::check` meets its contract: where a call is made the total is a natural number above the deposited guarantee, so neither the cast
-- nor the difference loses anything. Assumes nothing.
use borrow.Author.Rules.{rules}
use borrow.Author.Tests.{not-true, not-false}
use Rattle.laws.specs.Integers.{cast_fits}
use Rattle.manual.proofs.Calls.{covered, called, called-natural, called-above}
use Rattle.manual.proofs.monthly.check.Goals as goal

pub returns-then-not-calls_for : goal.returns-then-not-calls_for
returns-then-not-calls_for c = search (covered, not-true, rules)

pub overflow_cast-amount : goal.overflow_cast-amount
overflow_cast-amount c = (search (called-natural, not-false, rules), search (cast_fits, rules))

pub overflow_sub-result : goal.overflow_sub-result
overflow_sub-result c = search (called-above, not-false, rules)

pub returns : goal.returns
returns c = search (called, not-false, rules)
