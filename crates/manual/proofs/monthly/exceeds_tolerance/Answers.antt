-- `manual::monthly::exceeds_tolerance` meets its contract: 5 × E ≥ 6 × D, for E above D, is E − D ≥ D / 5 rounded up. Assumes nothing.
use borrow.Author.Rules.{rules}
use Rattle.manual.proofs.Tolerance.{tolerance-refused, tolerance-tested}
use Rattle.manual.proofs.monthly.exceeds_tolerance.Goals as goal

pub returns-then-exceeds : goal.returns-then-exceeds
returns-then-exceeds c = search (tolerance-tested, rules)

pub returns-else-exceeds : goal.returns-else-exceeds
returns-else-exceeds c = search (tolerance-refused, rules)
