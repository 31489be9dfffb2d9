-- `batch::checks::first_wrong` meets its contract. The loop's invariant: none of the first i parts is wrong, and their participants are marked.
-- Assumes nothing.
use Rattle.batch.proofs.CheckLaws.{passed_first, seen_first, seen_next, right-next, wrong-length, wrong-twice, wrong-none}
use borrow.Author.Rules.{rules}
use Rattle.batch.proofs.checks.first_wrong.Goals.{then-wrong_length-via-then-wrong_length, then-wrong_length-via-else-wrong_length+then-seen-p}
use Rattle.batch.proofs.checks.first_wrong.Goals as goal

pub loop-i-init : goal.loop-i-init
loop-i-init c = (search (seen_first, rules), search (passed_first, rules))

pub returns-then-wrong_length : goal.returns-then-wrong_length
returns-then-wrong_length c = elim c.then-wrong_length.branch [
  | then-wrong_length-via-then-wrong_length w ↦ search (wrong-length, rules)
  | then-wrong_length-via-else-wrong_length+then-seen-p w ↦ search (wrong-twice, rules)
]

pub loop-i-preserved : goal.loop-i-preserved
loop-i-preserved c = (search (seen_next, rules), search (right-next, rules))

pub returns : goal.returns
returns c = search (wrong-none, rules)
