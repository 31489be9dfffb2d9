-- `batch::checks::form_of` meets its contract: the causes one after the other, each with its pair.
-- Assumes nothing.
use Rattle.batch.proofs.CheckLaws.{form-short, some_pairs, form-misplaced, form-end, form-wrong, form-parts}
use borrow.Author.Rules.{rules}
use Rattle.batch.proofs.checks.form_of.Goals as goal

pub returns-then-too_short : goal.returns-then-too_short
returns-then-too_short c = search (form-short, rules)

pub returns-in-Some : goal.returns-in-Some
returns-in-Some c = search (form-misplaced, rules)

pub overflow_sub-n : goal.overflow_sub-n
overflow_sub-n c = search (some_pairs, rules)

pub overflow_sub-result : goal.overflow_sub-result
overflow_sub-result c = search (some_pairs, rules)

pub returns-then-end-file : goal.returns-then-end-file
returns-then-end-file c = search (form-end, rules)

pub returns-in-Some-first_wrong : goal.returns-in-Some-first_wrong
returns-in-Some-first_wrong c = search (form-wrong, rules)

pub returns : goal.returns
returns c = search (form-parts, rules)
