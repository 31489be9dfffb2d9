-- `batch::checks::first_misplaced` meets its contract: the search tests each pair in turn.
-- Assumes nothing.
use borrow.Author.Rules.{rules}
use borrow.Author.Tests.{tests}
use mathlib.Core.Path.{◌≡◌}
use mathlib.Core.Bool.{true, false}
use Rattle.std.proofs.lemmas.Iterator.{first_from_Range}
use Rattle.batch.specs.Batch.{misplaced}
use Rattle.batch.proofs.CheckLaws.{misplaced-found}
use Rattle.batch.proofs.checks.first_misplaced.Goals as goal

pub returns : goal.returns
returns c =
    misplaced-found c.args.file.now _ _ c.count.ensures
    (first_from_Range _ _ _ _ (λ k. misplaced c.args.file.now k ≡ true) (λ k. misplaced c.args.file.now k ≡ false) c.find.ensures.ran
    (λ x q k. search (rules, tests)) (λ x q k. search (rules, tests)))
