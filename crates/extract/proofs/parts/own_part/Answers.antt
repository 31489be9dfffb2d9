-- `extract::parts::own_part` meets its contract: the search tests each part in turn.
-- Assumes nothing.
use borrow.Author.Rules.{rules}
use borrow.Author.Tests.{tests}
use mathlib.Core.Path.{◌≡◌}
use mathlib.Core.Bool.{true, false}
use lib.Dec.{eqb}
use Rattle.std.proofs.lemmas.Iterator.{first_from_Range}
use Rattle.batch.specs.Batch.{participant_at}
use Rattle.extract.proofs.PartLaws.{no_batch, part_found}
use Rattle.extract.proofs.parts.own_part.Goals as goal

pub returns-in_default : goal.returns-in_default
returns-in_default c = search (no_batch, rules)

pub returns : goal.returns
returns c =
    part_found c.args.participant c.args.file.now _ c.form_of.ensures _ _ c.in-Ok.is
    (first_from_Range _ _ _ _ (λ k. eqb (participant_at c.args.file.now k) c.args.participant ≡ true)
    (λ k. eqb (participant_at c.args.file.now k) c.args.participant ≡ false) c.find.ensures.ran
    (λ x q k. search (rules, tests)) (λ x q k. search (rules, tests)))
