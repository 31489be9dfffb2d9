-- `file::File::is_exceeded_by` meets its contract: the closure is the definition's test of one call. Assumes nothing.
use borrow.Author.Rules.{rules}
use borrow.Author.Tests.{tests, lt-ltb, le-ltb}
use mathlib.Core.Path.{◌∙◌, refl}
use lib.Dec.{ltb}
use lib.ListN.{take}
use Rattle.std.proofs.lemmas.Iterator.{YieldsList-from_slice}
use Rattle.std.proofs.lemmas.Iterator.Search.{all_from_yields_List}
use Rattle.manual.specs.Check.{exceeds_each}
use Rattle.file.specs.declared.OpenCall.{OpenCall}
use Rattle.file.specs.Fields.{open_calls}
use Rattle.file.proofs.Deletions.{each_call}
use Rattle.file.proofs.File.is_exceeded_by.Goals as goal

pub returns-then-self-amount : goal.returns-then-self-amount
unfolding exceeds_each open_calls
returns-then-self-amount c =
    all_from_yields_List (λ (k : OpenCall). ltb k.amount c.args.amount) _ _ _ c.all.ensures.ran (YieldsList-from_slice (take c.args.self.now.count c.args.self.now.calls) cc)
    (λ x b q k. search (rules, tests))
    ∙ rw (lt-ltb c.args.self.now.firm c.args.amount c.if-self-amount.true) (each_call c.args.amount (take c.args.self.now.count c.args.self.now.calls))

pub returns-else-self-amount : goal.returns-else-self-amount
unfolding exceeds_each open_calls
returns-else-self-amount c = rw (le-ltb c.args.self.now.firm c.args.amount c.if-self-amount.false) refl
