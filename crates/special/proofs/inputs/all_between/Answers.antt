-- `special::inputs::all_between` meets its contract: the closure is the definition's test of one number.
-- Assumes nothing.
use borrow.Author.Rules.{rules}
use borrow.Author.Tests.{tests}
use mathlib.Core.Path.{◌∙◌}
use Rattle.std.proofs.lemmas.Iterator.{YieldsList-from_slice}
use Rattle.std.proofs.lemmas.Iterator.Search.{all_from_yields_List}
use Rattle.special.specs.Ranges.{between}
use Rattle.special.proofs.Walks.{all_every}
use Rattle.special.proofs.inputs.all_between.Goals as goal

pub returns : goal.returns
returns c =
    let test = between c.args.low c.args.high in
    all_from_yields_List test _ _ _ c.all.ensures.ran (YieldsList-from_slice c.args.list.now cc) (λ x b q k. search (rules, tests))
    ∙ all_every test c.args.list.now
