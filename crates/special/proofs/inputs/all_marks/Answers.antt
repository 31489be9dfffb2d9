-- `special::inputs::all_marks` meets its contract: the closure is the definition's test of one mark.
-- Assumes nothing.
use borrow.Author.Rules.{rules}
use borrow.Author.Tests.{tests}
use mathlib.Core.Path.{◌∙◌}
use Rattle.std.proofs.lemmas.Iterator.{YieldsList-from_slice}
use Rattle.std.proofs.lemmas.Iterator.Search.{all_from_yields_List}
use Prim.Native.Nat.{ℕ}
use lib.Dec.{leb}
use Rattle.special.proofs.Walks.{all_every}
use Rattle.special.proofs.inputs.all_marks.Goals as goal

pub returns : goal.returns
returns c =
    let test = λ (m : ℕ). leb m 1 in
    all_from_yields_List test _ _ _ c.all.ensures.ran (YieldsList-from_slice c.args.marks.now cc) (λ x b q k. search (rules, tests))
    ∙ all_every test c.args.marks.now
