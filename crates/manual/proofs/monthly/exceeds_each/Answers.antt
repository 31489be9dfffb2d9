-- `manual::monthly::exceeds_each` meets its contract: the closure is the definition's test of one amount. Assumes nothing.
use borrow.Author.Rules.{rules}
use borrow.Author.Tests.{tests}
use mathlib.Core.Path.{◌∙◌}
use lib.IntN.{pos}
use lib.Signed.{lt_z}
use Rattle.std.proofs.lemmas.Iterator.{YieldsList-from_slice}
use Rattle.std.proofs.lemmas.Iterator.Search.{all_from_yields_List}
use Rattle.manual.proofs.Each.{all_each}
use Rattle.manual.proofs.monthly.exceeds_each.Goals as goal

pub returns : goal.returns
returns c =
    all_from_yields_List (λ a. lt_z (pos a) c.args.total) _ _ _ c.all.ensures.ran (YieldsList-from_slice c.args.amounts.now cc)
    (λ x b q k. search (rules, tests))
    ∙ all_each c.args.total c.args.amounts.now
