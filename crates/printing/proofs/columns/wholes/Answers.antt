-- `printing::columns::wholes` meets its contract: each turn takes away one digit.
-- Assumes nothing.
use mathlib.Core.Path.{◌∙◌, refl}
use Prim.Native.Nat.{ℕ, ◌/◌}
use native.Mathlib.Omega.{arith}
use Rattle.std.proofs.Common.{rules}
use Rattle.std.proofs.lemmas.Iterator.{YieldsList-from_range}
use Rattle.std.proofs.lemmas.Iterator.Consumers.{fold_from_yields_List}
use Rattle.printing.proofs.ColumnLaws.{all_wholes}
use Rattle.printing.proofs.columns.wholes.Goals as goal

pub returns : goal.returns
returns c =
    let k = c.args.places in
    fold_from_yields_List _ (λ left (_ : ℕ). left / 10) c.args.n _ c.fold.ensures.ran (YieldsList-from_range 0 k k refl (omega arith)) (λ a x b q e. search rules)
    ∙ all_wholes k c.args.n
