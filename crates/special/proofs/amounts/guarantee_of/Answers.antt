-- `special::amounts::guarantee_of` meets its contract: within the bounds every product, sum and difference fits.
-- Assumes nothing.
use Rattle.special.proofs.Amount.{fits-gross, gross-bound, fits-net, amount-is}
use Rattle.special.proofs.Bounds.{bounded-same, amount-same}
use mathlib.Core.Path.{refl, ◌∙◌}
use borrow.Author.Rules.{rules}
use Rattle.special.proofs.amounts.guarantee_of.Goals as goal

pub overflow_add-settled : goal.overflow_add-settled
overflow_add-settled c = let b = c.requires.bounded in
    fits-gross c.args.medium c.sum.result c.args.low c.sum-2.result b.medium-ratio (rw c.sum.ensures b.medium-sum) b.low-ratio (rw c.sum-2.ensures b.low_sum)

pub nearest_whole-requires : goal.nearest_whole-requires
nearest_whole-requires c = let b = c.requires.bounded in
    (search rules, search rules, gross-bound c.args.medium c.sum.result c.args.low c.sum-2.result b.medium-ratio (rw c.sum.ensures b.medium-sum) b.low-ratio (rw c.sum-2.ensures b.low_sum))

pub overflow_sub-nearest_whole : goal.overflow_sub-nearest_whole
overflow_sub-nearest_whole c =
    fits-net _ _ _ _ _ _ (bounded-same refl c.sum.ensures refl c.sum-2.ensures c.sum-3.ensures c.sum-4.ensures c.requires.bounded) _
    c.nearest_whole.ensures

pub returns : goal.returns
returns c =
    amount-is _ _ _ _ _ _ (bounded-same refl c.sum.ensures refl c.sum-2.ensures c.sum-3.ensures c.sum-4.ensures c.requires.bounded) _
    c.nearest_whole.ensures _ c.raised.ensures
    ∙ amount-same refl c.sum.ensures refl c.sum-2.ensures c.sum-3.ensures c.sum-4.ensures
