-- `special::rates::Best::mean` meets its contract: the sum of three rates in range fits, and is rounded as the definition says.
-- Assumes nothing.
use Rattle.special.proofs.Means.{fits-two, fits-three, three-small, mean-is}
use borrow.Author.Rules.{rules}
use Rattle.special.proofs.rates.Best.mean.Goals as goal

pub overflow_add-self : goal.overflow_add-self
overflow_add-self c = let b = c.args.self in fits-two b.a b.b b.c c.requires

pub overflow_add-self-2 : goal.overflow_add-self-2
overflow_add-self-2 c = let b = c.args.self in fits-three b.a b.b b.c c.requires

pub nearest_whole-requires : goal.nearest_whole-requires
nearest_whole-requires c = let b = c.args.self in
    (search rules, search rules, three-small b.a b.b b.c c.requires)

pub returns : goal.returns
returns c = let b = c.args.self in
    mean-is b.a b.b b.c c.requires _ c.nearest_whole.type_inv c.nearest_whole.ensures
