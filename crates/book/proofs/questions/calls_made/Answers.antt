-- `book::questions::calls_made` meets its contract: the chain's sum is that of the counts of all files.
-- Assumes nothing.
use native.Mathlib.Omega.{arith}
use borrow.Author.Rules.{rules}
use Rattle.std.proofs.lemmas.Iterator.{YieldsList-from_map, YieldsList-from_range}
use Rattle.std.proofs.lemmas.Iterator.Consumers.{sum_by_from_yields_List, fits_by_from_yields_list}
use Rattle.std.specs.List.{range_with_len}
use Rattle.book.proofs.Functions.OnWords.{made_at, counts-fit, given-count}
use Rattle.book.proofs.questions.calls_made.Goals as goal

pub sum-requires-clause-fits : goal.sum-requires-clause-fits
sum-requires-clause-fits c =
    let g = made_at c.args.words.now in
    fits_by_from_yields_list g (range_with_len 0 64) _ _
    (YieldsList-from_map _ g (YieldsList-from_range 0 64 64 c.map.ensures.source (omega arith)) c.map.ensures.closure (λ x r q k. search rules))
    (omega (arith, counts-fit c.args.words.now c.requires))

pub returns : goal.returns
returns c =
    let l = c.args.words.now in
    let g = made_at l in
    given-count l _
    (sum_by_from_yields_List g (range_with_len 0 64) _ _ c.sum.ensures.ran
    (YieldsList-from_map _ g (YieldsList-from_range 0 64 64 c.map.ensures.source (omega arith)) c.map.ensures.closure (λ x r q k. search rules)))
