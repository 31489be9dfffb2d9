-- `report::rows::admitted_count` meets its contract: the chain's sum is that of the admitted among all participants.
-- Assumes nothing.
use mathlib.Core.Path.{◌≡◌, ◌∙◌}
use native.Mathlib.Omega.{arith}
use borrow.Author.Rules.{rules}
use Rattle.std.proofs.lemmas.Iterator.{YieldsList-from_map, YieldsList-from_range}
use Rattle.std.proofs.lemmas.Iterator.Consumers.{sum_by_from_yields_List, fits_by_from_yields_list}
use Rattle.std.specs.List.{sum_by, range_with_len}
use Rattle.layout.specs.Words.{book_of_words}
use Rattle.report.proofs.TableLaws.{admitted_as, all_admitted, admitted-small}
use Rattle.report.proofs.rows.admitted_count.Goals as goal

pub sum-requires-clause-fits : goal.sum-requires-clause-fits
sum-requires-clause-fits c =
    let b = book_of_words c.args.book.now in
    let g = admitted_as b in
    fits_by_from_yields_list g (range_with_len 0 64) _ _
    (YieldsList-from_map _ g (YieldsList-from_range 0 64 64 c.map.ensures.source (omega arith)) c.map.ensures.closure (λ x r q k. search rules))
    (omega (arith, admitted-small b))

pub returns : goal.returns
returns c =
    let b = book_of_words c.args.book.now in
    let g = admitted_as b in
    let sum : c.sum.result ≡ sum_by g (range_with_len 0 64) =
    sum_by_from_yields_List g (range_with_len 0 64) _ _ c.sum.ensures.ran
    (YieldsList-from_map _ g (YieldsList-from_range 0 64 64 c.map.ensures.source (omega arith)) c.map.ensures.closure (λ x r q k. search rules)) in
    sum ∙ all_admitted b
