-- `words::line::place_of` meets its contract: the first of the words that is the same.
-- Assumes nothing.
use Rattle.std.proofs.Common.{rules, refl, inl, arith, ◌<◌, ◌∙◌, length, eqb}
use Rattle.std.specs.Cmp.Lexicographic.{pointwise}
use Rattle.std.proofs.lemmas.Iterator.Search.{position_from_yields_List}
use Rattle.std.proofs.lemmas.Iterator.Consumers.{YieldsList-from_first}
use borrow.Author.Tests.{tests}
use Rattle.words.specs.Words.{words, left}
use Rattle.words.proofs.WordLaws.{place_found, words_few}
use Rattle.words.proofs.line.place_of.Goals as goal

pub position-requires-clause-fits : goal.position-requires-clause-fits
position-requires-clause-fits c =
    let n : length c.args.names.now < 18446744073709551616 = search rules in
    inl (omega (arith, words_few c.args.names.now))

pub returns : goal.returns
returns c =
    position_from_yields_List (λ n. pointwise eqb c.args.w.now n) c.position.new.self _ _ c.position.ensures.ran
    (YieldsList-from_first (λ x. x.now) left {s = record { text = c.args.names }} (words c.args.names.now) refl) (λ x b q k. search (rules, tests))
    ∙ place_found c.args.w.now (words c.args.names.now)
