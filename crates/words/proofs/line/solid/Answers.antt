-- `words::line::solid` meets its contract: the bytes that are counted are those of the definition.
-- Assumes nothing.
use Rattle.std.proofs.Common.{rules, ◌∙◌, not}
use Rattle.std.proofs.lemmas.Iterator.{YieldsList-from_slice}
use Rattle.std.proofs.lemmas.Iterator.Search.{YieldsList-from_take_while}
use Rattle.std.proofs.lemmas.Iterator.Consumers.{YieldsList-at, count_from_yields_List}
use borrow.Author.Tests.{tests}
use Rattle.words.specs.Bytes.{blank}
use Rattle.words.proofs.Scans.{solid_counted}
use Rattle.words.proofs.line.solid.Goals as goal

pub returns : goal.returns
returns c =
    count_from_yields_List c.take_while.result _ c.count.ensures.ran
    (YieldsList-from_take_while _ (λ b. not (blank b)) (YieldsList-at c.take_while.ensures.source (YieldsList-from_slice c.args.s.now cc)) c.take_while.ensures.closure
    c.take_while.ensures.done (λ x b q k. search (rules, tests)))
    ∙ solid_counted c.args.s.now
