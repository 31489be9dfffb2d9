-- `words::line::has_control` meets its contract: some byte is a control byte where the definition finds one.
-- Assumes nothing.
use Rattle.std.proofs.Common.{rules, ◌∙◌}
use Rattle.std.proofs.lemmas.Iterator.{YieldsList-from_slice}
use Rattle.std.proofs.lemmas.Iterator.Search.{any_from_yields_List}
use borrow.Author.Tests.{tests}
use Rattle.words.specs.Bytes.{control}
use Rattle.words.proofs.Scans.{some_any}
use Rattle.words.proofs.line.has_control.Goals as goal

pub returns : goal.returns
returns c =
    any_from_yields_List control _ _ _ c.any.ensures.ran (YieldsList-from_slice c.args.s.now cc) (λ x b q k. search (rules, tests))
    ∙ some_any control c.args.s.now
