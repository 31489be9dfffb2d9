-- `wording::wrong::wrong_in` meets its contract: the beginnings are tried from the shortest on.
-- Assumes nothing.
use Rattle.std.proofs.Common.{sym, ◌∙◌}
use Rattle.wording.proofs.WordLaws.{wrong_on, wrong_here, wrong_nowhere}
use Rattle.wording.proofs.wrong.wrong_in.Goals as goal
use borrow.Author.Rules.{rules}
use borrow.Author.Tests.{tests}

pub returns-then-goes_wrong : goal.returns-then-goes_wrong
returns-then-goes_wrong c =
    wrong_here c.args.why c.args.text.now c.loop-i.i c.loop-i.invariant _ c.loop-i-test.true (sym c.goes_wrong.ensures ∙ c.if-goes_wrong.true)
    c.last_word.ensures

pub loop-i-preserved : goal.loop-i-preserved
loop-i-preserved c = search (wrong_on, rules, tests)

pub returns : goal.returns
returns c = search (wrong_nowhere, rules, tests)
