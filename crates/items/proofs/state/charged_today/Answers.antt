-- `items::state::charged_today` meets its contract: the statement of the participant has the figures that the opening left.
-- Assumes nothing.
use borrow.Author.Rules.{rules}
use Rattle.items.proofs.StatedLaws.{charged_none, charged_zero, charged_some}
use Rattle.items.proofs.state.charged_today.Goals as goal

pub returns-in_default : goal.returns-in_default
returns-in_default c = search (charged_none, rules)

pub returns-then-s-eq0 : goal.returns-then-s-eq0
returns-then-s-eq0 c = search (charged_zero, rules)

pub returns : goal.returns
returns c = search (charged_some, rules)
