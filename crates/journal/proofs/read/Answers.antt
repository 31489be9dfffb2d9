-- `journal::read` meets its contract: the line without its comment, and the call that its first word names.
-- Assumes nothing.
use Rattle.journal.proofs.LineLaws.{line_control, line_nothing, line_call}
use Rattle.journal.proofs.read.Goals as goal

pub returns-then-has_control : goal.returns-then-has_control
returns-then-has_control c = line_control _ _ c.content-text.ensures _ _ c.has_control.ensures c.if-has_control.true

pub returns-in_default : goal.returns-in_default
returns-in_default c = line_nothing _ _ c.content-text.ensures _ _ c.has_control.ensures c.if-has_control.false c.in_default.ensures.steps.0

pub returns : goal.returns
returns c = line_call _ _ c.content-text.ensures _ _ c.has_control.ensures c.if-has_control.false _ _ _ _ c.in-Some.ensures.steps c.call.ensures
