-- `serving::session::Session::take_part` meets its contract: the lines are taken, and the rest is moved to the front.
-- Assumes nothing.
use Rattle.serving.proofs.BufferLaws.{part-taken, part-counted}
use Rattle.serving.proofs.session.Session.take_part.Goals as goal

pub returns-clause-taken : goal.returns-clause-taken
returns-clause-taken c = part-taken _ _ _ _ _ _ _ _ _ _ _ c.requires c.in_ok-used.ensures.drained c.keep_rest-desk.ensures

pub returns-clause-counted : goal.returns-clause-counted
returns-clause-counted c = part-counted _ _ _ _ _ _ _ _ _ _ _ c.requires c.in_ok-used.ensures.drained c.keep_rest-desk.ensures _ _ _ c.in_ok-used.ensures.bytes c.behind-desk.ensures
