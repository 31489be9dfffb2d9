-- `serving::session::Session::replay` meets its contract: the input is taken to its end, and what the buffer holds of it is passed over.
-- Assumes nothing.
use Rattle.serving.proofs.ReplayLaws.{replayed}
use Rattle.serving.proofs.session.Session.replay.Goals as goal

pub returns : goal.returns
returns c = λ e.
    replayed _ _ _ _ _ _ _ _ _ _ _ (c.in_ok-take_parts.ensures.counted e) c.args.buffer.now.size c.take_parts.new.buffer.room
    c.in_ok-take_parts.ensures.on c.rest.ensures c.pass.ensures
