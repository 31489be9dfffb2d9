-- `serving::session::Session::take_parts` meets its contract: each turn takes one part more of the bytes read.
-- Assumes nothing.
use Rattle.std.proofs.Common.{sym, ◌∙◌, arith, rules}
use Rattle.serving.proofs.InputStream.{none-taken, turn, ended-taken}
use Rattle.serving.proofs.session.Session.take_parts.Goals as goal

pub loop-init : goal.loop-init
loop-init c =
    record { counted = λ e. none-taken _ _ _ _ _ _ (search rules) e (search rules); begun = search rules; well = search rules; on = λ e silent. e }

pub returns-then-more-eq0-clause-counted : goal.returns-then-more-eq0-clause-counted
returns-then-more-eq0-clause-counted c = λ e.
    ended-taken _ _ _ _ _ _ _ _ _ _ _ (c.loop.invariant.counted e) c.read_more-read.ensures.filled c.read_more-read.ensures.more.front

pub take_part-requires : goal.take_part-requires
take_part-requires c =
    let within = rw c.in_ok-more.was at c.read_more-read.ensures.more.within in
    omega (arith, within, c.read_more-read.ensures.filled, c.loop.buffer.size, c.loop.buffer.room, c.read_more-read.new.buffer.size)

pub loop-preserved : goal.loop-preserved
loop-preserved c =
    let taken = c.in_ok-take_part.ensures in
    record {
      counted = λ e.
          turn _ _ _ _ _ _ _ _ _ _ _ _ _ _ _ _ _ _ (c.loop.invariant.counted e) e c.read_more-read.ensures.more c.in_ok-more.was c.if-more-eq0.false taken.taken
          c.read_more-read.ensures.filled (c.loop.desk.numbers_room ∙ sym c.args.desk.now.numbers_room) (c.read_more-read.new.buffer.size ∙ sym c.args.buffer.now.size) taken.counted;
      begun = c.loop.invariant.begun;
      well = taken.well.1;
      on = λ e. taken.on;
    }
