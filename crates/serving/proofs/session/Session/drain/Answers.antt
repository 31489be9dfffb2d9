-- `serving::session::Session::drain` meets its contract: each turn takes the lines of more bytes; one that takes none is the last.
-- Assumes nothing.
use Rattle.std.proofs.Common.{refl, sym, ◌∙◌}
use Rattle.serving.proofs.GrowthLaws.{grown-none, grown-on, ends-grown}
use Rattle.serving.proofs.PartLaws.{begins, ends, goes-on-taken}
use Rattle.serving.proofs.session.Session.drain.Goals as goal

pub loop-used-init : goal.loop-used-init
loop-used-init c = record { taken = begins _ _ _ _; grown = grown-none _ _ _ c.args.input.now _ _; well = λ e. e; bytes = refl }

pub returns-then-used-eq0-clause-drained : goal.returns-then-used-eq0-clause-drained
returns-then-used-eq0-clause-drained c =
    let inv = c.loop-used.invariant in
    ends _ _ _ _ _ _ _ _ _ inv.taken c.in_ok-used.ensures.step (c.loop-used.desk.numbers_room ∙ sym c.args.desk.now.numbers_room) c.if-used-eq0.true

pub returns-then-used-eq0-clause-grown : goal.returns-then-used-eq0-clause-grown
returns-then-used-eq0-clause-grown c =
    let inv = c.loop-used.invariant in
    let some = c.in_ok-used.ensures in
    ends-grown _ _ _ _ _ _ _ _ _ _ _ _ _ inv.taken some.step (c.loop-used.desk.numbers_room ∙ sym c.args.desk.now.numbers_room) inv.grown some.grown
    c.if-used-eq0.true

pub loop-used-preserved : goal.loop-used-preserved
loop-used-preserved c =
    let inv = c.loop-used.invariant in
    let some = c.in_ok-used.ensures in
    let same = c.loop-used.desk.numbers_room ∙ sym c.args.desk.now.numbers_room in
    record {
      taken = goes-on-taken _ _ _ _ _ _ _ _ _ inv.taken some.step same;
      grown = grown-on _ _ _ _ _ _ _ _ _ _ _ _ _ inv.taken some.step same inv.grown some.grown;
      well = λ e. inv.well some.well.0;
      bytes = some.bytes ∙ inv.bytes;
    }
