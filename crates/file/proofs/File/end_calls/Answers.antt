-- `file::File::end_calls` meets its contract: each open call ends, or takes the next place.
-- Assumes nothing.
use native.Mathlib.Omega.{arith}
use mathlib.Core.Path.{◌∙◌, sym}
use Prim.Native.Nat.{◌<◌}
use lib.ListN.{take}
use Rattle.file.specs.Calls.{call_of}
use Rattle.file.proofs.AtOpening.{open_are, calls_none, ends-next, stays-next, place_next, calls_all}
use Rattle.file.proofs.File.end_calls.Goals as goal
use Rattle.file.proofs.File.end_calls.Goals.{then-ends_at, else-ends_at}

pub loop-call-init : goal.loop-call-init
loop-call-init c = calls_none c.args.day.0 c.args.self.now

pub loop-call-preserved : goal.loop-call-preserved
loop-call-preserved c =
    let f = c.args.self.now in
    let l = c.loop-call in
    let here = sym c.ends_at.ensures in
    elim c.if-ends_at.branch [
      | then-ends_at w ↦
          w.self-is
          ∙ ends-next f l.self c.args.day.0 l.call-index (take f.count f.calls) _ c.loop-call-test.true (open_are f) c.requires l.invariant _
          (here ∙ w.if-ends_at.true) w.max-self.ensures
      | else-ends_at w ↦
          w.self-is
          ∙ stays-next f l.self c.args.day.0 l.call-index (take f.count f.calls) _ c.loop-call-test.true (open_are f) c.requires l.invariant
          (here ∙ w.if-ends_at.false)
    ]

pub offset_bounds-self-self : goal.offset_bounds-self-self
offset_bounds-self-self c =
    let f = c.args.self.now in
    let few : c.loop-call.self.count < 4 =
    place_next f c.loop-call.self c.args.day.0 c.loop-call.call-index (take f.count f.calls) (call_of 0 0) c.loop-call-test.true (open_are f) c.requires
    c.loop-call.invariant in
    omega arith

pub bounds-self-self : goal.bounds-self-self
bounds-self-self c =
    let f = c.args.self.now in
    place_next f c.loop-call.self c.args.day.0 c.loop-call.call-index (take f.count f.calls) (call_of 0 0) c.loop-call-test.true (open_are f) c.requires
    c.loop-call.invariant

pub overflow_add-self : goal.overflow_add-self
overflow_add-self c =
    let f = c.args.self.now in
    let few : c.loop-call.self.count < 4 =
    place_next f c.loop-call.self c.args.day.0 c.loop-call.call-index (take f.count f.calls) (call_of 0 0) c.loop-call-test.true (open_are f) c.requires
    c.loop-call.invariant in
    omega arith

pub returns : goal.returns
returns c =
    let f = c.args.self.now in
    calls_all f c.loop-call.self c.args.day.0 c.loop-call.call-index (take f.count f.calls) (open_are f) c.loop-call-test.false c.loop-call.invariant
