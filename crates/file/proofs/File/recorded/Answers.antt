-- `file::File::recorded` meets its contract: a recorded total takes the next place of the room, any other month adds nothing.
-- Assumes nothing.
use native.Mathlib.Omega.{arith}
use borrow.Author.Rules.{rules}
use mathlib.Core.Path.{◌≡◌, ◌∙◌, sym, ap}
use Prim.Native.Nat.{◌+◌, ◌-◌}
use Rattle.file.specs.Totals.{total_at, totals_from}
use Rattle.file.proofs.Windows.{no-month, month-recorded, month-empty}
use Rattle.file.proofs.File.recorded.Goals as goal
use Rattle.file.proofs.File.recorded.Goals.{in-Some, in_default}

pub loop-passed-init : goal.loop-passed-init
loop-passed-init c = record { long = search rules; count = omega arith; found = no-month _ _ }

pub loop-passed-preserved : goal.loop-passed-preserved
loop-passed-preserved c =
    let l = c.loop-passed in
    let look = total_at c.args.self.now.totals in
    let month : c.months_before.result.0 ≡ c.args.first.0 + l.passed = c.months_before.ensures ∙ omega (arith, c.months_between-months.ensures) in
    elim c.match-total_of.branch [
      | in-Some w ↦
          let more = month-recorded look c.args.first.0 l.passed l.count l.room l.invariant.found _ w.in-Some.total _ month
          (sym c.total_of.ensures ∙ w.in-Some.is) (search rules) (omega (arith, l.invariant.long)) in
          record { long = c.match-total_of.array_long; count = omega (arith, w.count-is); found = rw (w.count-is, w.room-is) more }
      | in_default w ↦
          let more = month-empty look c.args.first.0 l.passed l.count l.room l.invariant.found _ month (sym c.total_of.ensures ∙ w.in_default.is) in
          record { long = c.match-total_of.array_long; count = omega (arith, w.count-is); found = rw (w.count-is, w.room-is) more }
    ]

pub shared_ref_as_front-result : goal.shared_ref_as_front-result
shared_ref_as_front-result c = omega arith

pub returns : goal.returns
returns c =
    let all : c.loop-passed.passed ≡ c.args.end.0 - c.args.first.0 = omega (arith, c.months_between-months.ensures) in
    c.loop-passed.invariant.found ∙ ap (totals_from (total_at c.args.self.now.totals) c.args.first.0) all
