-- `file::opening::empty_lapsed` meets its contract: a slot that has lapsed is emptied, any other stays.
-- Assumes nothing.
use borrow.Author.Rules.{rules}
use mathlib.Core.Path.{◌∙◌}
use Rattle.file.proofs.AtOpening.{slots-none, slots-lapsed, slots-stay, slots-all}
use Rattle.file.proofs.opening.empty_lapsed.Goals as goal
use Rattle.file.proofs.opening.empty_lapsed.Goals.{then-has_lapsed, else-has_lapsed}

pub loop-slot-init : goal.loop-slot-init
loop-slot-init c = slots-none c.args.day.0 c.args.slots.now

pub loop-slot-preserved : goal.loop-slot-preserved
loop-slot-preserved c =
    let l = c.loop-slot in
    elim c.if-has_lapsed.branch [
      | then-has_lapsed w ↦
          w.slot-items-is
          ∙ slots-lapsed l.slot-items c.args.slots.now _ _ c.args.day.0 l.slot-index (search rules) (search rules) l.invariant
          c.has_lapsed.ensures w.if-has_lapsed.true
      | else-has_lapsed w ↦
          w.slot-items-is
          ∙ slots-stay l.slot-items c.args.slots.now _ _ c.args.day.0 l.slot-index (search rules) (search rules) l.invariant
          c.has_lapsed.ensures w.if-has_lapsed.false
    ]

pub returns : goal.returns
returns c = slots-all _ _ c.args.day.0 c.loop-slot.slot-index (search rules) (search rules) c.loop-slot.invariant
