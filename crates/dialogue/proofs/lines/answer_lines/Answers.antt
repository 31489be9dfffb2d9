-- `dialogue::lines::answer_lines` meets its contract: after each turn the lines up to `used` are taken.
-- Assumes nothing.
use Rattle.dialogue.proofs.TurnLaws.{none_taken, cleared, cleared-same, written-same, turn-again, answered}
use Rattle.std.proofs.Common.{refl, ◌∙◌}
use Rattle.dialogue.proofs.lines.answer_lines.Goals as goal

pub loop-n-init : goal.loop-n-init
loop-n-init c = (refl, refl, refl, c.requires, none_taken _ _ _ _ _ _ _ _ c.clear.ensures c.clear-2.ensures, refl, refl)

pub loop-n-preserved : goal.loop-n-preserved
loop-n-preserved c =
    let inv = c.loop-n.invariant in
    let one = c.answer_line-place.ensures in
    let t = turn-again _ _ _ _ _ _ _ _ _ _ _ _ _ _ _ _ inv.4 c.next_line.ensures c.in-Some.is one inv.0 in (
      c.answer_line-place.auto.numbers ∙ inv.0,
      t.same_journal ∙ inv.1,
      t.same_answers ∙ inv.2,
      one.formed,
      t.taken,
      written-same _ _ _ one.journal ∙ inv.5,
      written-same _ _ _ one.bytes ∙ inv.6,
    )

pub returns-clause-well_formed : goal.returns-clause-well_formed
returns-clause-well_formed c =
    let inv = c.loop-n.invariant in
    (inv.3, inv.4.within, inv.1 ∙ cleared _ _ c.clear.ensures, inv.2 ∙ cleared _ _ c.clear-2.ensures)

pub returns-clause-same_references : goal.returns-clause-same_references
returns-clause-same_references c =
    let inv = c.loop-n.invariant in (inv.5 ∙ cleared-same _ _ c.clear.ensures, inv.6 ∙ cleared-same _ _ c.clear-2.ensures)

pub returns-clause-answers : goal.returns-clause-answers
returns-clause-answers c = answered _ _ _ _ _ _ _ _ _ _ c.loop-n.invariant.4 c.next_line.ensures c.in_default.is
