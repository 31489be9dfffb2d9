-- `is_sound` meets its contract: the file is sound where each of its parts is.
-- Assumes nothing.
use mathlib.Core.Path.{refl}
use Rattle.formed.specs.Decides.{Decides, Below}
use Rattle.formed.specs.Checks.{SlotAt, CallAt, TotalAt}
use Rattle.formed.proofs.Decided.{and-then, and-else}
use Rattle.formed.proofs.SoundLaws.{whole-decides}
use Rattle.formed.proofs.files.FileWords.is_sound.Goals as goal
use Rattle.formed.proofs.files.FileWords.is_sound.Goals.{then-has_sound_slots, else-has_sound_slots, then-has_sound_calls, else-has_sound_calls}

pub returns-then-has_sound_totals : goal.returns-then-has_sound_totals
returns-then-has_sound_totals c =
    let s = c.args.self in
    let l = s.words.now in
    let two : Decides c.if-has_sound_slots.value (Below 8 (SlotAt l s.at) × Below 4 (CallAt l s.at)) =
    elim c.if-has_sound_slots.branch [
      | then-has_sound_slots w ↦ and-then _ _ _ c.has_sound_slots.ensures w.if-has_sound_slots.true w.value-is w.has_sound_calls.ensures
      | else-has_sound_slots w ↦ and-else _ _ c.has_sound_slots.ensures w.if-has_sound_slots.false w.value-is
    ] in
    let three : Decides c.if-has_sound_calls.value ((Below 8 (SlotAt l s.at) × Below 4 (CallAt l s.at)) × Below 16 (TotalAt l s.at)) =
    elim c.if-has_sound_calls.branch [
      | then-has_sound_calls w ↦ and-then _ _ _ two w.if-has_sound_calls.true w.value-is w.has_sound_totals.ensures
      | else-has_sound_calls w ↦ and-else _ _ two w.if-has_sound_calls.false w.value-is
    ] in
    whole-decides l s.at s.today _ s.day (and-then _ _ _ three c.if-has_sound_totals.true refl c.has_sound_amounts.ensures)

pub returns-else-has_sound_totals : goal.returns-else-has_sound_totals
returns-else-has_sound_totals c =
    let s = c.args.self in
    let l = s.words.now in
    let two : Decides c.if-has_sound_slots.value (Below 8 (SlotAt l s.at) × Below 4 (CallAt l s.at)) =
    elim c.if-has_sound_slots.branch [
      | then-has_sound_slots w ↦ and-then _ _ _ c.has_sound_slots.ensures w.if-has_sound_slots.true w.value-is w.has_sound_calls.ensures
      | else-has_sound_slots w ↦ and-else _ _ c.has_sound_slots.ensures w.if-has_sound_slots.false w.value-is
    ] in
    let three : Decides c.if-has_sound_calls.value ((Below 8 (SlotAt l s.at) × Below 4 (CallAt l s.at)) × Below 16 (TotalAt l s.at)) =
    elim c.if-has_sound_calls.branch [
      | then-has_sound_calls w ↦ and-then _ _ _ two w.if-has_sound_calls.true w.value-is w.has_sound_totals.ensures
      | else-has_sound_calls w ↦ and-else _ _ two w.if-has_sound_calls.false w.value-is
    ] in
    whole-decides l s.at s.today _ s.day (and-else _ _ three c.if-has_sound_totals.false refl)
