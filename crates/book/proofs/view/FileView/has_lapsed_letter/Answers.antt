-- `book::view::FileView::has_lapsed_letter` meets its contract: each of the eight positions is tested until one has lapsed.
-- Assumes nothing.
use Rattle.std.proofs.Common.{rules}
use mathlib.Core.Path.{refl}
use Rattle.file.specs.declared.Slot.{Slot}
use Rattle.file.specs.declared.Position.TheVariants.{Empty}
use Rattle.file.specs.Position.{slot_of, lapsed_by}
use Rattle.book.specs.Seen.{file_seen}
use Rattle.book.proofs.Functions.Viewing.{any-part, slots-eight}
use Rattle.book.proofs.view.FileView.has_lapsed_letter.Goals as goal

pub returns : goal.returns
returns c =
    let v = c.args.self in
    any-part (λ (s : Slot). lapsed_by c.args.day.0 s.position) (file_seen v).slots (slot_of Empty) 8 _ _ _ c.any.ensures.ran refl
    (slots-eight v.words.now v.participant) (λ k b q e. search rules)
