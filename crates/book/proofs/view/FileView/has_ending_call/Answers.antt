-- `book::view::FileView::has_ending_call` meets its contract: as many calls are open as are counted, and each is tested until one ends.
-- Assumes nothing.
use Rattle.std.proofs.Common.{rules}
use mathlib.Core.Path.{refl, sym, ◌∙◌}
use Rattle.file.specs.Calls.{call_of, ends_at}
use Rattle.file.specs.Fields.{open_calls}
use Rattle.book.specs.Seen.{file_seen}
use Rattle.book.proofs.Functions.Viewing.{any-part, calls-counted}
use Rattle.book.proofs.view.FileView.has_ending_call.Goals as goal

pub returns : goal.returns
returns c =
    let v = c.args.self in
    any-part (ends_at c.args.day.0) (open_calls (file_seen v)) (call_of 0 0) _ _ _ _ c.any.ensures.ran refl
    (calls-counted v.words.now v.participant v.sound ∙ sym c.count.ensures.0) (λ k b q e. search rules)
