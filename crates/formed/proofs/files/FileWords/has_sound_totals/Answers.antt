-- `has_sound_totals` meets its contract: each total's word is tested.
-- Assumes nothing.
use mathlib.Core.Path.{refl}
use Rattle.std.proofs.Common.{rules}
use Rattle.formed.specs.Checks.{TotalAt}
use Rattle.formed.proofs.Decided.{all-decides, by_order}
use Rattle.formed.proofs.files.FileWords.has_sound_totals.Goals as goal

pub returns : goal.returns
returns c =
    let s = c.args.self in
    all-decides (TotalAt s.words.now s.at) 16 _ _ _ c.all.ensures.ran refl (λ k b q e. search (by_order, rules))
