-- `has_sound_calls` meets its contract: each place is tested.
-- Assumes nothing.
use mathlib.Core.Path.{refl}
use Rattle.std.proofs.Common.{rules}
use Rattle.formed.specs.Checks.{CallAt}
use Rattle.formed.proofs.Decided.{all-decides}
use Rattle.formed.proofs.PartLaws.{call-decides}
use Rattle.formed.proofs.files.FileWords.has_sound_calls.Goals as goal

pub returns : goal.returns
returns c =
    let s = c.args.self in
    all-decides (CallAt s.words.now s.at) 4 _ _ _ c.all.ensures.ran refl (λ k b q e. search (call-decides, rules))
