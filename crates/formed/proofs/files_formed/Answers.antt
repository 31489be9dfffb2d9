-- `formed::files_formed` meets its contract: each file is tested.
-- Assumes nothing.
use mathlib.Core.Path.{refl}
use Rattle.std.proofs.Common.{rules}
use Rattle.formed.specs.Checks.{FileAt}
use Rattle.formed.proofs.Decided.{all-decides}
use Rattle.formed.proofs.files_formed.Goals as goal

pub returns : goal.returns
returns c = all-decides (FileAt c.args.today c.args.words.now) 64 _ _ _ c.all.ensures.ran refl (λ k b q e. search rules)
