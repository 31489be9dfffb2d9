-- `replay::apply::apply_under` meets its contract: an admission of the first stretch is made by the old rule, and every other call as today, since
-- both rules answer it alike.
-- Assumes nothing.
use mathlib.Core.Path.{◌≡◌}
use mathlib.Core.Bool.{true, false}
use Rattle.laws.specs.Cases.{clash}
use Rattle.replay.specs.Said.{said}
use Rattle.replay.proofs.Stretches.{admits, other_case}
use Rattle.replay.proofs.Replaying.{under-either}
use Rattle.replay.proofs.apply.apply_under.Goals.{in_default-via-in-Admit+else-old, in_default-via-in_default}
use Rattle.replay.proofs.apply.apply_under.Goals as goal

pub returns-in_default : goal.returns-in_default
returns-in_default c =
    let other : c.args.old ≡ true → admits (said c.args.call) ≡ false =
    elim c.in_default.branch [
      | in_default-via-in-Admit+else-old w ↦ λ h. clash h w.if-old.false
      | in_default-via-in_default w ↦ λ h. other_case c.args.call w.in_default.not-Admit
    ] in under-either _ _ _ _ _ other c.apply.ensures
