-- `book::questions::is_admitted` meets its contract: the view is refused where the participant isn't admitted.
-- Assumes nothing.
use mathlib.Core.Path.{◌∙◌}
use Rattle.book.proofs.Functions.Viewing.{admitted-known}
use Rattle.book.proofs.questions.is_admitted.Goals as goal

pub returns : goal.returns
returns c = c.is_ok.ensures.value ∙ admitted-known _ _ c.admitted.result _ (λ v h. (h.2, h.3)) c.admitted.ensures
