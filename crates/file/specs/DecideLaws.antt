-- What an accepted call says of its causes of refusal.
-- Assumes nothing.
use Rattle.std.specs.Prelude.{◌≡◌, refl, true, false, List, [], ◌∷◌}
use Rattle.std.proofs.Common.{sym, ap, ◌∙◌}
use Rattle.laws.specs.Lists.{All}
use Rattle.laws.specs.Cases.{split, clash, cond-true, cond-false}
use Rattle.file.specs.Answer.{Answer, refused, Cause, decide, accepted}

-- None of an accepted call's causes holds.
pub none-holds : (causes : List Cause) (answer : Answer) → accepted (decide refused causes answer) ≡ true
    → All (λ (c : Cause). c.holds ≡ false) causes
unfolding decide
none-holds [] answer e = tt
none-holds (c ∷ causes) answer e =
    split c.holds (λ h. clash {t = false} (sym (ap accepted (cond-true _ (refused c.number) (decide refused causes answer) h)) ∙ e) refl)
    (λ h. (h, none-holds causes answer (sym (ap accepted (cond-false _ (refused c.number) (decide refused causes answer) h)) ∙ e)))
