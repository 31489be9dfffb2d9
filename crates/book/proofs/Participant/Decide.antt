-- A decision that accepts had no cause, and one with no cause gives the answer.
-- Assumes nothing.
use Prim.Native.Nat.{ℕ}
use mathlib.Core.Path.{◌≡◌, refl, sym, ap, ◌∙◌}
use mathlib.Core.Bool.{Bool, true, false, cond, ◌&&◌}
use mathlib.Core.List.{List, [], ◌∷◌, ◌++◌}
use Rattle.laws.specs.Cases.{split, cond-true, cond-false}
use Rattle.file.specs.Answer.{Answer, refused, Cause, decide, accepted}
use Rattle.file.specs.DecideLaws.{none-holds}
use Rattle.book.proofs.Participant.Lawful.{NoneHolds}

-- The first cause of a list decides, or else the rest.
pub decide_true : (c : Cause) (causes : List Cause) (x : Answer) → c.holds ≡ true → decide refused (c ∷ causes) x ≡ refused c.number
unfolding decide
decide_true c causes x e = cond-true c.holds (refused c.number) (decide refused causes x) e

pub decide-false : (c : Cause) (causes : List Cause) (x : Answer) → c.holds ≡ false → decide refused (c ∷ causes) x ≡ decide refused causes x
unfolding decide
decide-false c causes x e = cond-false c.holds (refused c.number) (decide refused causes x) e

-- A decision with no cause gives the answer.
pub decide-none : (causes : List Cause) (x : Answer) → NoneHolds causes → decide refused causes x ≡ x
unfolding decide
decide-none [] x n = refl
decide-none (c ∷ causes) x n = decide-false c causes x n.0 ∙ decide-none causes x n.1

-- An accepted decision gives the answer.
pub decide-accepted : (causes : List Cause) (x : Answer) → accepted (decide refused causes x) ≡ true → decide refused causes x ≡ x
decide-accepted causes x e = decide-none causes x (none-holds causes x e)

-- A cause before an answer that goes on by further causes is one list of causes.
pub decide-first : (c : Cause) (causes : List Cause) (x y : Answer) → (c.holds ≡ false → x ≡ decide refused causes y)
    → decide refused (c ∷ []) x ≡ decide refused (c ∷ causes) y
unfolding decide
decide-first c causes x y rest =
    split c.holds
    (λ e. decide_true c [] x e ∙ sym (decide_true c causes y e))
    (λ e. decide-false c [] x e ∙ rest e ∙ sym (decide-false c causes y e))

-- Two lists of causes with the same first cause decide the same where the rest does.
pub decide-same : (c : Cause) (causes others : List Cause) (x y : Answer)
    → (c.holds ≡ false → decide refused causes x ≡ decide refused others y)
    → decide refused (c ∷ causes) x ≡ decide refused (c ∷ others) y
decide-same c causes others x y rest =
    split c.holds
    (λ e. decide_true c causes x e ∙ sym (decide_true c others y e))
    (λ e. decide-false c causes x e ∙ rest e ∙ sym (decide-false c others y e))

-- A last cause refuses what the causes before it would accept.
refuse-last : (n : ℕ) (causes : List Cause) (x : Answer) → accepted x ≡ true
    → cond (accepted (decide refused causes x)) (refused n) (decide refused causes x) ≡ decide refused causes (refused n)
unfolding decide
refuse-last n [] x e = rw e refl
refuse-last n (c ∷ causes) x e = split c.holds (λ h. rw h refl) (λ h. rw h (refuse-last n causes x e))

pub last-cause : (n : ℕ) (t : Bool) (causes : List Cause) (x : Answer) → accepted x ≡ true
    → cond (t && accepted (decide refused causes x)) (refused n) (decide refused causes x)
    ≡ decide refused causes (decide refused (record { number = n; holds = t } ∷ []) x)
unfolding decide
last-cause n true causes x e = refuse-last n causes x e
last-cause n false causes x e = refl

-- Causes behind others.
pub decide-behind : (causes more : List Cause) (x : Answer) → decide refused (causes ++ more) x ≡ decide refused causes (decide refused more x)
unfolding decide
decide-behind [] more x = refl
decide-behind (c ∷ causes) more x = ap (cond c.holds (refused c.number)) (decide-behind causes more x)

none-front : (causes more : List Cause) → NoneHolds (causes ++ more) → NoneHolds causes
none-front [] more n = tt
none-front (c ∷ causes) more n = (n.0, none-front causes more n.1)

-- An accepted decision had none of its causes, also those before others.
pub none_before : (c : Cause) (causes more : List Cause) (x : Answer) → accepted (decide refused (c ∷ (causes ++ more)) x) ≡ true
    → (c.holds ≡ false) × NoneHolds causes
none_before c causes more x e = let n = none-holds (c ∷ (causes ++ more)) x e in (n.0, none-front causes more n.1)
