-- Causes of refusal, in an order, and the answer that they leave. Paper 01: "A call is accepted when none of its causes of refusal holds, and is
-- otherwise refused with the first that does."
-- Assumes nothing.
use Rattle.std.specs.Prelude.{ℕ, Bool, cond, List, [], ◌∷◌}

-- A cause of refusal: its number, and whether it holds.
pub record Cause : Type 0 where
  pub number : ℕ
  pub holds : Bool

-- The answer where none of the causes holds, else the refusal with the number of the first that does.
unfoldable pub decide : {A : Type 0} → (ℕ → A) → List Cause → A → A
decide refused [] answer = answer
decide refused (c ∷ causes) answer = cond c.holds (refused c.number) (decide refused causes answer)
