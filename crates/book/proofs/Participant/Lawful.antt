-- What every participant's part of a history has: the days follow each other, and each call bears its day and had no cause of refusal.
-- Assumes nothing.
use Prim.Native.Nat.{ℕ, suc, ◌≤◌}
use mathlib.Core.Path.{◌≡◌}
use mathlib.Core.Bool.{false}
use mathlib.Core.List.{List, [], ◌∷◌}
use Rattle.laws.specs.Lists.{All}
use Rattle.file.specs.Answer.{Cause}
use Rattle.book.specs.Reading.Events.{Own, day_opened, act}
use Rattle.book.specs.Reading.Decisions.{own_causes}

-- Today, by one participant's part.
unfoldable pub today_in : ℕ → List Own → ℕ
today_in s [] = s
today_in s (day_opened d ∷ own) = d
today_in s (act d a ∷ own) = today_in s own

-- None of the causes holds.
abbrev pub NoneHolds : List Cause → Type 0
NoneHolds causes = All (λ (c : Cause). c.holds ≡ false) causes

-- A participant's part of a history from a fresh book on day s.
abbrev pub Lawful : ℕ → List Own → Type 0
Lawful s [] = s ≤ 29219
Lawful s (day_opened d ∷ own) = (d ≡ suc (today_in s own)) × (d ≤ 29219) × Lawful s own
Lawful s (act d a ∷ own) = (d ≡ today_in s own) × NoneHolds (own_causes d own a) × Lawful s own
