-- A test that says whether something holds, and what holds at every place below a number.
-- Assumes nothing.
use Rattle.std.specs.Prelude.{ℕ, ◌<◌, ◌≡◌, Bool, true, false}

-- Whether a test says if something holds: where it is true it holds, where it is false it doesn't.
pub record Decides (r : Bool) (P : Type 0) : Type 0 where
  pub yes : r ≡ true → P
  pub no : r ≡ false → P → ⊥

-- P holds at every place below n.
unfoldable pub Below : ℕ → (ℕ → Type 0) → Type 0
Below n P = (k : ℕ) → k < n → P k
