-- Paper 01, 'One participant's file' (002, 3.1): "Roles and minimum guarantees: 0 Supplier and 1 Self-Supplied Customer €20,000; 2 Trader
-- €10,000; 3 Producer, 4 RES Aggregator, 5 Demand Response Aggregator none (0)."
-- Assumes nothing.
use Rattle.std.specs.Prelude.{ℕ, List, [], ◌∷◌, get_or}

-- The six minimums, in cents, by role.
abbrev pub minimums : List ℕ
minimums = 2000000 ∷ 2000000 ∷ 1000000 ∷ 0 ∷ 0 ∷ 0 ∷ []

-- A role's minimum guarantee; 0 for a number that is no role.
unfoldable pub minimum_of : ℕ → ℕ
minimum_of role = get_or minimums role 0
