-- Which numbers paper 01, 'Special guarantee', takes.
-- Assumes nothing.
use Rattle.std.specs.Prelude.{ℕ, ◌≤◌, ◌≡◌, Bool, true, ◌&&◌, List, leb, length, ℤ, pos, neg_ℤ}
use Rattle.std.specs.Int.Signed.{le_z}
-- `every test list` is whether every element of a list passes a test
unfoldable pub use Rattle.laws.specs.Every.{every}

-- Whether x is one of the numbers from low to high, both included.
abbrev pub between : ℤ → ℤ → ℤ → Bool
between low high x = le_z low x && le_z x high

-- "Rates are hundredths of a percent within plus or minus 100,000".
abbrev pub rates_in_range : List ℤ → Bool
rates_in_range = every (between (neg_ℤ (pos 100000)) (pos 100000))

-- "1 first represented that semester, else 0".
abbrev pub marks_in_range : List ℕ → Bool
marks_in_range = every (λ m. leb m 1)

-- "Zero settlements are cents within plus or minus 10^12".
abbrev pub zeros_in_range : List ℤ → Bool
zeros_in_range = every (between (neg_ℤ (pos 1000000000000)) (pos 1000000000000))

-- ".. excesses 0 to 10^12".
abbrev pub excesses_in_range : List ℤ → Bool
excesses_in_range = every (between (pos 0) (pos 1000000000000))

-- What the causes leave of a list of zero settlements or excesses: at most 16 numbers, each within plus or minus 10^12.
pub record Amounts (list : List ℤ) : Type 0 where
  pub few : length list ≤ 16
  pub small : zeros_in_range list ≡ true
