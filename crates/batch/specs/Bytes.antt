-- Numbers in the bytes of a file. Paper 02, Ask 1: "A batch is, least byte first".
-- Assumes nothing.
use Rattle.std.specs.Prelude.{ℕ, zero, suc, ◌+◌, ◌*◌, ◌-◌, ◌<◌, ◌≡◌, cond, List, ltb, length, get_or, ℤ, pos, negsuc}

-- The number in the n bytes of a file from a place on, least byte first. There is no byte behind the end: it counts as 0.
unfoldable pub number_at : List ℕ → ℕ → ℕ → ℕ
number_at file at zero = 0
number_at file at (suc n) = get_or file at 0 + 256 * number_at file (suc at) n

-- "signed 8-byte cents": the signed number that 8 bytes with this number are, in two's complement.
unfoldable pub signed_of : ℕ → ℤ
signed_of w = cond (ltb w 9223372036854775808) (pos w) (negsuc (18446744073709551615 - w))

-- The n bytes of a file from a place on.
pub record BytesAt (file : List ℕ) (at n : ℕ) (bytes : List ℕ) : Type 0 where
  pub long : length bytes ≡ n
  pub each : (i : ℕ) → i < n → get_or bytes i 0 ≡ get_or file (at + i) 0
