-- A machine's signed number, read from its bits.
-- Assumes nothing.
use Rattle.std.specs.Prelude.{◌^◌, ◌<◌, ◌≡◌, ℤ, nat_abs}
use Rattle.std.proofs.Common.{◌∙◌, to_z, of_z, to_z-of_z}
use Rattle.std.specs.Int.Signed.{mag}
use Rattle.std.specs.Int.{w64}
use Rattle.laws.specs.Signed.{fits_nat_abs}

-- What the code reads where x was stored.
abbrev pub read : ℤ → ℤ
read x = to_z w64 (of_z w64 x)

-- It is the number, where that fits.
pub read_is : (x : ℤ) → mag x < 2 ^ 63 → read x ≡ x
read_is x f = to_z-of_z {w = w64} (record { sfits = f })

-- A number whose magnitude is below 2^63 is read as it is.
pub read-abs : (x : ℤ) → nat_abs x < 2 ^ 63 → read x ≡ x
read-abs x h = read_is x (fits_nat_abs x h).sfits

-- What a call returned is read as what it is equal to.
pub read_of : (r v : ℤ) → mag r < 2 ^ 63 → r ≡ v → read r ≡ v
read_of r v f e = read_is r f ∙ e
