-- A small total as a signed number of 64 bits.
-- Assumes nothing.
use Rattle.std.proofs.Common.{◌≡◌, ℕ, ◌≤◌, pos, to_z, w64, arith}
use mir.Facts.{to_z_pos}

pub called_total : (e : ℕ) → e ≤ 16000000000000 → to_z w64 e ≡ pos e
called_total e small = to_z_pos w64 (omega (arith, small))
