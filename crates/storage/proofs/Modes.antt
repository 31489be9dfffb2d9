-- The kind of a file in its mode: bits 12 to 15.
-- Assumes nothing.
use Rattle.std.proofs.Common.{◌≡◌, refl, sym, ℕ, ◌*◌, ◌/◌, ◌%◌, ◌≤◌, Bool, true, false, ◌==◌, ◌↔◌, arith, eq-eqb, ne_eqb}
use mathlib.Core.Bool.{false≢true}
use Rattle.std.specs.Prelude.{bit_and, IsTrue}
use Rattle.std.proofs.lemmas.Nat.{and_mod, and_le_r}
use Rattle.std.proofs.lemmas.Nat.Bits.{and_high_mask}

-- The bits that a mode has under `S_IFMT` are the number in bits 12 to 15, in its place.
pub kind-bits : (m : ℕ) → bit_and m 0o170000 ≡ m / 4096 % 16 * 4096
kind-bits m =
    let low : bit_and m 0o170000 % 65536 ≡ bit_and (m % 65536) 0o170000 = and_mod m 0o170000 16 in
    let bound : bit_and m 0o170000 ≤ 0o170000 = and_le_r m 0o170000 in
    let high : bit_and (m % 65536) 0o170000 ≡ m % 65536 / 4096 * 4096 = and_high_mask 16 12 (omega arith) (m % 65536) (omega arith) in
    omega (arith, low, bound, high)

-- What is true where std's test of the kind holds is whether that number is 8.
pub regular_kind : (b : Bool) (m : ℕ) → IsTrue b ↔ (bit_and m 0o170000 ≡ 0o100000) → b ≡ (m / 4096 % 16 == 8)
regular_kind true m h = sym (eq-eqb (m / 4096 % 16) 8 (omega (arith, kind-bits m, h.0 refl)))
regular_kind false m h = sym (ne_eqb (m / 4096 % 16) 8 (λ e. false≢true (h.1 (omega (arith, kind-bits m, e)))))
