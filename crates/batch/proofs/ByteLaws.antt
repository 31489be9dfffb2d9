-- Numbers of two, four and eight bytes, least byte first, and 64 bits as a signed number.
-- Assumes nothing.
use Prim.Native.Nat.{ℕ, suc, ◌+◌, ◌-◌, ◌<◌}
use native.Mathlib.Omega.{arith}
use mathlib.Core.Path.{◌≡◌, sym, ap, ◌∙◌}
use mathlib.Core.List.{List, [], ◌∷◌}
use borrow.Author.Tests.{ltb-true}
use mir.Syntax.{w16, w32, w64}
use mir.Val.{to_z}
use mir.Facts.{to_z_pos}
use lib.Dec.{ltb}
use lib.IntN.{pos, negsuc}
use lib.ListN.{get_or}
use Rattle.std.specs.Int.{from_le_bytes}
use Rattle.laws.specs.Cases.{split, cond-true}
use Rattle.batch.specs.Bytes.{number_at, signed_of, BytesAt}

module _ (file bytes : List ℕ) (at : ℕ) where
  -- a byte, where its place is counted up
  byte : (n : ℕ) → BytesAt file at n bytes → (i k : ℕ) → i < n → at + i ≡ k → get_or bytes i 0 ≡ get_or file k 0
  byte n b i k h e = b.each i h ∙ ap (λ (m : ℕ). get_or file m 0) e

  pub le_four : BytesAt file at 4 bytes → from_le_bytes w32 bytes ≡ number_at file at 4
  unfolding number_at
  le_four b =
      let b0 = byte 4 b 0 at (omega arith) (omega arith) in
      let b1 = byte 4 b 1 (suc at) (omega arith) (omega arith) in
      let b2 = byte 4 b 2 (suc (suc at)) (omega arith) (omega arith) in
      let b3 = byte 4 b 3 (suc (suc (suc at))) (omega arith) (omega arith) in
      omega arith

  pub le_eight : BytesAt file at 8 bytes → from_le_bytes w64 bytes ≡ number_at file at 8
  unfolding number_at
  le_eight b =
      let b0 = byte 8 b 0 at (omega arith) (omega arith) in
      let b1 = byte 8 b 1 (suc at) (omega arith) (omega arith) in
      let b2 = byte 8 b 2 (suc (suc at)) (omega arith) (omega arith) in
      let b3 = byte 8 b 3 (suc (suc (suc at))) (omega arith) (omega arith) in
      let b4 = byte 8 b 4 (suc (suc (suc (suc at)))) (omega arith) (omega arith) in
      let b5 = byte 8 b 5 (suc (suc (suc (suc (suc at))))) (omega arith) (omega arith) in
      let b6 = byte 8 b 6 (suc (suc (suc (suc (suc (suc at)))))) (omega arith) (omega arith) in
      let b7 = byte 8 b 7 (suc (suc (suc (suc (suc (suc (suc at))))))) (omega arith) (omega arith) in
      omega arith

-- Bytes that are read one by one, of which some may be behind the end.
module _ (file : List ℕ) (at : ℕ) where
  -- a byte, where its place is counted up
  behind : (x i k : ℕ) → x ≡ get_or file (at + i) 0 → at + i ≡ k → x ≡ get_or file k 0
  behind x i k e f = e ∙ ap (λ (m : ℕ). get_or file m 0) f

  pub two_bytes : (a b : ℕ) → a ≡ get_or file at 0 → b ≡ get_or file (at + 1) 0 → from_le_bytes w16 (a ∷ b ∷ []) ≡ number_at file at 2
  unfolding number_at
  two_bytes a b e f =
      let second = behind b 1 (suc at) f (omega arith) in
      omega arith

  pub four_bytes : (a b c d : ℕ) → a ≡ get_or file at 0 → b ≡ get_or file (at + 1) 0 → c ≡ get_or file (at + 2) 0 → d ≡ get_or file (at + 3) 0
      → from_le_bytes w32 (a ∷ b ∷ c ∷ d ∷ []) ≡ number_at file at 4
  unfolding number_at
  four_bytes a b c d e f g h =
      let second = behind b 1 (suc at) f (omega arith) in
      let third = behind c 2 (suc (suc at)) g (omega arith) in
      let fourth = behind d 3 (suc (suc (suc at))) h (omega arith) in
      omega arith

-- 64 bits from 2^63 on are a number below 0.
pub signed-bits : (w : ℕ) → to_z w64 w ≡ signed_of w
unfolding signed_of
signed-bits w =
    split (ltb w 9223372036854775808)
    (λ t. to_z_pos w64 (ltb-true w 9223372036854775808 t) ∙ sym (cond-true (ltb w 9223372036854775808) (pos w) (negsuc (18446744073709551615 - w)) t))
    (λ f. let e : 18446744073709551616 - suc w ≡ 18446744073709551615 - w = omega arith in rw f (ap negsuc e))

pub eight_signed : (file bytes : List ℕ) (at : ℕ) → BytesAt file at 8 bytes → to_z w64 (from_le_bytes w64 bytes) ≡ signed_of (number_at file at 8)
eight_signed file bytes at b = signed-bits (from_le_bytes w64 bytes) ∙ ap signed_of (le_eight file bytes at b)
