-- Hexadecimal digits, and the bytes of a word of them, written one by one.
-- Assumes nothing.
use Prim.Native.Nat.{ℕ, suc, ◌+◌, ◌*◌, ◌/◌, ◌≤◌, ◌<◌, min}
use mathlib.Core.Path.{◌≡◌, refl, sym, ap, ◌∙◌}
use mathlib.Core.Bool.{Bool, true, false, ◌&&◌, ◌||◌}
use mathlib.Core.List.{List, [], ◌∷◌}
use native.Mathlib.Numerals.{add-one}
use native.Mathlib.Omega.{arith}
use borrow.Author.Tests.{leb-true, leb-false}
use lib.IntN.{ℤ, pos}
use lib.Dec.{leb}
use Rattle.std.specs.Char.{is_ascii_hexdigit}
use Rattle.std.specs.List.{list_all}
use lib.ListN.{length, drop, get_or, set, length-drop}
use lib.Seq.{sets, set_out}
use Rattle.laws.specs.Cases.{split, and_left, and_right}
use Rattle.words.specs.Bytes.{digit, each}
use Rattle.words.specs.Hex.{lower_hex, upper_hex, hex_digit, hex_value, bytes_of_hex}
use Rattle.words.proofs.Scans.{drop_at}

-- The bounds of the digits and of the letters.

digit-in : (b : ℕ) → digit b ≡ true → (48 ≤ b) × (b ≤ 57)
unfolding digit
digit-in b e = (leb-true 48 b (and_left (leb 48 b) (leb b 57) e), leb-true b 57 (and_right (leb 48 b) (leb b 57) e))

lower_in : (b : ℕ) → lower_hex b ≡ true → (97 ≤ b) × (b ≤ 102)
unfolding lower_hex
lower_in b e = (leb-true 97 b (and_left (leb 97 b) (leb b 102) e), leb-true b 102 (and_right (leb 97 b) (leb b 102) e))

upper_in : (b : ℕ) → upper_hex b ≡ true → (65 ≤ b) × (b ≤ 70)
unfolding upper_hex
upper_in b e = (leb-true 65 b (and_left (leb 65 b) (leb b 70) e), leb-true b 70 (and_right (leb 65 b) (leb b 70) e))

-- it is below 16
pub value_small : (b : ℕ) → hex_value b < 16
unfolding hex_value
value_small b =
    split (digit b) (λ t. rw t (omega (arith, (digit-in b t).1)))
    (λ t.
    split (lower_hex b) (λ u. rw (t, u) (omega (arith, (lower_in b u).1)))
    (λ u. split (upper_hex b) (λ s. rw (t, u, s) (omega (arith, (upper_in b s).1))) (λ s. rw (t, u, s) (omega arith))))

-- each byte of a word is a hexadecimal digit
swapped : (a b c : Bool) → ((a || b) || c) ≡ (a || (c || b))
swapped true b c = refl
swapped false true true = refl
swapped false true false = refl
swapped false false true = refl
swapped false false false = refl

hex-is : (b : ℕ) → is_ascii_hexdigit b ≡ hex_digit b
unfolding hex_digit digit lower_hex upper_hex
hex-is b = swapped (leb 48 b && leb b 57) (leb 65 b && leb b 70) (leb 97 b && leb b 102)

pub each_hex : (w : List ℕ) → list_all is_ascii_hexdigit w ≡ each hex_digit w
unfolding each
each_hex [] = refl
each_hex (b ∷ w) = rw (hex-is b) (ap (λ (t : Bool). hex_digit b && t) (each_hex w))

-- There are half as many bytes as digits.
pub bytes-long : (w : List ℕ) → length (bytes_of_hex w) ≡ length w / 2
unfolding bytes_of_hex
bytes-long [] = refl
bytes-long (a ∷ []) = refl
bytes-long (a ∷ b ∷ w) = omega (arith, bytes-long w)

-- The loop over the bytes: those that are left, written from place i on, give what all of them give.

few_bytes : (w : List ℕ) → length w ≤ 1 → bytes_of_hex w ≡ []
unfolding bytes_of_hex
few_bytes [] h = refl
few_bytes (a ∷ []) h = refl
few_bytes (a ∷ b ∷ w) h = absurd (omega arith)

next-byte : (w : List ℕ) (i : ℕ) → i < length w / 2
    → bytes_of_hex (drop (2 * i) w)
    ≡ pos (16 * hex_value (get_or w (2 * i) 0) + hex_value (get_or w (2 * i + 1) 0)) ∷ bytes_of_hex (drop (2 * (i + 1)) w)
unfolding bytes_of_hex
next-byte w i h =
    let e : 2 * i + 1 + 1 ≡ 2 * (i + 1) = omega arith in
    rw (drop_at w (2 * i) (omega arith), drop_at w (2 * i + 1) (omega arith), e)

sets-out : (e : List ℤ) (i : ℕ) (zs : List ℤ) → length e ≤ i → sets e i zs ≡ e
sets-out e i [] h = refl
sets-out e i (z ∷ zs) h = rw (set_out e i z h) (sets-out e (suc i) zs (omega arith))

set_next : (f : List ℤ) (i : ℕ) (z : ℤ) (zs : List ℤ) → sets (set f i z) (i + 1) zs ≡ sets f i (z ∷ zs)
set_next f i z zs = rw (add-one i)

module _ (w : List ℕ) (e f : List ℤ) (i : ℕ) (known : sets f i (bytes_of_hex (drop (2 * i) w)) ≡ sets e 0 (bytes_of_hex w)) where
  pub bytes_goes : (v : ℤ) → i < length w / 2 → v ≡ pos (16 * hex_value (get_or w (2 * i) 0) + hex_value (get_or w (2 * i + 1) 0))
      → sets (set f i v) (i + 1) (bytes_of_hex (drop (2 * (i + 1)) w)) ≡ sets e 0 (bytes_of_hex w)
  bytes_goes v h g =
      let e : bytes_of_hex (drop (2 * i) w) ≡ v ∷ bytes_of_hex (drop (2 * (i + 1)) w) = rw g (next-byte w i h) in
      set_next f i v (bytes_of_hex (drop (2 * (i + 1)) w)) ∙ sym (ap (sets f i) e) ∙ known

  pub bytes_ended : (n : ℕ) → n ≡ min (length e) (length w / 2) → n ≤ i → length f ≡ length e → f ≡ sets e 0 (bytes_of_hex w)
  bytes_ended n q h g =
      split (leb (length f) i) (λ t. sym (sets-out f i (bytes_of_hex (drop (2 * i) w)) (leb-true (length f) i t)) ∙ known)
      (λ t.
      let b = leb-false (length f) i t in
      sym (ap (sets f i) (few_bytes (drop (2 * i) w) (omega (arith, length-drop (2 * i) w)))) ∙ known)
