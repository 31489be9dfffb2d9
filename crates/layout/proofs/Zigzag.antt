-- A signed number as a word and back: twice the number from 0 on, twice what is left of it and one below.
-- Assumes nothing.
use Prim.Native.Nat.{ℕ, ◌+◌, ◌*◌, ◌/◌, ◌%◌}
use mathlib.Core.Path.{◌≡◌, refl, sym, ap, ◌∙◌}
use mathlib.Core.Bool.{true, false}
use native.Mathlib.Omega.{arith}
use borrow.Author.Rules.{sfits_of}
use borrow.Author.Tests.{ltb-true, eq-eqb, ne_eqb}
use mir.Facts.{to_z-of_z, to_z_pos}
use mir.Syntax.{w64}
use mir.Val.{Fits, SFits, to_z}
use lib.IntN.{ℤ, pos, negsuc, nat_abs, ◌-ℤ◌}
use lib.Signed.{mag, lt_z}
use Rattle.laws.specs.Cases.{clash}
use Rattle.laws.specs.Read.{read}
use Rattle.laws.specs.Magnitudes.{less-pos, read-flipped}
use Rattle.layout.specs.Parts.{signed_of_word, zigzag_of}

-- ---- from a word

module _ (w : ℕ) (f : Fits w64 w) where
  half : to_z w64 (w / 2) ≡ pos (w / 2)
  half = to_z_pos w64 (omega (arith, f.fits))

  flipped : negsuc 0 -ℤ to_z w64 (w / 2) ≡ negsuc (w / 2)
  flipped = ap (λ z. negsuc 0 -ℤ z) half ∙ less-pos (w / 2)

  pub fits-odd : SFits w64 (negsuc 0 -ℤ to_z w64 (w / 2))
  fits-odd = rw flipped (sfits_of (omega (arith, f.fits)))

  pub even_is : w % 2 ≡ 0 → to_z w64 (w / 2) ≡ signed_of_word w
  unfolding signed_of_word
  even_is e = half ∙ sym (simp (eq-eqb (w % 2) 0 e))

  pub odd_is : (w % 2 ≡ 0 → ⊥) → read (negsuc 0 -ℤ to_z w64 (w / 2)) ≡ signed_of_word w
  unfolding signed_of_word
  odd_is e = to_z-of_z fits-odd ∙ flipped ∙ sym (simp (ne_eqb (w % 2) 0 e))

-- ---- to a word

-- The word of a number below 0 is odd.
odd-word : (z : ℤ) → lt_z z (pos 0) ≡ true → mag z * 2 + 1 ≡ zigzag_of z
unfolding zigzag_of
odd-word (pos k) t = absurd (omega (arith, ltb-true k 0 t))
odd-word (negsuc k) t = refl

-- The code's step, below 0.
pub negative-is : (z : ℤ) → SFits w64 z → lt_z (read z) (pos 0) ≡ true → nat_abs (read (negsuc 0 -ℤ read z)) * 2 + 1 ≡ zigzag_of z
negative-is z s t = rw (read-flipped z s t) (odd-word z (rw (to_z-of_z s) at t))

-- The word of any other is even.
even-word : (z : ℤ) → lt_z z (pos 0) ≡ false → nat_abs z * 2 ≡ zigzag_of z
unfolding zigzag_of
even-word (pos k) t = refl
even-word (negsuc k) t = clash refl t

-- The code's step, from 0 on.
pub natural-is : (z : ℤ) → SFits w64 z → lt_z (read z) (pos 0) ≡ false → nat_abs (read z) * 2 ≡ zigzag_of z
natural-is z s t = rw (to_z-of_z s) (even-word z (rw (to_z-of_z s) at t))

-- ---- there and back

pub signed_back : (z : ℤ) → signed_of_word (zigzag_of z) ≡ z
unfolding signed_of_word zigzag_of
signed_back (pos n) =
    let e : n * 2 % 2 ≡ 0 = omega arith in
    let h : n * 2 / 2 ≡ n = omega arith in
    simp (eq-eqb (n * 2 % 2) 0 e, h)
signed_back (negsuc n) =
    let e : (n * 2 + 1) % 2 ≡ 1 = omega arith in
    let h : (n * 2 + 1) / 2 ≡ n = omega arith in
    simp (e, h)
