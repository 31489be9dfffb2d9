-- Numbers read digit by digit, and held in 64 bits.
-- Assumes nothing.
use Rattle.std.proofs.Common.{ℕ, zero, suc, ◌+◌, ◌-◌, ◌*◌, ◌≤◌, ◌<◌, min, ◌≡◌, refl, ap, ◌∙◌, false, List, [], ◌∷◌, Option, Some, option_map, fold, length, take, drop, get_or, ℤ, pos, neg_ℤ, ◌+ℤ◌, ◌-ℤ◌, arith}
use Rattle.std.specs.Int.{saturate_signed}
use borrow.Author.Tests.{leb-true, leb-false, eq-eqb, ne_eqb}
use lib.IntN.{+ℤ_idl}
use mir.Syntax.{w64}
use lib.Dec.{leb}
use lib.Seq.{take_all}
use Rattle.laws.specs.Cases.{split}
use Rattle.words.specs.Bytes.{digit, each}
use Rattle.words.specs.Numerals.{natural, value_from, value, natural_of, unsigned_of, negative_of, signed_of}

-- a word of at least one byte is a natural number exactly if each byte is a digit
pub natural_each : (w : List ℕ) → (length w ≡ 0 → ⊥) → each digit w ≡ natural w
unfolding natural
natural_each [] n = absurd (n refl)
natural_each (b ∷ w) n = refl

pub natural_empty : (w : List ℕ) → length w ≡ 0 → natural w ≡ false
unfolding natural
natural_empty [] e = refl
natural_empty (b ∷ w) e = absurd (omega arith)

-- digits behind a number make it no smaller
value_grows : (n : ℕ) (w : List ℕ) → n ≤ value_from n w
unfolding value_from
value_grows n [] = omega arith
value_grows n (b ∷ w) = omega (arith, value_grows (10 * n + (b - 48)) w)

-- a number held to the largest gives the number that is held to the largest
value-held : (most n : ℕ) (w : List ℕ) → min (value_from (min n most) w) most ≡ min (value_from n w) most
value-held most n w =
    split (leb n most) (λ t. let e : min n most ≡ n = omega (arith, leb-true n most t) in rw e)
    (λ t.
    let e : min n most ≡ most = omega (arith, leb-false n most t) in
    rw e (omega (arith, leb-false n most t, value_grows n w, value_grows most w)))

-- digits read one by one
folded : (n : ℕ) (w : List ℕ) → n ≤ 18446744073709551615
    → fold (λ n b. min (10 * n + (b - 48)) 18446744073709551615) n w ≡ min (value_from n w) 18446744073709551615
unfolding value_from
folded n [] h = omega arith
folded n (b ∷ w) h =
    folded (min (10 * n + (b - 48)) 18446744073709551615) w (omega arith)
    ∙ value-held 18446744073709551615 (10 * n + (b - 48)) w

pub digits_folded : (w : List ℕ) → fold (λ n b. min (10 * n + (b - 48)) 18446744073709551615) 0 w ≡ min (value w) 18446744073709551615
digits_folded w = folded 0 w (omega arith)

-- Signed numbers of 64 bits.

pub held_signed : (n : ℕ) → saturate_signed w64 (pos 0 +ℤ pos n) ≡ pos (min n 9223372036854775807)
held_signed n = let e : min (0 + n) 9223372036854775807 ≡ min n 9223372036854775807 = omega arith in ap pos e

pub held_negative : (n : ℕ) → saturate_signed w64 (pos 0 -ℤ pos n) ≡ neg_ℤ (pos (min n 9223372036854775808))
held_negative zero = refl
held_negative (suc n) =
    let e : suc (min n 9223372036854775807) ≡ min (suc n) 9223372036854775808 = omega arith in
    ap (saturate_signed w64) (+ℤ_idl (neg_ℤ (pos (suc n)))) ∙ ap (λ (k : ℕ). neg_ℤ (pos k)) e

-- A word as a number.

module _ (w : List ℕ) where
  pub mapped : option_map (λ n. pos (min n 9223372036854775807)) (natural_of w) ≡ unsigned_of w
  unfolding natural_of unsigned_of
  mapped = split (natural w) (λ t. rw t (ap Some (ap pos (omega arith)))) (λ t. rw t)

  pub negated : option_map (λ n. neg_ℤ (pos (min n 9223372036854775808))) (natural_of w) ≡ negative_of w
  unfolding natural_of negative_of
  negated =
      let e : min (min (value w) 18446744073709551615) 9223372036854775808 ≡ min (value w) 9223372036854775808 = omega arith in
      split (natural w) (λ t. rw (t, e)) (λ t. rw t)

pub signed_empty : (w : List ℕ) (r : Option ℤ) → length w < 1 → r ≡ unsigned_of w → r ≡ signed_of w
unfolding signed_of unsigned_of
signed_empty [] r e f = f ∙ rw (natural_empty [] refl)
signed_empty (b ∷ w) r e f = absurd (omega arith)

pub signed_minus : (w : List ℕ) (r : Option ℤ) → 1 ≤ length w → get_or w 0 0 ≡ 45 → r ≡ negative_of (take (length w - 1) (drop 1 w)) → r ≡ signed_of w
unfolding signed_of
signed_minus [] r h e f = absurd (omega arith)
signed_minus (b ∷ w) r h e f =
    let g : take (suc (length w) - 1) w ≡ w = take_all (suc (length w) - 1) w (omega arith) in
    rw (eq-eqb b 45 e) (f ∙ ap negative_of g)

pub signed_plain : (w : List ℕ) (r : Option ℤ) → (get_or w 0 0 ≡ 45 → ⊥) → r ≡ unsigned_of w → r ≡ signed_of w
unfolding signed_of
signed_plain [] r e f = signed_empty [] r (omega arith) f
signed_plain (b ∷ w) r e f = rw (ne_eqb b 45 e) f
