-- Amounts: the form of euros, and a figure with a minus and without.
-- Assumes nothing.
use Rattle.std.proofs.Common.{ℕ, suc, ◌-◌, ◌≤◌, ◌<◌, ◌≡◌, refl, ap, ◌∙◌, true, ◌&&◌, List, [], ◌∷◌, Option, Some, None, option_map, min, pos, neg_ℤ, length, take, drop, get_or, ℤ, arith}
use borrow.Author.Tests.{leb-true, eq-eqb, ne_eqb}
use lib.Dec.{leb, eqb}
use lib.Seq.{take_all}
use Rattle.laws.specs.Cases.{and_left}
use Rattle.words.specs.Numerals.{natural, natural_of}
use Rattle.words.specs.Euros.{is_euros, euros_of, amount_of, held, negated, figure_of}

-- euros are four bytes or more
pub euros_long : (w : List ℕ) → is_euros w ≡ true → 4 ≤ length w
unfolding is_euros
euros_long w e =
    leb-true 4 (length w)
    (and_left (leb 4 (length w))
    (eqb (get_or w (length w - 3) 0) 46 && (natural (take (length w - 3) w) && natural (drop (length w - 2) w)))
    e)

-- an amount held as a signed number, and its negative
pub held_mapped : (x : Option ℕ) → option_map (λ n. pos (min n 9223372036854775807)) x ≡ held x
held_mapped (Some n) = refl
held_mapped None = refl

pub negated_mapped : (x : Option ℕ) → option_map (λ n. neg_ℤ (pos (min n 9223372036854775808))) x ≡ negated x
negated_mapped (Some n) = refl
negated_mapped None = refl

-- no word is no amount
pub figure_empty : (w : List ℕ) (r : Option ℤ) → length w < 1 → r ≡ held (amount_of w) → r ≡ figure_of w
unfolding figure_of amount_of natural_of natural euros_of is_euros
figure_empty [] r e f = f
figure_empty (b ∷ w) r e f = absurd (omega arith)

pub figure_minus : (w : List ℕ) (r : Option ℤ) → 1 ≤ length w → get_or w 0 0 ≡ 45 → r ≡ negated (amount_of (take (length w - 1) (drop 1 w)))
    → r ≡ figure_of w
unfolding figure_of
figure_minus [] r h e f = absurd (omega arith)
figure_minus (b ∷ w) r h e f =
    let g : take (suc (length w) - 1) w ≡ w = take_all (suc (length w) - 1) w (omega arith) in
    rw (eq-eqb b 45 e) (f ∙ ap (λ (v : List ℕ). negated (amount_of v)) g)

pub figure_plain : (w : List ℕ) (r : Option ℤ) → (get_or w 0 0 ≡ 45 → ⊥) → r ≡ held (amount_of w) → r ≡ figure_of w
unfolding figure_of
figure_plain [] r e f = figure_empty [] r (omega arith) f
figure_plain (b ∷ w) r e f = rw (ne_eqb b 45 e) f
