-- Labels in their column, and the reference, as they are written.
-- Assumes nothing.
use Rattle.std.proofs.Common.{◌≡◌, ℕ, suc, ◌-◌, ◌<◌, List, [], ◌∷◌, ◌++◌, length, replicate, refl, ap, arith, length-append, append-nil}
use Rattle.words.specs.Text.{text}
use Rattle.printing.specs.Decimals.{decimal, spaced, joined}
use Rattle.printing.specs.Columns.{padded}
use Rattle.printing.specs.Written.{Sheet, followed}
use Rattle.printing.specs.WrittenLaws.{followed_twice, spaced_one}
use Rattle.entries.specs.Entries.{labelled, placed}
use Rattle.entries.specs.Lines.{reference_text}

-- A label, and behind it the blanks that it leaves of its column.
pub label_put : (s u v : Sheet) (t : List ℕ) (n : ℕ) → n ≡ 20 - length t → u ≡ followed s t → v ≡ followed u (padded n []) → v ≡ followed s (labelled t)
unfolding labelled padded
label_put s u v t n e x y =
    let z : n - 0 ≡ n = omega arith in
    rw (rw (x, z, append-nil {A = ℕ} (replicate n 32), followed_twice, e) at y) refl

-- What a label with a number leaves of a width.
pub placed_left : (t : List ℕ) (k w n : ℕ) → n ≡ w - length t - 1 - length (decimal k) → n ≡ w - length (placed t k)
unfolding placed joined
placed_left t k w n e =
    let one : length (spaced (decimal k ∷ [])) ≡ suc (length (decimal k)) = ap length (spaced_one (decimal k)) in
    omega (arith, e, one, length-append t (spaced (decimal k ∷ [])))

-- No reference, and one.
pub no_reference : (r : List ℕ) → length r ≡ 0 → reference_text r ≡ []
unfolding reference_text
no_reference [] e = refl
no_reference (b ∷ r) e = absurd (omega (arith, e))

pub some_reference : (r : List ℕ) → 0 < length r → reference_text r ≡ text "  # " ++ r
unfolding reference_text
some_reference [] h = absurd (omega (arith, h))
some_reference (b ∷ r) h = refl

-- A text behind what is written, and five one behind the other.
text_more : (s u v : Sheet) (a b : List ℕ) → u ≡ followed s a → v ≡ followed u b → v ≡ followed s (a ++ b)
text_more s u v a b x y = rw (y, x) (followed_twice s a b)

pub call_put : (s t u v w x : Sheet) (a b c d e : List ℕ) → t ≡ followed s a → u ≡ followed t b → v ≡ followed u c → w ≡ followed v d → x ≡ followed w e
    → x ≡ followed s (a ++ b ++ c ++ d ++ e)
call_put s t u v w x a b c d e i j k l m =
    text_more s w x (a ++ b ++ c ++ d) e
    (text_more s v w (a ++ b ++ c) d (text_more s u v (a ++ b) c (text_more s t u a b i j) k) l) m
