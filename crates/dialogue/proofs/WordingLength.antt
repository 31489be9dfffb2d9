-- The most bytes of a wording.
-- Assumes nothing.
use Rattle.std.proofs.Common.{ℕ, zero, suc, ◌+◌, ◌/◌, ◌^◌, ◌≤◌, div-le_self, Bool, true, false, cond, List, [], ◌∷◌, ◌++◌, length, take, ℤ, pos, negsuc, arith, length-append, eqb}
use Rattle.std.proofs.lemmas.List.{length-take}
use lib.Signed.{mag}
use Rattle.laws.specs.Cases.{by-test}
use Rattle.laws.specs.Lists.{all-default}
use Rattle.words.specs.Text.{text}
use Rattle.words.specs.Bytes.{some}
use Rattle.printing.specs.declared.Answer.{Answer}
use Rattle.printing.specs.Decimals.{decimal}
use Rattle.printing.specs.Columns.{digits, fixed}
use Rattle.printing.specs.Dates.{date_text}
use Rattle.printing.proofs.ColumnLaws.{digits-count}
use Rattle.report.proofs.Lengths.{fixed-short, date-short}
use Rattle.wording.specs.WrongWord.{wrong_word}
use Rattle.wording.specs.Wording.{causes, cause_text, because, why_refused, of_pair, euros_of, labelled, counted, called_text, total_text, annual_text}
use Rattle.wording.specs.Wording.{deletion_text, statement_text, comma_hint, word_text, wording}
use Rattle.dialogue.specs.Said.{Small, SmallNumbers}
use Rattle.dialogue.proofs.Lengths.{decimal-short, number_short}

-- ---- why a call is refused

cause-short : (n : ℕ) → length (cause_text n) ≤ 60
unfolding cause_text causes
cause-short n =
    all-default (λ (t : List ℕ). length t ≤ 60) causes n [] (omega arith)
    (omega arith, (omega arith, (omega arith, (omega arith, (omega arith, (omega arith, (omega arith, (omega arith, (omega arith, (omega arith, (omega arith, (omega arith, (omega arith, (omega arith, (omega arith, (omega arith, (omega arith, (omega arith, (omega arith, (omega arith, (omega arith, (omega arith, (omega arith, (omega arith, (omega arith, (omega arith, tt))))))))))))))))))))))))))

because-short : (c t : List ℕ) → length (because c t) ≤ 2 + length c + length t
unfolding because
because-short [] t = omega arith
because-short (b ∷ c) t = omega (arith, length-append c t)

pair-short : (i : ℕ) → Small i → length (of_pair i) ≤ 45
unfolding of_pair
pair-short i h = simp length-append (omega (arith, number_short i h))

refused-short : (n k : ℕ) (t : List ℕ) → length t ≤ k → length (why_refused n t) ≤ 62 + k
unfolding why_refused
refused-short n k t h = omega (arith, because-short (cause_text n) t, cause-short n)

-- ---- amounts

euros-short : (n : ℕ) → n ≤ 18446744073709551616 → length (fixed 2 n) ≤ 23
unfolding fixed
euros-short n h =
    omega (
      arith,
      length-append (decimal (n / 10 ^ 2)) (46 ∷ digits 2 n),
      digits-count 2 n,
      decimal-short 19 (n / 10 ^ 2) (omega (arith, div-le_self n (10 ^ 2))),
    )

signed-short : (z : ℤ) → Small (mag z) → length (euros_of z) ≤ 24
unfolding euros_of
signed-short (pos n) h = omega (arith, euros-short n (omega arith))
signed-short (negsuc n) h = omega (arith, euros-short (suc n) (omega arith))

labelled-short : (l : List ℕ) (n : ℕ) → Small n → length (labelled l n) ≤ length l + 23
unfolding labelled
labelled-short l n h = omega (arith, length-append l (fixed 2 n), euros-short n (omega arith))

counted-short : (l m : List ℕ) (n : ℕ) → Small n → length (counted l n m) ≤ length l + 20 + length m
unfolding counted
counted-short l m n h = omega (arith, length-append (l ++ decimal n) m, length-append l (decimal n), number_short n h)

-- ---- the word that is wrong

hint-short : (w : List ℕ) → length (comma_hint w) ≤ 46
unfolding comma_hint
hint-short w = by-test (some (λ b. eqb b 44) w) (text "  no comma: whole cents, or euros as 20000.00") [] (λ (t : List ℕ). length t ≤ 46) (λ e. omega arith) (λ e. omega arith)

word-short : (w : List ℕ) → length (word_text w) ≤ 88
unfolding word_text
word-short [] = omega arith
word-short (b ∷ w) =
    simp length-append (omega (arith, length-take 40 (b ∷ w), hint-short (b ∷ w)))

-- ---- every answer

-- The wording of an answer with numbers of 64 bits has at most 300 bytes.
pub wording-short : (a : Answer) (l : List ℕ) → SmallNumbers a → length (wording a l) ≤ 300
unfolding wording called_text total_text annual_text deletion_text statement_text
wording-short Answer.Nothing l h = omega arith
wording-short (Answer.Refused n) l h = omega (arith, refused-short n 0 [] (omega arith))
wording-short (Answer.RefusedPair n i) l h = omega (arith, refused-short n 45 (of_pair i) (pair-short i h.1))
wording-short (Answer.Called e a d) l h =
    simp length-append (omega (arith, labelled-short (text "  total ") e h.0, labelled-short (text ", lodge ") a h.1, date-short d.0))
wording-short (Answer.Covered e) l h = simp length-append (omega (arith, signed-short e h))
wording-short (Answer.Recorded e) l h = simp length-append (omega (arith, signed-short e h))
wording-short (Answer.Annual a m) l h =
    simp length-append (omega (arith, labelled-short (text "  next amount ") a h.0, counted-short (text " from ") (text " months") m h.1))
wording-short (Answer.Statement f c s d m n) l h =
    simp length-append
    (omega (
      arith,
      labelled-short (text "  firm ") f h.0,
      labelled-short (text ", cover ") c h.1,
      labelled-short (text ", shortfall ") s h.2,
      counted-short (text ", ") (text " days charged, charge ") d h.3,
      fixed-short 5 m (omega (arith, h.4)),
      counted-short (text ", ") (text " calls made") n h.5,
    ))
wording-short (Answer.Special c) l h = omega (arith, labelled-short (text "  ") c h)
wording-short (Answer.Releasable c) l h = omega (arith, labelled-short (text "  ") c h)
wording-short (Answer.Deletion a true) l h = simp length-append (omega (arith, labelled-short (text "  amount ") a h))
wording-short (Answer.Deletion a false) l h = simp length-append (omega (arith, labelled-short (text "  amount ") a h))
wording-short (Answer.Error n e) l h = omega (arith, word-short (wrong_word e l))
wording-short a l h = omega arith
