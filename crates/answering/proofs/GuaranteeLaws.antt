-- The special guarantee of lists in a row: parts of the row, marks, and their number.
-- Assumes nothing.
use Rattle.std.specs.Prelude.{Err}
use Rattle.std.proofs.Common.{◌≡◌, ℕ, ◌<◌, true, ltb, List, map, length, ℤ, arith, ltb-false}
use borrow.Author.Tests.{ne_eqb}
use lib.ListN.{length-map}
use Rattle.laws.specs.Cases.{split}
use Rattle.refusal.specs.declared.Refusal.TheVariants.{ListLengths}
use Rattle.special.specs.Causes.{wrong_lengths}
use Rattle.special.specs.Guarantee.{special_guarantee}
use Rattle.answering.specs.Asked.{mark_of}

-- More than 64 marks are refused: either the low rates are more than 64 too, or they are fewer than the marks.
marks-wrong : (a b c d e f g : ℕ) → 64 < c → wrong_lengths a b c d e f g ≡ true
unfolding wrong_lengths
marks-wrong a b c d e f g h =
    split (ltb 64 a) (λ s. simp s)
    (λ s.
    split (ltb 64 b) (λ t. simp (s, t))
    (λ t.
    let n : c ≡ b → ⊥ = λ p. omega (arith, ltb-false 64 b t) in
    simp (s, t, ne_eqb c b n)))

pub marks_refused : (medium low marked zero_medium zero_low excess_medium excess_low : List ℤ) → 64 < length marked
    → Err ListLengths ≡ special_guarantee medium low (map mark_of marked) zero_medium zero_low excess_medium excess_low
unfolding special_guarantee
marks_refused medium low marked zero_medium zero_low excess_medium excess_low k =
    let many : 64 < length (map mark_of marked) = omega (arith, length-map marked mark_of) in
    rw (marks-wrong (length medium) (length low) (length (map mark_of marked)) (length zero_medium) (length zero_low) (length excess_medium)
    (length excess_low)
    many)
