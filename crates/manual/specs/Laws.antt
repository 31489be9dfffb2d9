-- What the formulas' users cite: bounds of amounts and charges, what follows where a call is made, and that a deletion's amount doesn't depend on the
-- order of its totals. Assumes nothing.
use Rattle.std.specs.Prelude.{ℕ, zero, suc, ◌≤◌, ◌<◌, ◌≡◌, refl, Bool, true, false, ◌&&◌, ltb, leb, eqb, length, replicate, ℤ, pos, nat_abs}
use Rattle.std.proofs.Common.{sym, ◌∙◌, ap, le_trans, arith, ltb-false, leb-true}
use Rattle.std.proofs.Math.Bool.{and_assoc, and-true}
use mathlib.Core.List.{List, [], ◌∷◌, ◌++◌, reverse, reverse-cons}
use Rattle.std.proofs.lemmas.Bool.{not-false}
use Rattle.std.specs.Int.Signed.{lt_z}
use Rattle.laws.specs.Cases.{split, and_left, and_right, and_both, or-second}
use Rattle.laws.specs.Every.{every, every-default}
use Rattle.laws.specs.Integers.{above-less, above-positive, larger, larger-comm, larger-assoc, larger-within, Within, sum_of, sum_of-bound}
use Rattle.manual.specs.Minimum.{minimums, minimum_of}
use Rattle.manual.specs.Charge.{day_charge}
use Rattle.manual.specs.Check.{exceeds_tolerance, exceeds_each, call_is_made, checked}
use Rattle.manual.specs.Largest.{largest_total, largest_at_least}
use Rattle.manual.specs.Annual.{annual_amount}
use Rattle.manual.specs.Deletion.{deletion_amount}
use Rattle.manual.specs.Figures.{bound, wrong_count, all_within, out_of_range}

-- ---- the minimum guarantee and the day charge

pub minimum_of-bound : (role : ℕ) → minimum_of role ≤ 2000000
unfolding minimum_of every
minimum_of-bound role =
    leb-true (minimum_of role) 2000000 (every-default (λ x. leb x 2000000) minimums role 0 refl refl)

pub day_charge-zero : day_charge 0 ≡ 0
unfolding day_charge
day_charge-zero = refl

pub day_charge-bound : (s b : ℕ) → s ≤ b → 100000000 ≤ b → day_charge s ≤ b
unfolding day_charge
day_charge-bound s b p q = split (eqb s 0) (λ t. rw t (omega arith)) (λ t. rw t (omega arith))

-- ---- a call

module _ (e : ℤ) (d firm : ℕ) (opens : List ℕ) (called : call_is_made e d firm opens ≡ true) where
  pub call_is_made-tolerance : exceeds_tolerance e d ≡ true
  unfolding call_is_made
  call_is_made-tolerance = and_left (exceeds_tolerance e d) (exceeds_each e (firm ∷ opens)) called

  -- the total exceeds the deposited guarantee
  pub call_is_made-above : d < nat_abs e
  unfolding exceeds_tolerance
  call_is_made-above = above-less d e (and_left (lt_z (pos d) e) _ call_is_made-tolerance)

-- a total exceeds each amount of two lists where it exceeds each of both
pub exceeds_each-append : (e : ℤ) (l m : List ℕ) → exceeds_each e (l ++ m) ≡ (exceeds_each e l && exceeds_each e m)
unfolding exceeds_each
exceeds_each-append e [] m = refl
exceeds_each-append e (a ∷ l) m =
    ap (λ (t : Bool). lt_z (pos a) e && t) (exceeds_each-append e l m) ∙ sym (and_assoc (lt_z (pos a) e) (exceeds_each e l) (exceeds_each e m))

exceeds_each-only-zeros : (e : ℤ) (k : ℕ) → lt_z (pos 0) e ≡ true → exceeds_each e (replicate k 0) ≡ true
unfolding exceeds_each
exceeds_each-only-zeros e zero p = refl
exceeds_each-only-zeros e (suc k) p = and_both (lt_z (pos 0) e) (exceeds_each e (replicate k 0)) p (exceeds_each-only-zeros e k p)

-- a total above 0 exceeds zeros behind a list
pub exceeds_each-zeros : (e : ℤ) (l : List ℕ) (k : ℕ) → lt_z (pos 0) e ≡ true → exceeds_each e (l ++ replicate k 0) ≡ exceeds_each e l
exceeds_each-zeros e l k p =
    exceeds_each-append e l (replicate k 0) ∙ ap (λ (t : Bool). exceeds_each e l && t) (exceeds_each-only-zeros e k p) ∙ and-true (exceeds_each e l)

-- zeros behind the open calls' amounts change no check
pub call_is_made-zeros : (e : ℤ) (d firm : ℕ) (l : List ℕ) (k : ℕ) → call_is_made e d firm (l ++ replicate k 0) ≡ call_is_made e d firm l
unfolding call_is_made exceeds_tolerance exceeds_each
call_is_made-zeros e d firm l k =
    split (lt_z (pos d) e) (λ p. rw (exceeds_each-zeros e l k (above-positive d e p))) (λ p. simp p)

pub checked-zeros : (e : ℤ) (d firm : ℕ) (l : List ℕ) (k : ℕ) → checked e d firm (l ++ replicate k 0) ≡ checked e d firm l
unfolding checked
checked-zeros e d firm l k = rw (call_is_made-zeros e d firm l k)

-- ---- the sum of a month's figures

all_within-within : (l : List ℤ) → all_within l ≡ true → Within bound l
unfolding all_within Within
all_within-within [] p = tt
all_within-within (x ∷ l) p =
    let t = leb (nat_abs x) bound in
    (leb-true (nat_abs x) bound (and_left t (all_within l) p), all_within-within l (and_right t (all_within l) p))

-- the figures' number, where cause 10 does not hold
pub wrong_count-at-most : (l : List ℤ) → wrong_count l ≡ false → length l ≤ 16
unfolding wrong_count
wrong_count-at-most l p = ltb-false 16 (length l) (or-second (ltb (length l) 5) (ltb 16 (length l)) p)

-- the sum's bound
pub summed-total : (l : List ℤ) → wrong_count l ≡ false → out_of_range l ≡ false → nat_abs (sum_of l) ≤ 16000000000000
unfolding out_of_range
summed-total l p q =
    le_trans (sum_of-bound bound l (all_within-within l (not-false (all_within l) q))) (omega (arith, wrong_count-at-most l p))

-- ---- the amounts of an annual run and of a deletion

pub largest_total-bound : (b : ℕ) (a : ℤ) (l : List ℤ) → nat_abs a ≤ b → Within b l → nat_abs (largest_total a l) ≤ b
unfolding largest_total Within
largest_total-bound b a [] p w = p
largest_total-bound b a (x ∷ l) p w = larger-within a (largest_total x l) b p (largest_total-bound b x l w.0 w.1)

pub largest_at_least-bound : (least b : ℕ) (l : List ℤ) → Within b l → least ≤ b → largest_at_least least l ≤ b
unfolding largest_at_least Within
largest_at_least-bound least b [] w h = h
largest_at_least-bound least b (a ∷ l) w h = larger-within (largest_total a l) (pos least) b (largest_total-bound b a l w.0 w.1) h

pub annual_amount-bound : (role b : ℕ) (l : List ℤ) → Within b l → 2000000 ≤ b → annual_amount role l ≤ b
unfolding annual_amount
annual_amount-bound role b l w h = largest_at_least-bound (minimum_of role) b l w (le_trans (minimum_of-bound role) h)

pub deletion_amount-bound : (b : ℕ) (l : List ℤ) → Within b l → deletion_amount l ≤ b
unfolding deletion_amount
deletion_amount-bound b l w = largest_at_least-bound 0 b l w (omega arith)

-- The largest of totals and 0, whatever their order.
above : List ℤ → ℤ
above [] = pos 0
above (a ∷ l) = larger a (above l)

above-largest : (a : ℤ) (l : List ℤ) → larger (largest_total a l) (pos 0) ≡ larger a (above l)
unfolding largest_total above
above-largest a [] = refl
above-largest a (b ∷ l) = larger-assoc a (largest_total b l) (pos 0) ∙ ap (larger a) (above-largest b l)

amount-above : (l : List ℤ) → deletion_amount l ≡ nat_abs (above l)
unfolding deletion_amount largest_at_least above
amount-above [] = refl
amount-above (a ∷ l) = ap nat_abs (above-largest a l)

above-last : (b : ℤ) (l : List ℤ) → above (l ++ b ∷ []) ≡ larger b (above l)
unfolding above
above-last b [] = refl
above-last b (a ∷ l) =
    ap (larger a) (above-last b l)
    ∙ sym (larger-assoc a b (above l))
    ∙ ap (λ (x : ℤ). larger x (above l)) (larger-comm a b)
    ∙ larger-assoc b a (above l)

above-reverse : (l : List ℤ) → above (reverse l) ≡ above l
unfolding above
above-reverse [] = refl
above-reverse (a ∷ l) = ap above (reverse-cons a l) ∙ above-last a (reverse l) ∙ ap (larger a) (above-reverse l)

pub deletion_amount-reverse : (l : List ℤ) → deletion_amount (reverse l) ≡ deletion_amount l
deletion_amount-reverse l = amount-above (reverse l) ∙ ap nat_abs (above-reverse l) ∙ sym (amount-above l)
