-- Laws of a deletion: its amount exceeds each of some amounts where it exceeds the largest of them, and the last three of totals are within their
-- bounds.
-- Assumes nothing.
use Rattle.std.specs.Prelude.{ℕ, zero, suc, ◌-◌, max, ◌≡◌, refl, Bool, true, false, ◌&&◌, List, [], ◌∷◌, ltb, length, drop, ℤ, pos}
use Rattle.std.proofs.Common.{sym, ap, ◌∙◌, arith, ltb-true, ltb-false, lt-ltb, le-ltb}
use Rattle.std.proofs.Math.Bool.{and-true}
use Rattle.laws.specs.Cases.{split}
use Rattle.laws.specs.Integers.{Within}
use Rattle.manual.specs.Check.{exceeds_each}
use Rattle.file.specs.Calls.{largest}
use Rattle.file.specs.Deletion.{last_three}

-- A number is above the larger of two where it is above both.
above-max : (a b x : ℕ) → ltb (max a b) x ≡ (ltb a x && ltb b x)
above-max a b x =
    split (ltb a x)
    (λ p.
    split (ltb b x)
    (λ q. rw (p, q, lt-ltb (max a b) x (omega (arith, ltb-true a x p, ltb-true b x q))) refl)
    (λ q. rw (p, q, le-ltb (max a b) x (omega (arith, ltb-false b x q))) refl))
    (λ p. rw (p, le-ltb (max a b) x (omega (arith, ltb-false a x p))) refl)

-- .. and above each of a list where it is above the largest.
each-largest : (x a : ℕ) (l : List ℕ) → (ltb a x && exceeds_each (pos x) l) ≡ ltb (largest a l) x
unfolding exceeds_each largest
each-largest x a [] = and-true (ltb a x)
each-largest x a (b ∷ l) =
    swap (ltb a x) (ltb b x) (exceeds_each (pos x) l)
    ∙ ap (λ (t : Bool). ltb b x && t) (each-largest x a l)
    ∙ sym (above-max b (largest a l) x)
  where
    swap : (p q r : Bool) → (p && (q && r)) ≡ (q && (p && r))
    swap true q r = refl
    swap false true r = refl
    swap false false r = refl

pub exceeds-largest : (x a : ℕ) (l : List ℕ) → exceeds_each (pos x) (a ∷ l) ≡ ltb (largest a l) x
unfolding exceeds_each
exceeds-largest x a l = each-largest x a l

-- What is left of a list is within the bounds of all.
drop-within : (b k : ℕ) (l : List ℤ) → Within b l → Within b (drop k l)
unfolding Within
drop-within b zero l w = w
drop-within b (suc k) [] w = tt
drop-within b (suc k) (x ∷ l) w = drop-within b k l w.1

pub last_within : (b : ℕ) (l : List ℤ) → Within b l → Within b (last_three l)
unfolding last_three
last_within b l w = drop-within b (length l - 3) l w
