-- Numbers in range stay so where some are taken, sorted or skipped, and a list of excesses is one of amounts.
-- Assumes nothing.
use Prim.Native.Nat.{ℕ, zero, suc}
use mathlib.Core.Path.{◌≡◌}
use mathlib.Core.Bool.{Bool, true, false≢true}
use mathlib.Core.List.{List, [], ◌∷◌}
use lib.Dec.{leb, eqb}
use lib.ListN.{take}
use lib.IntN.{ℤ, pos, negsuc, neg_ℤ}
use lib.Signed.{lt_z}
use Rattle.laws.specs.Cases.{by-test, and_right}
use Rattle.laws.specs.Every.{every-nil, every-cons, every-head, every-tail}
use Rattle.laws.specs.Largest.{insert, falling, three_largest}
use Rattle.special.specs.Ranges.{every, between, rates_in_range, zeros_in_range, excesses_in_range}
use Rattle.special.specs.Ratio.{usable}

module _ (test : ℤ → Bool) where
  every_take : (n : ℕ) (l : List ℤ) → every test l ≡ true → every test (take n l) ≡ true
  every_take zero l e = every-nil test
  every_take (suc n) [] e = e
  every_take (suc n) (x ∷ l) e = every-cons _ _ _ (every-head _ _ _ e) (every_take n l (every-tail _ _ _ e))

  every-insert : (x : ℤ) (l : List ℤ) → test x ≡ true → every test l ≡ true → every test (insert x l) ≡ true
  unfolding insert
  every-insert x [] h e = every-cons _ _ _ h e
  every-insert x (y ∷ l) h e =
      by-test (lt_z y x) (x ∷ y ∷ l) (y ∷ insert x l) (λ m. every test m ≡ true) (λ t. every-cons _ _ _ h e)
      (λ t. every-cons _ _ _ (every-head _ _ _ e) (every-insert x l h (every-tail _ _ _ e)))

  every-falling : (l : List ℤ) → every test l ≡ true → every test (falling l) ≡ true
  unfolding falling
  every-falling [] e = e
  every-falling (x ∷ l) e = every-insert x (falling l) (every-head _ _ _ e) (every-falling l (every-tail _ _ _ e))

  every-usable : (rates : List ℤ) (marks : List ℕ) → every test rates ≡ true → every test (usable rates marks) ≡ true
  unfolding usable
  every-usable [] marks e = e
  every-usable (x ∷ rates) [] e = every-cons _ _ _ (every-head _ _ _ e) (every-usable rates [] (every-tail _ _ _ e))
  every-usable (x ∷ rates) (m ∷ marks) e =
      let h = every-usable rates marks (every-tail _ _ _ e) in
      by-test (eqb m 0) (x ∷ usable rates marks) (usable rates marks) (λ l. every test l ≡ true)
      (λ t. every-cons _ _ _ (every-head _ _ _ e) h) (λ t. h)

-- the three largest of some rates in range
pub largest-in-range : (rates : List ℤ) → rates_in_range rates ≡ true → rates_in_range (three_largest rates) ≡ true
unfolding three_largest
largest-in-range rates e = every_take _ 3 (falling rates) (every-falling _ rates e)

-- the usable ones of some rates in range
pub usable-in-range : (rates : List ℤ) (marks : List ℕ) → rates_in_range rates ≡ true → rates_in_range (usable rates marks) ≡ true
usable-in-range rates marks e = every-usable _ rates marks e

-- a number from 0 to 10^12 is within plus or minus 10^12
excess-amount : (x : ℤ) → between (pos 0) (pos 1000000000000) x ≡ true → between (neg_ℤ (pos 1000000000000)) (pos 1000000000000) x ≡ true
excess-amount (pos n) e = and_right (leb 0 n) (leb n 1000000000000) e
excess-amount (negsuc n) e = absurd (false≢true e)

pub excesses-in-range : (l : List ℤ) → excesses_in_range l ≡ true → zeros_in_range l ≡ true
excesses-in-range [] e = every-nil _
excesses-in-range (x ∷ l) e = every-cons _ _ _ (excess-amount x (every-head _ _ _ e)) (excesses-in-range l (every-tail _ _ _ e))
