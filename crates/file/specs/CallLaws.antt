-- Laws of open calls: those that pass a test, the largest of amounts, and the file's four places.
-- Assumes nothing.
use Prim.Native.Nat.{ℕ, zero, suc, ◌-◌, ◌≤◌, ◌<◌, max}
use Rattle.std.specs.Prelude.{◌≡◌, Bool, take, set, replicate}
use Rattle.std.proofs.Math.Path.{refl, ap}
use Rattle.std.proofs.Common.{◌∙◌}
use Rattle.std.proofs.Math.Bool.{true, false, cond}
use mathlib.Core.List.{List, [], ◌∷◌, ◌++◌, append-nil}
use native.Mathlib.Omega.{arith}
use Rattle.std.proofs.Math.ListN.{length}
use Rattle.laws.specs.Lists.{All, all_append, all_replicate}
use Rattle.laws.specs.Places.{fill-next, fill-take, fill-length}
use Rattle.file.specs.declared.OpenCall.{OpenCall}
use Rattle.file.specs.Calls.{largest, amounts_of, call_of, in_places, keep}

-- ---- the calls that pass a test

module _ (test : OpenCall → Bool) where
  pub keep_append : (l m : List OpenCall) → keep test (l ++ m) ≡ keep test l ++ keep test m
  unfolding keep
  keep_append [] m = refl
  keep_append (c ∷ l) m = pick (test c) (keep_append l m)
    where
      pick : (t : Bool) → keep test (l ++ m) ≡ keep test l ++ keep test m
          → cond t (c ∷ keep test (l ++ m)) (keep test (l ++ m)) ≡ cond t (c ∷ keep test l) (keep test l) ++ keep test m
      pick true e = ap (λ (k : List OpenCall). c ∷ k) e
      pick false e = e

  -- one more call, which passes or not
  pub keep-more : (l : List OpenCall) (c : OpenCall) → test c ≡ true → keep test (l ++ c ∷ []) ≡ keep test l ++ c ∷ []
  unfolding keep
  keep-more l c e = keep_append l (c ∷ []) ∙ ap (λ (k : List OpenCall). keep test l ++ k) (pass c e)
    where
      pass : (c : OpenCall) → test c ≡ true → keep test (c ∷ []) ≡ c ∷ []
      pass c e = ap (λ (t : Bool). cond t (c ∷ []) []) e

  pub keep_same : (l : List OpenCall) (c : OpenCall) → test c ≡ false → keep test (l ++ c ∷ []) ≡ keep test l
  unfolding keep
  keep_same l c e = keep_append l (c ∷ []) ∙ ap (λ (k : List OpenCall). keep test l ++ k) (fail c e) ∙ append-nil (keep test l)
    where
      fail : (c : OpenCall) → test c ≡ false → keep test (c ∷ []) ≡ []
      fail c e = ap (λ (t : Bool). cond t (c ∷ []) []) e

  -- no more pass than there are
  pub keep-length : (l : List OpenCall) → length (keep test l) ≤ length l
  unfolding keep
  keep-length [] = omega arith
  keep-length (c ∷ l) = pick (test c) (keep-length l)
    where
      pick : (t : Bool) → length (keep test l) ≤ length l → length (cond t (c ∷ keep test l) (keep test l)) ≤ suc (length l)
      pick true h = omega arith
      pick false h = omega arith

  -- what holds of each call holds of each that passes
  pub keep_all : (P : OpenCall → Type 0) (l : List OpenCall) → All P l → All P (keep test l)
  unfolding keep
  keep_all P [] a = tt
  keep_all P (c ∷ l) a = pick (test c) (keep_all P l a.1)
    where
      pick : (t : Bool) → All P (keep test l) → All P (cond t (c ∷ keep test l) (keep test l))
      pick true h = (a.0, h)
      pick false h = h

-- ---- the largest of amounts

-- one more amount at the end
pub largest-more : (a b : ℕ) (l : List ℕ) → largest a (l ++ b ∷ []) ≡ max b (largest a l)
unfolding largest
largest-more a b [] = refl
largest-more a b (x ∷ l) = ap (max x) (largest-more a b l) ∙ swap x b (largest a l)
  where
    swap : (x b m : ℕ) → max x (max b m) ≡ max b (max x m)
    swap x b m = omega arith

-- a bound of each is one of the largest
pub largest-bound : (k a : ℕ) (l : List ℕ) → a ≤ k → All (λ (b : ℕ). b ≤ k) l → largest a l ≤ k
unfolding largest
largest-bound k a [] h p = h
largest-bound k a (b ∷ l) h p = omega (arith, p.0, largest-bound k a l h p.1)

-- the amounts of calls, one after another
pub amounts-append : (l m : List OpenCall) → amounts_of (l ++ m) ≡ amounts_of l ++ amounts_of m
amounts-append [] m = refl
amounts-append (c ∷ l) m = ap (λ (k : List ℕ). c.amount ∷ k) (amounts-append l m)

pub amounts-all : (k : ℕ) (P : OpenCall → Type 0) → ((c : OpenCall) → P c → c.amount ≤ k) → (l : List OpenCall) → All P l
    → All (λ (b : ℕ). b ≤ k) (amounts_of l)
amounts-all k P f [] a = tt
amounts-all k P f (c ∷ l) a = (f c a.0, amounts-all k P f l a.1)

-- ---- the four places

-- the next place takes one more call
pub in_places-next : (l : List OpenCall) (c : OpenCall) → length l < 4 → set (in_places l) (length l) c ≡ in_places (l ++ c ∷ [])
unfolding in_places
in_places-next l c h = fill-next (call_of 0 0) 4 l c h

-- the open calls are the first
pub in_places-take : (l : List OpenCall) → take (length l) (in_places l) ≡ l
unfolding in_places
in_places-take l = fill-take (call_of 0 0) 4 l

pub in_places-length : (l : List OpenCall) → length l ≤ 4 → length (in_places l) ≡ 4
unfolding in_places
in_places-length l h = fill-length (call_of 0 0) 4 l h

-- what holds of each call and of an empty place holds of each place
pub in_places-all : (P : OpenCall → Type 0) (l : List OpenCall) → P (call_of 0 0) → All P l → All P (in_places l)
unfolding in_places
in_places-all P l z a = all_append P l (replicate (4 - length l) (call_of 0 0)) a (all_replicate P (4 - length l) (call_of 0 0) z)

-- the amounts in the places: those of the calls, and zeros
pub amounts-places : (l : List OpenCall) → amounts_of (in_places l) ≡ amounts_of l ++ replicate (4 - length l) 0
unfolding in_places
amounts-places l = amounts-append l (replicate (4 - length l) (call_of 0 0)) ∙ ap (λ (k : List ℕ). amounts_of l ++ k) (zeros (4 - length l))
  where
    zeros : (n : ℕ) → amounts_of (replicate n (call_of 0 0)) ≡ replicate n 0
    zeros zero = refl
    zeros (suc n) = ap (λ (k : List ℕ). 0 ∷ k) (zeros n)
