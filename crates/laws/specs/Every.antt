-- A test that every element of a list passes.
-- Assumes nothing.
use Rattle.std.specs.Prelude.{ℕ, zero, suc, ◌+◌, ◌≤◌, ◌<◌, ◌≡◌, Bool, true, false, ◌&&◌, List, [], ◌∷◌, length, get_or, drop}
use Rattle.std.proofs.Common.{add-one, ◌∙◌, drop_of_length-le}
use Rattle.std.proofs.Math.Path.{refl, sym}
use Rattle.std.proofs.Math.Seq.{drop-cons}
use Rattle.laws.specs.Cases.{and_left, and_right, and_both}

-- Whether every element of a list passes a test.
unfoldable pub every : {A : Type 0} → (A → Bool) → List A → Bool
every test [] = true
every test (x ∷ rest) = test x && every test rest

module _ {A : Type 0} (test : A → Bool) where
  -- A list passes where its first element and the others do.
  pub every-nil : every test [] ≡ true
  unfolding every
  every-nil = refl

  pub every-cons : (x : A) (l : List A) → test x ≡ true → every test l ≡ true → every test (x ∷ l) ≡ true
  unfolding every
  every-cons x l h e = and_both (test x) (every test l) h e

  pub every-head : (x : A) (l : List A) → every test (x ∷ l) ≡ true → test x ≡ true
  unfolding every
  every-head x l e = and_left (test x) (every test l) e

  pub every-tail : (x : A) (l : List A) → every test (x ∷ l) ≡ true → every test l ≡ true
  unfolding every
  every-tail x l e = and_right (test x) (every test l) e

  -- What passes in the whole passes at every place, where the default passes too.
  pub every-default : (l : List A) (i : ℕ) (d : A) → test d ≡ true → every test l ≡ true → test (get_or l i d) ≡ true
  every-default [] i d h e = h
  every-default (x ∷ l) zero d h e = every-head x l e
  every-default (x ∷ l) (suc i) d h e = every-default l i d h (every-tail x l e)

module _ {A : Type 0} (test : A → Bool) (l : List A) (d : A) where
  -- A walk that tests each element: the one at i passes, and what is left to test starts after it.
  pub every-passed : (i : ℕ) → every test l ≡ every test (drop i l) → i < length l → test (get_or l i d) ≡ true
      → every test l ≡ every test (drop (i + 1) l)
  unfolding every
  every-passed i e h t = e ∙ rw (add-one, drop-cons l i d, t)

  -- The element at i does not pass.
  pub every-failed : (i : ℕ) → every test l ≡ every test (drop i l) → i < length l → test (get_or l i d) ≡ false → false ≡ every test l
  unfolding every
  every-failed i e h t = sym (e ∙ rw (drop-cons l i d, t))

  -- Nothing is left to test.
  pub every-ended : (i : ℕ) → every test l ≡ every test (drop i l) → length l ≤ i → true ≡ every test l
  unfolding every
  every-ended i e h = sym (e ∙ rw drop_of_length-le)
