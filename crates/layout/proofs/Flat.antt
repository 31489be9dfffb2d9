-- Parts of one size written one after another.
-- Assumes nothing.
use Prim.Native.Nat.{ℕ, zero, suc, ◌+◌, ◌*◌, ◌≤◌, ◌<◌}
use mathlib.Core.Path.{◌≡◌, refl, sym, ap, ◌∙◌}
use mathlib.Core.List.{List, [], ◌∷◌, ◌++◌, append_assoc, append-nil}
use native.Mathlib.Nat.{mul-suc}
use native.Mathlib.Omega.{arith}
use native.Mathlib.Numerals.{add-one}
use lib.ListN.{length, get_or, take, get_or-append, length-append}
use lib.Seq.{take-suc, take_all, get_or-append-add, length-take-le}
use Rattle.laws.specs.Lists.{all_append}
use Rattle.layout.specs.Parts.{written}
use Rattle.layout.specs.Files.{flat, SoFar, PutRows}
use Rattle.layout.proofs.Written.{written_next}

module _ {A : Type 0} (enc : A → List ℕ) (n : ℕ) (size : (x : A) → length (enc x) ≡ n) (Back : A → Type 0) where
  flat_append : (l m : List A) → flat enc (l ++ m) ≡ flat enc l ++ flat enc m
  unfolding flat
  flat_append [] m = refl
  flat_append (x ∷ l) m = rw (flat_append l m) (sym (append_assoc (enc x) (flat enc l) (flat enc m)))

  pub flat-length : (l : List A) → length (flat enc l) ≡ n * length l
  unfolding flat
  flat-length [] = omega arith
  flat-length (x ∷ l) = length-append (enc x) (flat enc l) ∙ omega (arith, size x, flat-length l, mul-suc n (length l))

  flat-one : (x : A) → flat enc (x ∷ []) ≡ enc x
  unfolding flat
  flat-one x = append-nil (enc x)

  -- none is written yet
  pub rows-first : (l : List ℕ) (at : ℕ) (xs : List A) → SoFar enc Back xs l at 0 l
  unfolding flat written
  rows-first l at xs = record { stored = refl; backs = tt }

  -- one more is written
  pub rows-next : (l m m' : List ℕ) (at i place : ℕ) (xs : List A) (x : A) → i < length xs → SoFar enc Back xs l at i m → x ≡ get_or xs i x
      → place ≡ at + n * i → m' ≡ written m place (enc x) → Back x → SoFar enc Back xs l at (i + 1) m'
  rows-next l m m' at i place xs x h s p here q back =
      let more : take (i + 1) xs ≡ take i xs ++ (x ∷ []) = rw (add-one, p) (take-suc xs i x h) in
      let long : length (flat enc (take i xs)) ≡ n * i = flat-length (take i xs) ∙ ap (λ k. n * k) (length-take-le i xs (omega arith)) in
      record {
        stored =
            q
            ∙ rw (s.stored, more, flat_append (take i xs) (x ∷ []), flat-one x)
            (written_next l at place (flat enc (take i xs)) (enc x) (omega arith));
        backs = rw more (all_append Back (take i xs) (x ∷ []) s.backs (back, tt));
      }

  -- all are written
  pub rows-all : (l m : List ℕ) (at i count : ℕ) (xs : List A) → length xs ≡ count → length xs ≤ i → SoFar enc Back xs l at i m
      → PutRows enc Back count xs l at m
  rows-all l m at i count xs long h s =
      record { stored = s.stored ∙ rw (take_all i xs h); backs = rw (take_all i xs h) at s.backs; long = long }

  -- what stands in the words of part i at place j
  pub flat-at : (xs : List A) (rest : List ℕ) (i j : ℕ) (d : A) → i < length xs → j < n
      → get_or (flat enc xs ++ rest) (n * i + j) 0 ≡ get_or (enc (get_or xs i d)) j 0
  unfolding flat
  flat-at [] rest i j d h k = absurd (omega arith)
  flat-at (x ∷ xs) rest zero j d h k =
      let e : n * 0 + j ≡ j = omega arith in
      rw (e, append_assoc (enc x) (flat enc xs) rest) (get_or-append (enc x) (flat enc xs ++ rest) 0 j (omega (arith, size x)))
  flat-at (x ∷ xs) rest (suc i) j d h k =
      let e : n * suc i + j ≡ length (enc x) + (n * i + j) = omega (arith, size x, mul-suc n i) in
      rw (e, append_assoc (enc x) (flat enc xs) rest)
      (get_or-append-add (enc x) (flat enc xs ++ rest) (n * i + j) 0 ∙ flat-at xs rest i j d (omega arith) k)
