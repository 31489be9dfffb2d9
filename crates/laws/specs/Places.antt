-- Lists of a fixed number of places: elements replaced one after another, and places filled from the front with one value behind.
-- Assumes nothing.
use Prim.Native.Nat.{ℕ, zero, suc, ◌+◌, ◌-◌, ◌≤◌, ◌<◌}
use Rattle.std.specs.Prelude.{◌≡◌, length, get_or, set, replicate}
use Rattle.std.proofs.Math.Path.{refl, ap}
use Rattle.std.proofs.Common.{sym, ◌∙◌, le_of_suc-le-suc, arith, add-one, length-append}
use mathlib.Core.List.{List, [], ◌∷◌, ◌++◌, map, append_assoc}
use Rattle.std.proofs.Math.ListN.{take}
use Rattle.std.proofs.lemmas.List.{length-replicate}
use Rattle.std.proofs.Math.Seq.{set-append_seam, take-append_seam}

-- ---- each element replaced, one after another

-- The list whose first i elements are replaced by g of them.
unfoldable pub up_to : {A : Type 0} → (A → A) → ℕ → List A → List A
up_to g zero l = l
up_to g (suc i) [] = []
up_to g (suc i) (x ∷ l) = g x ∷ up_to g i l

module _ {A : Type 0} (g : A → A) where
  -- with none replaced it is the list
  pub up_to-none : (l : List A) → up_to g 0 l ≡ l
  unfolding up_to
  up_to-none l = refl

  -- the next element is still the list's
  pub up_to-next : (i : ℕ) (l : List A) (d : A) → get_or (up_to g i l) i d ≡ get_or l i d
  unfolding up_to
  up_to-next zero l d = refl
  up_to-next (suc i) [] d = refl
  up_to-next (suc i) (x ∷ l) d = up_to-next i l d

  -- one more is replaced
  pub up_to-more : (i : ℕ) (l : List A) (d : A) → i < length l → set (up_to g i l) i (g (get_or l i d)) ≡ up_to g (suc i) l
  unfolding up_to
  up_to-more i [] d h = absurd (omega arith)
  up_to-more zero (x ∷ l) d h = refl
  up_to-more (suc i) (x ∷ l) d h = ap (λ (m : List A). g x ∷ m) (up_to-more i l d (le_of_suc-le-suc h))

  -- with all replaced it is g of each
  pub up_to-all : (i : ℕ) (l : List A) → length l ≤ i → up_to g i l ≡ map g l
  unfolding up_to
  up_to-all zero [] h = refl
  up_to-all zero (x ∷ l) h = absurd (omega arith)
  up_to-all (suc i) [] h = refl
  up_to-all (suc i) (x ∷ l) h = ap (λ (m : List A). g x ∷ m) (up_to-all i l (le_of_suc-le-suc h))

  -- a turn of a loop that replaces them: what is stored at i is g of what was read there
  pub up_to-turn : (s l : List A) (i n : ℕ) (x y d : A) → length l ≡ n → i < n → s ≡ up_to g i l → x ≡ get_or s i d → y ≡ g x
      → set s i y ≡ up_to g (i + 1) l
  up_to-turn s l i n x y d h k e p q = simp (q, p, e, up_to-next, add-one) (up_to-more i l d (omega arith))

-- ---- a repeated value

-- It stands at every place, past the end too, where it stands for what is there.
pub get_d-same : {A : Type 0} (z : A) (n k : ℕ) → get_or (replicate n z) k z ≡ z
get_d-same z zero k = refl
get_d-same z (suc n) zero = refl
get_d-same z (suc n) (suc k) = get_d-same z n k

-- ---- places filled from the front

module _ {A : Type 0} (z : A) (n : ℕ) where
  -- the next place is filled
  pub fill-next : (l : List A) (x : A) → length l < n
      → set (l ++ replicate (n - length l) z) (length l) x ≡ (l ++ x ∷ []) ++ replicate (n - length (l ++ x ∷ [])) z
  fill-next l x h =
      let e : n - length l ≡ suc (n - (length l + 1)) = omega arith in
      rw (e, length-append)
      (set-append_seam l z (replicate (n - (length l + 1)) z) x ∙ sym (append_assoc l (x ∷ []) (replicate (n - (length l + 1)) z)))

  -- what is filled is in front
  pub fill-take : (l : List A) → take (length l) (l ++ replicate (n - length l) z) ≡ l
  fill-take l = take-append_seam l (replicate (n - length l) z)

  -- there are n places
  pub fill-length : (l : List A) → length l ≤ n → length (l ++ replicate (n - length l) z) ≡ n
  fill-length l h = simp (length-append, length-replicate) (omega arith)
