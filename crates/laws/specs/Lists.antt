-- Lists: what holds of every element, and lists given by a rule.
-- Assumes nothing.
use Rattle.std.specs.Prelude.{ℕ, zero, suc, ◌<◌, ◌≡◌, List, [], ◌∷◌, ◌++◌, map, length, get_or, take, set, replicate}
use Rattle.std.proofs.Common.{sym, ◌∙◌, arith}
use Rattle.std.proofs.lemmas.List.{length-map}

-- P holds of each element.
abbrev pub All : {A : Type 0} → (A → Type 0) → List A → Type 0
All P [] = Unit {0}
All P (x ∷ l) = P x × All P l

-- The list f 0, f 1, .. , f (n - 1).
abbrev pub table : {A : Type 0} → ℕ → (ℕ → A) → List A
table zero f = []
table (suc n) f = f zero ∷ table n (λ k. f (suc k))

module _ {A : Type 0} (P : A → Type 0) where
  -- What holds of each element holds of one of them.
  pub all-at : (l : List A) (i : ℕ) (d : A) → i < length l → All P l → P (get_or l i d)
  all-at [] i d h a = absurd (omega arith)
  all-at (x ∷ l) zero d h a = a.0
  all-at (x ∷ l) (suc i) d h a = all-at l i d (omega arith) a.1

  -- It holds at every place where it holds of the default too.
  pub all-default : (l : List A) (i : ℕ) (d : A) → P d → All P l → P (get_or l i d)
  all-default [] i d h a = h
  all-default (x ∷ l) zero d h a = a.0
  all-default (x ∷ l) (suc i) d h a = all-default l i d h a.1

  -- An element is replaced by one of which it holds.
  pub all_set : (l : List A) (i : ℕ) (x : A) → P x → All P l → All P (set l i x)
  all_set [] i x h a = tt
  all_set (y ∷ l) zero x h a = (h, a.1)
  all_set (y ∷ l) (suc i) x h a = (a.0, all_set l i x h a.1)

  pub all_replicate : (n : ℕ) (x : A) → P x → All P (replicate n x)
  all_replicate zero x h = tt
  all_replicate (suc n) x h = (h, all_replicate n x h)

  pub all_append : (l m : List A) → All P l → All P m → All P (l ++ m)
  all_append [] m a b = b
  all_append (x ∷ l) m a b = (a.0, all_append l m a.1 b)

  pub all_take : (n : ℕ) (l : List A) → All P l → All P (take n l)
  all_take zero l a = tt
  all_take (suc n) [] a = tt
  all_take (suc n) (x ∷ l) a = (a.0, all_take n l a.1)

-- Each f x of a list.
pub all_map : {A B : Type 0} (P : A → Type 0) (Q : B → Type 0) (f : A → B) (l : List A) → ((x : A) → P x → Q (f x)) → All P l → All Q (map f l)
all_map P Q f [] g a = tt
all_map P Q f (x ∷ l) g a = (g x a.0, all_map P Q f l g a.1)

-- A list is as long as the list of its elements' images.
pub length-unmap : {A B : Type 0} (f : A → B) (l : List A) (n : ℕ) → length (map f l) ≡ n → length l ≡ n
length-unmap f l n e = sym (length-map l f) ∙ e
