-- An array made by calls of a closure that each call leaves as it was is the table of what the calls return.
-- Assumes nothing.
use Prim.Native.Nat.{ℕ, zero, suc, ◌+◌, ◌≤◌, ◌<◌}
use mathlib.Core.Path.{◌≡◌, refl, ◌∙◌, subst}
use mathlib.Core.List.{List, [], ◌∷◌}
use native.Mathlib.Omega.{arith}
use borrow.Author.Tests.{eqb-true, eqb-false}
use lib.Dec.{eqb}
use lib.ListN.{length, get_or}
use denote.Param.Members.{Mut}
use Rattle.std.specs.Fn.{Called}
use Rattle.std.specs.Array.{IsFromFnResult, IsFromFnResultFrom}
use Rattle.laws.specs.Lists.{table}
use Rattle.laws.specs.Cases.{split}

-- a list whose elements are given by a rule
table-of : {B : Type 0} (row : ℕ → B) (n : ℕ) (ys : List B) → length ys ≡ n → ((k : ℕ) (d : B) → k < n → get_or ys k d ≡ row k) → ys ≡ table n row
table-of row zero [] h e = refl
table-of row zero (y ∷ ys) h e = absurd (omega arith)
table-of row (suc n) [] h e = absurd (omega arith)
table-of row (suc n) (y ∷ ys) h e =
    let first : y ≡ row zero = e zero y (omega arith) in
    let rest : ys ≡ table n (λ k. row (suc k)) = table-of (λ k. row (suc k)) n ys (omega arith) (λ k d s. e (suc k) d (omega arith)) in
    λ i. first i ∷ rest i

module _ {F B : Type 0} (g : Mut F (ℕ × Unit {0}) B) (f : F) (row : ℕ → B) (count : ℕ)
    (calls : (k : ℕ) (y : B) (q : F) → k < count → Called g f (k, tt) y q → (y ≡ row k) × (q ≡ f)) where
  made-from : (ys : List B) (i n : ℕ) (p : F) → p ≡ f → i + n ≤ count → IsFromFnResultFrom g p ys i n
      → (k : ℕ) (d : B) → i ≤ k → k < i + n → get_or ys k d ≡ row k
  made-from ys i zero p same h e k d a b = absurd (omega arith)
  made-from ys i (suc n) p same h (q, y, here, call, rest) k d a b =
      let called = calls i y q (omega arith) (subst (λ (s : F). Called g s (i, tt) y q) same call) in
      split (eqb k i)
      (λ t. let at : k ≡ i = eqb-true k i t in rw at (here.1 d ∙ called.0))
      (λ t. let past : k ≡ i → ⊥ = eqb-false k i t in made-from ys (i + 1) n q called.1 (omega arith) rest k d (omega arith) (omega arith))

  pub made : (ys : List B) → IsFromFnResult g f ys count → ys ≡ table count row
  made ys is = table-of row count ys is.long (λ k d h. made-from ys 0 count f refl (omega arith) is.each k d (omega arith) (omega arith))
