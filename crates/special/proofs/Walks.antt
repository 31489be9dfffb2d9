-- Tests of every element of a list, and walks over one.
-- Assumes nothing.
use Prim.Native.Nat.{ℕ, suc, ◌-◌, ◌≤◌, ◌<◌}
use native.Mathlib.Omega.{arith}
use mathlib.Core.Path.{◌≡◌, refl, ap}
use mathlib.Core.Bool.{Bool, ◌&&◌}
use mathlib.Core.List.{List, [], ◌∷◌}
use lib.ListN.{length, get_or, drop}
use lib.Seq.{drop-cons}
use Rattle.std.specs.List.{list_all}
use Rattle.laws.specs.Every.{every}

-- `every` is std's `list_all`
pub all_every : {A : Type 0} (test : A → Bool) (l : List A) → list_all test l ≡ every test l
unfolding every
all_every test [] = refl
all_every test (x ∷ l) = ap (λ (t : Bool). test x && t) (all_every test l)

-- a walk from the end: the element before what is passed
pub drop-back : {A : Type 0} (l : List A) (i : ℕ) (d : A) → 0 < i → i ≤ length l → drop (i - 1) l ≡ get_or l (i - 1) d ∷ drop i l
drop-back l i d h k = let e : suc (i - 1) ≡ i = omega arith in rw e at (drop-cons l (i - 1) d (omega arith))
