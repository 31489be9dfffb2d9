-- A total against each open call's amount: the definition is that of std's `list_all`. Assumes nothing.
use Prim.Native.Nat.{ℕ}
use mathlib.Core.Path.{◌≡◌, refl, ap}
use mathlib.Core.Bool.{Bool, ◌&&◌}
use mathlib.Core.List.{List, [], ◌∷◌}
use lib.IntN.{ℤ, pos}
use lib.Signed.{lt_z}
use Rattle.std.specs.List.{list_all}
use Rattle.manual.specs.Check.{exceeds_each}

pub all_each : (e : ℤ) (l : List ℕ) → list_all (λ a. lt_z (pos a) e) l ≡ exceeds_each e l
unfolding exceeds_each
all_each e [] = refl
all_each e (a ∷ l) = ap (λ (t : Bool). lt_z (pos a) e && t) (all_each e l)
