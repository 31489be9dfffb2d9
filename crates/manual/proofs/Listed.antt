-- Figures put into a list one behind the other: the first n put are the first n figures. Assumes nothing.
use Prim.Native.Nat.{ℕ, ◌+◌, ◌<◌}
use mathlib.Core.Path.{◌≡◌, sym, ◌∙◌, ap}
use mathlib.Core.List.{List}
use native.Mathlib.Omega.{arith}
use borrow.Author.Tests.{eqb-true, eqb-false}
use lib.Dec.{eqb}
use lib.IntN.{ℤ, pos}
use lib.ListN.{length, get_or, take, set}
use Rattle.std.proofs.lemmas.List.{ext_get_or, get_or-set_other, get_or-take}
use Rattle.std.proofs.lemmas.Grind.{get_or-set_at}
use mir.Syntax.{w64}
use mir.Val.{SFits}
use mir.Facts.{to_z-of_z}
use Rattle.laws.specs.Cases.{split}
use Rattle.laws.specs.Read.{read}

-- The first n figures of l stand in a list.
abbrev pub Listed : List ℤ → List ℤ → ℕ → Type 0
Listed l listed n = (k : ℕ) → k < n → get_or listed k (pos 0) ≡ get_or l k (pos 0)

-- the next, which x is, is put behind them
module _ (l listed : List ℤ) (i : ℕ) (x : ℤ) (f : SFits w64 x) (there : i < length listed) (next : x ≡ get_or l i (pos 0)) where
  pub listed-next : Listed l listed i → Listed l (set listed i (read x)) (i + 1)
  listed-next so k s =
      split (eqb k i)
      (λ t.
      let at : k ≡ i = eqb-true k i t in
      get_or-set_at listed i k (read x) (pos 0) at there ∙ to_z-of_z f ∙ next ∙ ap (λ (j : ℕ). get_or l j (pos 0)) (sym at))
      (λ t. get_or-set_other listed i k (read x) (pos 0) (eqb-false k i t) ∙ so k (omega (arith, eqb-false k i t)))

-- all are put
pub all-listed : (l listed : List ℤ) (n : ℕ) → length l ≡ n → length (take n listed) ≡ n → Listed l listed n → take n listed ≡ l
all-listed l listed n e h f =
    ext_get_or (pos 0) (take n listed) l (h ∙ sym e) (λ i s. get_or-take n listed i (pos 0) (rw h at s) ∙ f i (rw h at s))
