-- Where a part must begin, from what the code reads.
-- Assumes nothing.
use Prim.Native.Nat.{ℕ, zero, suc, ◌+◌, ◌*◌, ◌-◌}
use native.Mathlib.Omega.{arith}
use mathlib.Core.Path.{◌≡◌, refl, ap, ◌∙◌}
use mathlib.Core.List.{List}
use Rattle.batch.specs.Batch.{count_in, end_at, begins_at}

pub begins-first : (file : List ℕ) (i n : ℕ) → i ≡ 0 → n ≡ count_in file → 4 + 8 * n ≡ begins_at file i
unfolding begins_at
begins-first file zero n h e = omega arith
begins-first file (suc i) n h e = absurd (omega arith)

pub begins-next : (file : List ℕ) (i r : ℕ) → (i ≡ 0 → ⊥) → r ≡ end_at file (i - 1) → r ≡ begins_at file i
unfolding begins_at
begins-next file zero r h e = absurd (h refl)
begins-next file (suc i) r h e =
    let back : suc i - 1 ≡ i = omega arith in
    e ∙ ap (end_at file) back
