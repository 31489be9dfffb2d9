-- The largest of totals, and at least an amount, as a running maximum: the amount, raised by each total in turn. Assumes nothing.
use Prim.Native.Nat.{ℕ}
use mathlib.Core.Path.{◌≡◌, refl, sym, ◌∙◌, ap}
use mathlib.Core.List.{List, [], ◌∷◌}
use lib.IntN.{ℤ, pos, nat_abs}
use lib.Signed.{lt_z}
use Rattle.std.specs.List.{fold}
use Rattle.laws.specs.Cases.{split}
use Rattle.laws.specs.Integers.{larger, larger-comm, larger-assoc, above-natural}
use Rattle.manual.specs.Largest.{largest_total, largest_at_least}

-- an amount, raised by a total
abbrev pub raise : ℕ → ℤ → ℕ
raise m x = nat_abs (larger x (pos m))

-- the larger of a total and a natural number is a natural number
natural : (x : ℤ) (m : ℕ) → pos (nat_abs (larger x (pos m))) ≡ larger x (pos m)
unfolding larger
natural x m =
    rw (larger-comm x (pos m))
    (split (lt_z (pos m) x) (λ p. rw p (sym (above-natural m x p))) (λ p. rw p))

raised-largest : (m : ℕ) (a : ℤ) (l : List ℤ) → pos (fold raise m (a ∷ l)) ≡ larger (largest_total a l) (pos m)
unfolding largest_total
raised-largest m a [] = natural a m
raised-largest m a (b ∷ l) =
    raised-largest (nat_abs (larger a (pos m))) b l
    ∙ ap (λ (z : ℤ). larger (largest_total b l) z) (natural a m)
    ∙ sym (larger-assoc (largest_total b l) a (pos m))
    ∙ ap (λ (z : ℤ). larger z (pos m)) (larger-comm (largest_total b l) a)

-- an amount, raised by each total in turn, is the largest of them and at least the amount
pub raised_by_each : (least : ℕ) (l : List ℤ) → fold raise least l ≡ largest_at_least least l
unfolding largest_at_least
raised_by_each least [] = refl
raised_by_each least (a ∷ l) = ap nat_abs (raised-largest least a l)
