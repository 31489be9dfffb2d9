-- The bounds of the ratios and sums, from what the causes leave.
-- Assumes nothing.
use Prim.Native.Nat.{◌≤◌}
use native.Mathlib.Omega.{arith}
use mathlib.Core.Path.{◌≡◌}
use mathlib.Core.List.{List}
use lib.IntN.{ℤ, nat_abs}
use Rattle.laws.specs.Integers.{sum_of}
use Rattle.special.specs.Ranges.{Amounts}
use Rattle.special.specs.Guarantee.{amount, Bounded}
use Rattle.special.proofs.Sums.{sum_bound}

pub sum-small : (l : List ℤ) → Amounts l → nat_abs (sum_of l) ≤ 16000000000000
sum-small l a = omega (arith, sum_bound 1000000000000 l a.small, a.few)

module _ {a b c d e f a' b' c' d' e' f' : ℤ} (p : a ≡ a') (q : b ≡ b') (r : c ≡ c') (s : d ≡ d') (t : e ≡ e') (u : f ≡ f') where
  pub bounded-same : Bounded a' b' c' d' e' f' → Bounded a b c d e f
  bounded-same h = rw (p, q, r, s, t, u) h

  pub amount-same : amount a b c d e f ≡ amount a' b' c' d' e' f'
  amount-same = rw (p, q, r, s, t, u)
