-- Products that fit their type: days below 2^8 times what a day costs, below 2^32, and rates' sums times settlements' sums. And 1 per mille
-- of a shortfall is what `day_charge` gives where the least charge is not above it.
-- Assumes nothing.
use Prim.Native.Nat.{ℕ, ◌+◌, ◌*◌, ◌/◌, ◌≤◌, max}
use native.Mathlib.Nat.{mul-le-mul}
use native.Mathlib.Omega.{arith}
use mathlib.Core.Path.{◌≡◌, refl, ◌∙◌, ap}
use borrow.Author.Tests.{eqb-true, eqb-false}
use lib.Dec.{eqb}
use mir.Syntax.{w8, w16, w32, w64}
use mir.Val.{Fits}
use Rattle.laws.specs.Cases.{split}
use Rattle.manual.specs.Charge.{day_charge}
use Rattle.manual.specs.Laws.{day_charge-bound}

product-bound : (days x : ℕ) → Fits w8 days → x ≤ 4294967295 → days * x ≤ 255 * 4294967295
product-bound days x f p = let few : days ≤ 255 = omega arith in mul-le-mul few p

bound : (days s r : ℕ) → Fits w8 days → Fits w32 s → r ≡ day_charge s → days * r ≤ 255 * 4294967295
bound days s r f g e =
    let charge : day_charge s ≤ 4294967295 = day_charge-bound s 4294967295 (omega arith) (omega arith) in
    product-bound days r f (rw e charge)

-- the charge r of a day with the shortfall s, on some days
pub days-fit : (days s r : ℕ) → Fits w8 days → Fits w32 s → r ≡ day_charge s → Fits w64 (days * r)
days-fit days s r f g e = record { fits = omega (arith, bound days s r f g e) }

pub sum_fits :
    (days s r days' s' r' : ℕ) → Fits w8 days → Fits w32 s → r ≡ day_charge s → Fits w8 days' → Fits w32 s' → r' ≡ day_charge s'
    → Fits w64 (days * r + days' * r')
sum_fits days s r days' s' r' f g e f' g' e' = record { fits = omega (arith, bound days s r f g e, bound days' s' r' f' g' e') }

-- ---- 1 per mille

-- 10^8 times a shortfall of 1 or more is not below the least charge
pub per-mille-exact : (s r : ℕ) → r ≡ day_charge (100000000 * s) → r / 100000000 ≡ s
unfolding day_charge
per-mille-exact s r e =
    split (eqb (100000000 * s) 0)
    (λ t. let z : 100000000 * s ≡ 0 = eqb-true _ _ t in let q : r ≡ 0 = e ∙ rw t refl in omega arith)
    (λ t. let z : (100000000 * s ≡ 0) → ⊥ = eqb-false _ _ t in let q : r ≡ max (100000000 * s) 100000000 = e ∙ rw t refl in omega arith)

-- what a shortfall s costs by that, on some days
pub shortfall-fits : (days s r : ℕ) → Fits w8 days → Fits w32 s → r ≡ s → Fits w64 (days * r)
shortfall-fits days s r f g e = record { fits = omega (arith, product-bound days r f (omega arith)) }

pub shortfalls-fit :
    (days s r days' s' r' : ℕ) → Fits w8 days → Fits w32 s → r ≡ s → Fits w8 days' → Fits w32 s' → r' ≡ s' → Fits w64 (days * r + days' * r')
shortfalls-fit days s r days' s' r' f g e f' g' e' =
    record { fits = omega (arith, product-bound days r f (omega arith), product-bound days' r' f' (omega arith)) }

-- ---- the least charge of some days

least : (n r : ℕ) → r ≡ day_charge 1 → n * r ≡ n * 100000000
unfolding day_charge
least n r e = ap (λ (x : ℕ). n * x) e

pub least_fits : (days days' r : ℕ) → Fits w8 days → Fits w8 days' → r ≡ day_charge 1 → Fits w64 ((days + days') * r)
least_fits days days' r f f' e = record { fits = omega (arith, least (days + days') r e) }

pub larger : (n r s x : ℕ) → r ≡ day_charge 1 → s ≡ x → max s (n * r) ≡ max x (n * 100000000)
larger n r s x e h = omega (arith, least n r e)

-- ---- a guarantee by rates' sums below 2^16 and settlements' sums below 2^32

rate-bound : (a s : ℕ) → Fits w16 a → Fits w32 s → a * s ≤ 65535 * 4294967295
rate-bound a s f g = let few : a ≤ 65535 = omega arith in let small : s ≤ 4294967295 = omega arith in mul-le-mul few small

pub rate-fits : (a s : ℕ) → Fits w16 a → Fits w32 s → Fits w64 (a * s)
rate-fits a s f g = record { fits = omega (arith, rate-bound a s f g) }

pub rates-fit : (a s b t : ℕ) → Fits w16 a → Fits w32 s → Fits w16 b → Fits w32 t → Fits w64 (a * s + b * t)
rates-fit a s b t f g f' g' = record { fits = omega (arith, rate-bound a s f g, rate-bound b t f' g') }

pub rounded-fits : (a s b t : ℕ) → Fits w16 a → Fits w32 s → Fits w16 b → Fits w32 t → Fits w64 (a * s + b * t + 15000)
rounded-fits a s b t f g f' g' = record { fits = omega (arith, rate-bound a s f g, rate-bound b t f' g') }
