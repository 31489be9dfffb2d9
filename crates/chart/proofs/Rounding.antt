-- The amount at the top of the plot: the power of ten within an amount, and bounds that keep the arithmetic within 64 bits.
-- Assumes nothing.
use Rattle.std.proofs.Common.{◌≡◌, ℕ, zero, suc, ◌+◌, ◌-◌, ◌*◌, ◌/◌, ◌^◌, ◌≤◌, ◌<◌, leb, ltb, length, ap, arith, ltb-true, ltb-false}
use Rattle.std.proofs.Math.Nat.{pow-suc}
use Rattle.std.proofs.lemmas.Nat.{mul-le}
use borrow.Author.Tests.{leb-true, leb-false}
use Rattle.laws.specs.Cases.{split}
use Rattle.printing.specs.Decimals.{decimal}
use Rattle.printing.proofs.ColumnLaws.{count_power}
use Rattle.chart.specs.Scale.{most_drawn, power_within, round_up, top_of}

pub power_is : (k n : ℕ) → 10 ^ k ≤ n → n < 10 * 10 ^ k → 10 ^ k ≡ power_within n
unfolding power_within
power_is k n l h =
    let e : k + 1 ≡ length (decimal n) = count_power k n l h in
    let d : k ≡ length (decimal n) - 1 = omega (arith, e) in
    ap (λ (j : ℕ). 10 ^ j) d

-- Every number from 1 on has such a power.
power-exists : (more n : ℕ) → 1 ≤ n → n ≤ more → (k : ℕ) × (10 ^ k ≤ n) × (n < 10 * 10 ^ k)
power-exists zero n h l = absurd (omega arith)
power-exists (suc more) n h l =
    split (ltb n 10)
    (λ t.
    let b : n < 10 = ltb-true n 10 t in (0, omega arith, omega arith))
    (λ t.
    let b : 10 ≤ n = ltb-false n 10 t in
    let i = power-exists more (n / 10) (omega arith) (omega arith) in
    let e : 10 ^ suc i.0 ≡ 10 ^ i.0 * 10 = pow-suc 10 i.0 in
    (suc i.0, omega (arith, e, i.1), omega (arith, e, i.2)))

pub power_bounds : (n : ℕ) → 1 ≤ n → (power_within n ≤ n) × (n < 10 * power_within n)
power_bounds n h =
    let i = power-exists n n h (omega arith) in
    let e = power_is i.0 n i.1 i.2 in
    (rw (← e) i.1, rw (← e) i.2)

drawn_bounds : (most : ℕ) → (100 ≤ most_drawn most) × (most_drawn most ≤ 2000000000000000)
unfolding most_drawn
drawn_bounds most = (omega arith, omega arith)

rounded : (unit n : ℕ) → unit ≤ n → n < 10 * unit → n ≤ 2000000000000000 → (n ≤ round_up unit n) × (round_up unit n ≤ 5000000000000000)
unfolding round_up
rounded unit n l h m =
    split (leb n unit) (λ t. let b : n ≤ unit = leb-true n unit t in rw t (omega arith, omega arith))
    (λ t.
    let b : unit < n = leb-false n unit t in
    split (leb n (2 * unit)) (λ u. let d : n ≤ 2 * unit = leb-true n (2 * unit) u in rw (t, u) (omega arith, omega arith))
    (λ u.
    let d : 2 * unit < n = leb-false n (2 * unit) u in
    split (leb n (5 * unit)) (λ v. let f : n ≤ 5 * unit = leb-true n (5 * unit) v in rw (t, u, v) (omega arith, omega arith))
    (λ v.
    let f : 5 * unit < n = leb-false n (5 * unit) v in rw (t, u, v) (omega arith, omega arith))))

-- The top of the plot isn't below the amount that it is made for, and 3,600 times it is a word.
pub top_bounds : (most : ℕ) → (100 ≤ top_of most) × (top_of most ≤ 5000000000000000)
unfolding top_of
top_bounds most =
    let d = drawn_bounds most in
    let p = power_bounds (most_drawn most) (omega (arith, d.0)) in
    let r = rounded (power_within (most_drawn most)) (most_drawn most) p.0 p.1 d.1 in
    (omega (arith, r.0, d.0), r.1)

pub top_from : (most : ℕ) → 100 ≤ top_of most
top_from most = (top_bounds most).0

pub top_to : (most : ℕ) → top_of most ≤ 5000000000000000
top_to most = (top_bounds most).1

-- Up to four times the top of the plot is a word.
pub quarters_to : (quarters most : ℕ) → quarters ≤ 4 → quarters * top_of most ≤ 20000000000000000
quarters_to quarters most h = mul-le quarters (top_of most) 4 5000000000000000 h (top_to most)
