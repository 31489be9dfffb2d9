-- The answer, by the first cause that holds, and what is known where none does.
-- Assumes nothing.
use Prim.Native.Nat.{ℕ, ◌≤◌, ◌<◌}
use native.Mathlib.Omega.{arith}
use mathlib.Core.Path.{◌≡◌, sym, ap, ◌∙◌}
use mathlib.Core.Bool.{Bool, true, false, not, and-false, or-true}
use mathlib.Core.List.{List, []}
use borrow.Author.Tests.{ltb-false, lt-ltb, le-ltb, eqb-true}
use lib.Dec.{ltb, eqb}
use lib.ListN.{length}
use lib.Seq.{take-append-le}
use lib.IntN.{ℤ}
use Rattle.std.specs.Prelude.{Result, Ok, Err}
use Rattle.laws.specs.Cases.{split, clash, cond-true, cond-false}
use Rattle.laws.specs.Integers.{sum_of}
use Rattle.laws.specs.Read.{read, read-abs}
use Rattle.laws.specs.Largest.{falling, three_largest, mean_of_three, falling-length}
use Rattle.refusal.specs.declared.Refusal.{Refusal}
use Rattle.refusal.specs.declared.Refusal.TheVariants.{ListLengths, OutOfRange, TooFewRates}
use Rattle.special.specs.declared.rates.Best.{Best}
use Rattle.special.specs.Ranges.{rates_in_range, zeros_in_range, excesses_in_range, Amounts}
use Rattle.special.specs.Ratio.{usable, ratio, ratio_of_enough}
use Rattle.special.specs.Causes.{wrong_lengths, outside_ranges, too_few}
use Rattle.special.specs.Guarantee.{amount, Bounded, special_guarantee}
use Rattle.special.specs.Best.{kept, empty, BestOf}
use Rattle.special.proofs.Usable.{usable-all}
use Rattle.special.proofs.InRange.{largest-in-range, usable-in-range, excesses-in-range}
use Rattle.special.proofs.Means.{ratio-small}
use Rattle.special.proofs.Bounds.{sum-small}

-- ---- a ratio

-- where there are three, the kept rates are the three largest
kept-largest : (rates : List ℤ) (best : Best) → BestOf rates best → 3 ≤ best.n → kept best ≡ three_largest rates
unfolding three_largest
kept-largest rates best b enough =
    b.largest
    ∙ take-append-le 3 (falling rates) empty (omega (arith, b.number, falling-length rates))

pub too_few_kept : (rates : List ℤ) (best : Best) → BestOf rates best → best.n < 3 → Err TooFewRates ≡ ratio_of_enough rates
unfolding ratio_of_enough
too_few_kept rates best b few =
    let less : length rates < 3 = omega (arith, b.number) in
    sym (cond-true (ltb (length rates) 3) (Err TooFewRates) (Ok (ratio rates)) (lt-ltb (length rates) 3 less))

pub kept-in-range : (rates : List ℤ) (marks : List ℕ) (best : Best) → rates_in_range rates ≡ true → BestOf (usable rates marks) best → 3 ≤ best.n
    → rates_in_range (kept best) ≡ true
kept-in-range rates marks best e b enough =
    rw (kept-largest (usable rates marks) best b enough) (largest-in-range (usable rates marks) (usable-in-range rates marks e))

pub kept_ratio : (rates : List ℤ) (best : Best) (m : ℤ) → BestOf rates best → 3 ≤ best.n → m ≡ mean_of_three (kept best)
    → Ok m ≡ ratio_of_enough rates
unfolding ratio_of_enough ratio
kept_ratio rates best m b enough e =
    let more : 3 ≤ length rates = omega (arith, b.number) in
    let same : m ≡ mean_of_three (three_largest rates) = e ∙ ap mean_of_three (kept-largest rates best b enough) in
    ap Ok same ∙ sym (cond-false (ltb (length rates) 3) (Err TooFewRates) (Ok (mean_of_three (three_largest rates))) (le-ltb (length rates) 3 more))

-- what an answer of `ratio` says of the rates
too_few_of : (rates : List ℤ) (r : Result ℤ Refusal) (e : Refusal) → r ≡ ratio_of_enough rates → r ≡ Err e
    → (ltb (length rates) 3 ≡ true) × (e ≡ TooFewRates)
unfolding ratio_of_enough
too_few_of rates r e p q =
    split (ltb (length rates) 3)
    (λ t. (t, few (sym q ∙ p ∙ cond-true (ltb (length rates) 3) (Err TooFewRates) (Ok (ratio rates)) t)))
    (λ t. absurd (enough (sym q ∙ p ∙ cond-false (ltb (length rates) 3) (Err TooFewRates) (Ok (ratio rates)) t)))
  where
    few : ◌≡◌ {A = Result ℤ Refusal} (Err e) (Err TooFewRates) → e ≡ TooFewRates
    few h = cc

    enough : ◌≡◌ {A = Result ℤ Refusal} (Err e) (Ok (ratio rates)) → ⊥
    enough h = cc

enough_of : (rates : List ℤ) (r : Result ℤ Refusal) (m : ℤ) → r ≡ ratio_of_enough rates → r ≡ Ok m → (ltb (length rates) 3 ≡ false) × (m ≡ ratio rates)
unfolding ratio_of_enough
enough_of rates r m p q =
    split (ltb (length rates) 3)
    (λ t. absurd (few (sym q ∙ p ∙ cond-true (ltb (length rates) 3) (Err TooFewRates) (Ok (ratio rates)) t)))
    (λ t. (t, enough (sym q ∙ p ∙ cond-false (ltb (length rates) 3) (Err TooFewRates) (Ok (ratio rates)) t)))
  where
    few : ◌≡◌ {A = Result ℤ Refusal} (Ok m) (Err TooFewRates) → ⊥
    few h = cc

    enough : ◌≡◌ {A = Result ℤ Refusal} (Ok m) (Ok (ratio rates)) → m ≡ ratio rates
    enough h = cc

-- ---- the whole

module _ (medium low : List ℤ) (marks : List ℕ) (zm zl em el : List ℤ) where
  -- whether cause 19 holds of seven lists, and the answer to them
  abbrev wrong : Bool
  wrong = wrong_lengths (length medium) (length low) (length marks) (length zm) (length zl) (length em) (length el)

  abbrev answer : Result ℕ Refusal
  answer = special_guarantee medium low marks zm zl em el

  -- the causes 19 and 11 do not hold of seven lists
  pub record Passed : Type 0 where
    pub lengths : wrong ≡ false
    pub ranges : outside_ranges medium low marks zm zl em el ≡ false

  -- .. as the two tests say
  pub passed : (r w : Bool) → not r ≡ outside_ranges medium low marks zm zl em el → r ≡ true → w ≡ wrong → w ≡ false → Passed
  passed r w e f g h = record { lengths = sym g ∙ h; ranges = sym e ∙ ap not f }

  pub refused-19 : wrong ≡ true → Err ListLengths ≡ answer
  unfolding special_guarantee
  refused-19 t = rw t

  pub refused-11 : wrong ≡ false → outside_ranges medium low marks zm zl em el ≡ true → Err OutOfRange ≡ answer
  unfolding special_guarantee
  refused-11 t u = rw (t, u)

module _ {medium low : List ℤ} {marks : List ℕ} {zm zl em el : List ℤ} (p : Passed medium low marks zm zl em el) where
  -- a test that would make cause 11 hold where it failed does not fail
  in-range : (t : Bool) → (t ≡ false → outside_ranges medium low marks zm zl em el ≡ true) → t ≡ true
  in-range t f = split t (λ e. e) (λ e. clash (f e) p.ranges)

  excesses : (l : List ℤ) → (excesses_in_range l ≡ false → outside_ranges medium low marks zm zl em el ≡ true) → zeros_in_range l ≡ true
  excesses l f = excesses-in-range l (in-range (excesses_in_range l) f)

  pub medium-in-range : rates_in_range medium ≡ true
  unfolding outside_ranges
  medium-in-range = in-range (rates_in_range medium) (λ e. simp e)

  pub low-in-range : rates_in_range low ≡ true
  unfolding outside_ranges
  low-in-range = in-range (rates_in_range low) (λ e. simp (e, and-false))

  -- at most 16 semesters, and a number that must be theirs
  at_most : length zm ≤ 16
  unfolding wrong_lengths
  at_most = ltb-false 16 (length zm) (split (ltb 16 (length zm)) (λ e. clash (simp (e, or-true)) p.lengths) (λ e. e))

  as_many : (n : ℕ) → (eqb n (length zm) ≡ false → wrong medium low marks zm zl em el ≡ true) → n ≤ 16
  as_many n f = split (eqb n (length zm)) (λ e. omega (arith, at_most, eqb-true n (length zm) e)) (λ e. clash (f e) p.lengths)

  pub amounts : Amounts zm × Amounts zl × Amounts em × Amounts el
  unfolding wrong_lengths outside_ranges
  amounts = (
    record { few = at_most; small = in-range (zeros_in_range zm) (λ e. simp (e, and-false)) },
    record { few = as_many (length zl) (λ e. simp (e, or-true)); small = in-range (zeros_in_range zl) (λ e. simp (e, and-false)) },
    record { few = as_many (length em) (λ e. simp (e, or-true)); small = excesses em (λ e. simp (e, and-false)) },
    record { few = as_many (length el) (λ e. simp (e, or-true)); small = excesses el (λ e. simp (e, and-false)) },
  )

  -- the answers of `ratio`, to the medium voltage's rates, all of them usable, and to the low voltage's
  module _ (rm : Result ℤ Refusal) (asked : rm ≡ ratio_of_enough (usable medium [])) where
    all-medium : rm ≡ ratio_of_enough medium
    all-medium = asked ∙ ap ratio_of_enough (usable-all medium)

    pub few-medium : (e : Refusal) → rm ≡ Err e → Err e ≡ answer medium low marks zm zl em el
    unfolding special_guarantee too_few
    few-medium e q =
        let f = too_few_of medium rm e all-medium q in
        ap Err f.1 ∙ rw (p.lengths, p.ranges, f.0)

    module _ (rl : Result ℤ Refusal) (asked-low : rl ≡ ratio_of_enough (usable low marks)) where
      pub few-low : (e : Refusal) → rl ≡ Err e → Err e ≡ answer medium low marks zm zl em el
      unfolding special_guarantee too_few
      few-low e q =
          let f = too_few_of (usable low marks) rl e asked-low q in
          ap Err f.1 ∙ rw (p.lengths, p.ranges, f.0) (simp or-true)

      module _ (m n : ℤ) (qm : rm ≡ Ok m) (qn : rl ≡ Ok n) where
        within : Bounded m (sum_of zm) n (sum_of zl) (sum_of em) (sum_of el)
        within =
            record {
              medium-ratio = rw ((enough_of medium rm m all-medium qm).1) (ratio-small medium medium-in-range);
              medium-sum = sum-small zm amounts.0;
              low-ratio =
                  rw ((enough_of (usable low marks) rl n asked-low qn).1)
                  (ratio-small (usable low marks) (usable-in-range low marks low-in-range));
              low_sum = sum-small zl amounts.1;
              medium-excess = sum-small em amounts.2;
              low-excess = sum-small el amounts.3;
            }

        -- .. as the code reads the two ratios
        m-read : read m ≡ m
        m-read = read-abs m (omega (arith, within.medium-ratio))

        n-read : read n ≡ n
        n-read = read-abs n (omega (arith, within.low-ratio))

        pub bounded : Bounded (read m) (sum_of zm) (read n) (sum_of zl) (sum_of em) (sum_of el)
        bounded = rw (m-read, n-read) within

        pub accepted : (g : ℕ) → g ≡ amount (read m) (sum_of zm) (read n) (sum_of zl) (sum_of em) (sum_of el) → Ok g ≡ answer medium low marks zm zl em el
        unfolding special_guarantee too_few
        accepted g e =
            let a = enough_of medium rm m all-medium qm in
            let b = enough_of (usable low marks) rl n asked-low qn in
            rw (p.lengths, p.ranges, a.0, b.0) (ap Ok (e ∙ rw (m-read, n-read, a.1, b.1)))
