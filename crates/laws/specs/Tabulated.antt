-- Laws of `table`: reading, writing and mapping a list that is given by a rule; and sums of terms given by a rule.
-- Assumes nothing.
use Rattle.std.specs.Prelude.{ℕ, zero, suc, ◌+◌, ◌<◌, ◌≡◌, refl, cond, ◌∷◌, map, eqb, length, get_or, set, replicate}
use Rattle.std.proofs.Common.{le_of_suc-le-suc, not-suc-le-zero, arith, ap, ap₂, ◌∙◌}
use Rattle.std.proofs.Math.Dec.{eqb-zero-suc, eqb-suc-zero, eqb-suc-suc}
use Rattle.laws.specs.Lists.{All, table}

module _ {A : Type 0} where
  -- a table has as many elements as it says
  pub length-table : (n : ℕ) (f : ℕ → A) → length (table n f) ≡ n
  length-table zero f = refl
  length-table (suc n) f = ap suc (length-table n (λ k. f (suc k)))

  -- two rules that agree below n give one table
  pub table-ext : (n : ℕ) (f g : ℕ → A) → ((k : ℕ) → k < n → f k ≡ g k) → table n f ≡ table n g
  table-ext zero f g e = refl
  table-ext (suc n) f g e = ap₂ ◌∷◌ (e zero (omega arith)) (table-ext n (λ k. f (suc k)) (λ k. g (suc k)) (λ k h. e (suc k) (omega arith)))

  -- what stands at k
  pub get_d-table : (n : ℕ) (f : ℕ → A) (k : ℕ) (d : A) → k < n → get_or (table n f) k d ≡ f k
  get_d-table zero f k d h = absurd (not-suc-le-zero h)
  get_d-table (suc n) f zero d h = refl
  get_d-table (suc n) f (suc k) d h = get_d-table n (λ j. f (suc j)) k d (le_of_suc-le-suc h)

  -- a table with another value at k
  pub set-table : (n : ℕ) (f : ℕ → A) (k : ℕ) (v : A) → set (table n f) k v ≡ table n (λ j. cond (eqb k j) v (f j))
  set-table zero f zero v = refl
  set-table zero f (suc k) v = refl
  set-table (suc n) f zero v =
      ap₂ ◌∷◌ refl (table-ext n (λ k. f (suc k)) (λ j. cond (eqb zero (suc j)) v (f (suc j))) (λ k h. simp (eqb-zero-suc k)))
  set-table (suc n) f (suc k) v =
      ap₂ ◌∷◌ (simp (eqb-suc-zero k))
      (set-table n (λ j. f (suc j)) k v
      ∙ table-ext n (λ j. cond (eqb k j) v (f (suc j))) (λ j. cond (eqb (suc k) (suc j)) v (f (suc j))) (λ j h. simp (eqb-suc-suc k j)))

  -- a repeated value is a table
  pub replicate-table : (n : ℕ) (v : A) → replicate n v ≡ table n (λ k. v)
  replicate-table zero v = refl
  replicate-table (suc n) v = ap (◌∷◌ v) (replicate-table n v)

-- what each value of a rule has, each element of its table has, and the other way round
pub all-table : {A : Type 0} (P : A → Type 0) (n : ℕ) (f : ℕ → A) → ((k : ℕ) → k < n → P (f k)) → All P (table n f)
all-table P zero f h = tt
all-table P (suc n) f h = (h zero (omega arith), all-table P n (λ k. f (suc k)) (λ k b. h (suc k) (omega arith)))

pub table-all : {A : Type 0} (P : A → Type 0) (n : ℕ) (f : ℕ → A) → All P (table n f) → (k : ℕ) → k < n → P (f k)
table-all P zero f a k h = absurd (omega arith)
table-all P (suc n) f a zero h = a.0
table-all P (suc n) f a (suc k) h = table-all P n (λ j. f (suc j)) a.1 k (omega arith)

-- a table with another value at k is the table of a rule that has that value there and agrees elsewhere
pub set-table-as : {A : Type 0} (n : ℕ) (f g : ℕ → A) (k : ℕ) (x : A) → x ≡ g k → ((j : ℕ) → (j ≡ k → ⊥) → f j ≡ g j)
    → set (table n f) k x ≡ table n g
set-table-as zero f g k x e others = refl
set-table-as (suc n) f g zero x e others =
    λ i. e i ∷ table-ext n (λ j. f (suc j)) (λ j. g (suc j)) (λ j h. others (suc j) (λ q. omega arith)) i
set-table-as (suc n) f g (suc k) x e others =
    λ i.
    others zero (λ q. omega arith) i
    ∷ set-table-as n (λ j. f (suc j)) (λ j. g (suc j)) k x e (λ j ne. others (suc j) (λ q. ne (omega arith))) i

-- a function of each element
pub map-table : {A B : Type 0} (g : A → B) (n : ℕ) (f : ℕ → A) → map g (table n f) ≡ table n (λ k. g (f k))
map-table g zero f = refl
map-table g (suc n) f = ap (◌∷◌ (g (f zero))) (map-table g n (λ k. f (suc k)))

-- the sum f 0 + f 1 + .. + f (n - 1)
unfoldable pub sum_below : ℕ → (ℕ → ℕ) → ℕ
sum_below zero f = 0
sum_below (suc n) f = f zero + sum_below n (λ k. f (suc k))

-- two sums of equal terms are equal
pub sum_below-ext : (n : ℕ) (f g : ℕ → ℕ) → ((k : ℕ) → k < n → f k ≡ g k) → sum_below n f ≡ sum_below n g
unfolding sum_below
sum_below-ext zero f g e = refl
sum_below-ext (suc n) f g e =
    omega (
      arith,
      e zero (omega arith),
      sum_below-ext n (λ k. f (suc k)) (λ k. g (suc k)) (λ k h. e (suc k) (omega arith)),
    )

-- two sums whose terms differ at place k alone differ by what stands there
pub sum_below-change : (n : ℕ) (f g : ℕ → ℕ) (k : ℕ) → k < n → ((j : ℕ) → (j ≡ k → ⊥) → f j ≡ g j)
    → f k + sum_below n g ≡ g k + sum_below n f
unfolding sum_below
sum_below-change zero f g k h others = absurd (not-suc-le-zero h)
sum_below-change (suc n) f g zero h others =
    omega (
      arith,
      sum_below-ext n (λ j. f (suc j)) (λ j. g (suc j)) (λ j b. others (suc j) (λ q. omega arith)),
    )
sum_below-change (suc n) f g (suc k) h others =
    omega (
      arith,
      others zero (λ q. omega arith),
      sum_below-change n (λ j. f (suc j)) (λ j. g (suc j)) k (le_of_suc-le-suc h) (λ j ne. others (suc j) (λ q. ne (omega arith))),
    )
