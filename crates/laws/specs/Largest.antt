-- The three largest numbers of a list, equal ones counted as often as they stand there, and the mean of three numbers.
-- Assumes nothing.
use Rattle.std.specs.Prelude.{ℕ, zero, suc, ◌+◌, ◌≡◌, refl, Bool, true, false, not, cond, ◌&&◌, List, [], ◌∷◌, ◌++◌, length, take, ℤ}
use Rattle.std.proofs.Common.{arith, ap, ◌∙◌, take-take}
use Rattle.std.specs.Int.Signed.{lt_z, le_z}
use Rattle.laws.specs.Cases.{by-test, and_both, and_left, and_right}
use Rattle.laws.specs.Integers.{lt_z-asym, le_z-lt_z, sum_of}
use Rattle.laws.specs.Signed.{nearest}

-- x put into a list that falls, before the first number below it.
unfoldable pub insert : ℤ → List ℤ → List ℤ
insert x [] = x ∷ []
insert x (y ∷ rest) = cond (lt_z y x) (x ∷ y ∷ rest) (y ∷ insert x rest)

-- The numbers of a list in falling order: the same numbers (`falling-same`), none above the one before it (`falling-falls`).
unfoldable pub falling : List ℤ → List ℤ
falling [] = []
falling (x ∷ rest) = insert x (falling rest)

-- The three largest numbers of a list, or all where there are fewer.
unfoldable pub three_largest : List ℤ → List ℤ
three_largest l = take 3 (falling l)

-- The mean of three numbers, to the nearest whole. (A mean of three has no halves.)
unfoldable pub mean_of_three : List ℤ → ℤ
mean_of_three three = nearest (sum_of three) 3

-- ---- `falling` gives the same numbers

-- how many numbers of a list have a property
unfoldable pub count : (ℤ → Bool) → List ℤ → ℕ
count p [] = 0
count p (x ∷ rest) = cond (p x) 1 0 + count p rest

insert-count : (p : ℤ → Bool) (x : ℤ) (l : List ℤ) → count p (insert x l) ≡ cond (p x) 1 0 + count p l
unfolding count insert
insert-count p x [] = refl
insert-count p x (y ∷ rest) =
    by-test (lt_z y x) (x ∷ y ∷ rest) (y ∷ insert x rest) (λ m. count p m ≡ cond (p x) 1 0 + count p (y ∷ rest))
    (λ e. refl) (λ e. swap (cond (p x) 1 0) (cond (p y) 1 0) (count p (insert x rest)) (count p rest) (insert-count p x rest))
  where
    swap : (a b c d : ℕ) → c ≡ a + d → b + c ≡ a + (b + d)
    swap a b c d h = omega arith

pub falling-same : (p : ℤ → Bool) (l : List ℤ) → count p (falling l) ≡ count p l
unfolding count falling
falling-same p [] = refl
falling-same p (x ∷ rest) = insert-count p x (falling rest) ∙ ap (λ (n : ℕ). cond (p x) 1 0 + n) (falling-same p rest)

-- ---- `falling` gives them in falling order

-- none of the numbers is above the one before it
unfoldable pub falls : List ℤ → Bool
falls [] = true
falls (x ∷ []) = true
falls (x ∷ y ∷ rest) = le_z y x && falls (y ∷ rest)

lt-le_z : (x y : ℤ) → lt_z x y ≡ true → le_z x y ≡ true
lt-le_z x y e = le_z-lt_z x y ∙ ap not (lt_z-asym x y e)

ge-le_z : (x y : ℤ) → lt_z x y ≡ false → le_z y x ≡ true
ge-le_z x y e = le_z-lt_z y x ∙ ap not e

falls-rest : (y : ℤ) (l : List ℤ) → falls (y ∷ l) ≡ true → falls l ≡ true
unfolding falls
falls-rest y [] h = refl
falls-rest y (z ∷ l) h = and_right (le_z z y) (falls (z ∷ l)) h

-- x, not above y, put into what follows y
falls-after : (x y : ℤ) (l : List ℤ) → le_z x y ≡ true → falls (y ∷ l) ≡ true → falls (insert x l) ≡ true → falls (y ∷ insert x l) ≡ true
unfolding falls insert
falls-after x y [] e h k = and_both (le_z x y) true e refl
falls-after x y (z ∷ l) e h k =
    by-test (lt_z z x) (x ∷ z ∷ l) (z ∷ insert x l) (λ m. falls m ≡ true → falls (y ∷ m) ≡ true)
    (λ t m. and_both (le_z x y) (falls (x ∷ z ∷ l)) e m)
    (λ t m. and_both (le_z z y) (falls (z ∷ insert x l)) (and_left (le_z z y) (falls (z ∷ l)) h) m)
    k

insert-falls : (x : ℤ) (l : List ℤ) → falls l ≡ true → falls (insert x l) ≡ true
unfolding falls insert
insert-falls x [] h = refl
insert-falls x (y ∷ l) h =
    by-test (lt_z y x) (x ∷ y ∷ l) (y ∷ insert x l) (λ m. falls m ≡ true)
    (λ t. and_both (le_z y x) (falls (y ∷ l)) (lt-le_z y x t) h)
    (λ t. falls-after x y l (ge-le_z y x t) h (insert-falls x l (falls-rest y l h)))

pub falling-falls : (l : List ℤ) → falls (falling l) ≡ true
unfolding falls falling
falling-falls [] = refl
falling-falls (x ∷ l) = insert-falls x (falling l) (falling-falls l)

-- ---- `falling` gives as many

insert-length : (x : ℤ) (l : List ℤ) → length (insert x l) ≡ suc (length l)
unfolding insert
insert-length x [] = refl
insert-length x (y ∷ l) =
    by-test (lt_z y x) (x ∷ y ∷ l) (y ∷ insert x l) (λ m. length m ≡ suc (suc (length l)))
    (λ t. refl) (λ t. ap suc (insert-length x l))

pub falling-length : (l : List ℤ) → length (falling l) ≡ length l
unfolding falling
falling-length [] = refl
falling-length (x ∷ l) = insert-length x (falling l) ∙ ap suc (falling-length l)

-- ---- the n largest, kept while a list is walked from its end

-- two readings that agree on both answers of a test agree on the answer
alike : (f g : List ℤ → List ℤ) (t : Bool) (a b c d : List ℤ) → f a ≡ g c → f b ≡ g d → f (cond t a b) ≡ g (cond t c d)
alike f g true a b c d e h = e
alike f g false a b c d e h = h

take_more : (n : ℕ) (y : ℤ) (l : List ℤ) → take n (y ∷ take n l) ≡ take n (y ∷ l)
take_more zero y l = refl
take_more (suc n) y l = ap (λ m. y ∷ m) (take-take n (suc n) l (omega arith))

-- the n largest with one number more depend on the n largest alone
pub insert-take : (n : ℕ) (x : ℤ) (l : List ℤ) → take n (insert x (take n l)) ≡ take n (insert x l)
unfolding insert
insert-take zero x l = refl
insert-take (suc n) x [] = refl
insert-take (suc n) x (y ∷ l) =
    alike (take (suc n)) (take (suc n)) (lt_z y x) (x ∷ y ∷ take n l) (y ∷ insert x (take n l)) (x ∷ y ∷ l) (y ∷ insert x l)
    (ap (λ m. x ∷ m) (take_more n y l)) (ap (λ m. y ∷ m) (insert-take n x l))

-- numbers below x that stand at the end stay there
pub insert-append : (x y : ℤ) (l rest : List ℤ) → lt_z y x ≡ true → insert x (l ++ y ∷ rest) ≡ insert x l ++ y ∷ rest
unfolding insert
insert-append x y [] rest h = rw h
insert-append x y (z ∷ l) rest h =
    alike (λ m. m) (λ m. m ++ y ∷ rest) (lt_z z x) (x ∷ z ∷ l ++ y ∷ rest) (z ∷ insert x (l ++ y ∷ rest)) (x ∷ z ∷ l) (z ∷ insert x l)
    refl (ap (λ m. z ∷ m) (insert-append x y l rest h))
