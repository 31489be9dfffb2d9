-- The word that is wrong, as it is looked for.
-- Assumes nothing.
use Rattle.std.proofs.Common.{◌≡◌, ℕ, suc, ◌+◌, ◌-◌, ◌≤◌, ◌<◌, List, [], ◌∷◌, length, take, true, false, cond, refl, sym, ap, ◌∙◌, arith}
use Rattle.laws.specs.Cases.{cond-true, cond-false}
use Rattle.words.specs.Words.{words}
use Rattle.wording.specs.WrongWord.{goes_wrong, wrong_from, last_from, wrong_in}

-- The last word: the next one, and none any more.
pub last_on : (last w : List ℕ) (a b : List (List ℕ)) (all : List ℕ) → last_from last a ≡ all → a ≡ w ∷ b → last_from w b ≡ all
unfolding last_from
last_on last w a b all h e = rw e at h

pub last_end : (last : List ℕ) (a : List (List ℕ)) (all : List ℕ) → last_from last a ≡ all → a ≡ [] → last ≡ all
unfolding last_from
last_end last a all h e = rw e at h

-- The shortest beginning: one more byte, none any more, and this one.
module _ (why : ℕ) (t : List ℕ) (i : ℕ) (inv : wrong_from why t (length t - i) i ≡ wrong_from why t (length t) 0) where
  first : i < length t → wrong_from why t (length t - i) i ≡ cond (goes_wrong why t (i + 1)) (take (i + 1) t) (wrong_from why t (length t - (i + 1)) (i + 1))
  unfolding wrong_from
  first h = let e : length t - i ≡ suc (length t - (i + 1)) = omega arith in rw e refl

  pub wrong_on : i < length t → goes_wrong why t (i + 1) ≡ false → wrong_from why t (length t - (i + 1)) (i + 1) ≡ wrong_from why t (length t) 0
  wrong_on h f =
      sym (first h ∙ cond-false (goes_wrong why t (i + 1)) (take (i + 1) t) (wrong_from why t (length t - (i + 1)) (i + 1)) f) ∙ inv

  pub wrong_here : (w : List ℕ) → i < length t → goes_wrong why t (i + 1) ≡ true → w ≡ last_from [] (words (take (i + 1) t)) → w ≡ wrong_in why t
  unfolding wrong_in
  wrong_here w h f e =
      e
      ∙ ap (λ (z : List ℕ). last_from [] (words z))
      (sym (first h ∙ cond-true (goes_wrong why t (i + 1)) (take (i + 1) t) (wrong_from why t (length t - (i + 1)) (i + 1)) f) ∙ inv)

  pub wrong_nowhere : length t ≤ i → [] ≡ wrong_in why t
  unfolding wrong_in wrong_from words last_from
  wrong_nowhere h =
      let e : length t - i ≡ 0 = omega arith in
      let none : [] ≡ wrong_from why t (length t) 0 = sym (ap (λ (n : ℕ). wrong_from why t n i) e) ∙ inv in
      ap (λ (z : List ℕ). last_from [] (words z)) none
