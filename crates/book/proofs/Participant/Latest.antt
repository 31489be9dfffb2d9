-- The three latest recorded months, counted down from month P − 2 as the reading has it, are the last three of the months P − 14 to P − 2 in their order,
-- as the file's account has it: one list is the other backward, and the largest of totals does not depend on their order.
-- Assumes nothing.
use Prim.Native.Nat.{ℕ, zero, suc, ◌+◌, ◌-◌, ◌≤◌, ◌<◌}
use native.Mathlib.Omega.{arith}
use native.Mathlib.Nat.{add-suc}
use mathlib.Core.Path.{◌≡◌, refl, sym, ap, ◌∙◌}
use mathlib.Core.List.{List, [], ◌∷◌, ◌++◌, append-nil, reverse, reverse-cons, reverse-append}
use borrow.Author.Tests.{leb-true, leb-false}
use lib.Dec.{leb}
use lib.IntN.{ℤ}
use lib.ListN.{length, take, drop}
use Rattle.laws.specs.Cases.{split}
use Rattle.manual.specs.Deletion.{deletion_amount}
use Rattle.manual.specs.Laws.{deletion_amount-reverse}
use Rattle.file.specs.Deletion.{last_three}
use Rattle.file.specs.Totals.{Total, none, total, added, totals_from}
use Rattle.file.specs.TotalLaws.{totals-next}
use Rattle.book.specs.Reading.Months.{totals_before}

-- A total at the end of a list is in front of it backward.
added-last : (x : Total) (l : List ℤ) → reverse (l ++ added x []) ≡ added x (reverse l)
added-last none l = ap reverse (append-nil l)
added-last (total e) l = reverse-append l (e ∷ [])

module _ (look : ℕ → Total) where
  -- The months before another, counted down, are those from the first on backward.
  before-from : (m n : ℕ) → totals_before look (m + n) n ≡ reverse (totals_from look m n)
  unfolding totals_before totals_from
  before-from m zero = refl
  before-from m (suc n) =
      ap (λ (k : ℕ). totals_before look k (suc n)) (add-suc m n)
      ∙ ap (added (look (m + n))) (before-from m n)
      ∙ sym (added-last (look (m + n)) (totals_from look m n))
      ∙ ap reverse (sym (totals-next look m n))

  -- There is no month before month 0.
  before-all : (m n : ℕ) → m ≤ n → totals_before look m n ≡ totals_before look m m
  unfolding totals_before
  before-all zero zero h = refl
  before-all zero (suc n) h = refl
  before-all (suc m) zero h = absurd (omega arith)
  before-all (suc m) (suc n) h = ap (added (look m)) (before-all m n (omega arith))

  -- The thirteen months before month P − 1.
  window : (p : ℕ) → totals_before look (p - 1) 13 ≡ reverse (totals_from look (p - 14) (p - 1 - (p - 14)))
  window p =
      split (leb 14 p)
      (λ e.
      let le : 14 ≤ p = leb-true 14 p e in
      let many : 13 ≡ p - 1 - (p - 14) = omega arith in
      let end : p - 1 ≡ p - 14 + (p - 1 - (p - 14)) = omega arith in
      ap (totals_before look (p - 1)) many
      ∙ ap (λ (k : ℕ). totals_before look k (p - 1 - (p - 14))) end
      ∙ before-from (p - 14) (p - 1 - (p - 14)))
      (λ e.
      let lt : p < 14 = leb-false 14 p e in
      let many : p - 1 ≡ p - 1 - (p - 14) = omega arith in
      let end : p - 1 ≡ p - 14 + (p - 1 - (p - 14)) = omega arith in
      before-all (p - 1) 13 (omega arith)
      ∙ ap (totals_before look (p - 1)) many
      ∙ ap (λ (k : ℕ). totals_before look k (p - 1 - (p - 14))) end
      ∙ before-from (p - 14) (p - 1 - (p - 14)))

-- The first of a list backward are its last, backward.
length-reverse : (l : List ℤ) → length (reverse l) ≡ length l
length-reverse [] = refl
length-reverse (x ∷ l) = ap length (reverse-cons x l) ∙ length-end (reverse l) x ∙ ap suc (length-reverse l)
  where
    length-end : (l : List ℤ) (x : ℤ) → length (l ++ x ∷ []) ≡ suc (length l)
    length-end [] x = refl
    length-end (y ∷ l) x = ap suc (length-end l x)

take-front : (j : ℕ) (l k : List ℤ) → j ≤ length l → take j (l ++ k) ≡ take j l
take-front zero l k h = refl
take-front (suc j) [] k h = absurd (omega arith)
take-front (suc j) (x ∷ l) k h = ap (λ (m : List ℤ). x ∷ m) (take-front j l k (omega arith))

take_all : (j : ℕ) (l : List ℤ) → length l ≤ j → take j l ≡ l
take_all zero [] h = refl
take_all zero (x ∷ l) h = absurd (omega arith)
take_all (suc j) [] h = refl
take_all (suc j) (x ∷ l) h = ap (λ (m : List ℤ). x ∷ m) (take_all j l (omega arith))

take-reverse : (j : ℕ) (l : List ℤ) → take j (reverse l) ≡ reverse (drop (length l - j) l)
take-reverse j [] = take_all j [] (omega arith) ∙ ap reverse (sym (drop-none (0 - j)))
  where
    drop-none : (k : ℕ) → drop {A = ℤ} k [] ≡ []
    drop-none zero = refl
    drop-none (suc k) = refl
take-reverse j (x ∷ l) =
    split (leb j (length l))
    (λ e.
    let le : j ≤ length l = leb-true j (length l) e in
    let less : suc (length l) - j ≡ suc (length l - j) = omega arith in
    ap (take j) (reverse-cons x l)
    ∙ take-front j (reverse l) (x ∷ []) (omega (arith, length-reverse l))
    ∙ take-reverse j l
    ∙ ap (λ (k : ℕ). reverse (drop k (x ∷ l))) (sym less))
    (λ e.
    let lt : length l < j = leb-false j (length l) e in
    let all : suc (length l) - j ≡ 0 = omega arith in
    take_all j (reverse (x ∷ l)) (omega (arith, length-reverse (x ∷ l)))
    ∙ ap (λ (k : ℕ). reverse (drop k (x ∷ l))) (sym all))

-- The amount by both.
pub latest-three : (look : ℕ → Total) (p : ℕ)
    → deletion_amount (last_three (totals_from look (p - 14) (p - 1 - (p - 14)))) ≡ deletion_amount (take 3 (totals_before look (p - 1) 13))
unfolding last_three
latest-three look p =
    let l = totals_from look (p - 14) (p - 1 - (p - 14)) in
    sym (ap (λ (k : List ℤ). deletion_amount (take 3 k)) (window look p)
    ∙ ap deletion_amount (take-reverse 3 l)
    ∙ deletion_amount-reverse (drop (length l - 3) l))
