-- The total of a settlement's answer is small, whatever the book and the figures.
-- Assumes nothing.
use Prim.Native.Nat.{ℕ}
use mathlib.Core.Path.{◌≡◌, sym, subst}
use mathlib.Core.Bool.{false}
use mathlib.Core.List.{List, [], ◌∷◌}
use native.Mathlib.Omega.{arith}
use lib.IntN.{ℤ}
use Rattle.laws.specs.Lists.{All}
use Rattle.laws.specs.Cases.{split}
use Rattle.calendar.specs.Civil.{month_of}
use Rattle.manual.specs.Figures.{wrong_count, out_of_range}
use Rattle.manual.specs.Laws.{summed-total}
use Rattle.file.specs.declared.File.{File}
use Rattle.file.specs.Answer.{Answer, refused, Cause, decide}
use Rattle.file.specs.CheckLaws.{settled-answer}
use Rattle.file.specs.Settle.{check_due, settlement_calls, settled_answer, settle_answer}
use Rattle.layout.specs.Book.{Book}
use Rattle.book.specs.Call.{settle, on}
use Rattle.book.specs.Rule.{new_rule}
use Rattle.book.specs.Account.{if_numbered, if_admitted, file_answer, file_at, answer}
use Rattle.book.specs.InWords.{GivenWords}
use Rattle.layout.specs.Words.{book_of_words}
use Rattle.clib.specs.Numbers.{SmallTotal}

-- A refusal has no total.
pub refused_small : (n : ℕ) → SmallTotal (refused n)
unfolding SmallTotal
refused_small n = omega arith

-- An answer behind causes: small if it is so where none of them holds.
decide-small : (causes : List Cause) (x : Answer) → (All (λ (c : Cause). c.holds ≡ false) causes → SmallTotal x)
    → SmallTotal (decide refused causes x)
unfolding decide
decide-small [] x h = h tt
decide-small (c ∷ causes) x h =
    split c.holds (λ e. rw e (refused_small c.number)) (λ e. rw e (decide-small causes x (λ a. h (e, a))))

-- An accepted answer's total is the sum of the figures.
settled-small : (f : File) (t m : ℕ) (figures : List ℤ) → wrong_count figures ≡ false → out_of_range figures ≡ false
    → SmallTotal (settled_answer f t m figures)
unfolding SmallTotal
settled-small f t m figures w o =
    split (settlement_calls f t m figures) (λ e. rw (settled-answer f t m figures, e) (summed-total figures w o))
    (λ e. rw (settled-answer f t m figures, e)
    (split (check_due (month_of t) m) (λ d. rw d (summed-total figures w o)) (λ d. rw d (summed-total figures w o))))

-- The book's answer.
answer-small : (b : Book) (p m : ℕ) (figures : List ℤ) → SmallTotal (answer new_rule b (on p (settle m figures)))
unfolding answer if_numbered if_admitted file_answer settle_answer
answer-small b p m figures =
    decide-small _ _ (λ above. decide-small _ _ (λ admitted. decide-small _ _ (λ none.
    settled-small (file_at b p) b.today.0 m figures none.1.0 none.1.1.0)))

-- What a settlement gives has a small total.
pub given_small : (l : List ℕ) (p m : ℕ) (figures : List ℤ) (x : Answer) (l' : List ℕ) → GivenWords l (on p (settle m figures)) x l' → SmallTotal x
given_small l p m figures x l' g = subst SmallTotal (sym g.given.answered) (answer-small (book_of_words l) p m figures)
