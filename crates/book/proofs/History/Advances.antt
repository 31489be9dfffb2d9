-- Days opened in turn: an advance equals any advances that open the same days, and stays within the calendar.
-- Assumes nothing.
use Prim.Native.Nat.{ℕ, zero, suc, ◌+◌, ◌-◌, ◌≤◌, min}
use native.Mathlib.Omega.{arith}
use mathlib.Core.Path.{◌≡◌, refl, sym, ap, ◌∙◌}
use mathlib.Core.Bool.{false, ◌||◌}
use mathlib.Core.List.{List, [], ◌∷◌}
use borrow.Author.Tests.{ltb-false}
use lib.Dec.{ltb}
use Rattle.laws.specs.Cases.{split, cond-true, cond-false, or-first, or-second}
use Rattle.file.specs.Answer.{accepted}
use Rattle.layout.specs.Book.{Book}
use Rattle.book.specs.Call.{Call, on, advance, statement, calls_made, batch}
use Rattle.book.specs.Rule.{new_rule}
use Rattle.book.specs.Account.{open_day, open_days, answer, applied, step}
use Rattle.book.specs.Life.{after_calls, Advances, SameDays}

-- Where cause 17 doesn't hold, the day is one of the calendar and not before today, and so are the days that are opened.
pub not-outside : (day t : ℕ) → (ltb 29219 day || ltb day t) ≡ false → (day ≤ 29219) × (t ≤ day)
not-outside day t e = (
  ltb-false 29219 day (or-first (ltb 29219 day) (ltb day t) e),
  ltb-false day t (or-second (ltb 29219 day) (ltb day t) e),
)

pub days-fit : (day t budget : ℕ) → (ltb 29219 day || ltb day t) ≡ false → t + min budget (day - t) ≤ 29219
days-fit day t budget e = let within = not-outside day t e in omega (arith, within.0, within.1)

-- The last of the days that are opened in turn.
pub open_days-last : (n : ℕ) (b : Book) → open_days (suc n) b ≡ open_day (open_days n b)
unfolding open_days
open_days-last zero b = refl
open_days-last (suc n) b = open_days-last n (open_day b)

-- Days opened in two turns.
open_days-sum : (m n : ℕ) (b : Book) → open_days n (open_days m b) ≡ open_days (m + n) b
unfolding open_days
open_days-sum zero n b = let e : n ≡ 0 + n = omega arith in ap (λ (k : ℕ). open_days k b) e
open_days-sum (suc m) n b =
    let e : suc (m + n) ≡ suc m + n = omega arith in
    open_days-sum m n (open_day b) ∙ ap (λ (k : ℕ). open_days k b) e

-- The day that opening n days leads to.
pub open_days-today : (n : ℕ) (b : Book) → (open_days n b).today.0 ≡ b.today.0 + n
unfolding open_days open_day
open_days-today zero b = omega arith
open_days-today (suc n) b = let e = open_days-today n (open_day b) in omega arith

-- An advance, refused or not, opens some days.
advance-days : (b : Book) (day budget : ℕ) → (n : ℕ) × (step new_rule b (advance day budget) ≡ open_days n b)
unfolding step applied open_days
advance-days b day budget =
    split (accepted (answer new_rule b (advance day budget)))
    (λ e. (min budget (day - b.today.0), cond-true (accepted (answer new_rule b (advance day budget))) (applied b (advance day budget)) b e))
    (λ e. (0, cond-false (accepted (answer new_rule b (advance day budget))) (applied b (advance day budget)) b e))

-- So does a list of advances.
days-of : (b : Book) (calls : List Call) → Advances calls → (n : ℕ) × (after_calls b calls ≡ open_days n b)
unfolding after_calls open_days
days-of b [] a = (0, refl)
days-of b (on p x ∷ calls) a = absurd a
days-of b (advance day budget ∷ calls) a =
    let first = advance-days b day budget in
    let rest = days-of (step new_rule b (advance day budget)) calls a in
    (first.0 + rest.0, rest.1 ∙ ap (open_days rest.0) first.1 ∙ open_days-sum first.0 rest.0 b)
days-of b (statement p ∷ calls) a = absurd a
days-of b (calls_made ∷ calls) a = absurd a
days-of b (batch file ∷ calls) a = absurd a

pub same-days : (b : Book) (one other : List Call) → Advances one → Advances other → SameDays b one other
same-days b one other a c =
    let m = days-of b one a in
    let n = days-of b other c in
    record {
      same = λ e.
          let t = open_days-today m.0 b in
          let u = open_days-today n.0 b in
          let here : (open_days m.0 b).today.0 ≡ (open_days n.0 b).today.0
          = ap (λ (k : Book). k.today.0) (sym m.1) ∙ e ∙ ap (λ (k : Book). k.today.0) n.1 in
          let same_number : m.0 ≡ n.0 = omega arith in
          m.1 ∙ ap (λ (k : ℕ). open_days k b) same_number ∙ sym n.1;
    }
