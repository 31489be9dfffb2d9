-- Pieces that are written one after the other: the dates and the lines across the plot; which numbers have a date.
-- Assumes nothing.
use Rattle.std.proofs.Common.{◌≡◌, ℕ, ◌+◌, ◌%◌, ◌≤◌, Bool, true, false, ◌&&◌, List, ◌++◌, leb, ltb, eqb, sym, ◌∙◌, add-one, arith}
use mathlib.Core.Bool.{true≢false}
use borrow.Author.Tests.{leb-true}
use Rattle.laws.specs.Cases.{split}
use Rattle.printing.specs.Written.{Sheet, followed}
use Rattle.printing.specs.WrittenLaws.{followed_none, followed_twice}
use Rattle.chart.specs.declared.Scale.{Scale}
use Rattle.calendar.specs.Civil.{last_day}
use Rattle.chart.specs.Scale.{days_shown}
use Rattle.chart.specs.Ticks.{every, numbered_day, on_axis, has_date, tick_if, ticks}
use Rattle.chart.specs.Picture.{grid_line, grid}

-- A text, and what is written behind it.
pub written : (s t v : Sheet) (a r : List ℕ) → t ≡ followed s a → v ≡ followed t r → v ≡ followed s (a ++ r)
written s t v a r x y = rw x at y ∙ followed_twice s a r

-- Some numbers have a date, whatever the axis.
pub every_some : (n : ℕ) → 1 ≤ every n
unfolding every
every_some n =
    split (leb n 10) (λ a. rw a (omega arith))
    (λ a. split (leb n 70) (λ b. rw (a, b) (omega arith))
    (λ b. split (leb n 305) (λ c. rw (a, b, c) (omega arith))
    (λ c. split (leb n 610) (λ d. rw (a, b, c, d) (omega arith))
    (λ d. split (leb n 915) (λ e. rw (a, b, c, d, e) (omega arith))
    (λ e. split (leb n 1830) (λ f. rw (a, b, c, d, e, f) (omega arith))
    (λ f. split (leb n 3660) (λ g. rw (a, b, c, d, e, f, g) (omega arith))
    (λ g. split (leb n 7320) (λ h. rw (a, b, c, d, e, f, g, h) (omega arith))
    (λ h. split (leb n 18300) (λ i. rw (a, b, c, d, e, f, g, h, i) (omega arith)) (λ i. rw (a, b, c, d, e, f, g, h, i) (omega arith))))))))))

and-right : (a b : Bool) → (a && b) ≡ true → b ≡ true
and-right true b e = e
and-right false b e = absurd (true≢false (sym e))

-- A day that has a date is one of the calendar.
pub dated_day : (g : Scale) (i : ℕ) → has_date g i ≡ true → numbered_day g i ≤ 29219
unfolding has_date on_axis
dated_day g i e =
    let d = numbered_day g i in
    leb-true d last_day
    (and-right (ltb d (g.first.0 + days_shown g)) _ (and-right (leb g.first.0 d) _ (and-right (eqb (i % every (days_shown g)) 0) _ e)))

module _ (g : Scale) (s u v : Sheet) where
  pub ticks_none : s ≡ followed s (ticks 0 g)
  unfolding ticks
  ticks_none = sym (followed_none s)

  pub ticks_more : (i : ℕ) → u ≡ followed s (ticks i g) → v ≡ followed u (tick_if g i) → v ≡ followed s (ticks (i + 1) g)
  unfolding ticks
  ticks_more i x y = rw (y, x, followed_twice, add-one i)

  pub grid_none : s ≡ followed s (grid 0 g)
  unfolding grid
  grid_none = sym (followed_none s)

  pub grid_more : (i : ℕ) → u ≡ followed s (grid i g) → v ≡ followed u (grid_line g i) → v ≡ followed s (grid (i + 1) g)
  unfolding grid
  grid_more i x y = rw (y, x, followed_twice, add-one i)
