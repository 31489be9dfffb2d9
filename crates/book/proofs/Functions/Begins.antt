-- A fresh book: accepted on a day of the calendar, refused with 17 on a later one, and reached in either case.
-- Assumes nothing.
use Prim.Native.Nat.{ℕ, ◌≤◌, ◌<◌}
use native.Mathlib.Omega.{arith}
use mathlib.Core.Path.{◌≡◌, sym, ap, ◌∙◌}
use mathlib.Core.Bool.{cond}
use mathlib.Core.List.{[]}
use borrow.Author.Tests.{lt-ltb, le-ltb}
use lib.Dec.{ltb}
use Rattle.file.specs.Answer.{Answer, refused, done, decide, accepted}
use Rattle.layout.specs.Book.{Book}
use Rattle.book.specs.Account.{fresh_book, fresh_answer, fresh_book_beside, run}
use Rattle.book.specs.Reached.{Reached, ReachedFirst, Begun}
use Rattle.book.proofs.Participant.Decide.{decide_true, decide-false}

-- A fresh book is reached.
fresh-reached : (d : ℕ) (b : Book) → d ≤ 29219 → b ≡ fresh_book d → Reached b
unfolding run
fresh-reached d b h e = record { start = d; within = h; first = []; since = []; leads = sym e }

fresh-first : (d : ℕ) (b : Book) → d ≤ 29219 → b ≡ fresh_book d → ReachedFirst b
unfolding run
fresh-first d b h e = record { start = d; within = h; first = []; leads = sym e }

late : (d : ℕ) → 29219 < d → refused 17 ≡ fresh_answer d
unfolding fresh_answer
late d h = sym (decide_true (record { number = 17; holds = ltb 29219 d }) [] done (lt-ltb 29219 d h))

pub begun-refused : (d : ℕ) (b : Book) → 29219 < d → b ≡ fresh_book 0 → Begun d (refused 17) b
unfolding fresh_book_beside
begun-refused d b h e =
    record {
      answered = late d h;
      left = e ∙ ap (λ (x : Answer). cond (accepted x) (fresh_book d) (fresh_book 0)) (late d h);
      reached = fresh-reached 0 b (omega arith) e;
      first = fresh-first 0 b (omega arith) e;
    }

on-time : (d : ℕ) → d ≤ 29219 → done ≡ fresh_answer d
unfolding fresh_answer decide
on-time d h = sym (decide-false (record { number = 17; holds = ltb 29219 d }) [] done (le-ltb 29219 d h))

pub begun-done : (d : ℕ) (b : Book) → d ≤ 29219 → b ≡ fresh_book d → Begun d done b
unfolding fresh_book_beside
begun-done d b h e =
    record {
      answered = on-time d h;
      left = e ∙ ap (λ (x : Answer). cond (accepted x) (fresh_book d) (fresh_book 0)) (on-time d h);
      reached = fresh-reached d b h e;
      first = fresh-first d b h e;
    }
