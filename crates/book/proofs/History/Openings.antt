-- What the opening of one more day does to the book's own fields, by the book's account alone.
-- Assumes nothing.
use Prim.Native.Nat.{ℕ, suc, ◌+◌, ◌-◌, ◌≤◌, min}
use native.Mathlib.Omega.{arith}
use mathlib.Core.Path.{◌≡◌, refl, sym, ap, subst, subst₂, ◌∙◌}
use mathlib.Core.List.{List, [], ◌∷◌}
use borrow.Author.Tests.{le-ltb}
use lib.ListN.{get_or-map}
use Rattle.laws.specs.Cases.{cond-true, cond-false}
use Rattle.file.specs.declared.File.{File}
use Rattle.file.specs.Answer.{decide}
use Rattle.file.specs.Fields.{cover_of}
use Rattle.file.specs.Opening.{firm_opened, slots_opened, shortfall_opened, opened_file}
use Rattle.file.specs.Position.{cover_on}
use Rattle.file.specs.Admit.{no_file}
use Rattle.layout.specs.Book.{Book}
use Rattle.book.specs.Call.{advance}
use Rattle.book.specs.Rule.{Rule, MadeCall}
use Rattle.book.specs.Account.{file_at, opened_if_admitted, open_day, open_days, answer, applied, step, run}
use Rattle.book.specs.Life.{ChargedFile, ChargedBook, Openings, EachOpening}
use Rattle.book.proofs.Participant.DayCharged.{one-if-short, charge-if-short}
use Rattle.book.proofs.History.Advances.{open_days-last}

-- An admitted participant's file is charged by its own firm amount and cover.
file-charged : (d : ℕ) (f : File) → ChargedFile d f (opened_file f d)
unfolding opened_file shortfall_opened cover_of
file-charged d f =
    record {
      charged = one-if-short f.charged (firm_opened f d) (cover_on d (slots_opened f d));
      accrued = charge-if-short f.accrued (firm_opened f d) (cover_on d (slots_opened f d));
    }

-- A participant's file after the next day was opened; that of nobody, past the 64, stays as it was.
pub file-opened : (b : Book) (p : ℕ) → file_at (open_day b) p ≡ opened_if_admitted (suc b.today.0) (file_at b p)
unfolding file_at open_day opened_if_admitted
file-opened b p = get_or-map (opened_if_admitted (suc b.today.0)) b.files p no_file

-- The opening of the next day.
day-charged : (b : Book) → ChargedBook b (open_day b)
unfolding open_day opened_if_admitted
day-charged b =
    let d = suc b.today.0 in
    record {
      next = refl;
      admitted = λ p e.
          subst (ChargedFile d (file_at b p)) (sym (file-opened b p ∙ cond-true (file_at b p).admitted _ (file_at b p) e))
          (file-charged d (file_at b p));
      others = λ p e. file-opened b p ∙ cond-false (file_at b p).admitted _ (file_at b p) e;
    }

-- An advance with a budget of n opens n days, where there are as many to its day.
opens : (rule : Rule) (b : Book) (day n : ℕ) → day ≤ 29219 → b.today.0 + n ≤ day → step rule b (advance day n) ≡ open_days n b
unfolding step answer decide applied
opens rule b day n last h =
    rw (le-ltb 29219 day last, le-ltb day b.today.0 (omega arith))
    (let e : min n (day - b.today.0) ≡ n = omega arith in ap (λ (k : ℕ). open_days k b) e)

-- One more opened day after a list of calls.
one-more-day : (s : ℕ) (calls : List MadeCall) → Openings s calls
unfolding run
one-more-day s calls rule day n last h =
    let b = run s calls in
    subst₂ ChargedBook
    (sym (opens rule b day n last (omega arith)))
    (sym (open_days-last n b) ∙ sym (opens rule b day (suc n) last h))
    (day-charged (open_days n b))

-- .. after each of the calls.
pub each-opening : (s : ℕ) (calls : List MadeCall) → EachOpening s calls
each-opening s [] = one-more-day s []
each-opening s (e ∷ before) = (one-more-day s (e ∷ before), each-opening s before)
