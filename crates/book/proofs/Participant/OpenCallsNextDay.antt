-- The calls open on the next day: those open today but for the ones whose last free day is today.
-- Assumes nothing.
use Prim.Native.Nat.{ℕ, suc}
use native.Mathlib.Omega.{arith}
use mathlib.Core.Path.{◌≡◌, sym, ◌∙◌}
use mathlib.Core.Bool.{not, ◌&&◌}
use mathlib.Core.List.{List, ◌∷◌}
use lib.Dec.{leb, eqb}
use borrow.Author.Tests.{leb-true, leb-false, le-leb, lt-leb, eqb-true, eqb-false}
use Rattle.laws.specs.Cases.{split}
use Rattle.file.specs.declared.OpenCall.{OpenCall}
use Rattle.file.specs.Calls.{keep, ends_at, stays_at}
use Rattle.book.specs.Reading.Events.{Own, day_opened}
use Rattle.book.specs.Reading.Calls.{open_on, calls_in, open_in}
use Rattle.book.proofs.Participant.Keep.{keep-ext, keep-keep}

-- A last free day l is the next day or later: it is today or later, and isn't today.
later-test : (t l : ℕ) → leb (suc t) l ≡ (leb t l && not (eqb (suc l) (suc t)))
later-test t l =
    split (leb t l)
    (λ h. rw h
    (split (eqb (suc l) (suc t))
    (λ e. rw (e, lt-leb (suc t) l (omega (arith, eqb-true (suc l) (suc t) e))))
    (λ e. rw (e, le-leb (suc t) l (omega (arith, leb-true t l h, eqb-false (suc l) (suc t) e))))))
    (λ h. rw (h, lt-leb (suc t) l (omega (arith, leb-false t l h))))

-- A last free day that is today is today or later.
ending-test : (t l : ℕ) → (leb t l && eqb (suc l) (suc t)) ≡ eqb (suc l) (suc t)
ending-test t l =
    split (eqb (suc l) (suc t))
    (λ e. rw (e, le-leb t l (omega (arith, eqb-true (suc l) (suc t) e))))
    (λ e. rw e (split (leb t l) (λ h. rw h) (λ h. rw h)))

-- The calls open on the next day, of any calls made.
pub open_next : (t : ℕ) (made : List OpenCall) → open_on (suc t) made ≡ keep (stays_at (suc t)) (open_on t made)
unfolding open_on
open_next t made =
    keep-ext (λ c. leb (suc t) c.last.0) (λ c. leb t c.last.0 && stays_at (suc t) c) made (λ c. later-test t c.last.0)
    ∙ sym (keep-keep (stays_at (suc t)) (λ c. leb t c.last.0) made)

-- Those that end: of the calls open today the ones, and of all calls the ones, whose last free day is today.
pub ending-next : (t : ℕ) (made : List OpenCall) → keep (ends_at (suc t)) (open_on t made) ≡ keep (ends_at (suc t)) made
unfolding open_on
ending-next t made =
    keep-keep (ends_at (suc t)) (λ c. leb t c.last.0) made
    ∙ keep-ext (λ c. leb t c.last.0 && ends_at (suc t) c) (ends_at (suc t)) made (λ c. ending-test t c.last.0)

-- The same of a participant's history.
pub open_in-next : (t : ℕ) (own : List Own) → open_in (suc t) (day_opened (suc t) ∷ own) ≡ keep (stays_at (suc t)) (open_in t own)
unfolding open_in calls_in
open_in-next t own = open_next t (calls_in own)

pub ending_in-next : (t : ℕ) (own : List Own) → keep (ends_at (suc t)) (open_in t own) ≡ keep (ends_at (suc t)) (calls_in own)
unfolding open_in
ending_in-next t own = ending-next t (calls_in own)
