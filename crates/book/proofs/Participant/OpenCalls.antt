-- The open calls of a file of the readings are the calls that the reading says are open; and a call made behind others is the last of them.
-- Assumes nothing.
use Prim.Native.Nat.{ℕ, ◌+◌, ◌≤◌}
use native.Mathlib.Omega.{arith}
use mathlib.Core.Path.{◌≡◌}
use mathlib.Core.Bool.{Bool, true, false, cond}
use mathlib.Core.List.{List, [], ◌∷◌, ◌++◌, append-nil}
use borrow.Author.Tests.{le-leb}
use lib.Dec.{leb}
use lib.ListN.{length, length-append}
use Rattle.file.specs.declared.OpenCall.{OpenCall}
use Rattle.file.specs.Calls.{call_of}
use Rattle.file.specs.CallLaws.{keep-more, in_places-take}
use Rattle.file.specs.Fields.{open_calls}
use Rattle.book.specs.Reading.Events.{Own}
use Rattle.book.specs.Reading.Calls.{open_on, open_in}
use Rattle.book.specs.Kept.{file_in}

-- A file of the readings has the open calls of the reading.
pub open-calls : (t : ℕ) (own : List Own) → open_calls (file_in t own) ≡ open_in t own
unfolding open_calls file_in
open-calls t own = in_places-take (open_in t own)

-- A call that is made behind others, and whose last free day isn't before t, is the last of those open on t.
pub open-behind : (t : ℕ) (made : List OpenCall) (b : Bool) (e l : ℕ) → t ≤ l
    → open_on t (made ++ cond b (call_of e l ∷ []) []) ≡ cond b (open_on t made ++ (call_of e l ∷ [])) (open_on t made)
unfolding open_on
open-behind t made true e l h = keep-more (λ (c : OpenCall). leb t c.last.0) made (call_of e l) (le-leb t l h)
open-behind t made false e l h = rw (append-nil made)

-- One call more, or none.
pub length-behind : (made : List OpenCall) (b : Bool) (c : OpenCall) → cond b 1 0 + length made ≡ length (made ++ cond b (c ∷ []) [])
length-behind made true c = omega (arith, length-append made (c ∷ []))
length-behind made false c = omega (arith, length-append made [])
