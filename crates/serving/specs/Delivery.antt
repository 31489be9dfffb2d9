-- What becomes of the bytes of lines.
-- Assumes nothing.
use Rattle.std.specs.Prelude.{◌≡◌, ℕ, Bool, true, false, cond, List, length, ◌==◌, nat_lt, Option, Some, None, Result, IfOk}
use Rattle.std.specs.Result.{is_ok, result_ok, result_unwrap_or}
use Rattle.dialogue.specs.declared.Place.{Place}
use Rattle.dialogue.specs.Turns.{State}
use Rattle.storage.specs.declared.kept.Journal.{Journal}
use Rattle.storage.specs.Kept.{grown_by}

-- The journal that is left, if one is: none where none is kept, and none where something failed.
abbrev pub left : {E : Type 0} → Result (Option Journal) E → Option Journal
left r = result_unwrap_or r None

-- Behind a failure: what was before a step is so behind it too, the book, the place and that something failed.
pub record Behind {E : Type 0} (s t : State) (before after : Result (Option Journal) E) : Type 0 where
  pub state : is_ok before ≡ false → t ≡ s
  pub journal : is_ok before ≡ false → after ≡ before

-- A journal, where one is kept, with n bytes more, or as it was where there are none.
abbrev pub longer_by : Option Journal → ℕ → Option Journal
longer_by None n = None
longer_by (Some j) n = Some (cond (n == 0) j (grown_by j n))

-- "never an answer before its call is on disk": of a journal the bytes for it are kept, and r is left. The journal has grown by just these bytes; where
-- none is kept there are no bytes for it.
pub record Delivered (before : Option Journal) (bytes : List ℕ) (r : Option Journal) : Type 0 where
  pub grown : r ≡ longer_by before (length bytes)
  pub none : before ≡ None → length bytes ≡ 0

-- What becomes of lines at a place: where a journal is replayed, which is silent, the first that is refused or an error stops it; else their bytes
-- are kept and answered, or it stops.
pub record Became {E : Type 0} (silent : Bool) (p : Place) (before : Option Journal) (bytes : List ℕ) (r : Result (Option Journal) E) : Type 0 where
  pub kept : silent ≡ false → IfOk r (λ journal. Delivered before bytes journal)
  pub replayed : silent ≡ true → result_ok r ≡ cond (nat_lt 0 p.refused) None (Some before)

-- Of lines that add n bytes to the journal, r is left: where they are not replayed the journal has grown by just so many bytes; where none is kept they
-- add none.
pub record Grown (silent : Bool) (before : Option Journal) (n : ℕ) (r : Option Journal) : Type 0 where
  pub kept : silent ≡ false → r ≡ longer_by before n
  pub none : silent ≡ false → before ≡ None → n ≡ 0
