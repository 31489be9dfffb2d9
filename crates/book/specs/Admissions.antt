-- What the function that writes an admission ensures.
-- Assumes nothing.
use Rattle.std.specs.Prelude.{ℕ, ◌≡◌, false, List, eqb}
use Rattle.file.specs.Answer.{done}
use Rattle.book.specs.Call.{admit, on}
use Rattle.book.specs.InWords.{GivenWords, GivenFirstWords}

-- m are the words that an accepted admission of participant p with a role leaves of the words l: under the old rule, and under the new one where the
-- role isn't retired.
pub record PutsAdmission (l : List ℕ) (p role : ℕ) (m : List ℕ) : Type 0 where
  pub first : GivenFirstWords l (on p (admit role)) done m
  pub given : eqb role 1 ≡ false → GivenWords l (on p (admit role)) done m
