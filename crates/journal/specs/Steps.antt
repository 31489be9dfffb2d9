-- What the functions that take words ensure.
-- Assumes nothing.
use Rattle.std.specs.Prelude.{ℕ, ◌≡◌, List, ℤ, Some, None, Result, Ok, Err, MatchResult}
use Rattle.std.proofs.lemmas.List.Edits.{sets}
use Rattle.words.specs.Words.{left}
use Rattle.words.specs.declared.line.Words.{Words}
use Rattle.journal.specs.Names.{read_number}
use Rattle.journal.specs.Fields.{Left, more, fault, next_of, faulted, Taken, Numbers}
use Rattle.journal.specs.Grammar.{Parsed}
use Rattle.journal.specs.declared.Reason.{Reason}
use Rattle.journal.specs.declared.Request.{Request}
use Rattle.journal.specs.declared.plain.Call.{Call}
use Rattle.journal.specs.declared.lists.Listed.{Listed}

-- The call that a line is, or its fault, as one of the requests.
abbrev pub said : Result Call Reason → Request
said (Ok c) = c.request
said (Err e) = Request.Error e

-- What is left after words were taken, if they were.
abbrev pub after : {A : Type 0} → Result A Reason → Words → Left
after (Ok x) s = more (left s)
after (Err e) s = fault e

-- The next word, as what is due: its number, and the words that are left; or a fault.
abbrev pub IsField : Taken → Result ℕ Reason → Words → Type 0
IsField x r s = MatchResult r (λ n. (n ≡ x.value) × (more (left s) ≡ x.left)) (λ e. x.left ≡ fault e)

-- The next word of what is left, as a number of a list; or a fault.
abbrev pub IsNumber : Listed → Left → Result ℤ Reason → Words → Type 0
IsNumber due l r s =
    MatchResult r (λ z. (read_number due (next_of l).word ≡ Some z) × ((next_of l).left ≡ more (left s)))
    (λ e. (read_number due (next_of l).word ≡ None) × (faulted (next_of l).left Reason.NotNumber ≡ fault e))

-- Numbers x written to the front of a list e, which leaves the list f; and what is left after them.
pub record IsFilled {A : Type 0} (x : Numbers) (e : List ℤ) (r : Result A Reason) (s : Words) (f : List ℤ) : Type 0 where
  pub rest : after r s ≡ x.left
  pub numbers : f ≡ sets e 0 x.numbers

-- The call that a line is, and its numbers written to the front of a list e, which leaves the list f.
pub record ParsedIs (x : Parsed) (e : List ℤ) (r : Request) (f : List ℤ) : Type 0 where
  pub request : r ≡ x.request
  pub numbers : f ≡ sets e 0 x.numbers
