-- What a line of an input asks.
-- Assumes nothing.
use Rattle.std.specs.Prelude.{ℕ, ◌≡◌, Bool, cond, List, ℤ, length}
use Rattle.std.proofs.lemmas.List.Edits.{sets}
use Rattle.journal.specs.Grammar.{parsed}
use Rattle.journal.specs.declared.Reason.{Reason}
use Rattle.journal.specs.declared.Request.{Request}
use Rattle.answering.specs.Asked.{Asked, asked}
use Rattle.answering.specs.Kept.{fresh_first}

-- The request that a line is, where so many calls are kept and there is room for so many numbers: by the grammar, with `fresh` only as the first
-- call; "longer than the buffer is an `error`".
unfoldable pub line_request : Bool → ℕ → ℕ → List ℕ → Request
line_request long kept room line = cond long (Request.Error Reason.TooLong) (fresh_first kept (parsed room line).request)

-- What it asks, with the numbers of its lists or the bytes of its file.
unfoldable pub line_asks : Bool → ℕ → ℕ → List ℕ → Asked
line_asks long kept room line = asked (line_request long kept room line) (parsed room line).numbers

-- The request r of a line, lent a slice e for the numbers, which it leaves as f.
pub record LineIs (long : Bool) (kept : ℕ) (line : List ℕ) (e : List ℤ) (r : Request) (f : List ℤ) : Type 0 where
  pub request : r ≡ line_request long kept (length e) line
  pub numbers : f ≡ cond long e (sets e 0 (parsed (length e) line).numbers)
  -- so the request with the slice asks what the line asks: `apply` may take the two
  pub asks : asked r f ≡ line_asks long kept (length e) line
