-- What a line of an input asks, by the way that its lines are taken.
-- Assumes nothing.
use Rattle.std.specs.Prelude.{◌≡◌, ℕ, cond, ◌&&◌, List, length, drop, ℤ, ◌==◌, slice_index}
use Rattle.book.specs.Rule.{Rule, old_rule, new_rule}
use Rattle.journal.specs.Grammar.{parsed}
use Rattle.journal.specs.declared.Reason.{Reason}
use Rattle.journal.specs.declared.Request.{Request}
use Rattle.answering.specs.Asked.{Asked, asked}
use Rattle.answering.specs.Kept.{changes}
use Rattle.answering.specs.Lines.{line_request, LineIs}
use Rattle.dialogue.specs.declared.Way.{Way}
use Rattle.dialogue.specs.declared.Place.{Place}

-- "A byte order mark at the start of an input is passed over": the bytes EF BB BF before the text of the first line, where so many lines stand
-- before.
unfoldable pub mark_length : ℕ → List ℕ → ℕ
mark_length before l =
    cond (before == 0 && (slice_index l 0 == 239 && (slice_index l 1 == 187 && slice_index l 2 == 191))) 3 0

unfoldable pub text_of : ℕ → List ℕ → List ℕ
text_of before l = drop (mark_length before l) l

-- "In the kept way a line without its newline is an `error`"; where the journal is only read, so is every call but a question.
unfoldable pub held_back : Way → Request → Request
held_back way r =
    cond way.torn (Request.Error Reason.NoNewline) (cond (way.reads && changes r) (Request.Error Reason.ReadOnly) r)

-- The request that a line is, with room for so many numbers.
unfoldable pub request_of : Way → ℕ → Place → List ℕ → Request
request_of way room p l = held_back way (line_request p.long p.kept room (text_of p.line l))

-- What it asks, with the numbers of its lists or the bytes of its file.
unfoldable pub asks : Way → ℕ → Place → List ℕ → Asked
asks way room p l = asked (request_of way room p l) (parsed room (text_of p.line l)).numbers

-- Paper 02, Ask 3: the admission rule that a line's call is made under. In a journal that is replayed "a first stretch of calls made under the old
-- admission rule" lasts until the line that ends it; whoever types is under the new one.
abbrev pub rule_at : Way → Place → Rule
rule_at way p = cond (way.replays && p.early) old_rule new_rule

-- The request r of a line, lent a slice e for the numbers, which it leaves as f.
pub record LineAsked (way : Way) (p : Place) (l : List ℕ) (e : List ℤ) (r : Request) (f : List ℤ) : Type 0 where
  pub request : r ≡ request_of way (length e) p l
  -- so the request with the slice asks what the line asks: `apply` may take the two
  pub same : asked r f ≡ asks way (length e) p l
  -- what the line is by itself, and the numbers that it leaves
  pub line : LineIs p.long p.kept (text_of p.line l) e (line_request p.long p.kept (length e) (text_of p.line l)) f
