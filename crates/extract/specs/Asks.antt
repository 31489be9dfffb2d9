-- What the lines of an extract ask: of a whole session the calls of the extract alone, so that its statement is the participant's.
-- Assumes nothing.
use Rattle.std.specs.Prelude.{ℕ, ◌≤◌, ◌<◌, ◌≡◌, Bool, true, cond, List, [], ◌∷◌, ◌++◌, map, length, Option, Some, None, ℤ}
use Rattle.file.specs.Answer.{accepted}
use Rattle.book.specs.Call.{Act, on, statement}
use Rattle.book.specs.Account.{fresh_answer, file_at, answer}
use Rattle.journal.specs.Grammar.{Parsed, plain, parsed}
use Rattle.journal.specs.declared.Request.{Request}
use Rattle.journal.specs.Steps.{ParsedIs}
use Rattle.printing.specs.Lines.{printed, Fitting}
use Rattle.answering.specs.Asked.{Asked, call, fresh, role_retired, asked, answer_to}
use Rattle.answering.specs.Kept.{refuses}
use Rattle.answering.specs.Session.{rule_behind, book_of, history_of, since}
use Rattle.extract.specs.Extract.{own_calls, extract_of}
use Rattle.extract.specs.Lines.{stands_for, own_line, commented, extracted_line, title_text, titled}

-- ---- one line

-- What of what an accepted line asks stands in participant p's extract.
unfoldable pub own_asks : ℕ → Asked → List Asked
own_asks p (call c) = map call (own_calls p c)
own_asks p (fresh d) = fresh d ∷ []
own_asks p role_retired = role_retired ∷ []
own_asks p a = []

-- What a line of the extract asks, if there is one.
abbrev pub line_asks : Option Parsed → List Asked
line_asks (Some c) = asked c.request c.numbers ∷ []
line_asks None = []

-- A line of the extract without its newline.
unfoldable pub line_text : Parsed → List ℕ → List ℕ
line_text c reference = printed c.request c.numbers ++ commented reference

-- What holds of the line that an accepted line with this request, its numbers at the front of a row, adds to p's extract.
pub record LineOf (p : ℕ) (r : Request) (zs : List ℤ) : Type 0 where
  -- it asks what stands in the extract of what the journal's line asks
  pub asks : line_asks (own_line p r zs) ≡ own_asks p (asked r zs)
  -- it may stand in an extract of p
  pub stands : (c : Parsed) → own_line p r zs ≡ Some c → stands_for p c.request ≡ true
  -- its text
  pub text : (c : Parsed) (reference : List ℕ) → own_line p r zs ≡ Some c → extracted_line p r zs reference ≡ line_text c reference ++ (10 ∷ [])

-- .. and where that line was parsed, with a slice e for its numbers.
pub record LineBack (p : ℕ) (e : List ℤ) (line : List ℕ) : Type 0 where
  -- the request r and the slice f that it leaves may be taken
  pub row : (r : Request) (f : List ℤ) → ParsedIs (parsed (length e) line) e r f
      → own_line p r f ≡ own_line p (parsed (length e) line).request (parsed (length e) line).numbers
  -- the numbers of the extract's line fit their types, and are no more than those of the journal's
  pub fits : (c : Parsed) → own_line p (parsed (length e) line).request (parsed (length e) line).numbers ≡ Some c → Fitting c.request c.numbers
  pub few : (c : Parsed) → own_line p (parsed (length e) line).request (parsed (length e) line).numbers ≡ Some c
      → length c.numbers ≤ length (parsed (length e) line).numbers
  -- so its text is parsed to what it says, whatever its reference
  pub back : (c : Parsed) (reference : List ℕ) → own_line p (parsed (length e) line).request (parsed (length e) line).numbers ≡ Some c
      → parsed (length e) (line_text c reference) ≡ c

-- The title of p's extract says whose it is, and is a line that asks nothing.
pub record TitleOf (p room : ℕ) : Type 0 where
  pub names : titled (title_text p) ≡ Some p
  pub empty : parsed room (title_text p) ≡ plain Request.Nothing

-- ---- a whole session

-- Whether a line is accepted behind others: a call or a fresh book that isn't refused. The others add nothing, or are never refused.
abbrev pub accepts : List Asked → Asked → Bool
accepts before (call c) = accepted (answer (rule_behind before) (book_of before) c)
accepts before (fresh d) = accepted (fresh_answer d)
accepts before a = true

-- What the lines of p's extract ask, of lines that asked these, the newest first.
unfoldable pub own_session : ℕ → List Asked → List Asked
own_session p [] = []
own_session p (a ∷ before) = cond (accepts before a) (own_asks p a ++ own_session p before) (own_session p before)

-- "recomputes P's statement .. proved equal to the reading": the session of the extract's lines makes the extract of the history, and its book
-- tells p what the whole session's does.
pub record SessionOf (p : ℕ) (lines : List Asked) : Type 0 where
  -- the same first stretch, and the same fresh day
  pub rule : rule_behind (own_session p lines) ≡ rule_behind lines
  pub start : (since (own_session p lines)).start ≡ (since lines).start
  -- its calls are the extract of those of the session
  pub calls : history_of (since (own_session p lines)) ≡ extract_of p (since lines).start (history_of (since lines))
  -- the next line is accepted where its answer, whatever its number, is neither a refusal nor an error
  pub next : (n : ℕ) (a : Asked)
      → cond (refuses (answer_to (rule_behind lines) (book_of lines) n a)) [] (own_asks p a) ≡ cond (accepts lines a) (own_asks p a) []
  -- p's statement, the answer to each call on its file, and the file itself
  pub statement : (n : ℕ)
      → answer_to (rule_behind lines) (book_of (own_session p lines)) n (call (statement p))
      ≡ answer_to (rule_behind lines) (book_of lines) n (call (statement p))
  pub answers : (n : ℕ) (a : Act)
      → answer_to (rule_behind lines) (book_of (own_session p lines)) n (call (on p a))
      ≡ answer_to (rule_behind lines) (book_of lines) n (call (on p a))
  pub file : p < 64 → file_at (book_of (own_session p lines)) p ≡ file_at (book_of lines) p
  pub today : (book_of (own_session p lines)).today.0 ≡ (book_of lines).today.0
