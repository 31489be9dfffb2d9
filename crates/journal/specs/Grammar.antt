-- The grammar of the journal: the call that a line is.
-- Assumes nothing.
use Rattle.std.specs.Prelude.{ℕ, ◌+◌, min, Bool, true, false, cond, List, [], ◌∷◌, eqb, length, get_or, ℤ}
use Rattle.calendar.specs.declared.Day.{Day}
use Rattle.calendar.specs.declared.Month.{Month}
use Rattle.words.specs.Bytes.{control, some, uncommented}
use Rattle.words.specs.Words.{words, place_in}
use Rattle.words.specs.Hex.{bytes_of_hex}
use Rattle.journal.specs.Names.{call_names}
use Rattle.journal.specs.Fields.{Left, more, fault, field_of, lodged_field, budget_of, closed, figures_of, lists_of, file_of, checked_file, ended}
use Rattle.journal.specs.declared.Reason.{Reason}
use Rattle.journal.specs.declared.Request.{Request}
use Rattle.journal.specs.declared.Lengths.{Lengths}
use Rattle.journal.specs.declared.fields.Kind.{Kind}

-- A day and a month of 32 bits: "one too large for its type counts as the type's largest", 2^32 - 1.
abbrev pub day_numbered : ℕ → Day
day_numbered n = record { 0 = min n 4294967295 }

abbrev pub month_numbered : ℕ → Month
month_numbered n = record { 0 = min n 4294967295 }

-- `fresh D`
unfoldable pub fresh_of : Left → Request
fresh_of l = let d = field_of Kind.Day l in closed d.left (Request.Fresh (day_numbered d.value))

-- `admit P ROLE`
unfoldable pub admit_of : Left → Request
admit_of l =
    let p = field_of Kind.Natural l in
    let r = field_of Kind.Role p.left in
    closed r.left (Request.Admit p.value r.value)

-- `lodge P POSITION cash AMOUNT` and `lodge P POSITION letter AMOUNT FIRST LAST`, from the amount on
unfoldable pub cash_of : ℕ → ℕ → Left → Request
cash_of p q l = let a = field_of Kind.Amount l in closed a.left (Request.LodgeCash p q a.value)

unfoldable pub letter_of : ℕ → ℕ → Left → Request
letter_of p q l =
    let a = field_of Kind.Amount l in
    let f = field_of Kind.Day a.left in
    let t = field_of Kind.Day f.left in
    closed t.left (Request.LodgeLetter p q a.value (day_numbered f.value) (day_numbered t.value))

-- `lodge P POSITION cash ..` and `lodge P POSITION letter ..`
unfoldable pub lodge_of : Left → Request
lodge_of l =
    let p = field_of Kind.Natural l in
    let q = field_of Kind.Natural p.left in
    let k = lodged_field q.left in
    cond (eqb k.value 0) (cash_of p.value q.value k.left) (letter_of p.value q.value k.left)

-- `release P POSITION AMOUNT`
unfoldable pub release_of : Left → Request
release_of l =
    let p = field_of Kind.Natural l in
    let q = field_of Kind.Natural p.left in
    let a = field_of Kind.Amount q.left in
    closed a.left (Request.Release p.value q.value a.value)

-- `annual P`
unfoldable pub annual_of : Left → Request
annual_of l = let p = field_of Kind.Natural l in closed p.left (Request.Annual p.value)

-- `advance T B`, or `advance T`
unfoldable pub advance_of : Left → Request
advance_of l =
    let t = field_of Kind.Day l in
    let b = budget_of t.left in
    closed b.left (Request.Advance (day_numbered t.value) b.value)

-- `statement P`
unfoldable pub statement_of : Left → Request
statement_of l = let p = field_of Kind.Natural l in closed p.left (Request.Statement p.value)

-- `delete P`
unfoldable pub delete_of : Left → Request
delete_of l = let p = field_of Kind.Natural l in closed p.left (Request.Delete p.value)

-- `file P`
unfoldable pub file_asked_of : Left → Request
file_asked_of l = let p = field_of Kind.Natural l in closed p.left (Request.File p.value)

-- `releasable P POSITION`
unfoldable pub releasable_of : Left → Request
releasable_of l =
    let p = field_of Kind.Natural l in
    let q = field_of Kind.Natural p.left in
    closed q.left (Request.Releasable p.value q.value)

-- What a line is: a call, nothing or an error, and the numbers of its lists in a row or the bytes of its file; of an error, the numbers of
-- lists before the fault.
pub record Parsed : Type 0 where
  pub request : Request
  pub numbers : List ℤ

-- A call without lists.
abbrev pub plain : Request → Parsed
plain r = record { request = r; numbers = [] }

-- `settle P MONTH FIGURE..`
unfoldable pub settle_of : ℕ → Left → Parsed
settle_of room l =
    let p = field_of Kind.Natural l in
    let m = field_of Kind.Month p.left in
    let f = figures_of room m.left in
    record {
      request = closed f.left (Request.Settle p.value (month_numbered m.value) (length f.numbers));
      numbers = f.numbers;
    }

-- `special LIST LIST LIST LIST LIST LIST LIST`: "medium rates, low rates, marks, zero medium, zero low, excess medium, excess low"
abbrev pub are_marks : List Bool
are_marks = false ∷ false ∷ true ∷ false ∷ false ∷ false ∷ false ∷ []

abbrev pub lengths_of : List ℕ → Lengths
lengths_of n =
    record {
      medium = get_or n 0 0;
      low = get_or n 1 0;
      marks = get_or n 2 0;
      zero_medium = get_or n 3 0;
      zero_low = get_or n 4 0;
      excess_medium = get_or n 5 0;
      excess_low = get_or n 6 0;
    }

-- The lengths of the seven lists of `special`, in order, and their sum.
abbrev pub length_list : Lengths → List ℕ
length_list n =
    n.medium ∷ n.low ∷ n.marks ∷ n.zero_medium ∷ n.zero_low ∷ n.excess_medium ∷ n.excess_low ∷ []

abbrev pub total : List ℕ → ℕ
total [] = 0
total (k ∷ ks) = k + total ks

unfoldable pub special_of : ℕ → Left → Parsed
special_of room l =
    let t = lists_of are_marks room l in
    record { request = closed t.left (Request.Special (lengths_of t.lengths)); numbers = t.numbers }

-- A call with a file's bytes, where no word is left; an error has none.
unfoldable pub filed : Left → List ℤ → Parsed
filed (more ws) zs = record { request = Request.Batch (length zs); numbers = zs }
filed (fault e) zs = plain (Request.Error e)

-- `batch HEX`: "two hexadecimal digits a byte, either case, in one word".
unfoldable pub batch_of : ℕ → Left → Parsed
batch_of room l = let f = file_of l in filed (ended (checked_file room f.word f.left)) (bytes_of_hex f.word)

-- The calls by their first word, in the order of their names; any other first word is no call. `role-retired` is paper 02, Ask 3: the line that
-- ends the first stretch of a journal, one word. The last three are questions.
unfoldable pub calls_of : ℕ → Left → List Parsed
calls_of room l =
    plain (fresh_of l)
    ∷ plain (admit_of l)
    ∷ plain (lodge_of l)
    ∷ plain (release_of l)
    ∷ settle_of room l
    ∷ plain (annual_of l)
    ∷ plain (advance_of l)
    ∷ plain (statement_of l)
    ∷ plain (closed l Request.Calls)
    ∷ special_of room l
    ∷ plain (closed l Request.Report)
    ∷ batch_of room l
    ∷ plain (closed l Request.RoleRetired)
    ∷ plain (delete_of l)
    ∷ plain (file_asked_of l)
    ∷ plain (releasable_of l)
    ∷ plain (closed l Request.Today)
    ∷ []

unfoldable pub named_call : ℕ → ℕ → Left → Parsed
named_call room k l = get_or (calls_of room l) k (plain (Request.Error Reason.NoCall))

-- A line by its words: "empty lines are skipped".
unfoldable pub words_of : ℕ → List (List ℕ) → Parsed
words_of room [] = plain Request.Nothing
words_of room (w ∷ ws) = named_call room (place_in w call_names) (more ws)

-- A line, with room for so many numbers: its comment is cut off, and a control byte before that makes it an error.
unfoldable pub parsed : ℕ → List ℕ → Parsed
parsed room line =
    cond (some control (uncommented line)) (plain (Request.Error Reason.ControlByte)) (words_of room (words (uncommented line)))
