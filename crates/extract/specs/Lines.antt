-- The lines of an extract: "`# extract of participant P`, then P's own accepted calls in their numeric form with their references, the advances as
-- they stand in the journal, `fresh` and `role-retired` where they stand; a batch is its settlement .. where a part of it is P's".
-- Assumes nothing.
use Rattle.std.specs.Prelude.{ℕ, Bool, true, false, cond, List, [], ◌∷◌, ◌++◌, take, drop, eqb, Option, Some, None, ℤ}
use Rattle.words.specs.Text.{text}
use Rattle.words.specs.Bytes.{same}
use Rattle.words.specs.Numerals.{natural_of}
use Rattle.batch.specs.Batch.{month_in, rows_at, figures_at}
use Rattle.journal.specs.Grammar.{Parsed}
use Rattle.journal.specs.declared.Request.{Request}
use Rattle.printing.specs.Decimals.{decimal, joined}
use Rattle.printing.specs.Lines.{printed}
use Rattle.answering.specs.Asked.{batch_bytes}
use Rattle.extract.specs.Extract.{own_part}

-- The participant whose file a request would change, if it names one. A batch names several, none here; a question changes no file.
abbrev pub named_by : Request → Option ℕ
named_by (Request.Admit p r) = Some p
named_by (Request.LodgeCash p q a) = Some p
named_by (Request.LodgeLetter p q a f l) = Some p
named_by (Request.Release p q a) = Some p
named_by (Request.Settle p m n) = Some p
named_by (Request.Annual p) = Some p
named_by (Request.Delete p) = Some p
named_by r = None

-- Whether a name is participant p's.
abbrev pub names : ℕ → Option ℕ → Bool
names p (Some q) = eqb q p
names p None = false

-- Whether an accepted line stays in p's extract as it is: "P's own accepted calls .., the advances .., `fresh` and `role-retired`".
abbrev pub stays : ℕ → Request → Bool
stays p (Request.Fresh d) = true
stays p (Request.Advance t b) = true
stays p Request.RoleRetired = true
stays p r = names p (named_by r)

-- Whether a line may stand in p's extract: one that stays, an empty one, or a question for p's own statement. No batch, and none that names another
-- participant.
abbrev pub stands_for : ℕ → Request → Bool
stands_for p Request.Nothing = true
stands_for p (Request.Statement q) = eqb q p
stands_for p r = stays p r

-- The numbers at the front of a row that are a call's.
abbrev pub own_numbers : Request → List ℤ → List ℤ
own_numbers (Request.Settle p m n) zs = take n zs
own_numbers r zs = []

-- `settle P MONTH FIGURE..`: the part of a batch that is p's.
abbrev pub settle_line : ℕ → List ℕ → ℕ → Parsed
settle_line p file k =
    record { request = Request.Settle p (record { 0 = month_in file }) (rows_at file k); numbers = figures_at file k }

abbrev pub part_line : ℕ → List ℕ → Option ℕ → Option Parsed
part_line p file (Some k) = Some (settle_line p file k)
part_line p file None = None

-- How many bytes the file of a batch has, where a request is one.
abbrev pub file_of : Request → Option ℕ
file_of (Request.Batch n) = Some n
file_of r = None

-- What of an accepted line of the journal stands in p's extract, its numbers or the bytes of its file standing at the front of a row: a batch's
-- part, and any other as it is.
abbrev pub line_of : ℕ → Request → List ℤ → Option ℕ → Option Parsed
line_of p r zs (Some n) = part_line p (batch_bytes n zs) (own_part p (batch_bytes n zs))
line_of p r zs None = cond (stays p r) (Some (record { request = r; numbers = own_numbers r zs })) None

unfoldable pub own_line : ℕ → Request → List ℤ → Option Parsed
own_line p r zs = line_of p r zs (file_of r)

-- "Reference: the comment behind an accepted call, kept in the journal behind the call's numeric form as `CALL # REFERENCE`".
unfoldable pub commented : List ℕ → List ℕ
commented [] = []
commented (b ∷ reference) = text " # " ++ (b ∷ reference)

-- What stands behind a call: its reference, if it has one, and the newline.
unfoldable pub behind_call : List ℕ → List ℕ
behind_call reference = commented reference ++ (10 ∷ [])

-- The line, or nothing.
unfoldable pub line_with : List ℕ → Option Parsed → List ℕ
line_with reference (Some c) = printed c.request c.numbers ++ behind_call reference
line_with reference None = []

unfoldable pub extracted_line : ℕ → Request → List ℤ → List ℕ → List ℕ
extracted_line p r zs reference = line_with reference (own_line p r zs)

-- `# extract of participant P`, without its newline and with it.
unfoldable pub title_text : ℕ → List ℕ
title_text p = joined (text "# extract of participant" ∷ decimal p ∷ [])

unfoldable pub title_line : ℕ → List ℕ
title_line p = title_text p ++ (10 ∷ [])

-- The participant whose extract a title, without its newline, says that it is.
abbrev pub title_mark : List ℕ
title_mark = text "# extract of participant "

unfoldable pub titled : List ℕ → Option ℕ
titled line = cond (same (take 25 line) title_mark) (natural_of (drop 25 line)) None
