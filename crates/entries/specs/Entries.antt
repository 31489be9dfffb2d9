-- What made a participant's figures: the text of each kind of entry, in columns. 'The ledger for its five users', of the items of a statement:
-- "Above it what made the figures: the calls with their amounts, last free days and where each came from (admission, settlement of which month), the
-- next amounts that took effect, lodgings and releases with their dates, the day each lapsed." The day of an entry stands before it, in its line
-- (`Lines`).
-- Assumes nothing.
use Rattle.std.specs.Prelude.{ℕ, ◌-◌, List, [], ◌∷◌, ◌++◌, length, replicate}
use Rattle.words.specs.Text.{text}
use Rattle.file.specs.declared.OpenCall.{OpenCall}
use Rattle.file.specs.declared.Position.{Position}
use Rattle.file.specs.declared.Position.TheVariants.{Empty, Cash, Letter}
use Rattle.file.specs.Position.{amount_of}
use Rattle.printing.specs.Decimals.{decimal, joined}
use Rattle.printing.specs.Columns.{padded, fixed}
use Rattle.printing.specs.Dates.{date_text}
use Rattle.report.specs.Table.{role_text}
use Rattle.entries.specs.Months.{month_text}
use Rattle.entries.specs.declared.entry.Entry.{Entry}
use Rattle.entries.specs.declared.entry.Origin.{Origin}

-- A label with blanks behind it up to 20 bytes; a longer one stands in full.
unfoldable pub labelled : List ℕ → List ℕ
labelled t = t ++ replicate (20 - length t) 32

-- A label that ends with the number of a position.
unfoldable pub placed : List ℕ → ℕ → List ℕ
placed t k = joined (t ∷ decimal k ∷ [])

-- An amount of cents, in the column of euros.
unfoldable pub euros : ℕ → List ℕ
euros a = padded 17 (fixed 2 a)

-- "where each came from (admission, settlement of which month)", or a deletion.
unfoldable pub origin_text : Origin → List ℕ
origin_text Origin.Admission = text "admission"
origin_text (Origin.Settlement m) = text "settlement of " ++ month_text m.0
origin_text Origin.Deletion = text "deletion"

-- The role that a participant was admitted with.
unfoldable pub admitted_text : ℕ → List ℕ
admitted_text role = labelled (text "admitted") ++ role_text role

-- "the calls with their amounts, last free days and where each came from".
unfoldable pub called_text : OpenCall → Origin → List ℕ
called_text c from = labelled (text "called") ++ euros c.amount ++ text "  free until " ++ date_text c.last.0 ++ text ", " ++ origin_text from

-- What is lodged: cash, or a letter with its days.
unfoldable pub kind_text : Position → List ℕ
kind_text Empty = []
kind_text (Cash a) = text "  cash"
kind_text (Letter a first last) = text "  letter from " ++ date_text first.0 ++ text " to " ++ date_text last.0

-- "lodgings .. with their dates": the position and what is lodged there.
unfoldable pub lodged_text : ℕ → Position → List ℕ
lodged_text k p = labelled (placed (text "lodged at") k) ++ euros (amount_of p) ++ kind_text p

-- "and releases with their dates": the position and the amount.
unfoldable pub released_text : ℕ → ℕ → List ℕ
released_text k a = labelled (placed (text "released at") k) ++ euros a

-- The next amount that an annual run gave.
unfoldable pub next_set_text : ℕ → List ℕ
next_set_text a = labelled (text "next amount") ++ euros a ++ text "  annual run"

-- "the next amounts that took effect".
unfoldable pub next_taken_text : ℕ → List ℕ
next_taken_text a = labelled (text "next amount") ++ euros a ++ text "  took effect"

-- A participant placed under deletion; no blank stands behind it.
unfoldable pub leaving_text : List ℕ
leaving_text = text "under deletion"

-- "the day each lapsed": the position and the amount of its letter.
unfoldable pub lapsed_text : ℕ → ℕ → List ℕ
lapsed_text k a = labelled (placed (text "lapsed at") k) ++ euros a

-- The text of an entry, by its kind.
unfoldable pub entry_text : Entry → List ℕ
entry_text (Entry.Admitted role) = admitted_text role
entry_text (Entry.Called c from) = called_text c from
entry_text (Entry.Lodged k p) = lodged_text k p
entry_text (Entry.Released k a) = released_text k a
entry_text (Entry.NextSet a) = next_set_text a
entry_text (Entry.NextTaken a) = next_taken_text a
entry_text Entry.Leaving = leaving_text
entry_text (Entry.Lapsed k a) = lapsed_text k a
