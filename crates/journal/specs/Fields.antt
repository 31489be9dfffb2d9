-- The words of a line taken one by one, from the left to the right: the first fault is the line's.
-- Assumes nothing.
use Rattle.std.specs.Prelude.{ℕ, zero, suc, ◌-◌, Bool, true, false, cond, List, [], ◌∷◌, ◌++◌, eqb, leb, length, ℤ, Option, Some, None}
use Rattle.words.specs.Hex.{hexadecimal, bytes_of_hex}
use Rattle.journal.specs.Names.{read_as, why_not, lodged_in, read_number}
use Rattle.journal.specs.declared.Reason.{Reason}
use Rattle.journal.specs.declared.Request.{Request}
use Rattle.journal.specs.declared.fields.Kind.{Kind}
use Rattle.journal.specs.declared.lists.Listed.{Listed}

-- What is left of a line: words, or the fault that was met.
pub data Left : Type 0 where
  more : List (List ℕ) → Left
  fault : Reason → Left

-- The next word, and what is left after it. No word is left: too few words.
pub record Next : Type 0 where
  pub word : List ℕ
  pub left : Left

unfoldable pub next_of : Left → Next
next_of (more []) = record { word = []; left = fault Reason.TooFewWords }
next_of (more (w ∷ ws)) = record { word = w; left = more ws }
next_of (fault e) = record { word = []; left = fault e }

-- A fault, unless there was one before.
unfoldable pub faulted : Left → Reason → Left
faulted (more ws) e = fault e
faulted (fault d) e = fault d

-- The next word as what is due, and what is left after it.
pub record Taken : Type 0 where
  pub value : ℕ
  pub left : Left

unfoldable pub taken : Option ℕ → Reason → Left → Taken
taken (Some n) e l = record { value = n; left = l }
taken None e l = record { value = 0; left = faulted l e }

unfoldable pub field_of : Kind → Left → Taken
field_of k l = taken (read_as k (next_of l).word) (why_not k) (next_of l).left

-- The next word as what is lodged, and what is left after it.
unfoldable pub lodged_field : Left → Taken
lodged_field l = taken (lodged_in (next_of l).word) Reason.NotCashOrLetter (next_of l).left

-- How many days an advance may open, and what is left: "`advance D` without a budget: as `advance D 29219`", all days behind day 0.
unfoldable pub budget_of : Left → Taken
budget_of (more []) = record { value = 29219; left = more [] }
budget_of (more (w ∷ ws)) = field_of Kind.Natural (more (w ∷ ws))
budget_of (fault e) = field_of Kind.Natural (fault e)

-- A call whose words are all read: a word more is a fault.
unfoldable pub closed : Left → Request → Request
closed (more []) r = r
closed (more (w ∷ ws)) r = Request.Error Reason.TooManyWords
closed (fault e) r = Request.Error e

-- Numbers of a list, and what is left after them.
pub record Numbers : Type 0 where
  pub numbers : List ℤ
  pub left : Left

-- A number before others. There is room for so many: "No line is too long to be answered".
unfoldable pub with_number : ℕ → Option ℤ → Left → Numbers → Numbers
with_number room None l rest = record { numbers = []; left = faulted l Reason.NotNumber }
with_number room (Some z) l rest =
    cond (eqb room 0) (record { numbers = []; left = fault Reason.TooLong }) (record { numbers = z ∷ rest.numbers; left = rest.left })

-- The next n numbers; those before a fault, if there is one.
unfoldable pub next_numbers : Listed → ℕ → ℕ → Left → Numbers
next_numbers due room zero l = record { numbers = []; left = l }
next_numbers due room (suc n) l =
    with_number room (read_number due (next_of l).word) (next_of l).left (next_numbers due (room - 1) n (next_of l).left)

-- How many words are left.
unfoldable pub words_left : Left → ℕ
words_left (more ws) = length ws
words_left (fault e) = 0

-- "FIGURE..": any number of figures, none included.
unfoldable pub figures_of : ℕ → Left → Numbers
figures_of room l = next_numbers Listed.Figure room (words_left l) l

-- What the numbers of a list of `special` are: marks (true), or others (false).
abbrev pub in_list : Bool → Listed
in_list true = Listed.Mark
in_list false = Listed.Number

-- "each LIST is its length and then its numbers".
unfoldable pub list_of : Bool → ℕ → Left → Numbers
list_of marks room l = next_numbers (in_list marks) room (field_of Kind.Natural l).value (field_of Kind.Natural l).left

-- Lists one after the other: the length of each, and their numbers in a row.
pub record Lists : Type 0 where
  pub lengths : List ℕ
  pub numbers : List ℤ
  pub left : Left

unfoldable pub on_lists : Numbers → Lists → Lists
on_lists a b = record { lengths = length a.numbers ∷ b.lengths; numbers = a.numbers ++ b.numbers; left = b.left }

unfoldable pub lists_of : List Bool → ℕ → Left → Lists
lists_of [] room l = record { lengths = []; numbers = []; left = l }
lists_of (m ∷ ms) room l =
    on_lists (list_of m room l) (lists_of ms (room - length (list_of m room l).numbers) (list_of m room l).left)

-- The word of a batch's file, "in one word; `batch` alone for an empty file", and what is left after it.
unfoldable pub file_of : Left → Next
file_of (more []) = record { word = []; left = more [] }
file_of (more (w ∷ ws)) = record { word = w; left = more ws }
file_of (fault e) = record { word = []; left = fault e }

-- "an odd number of digits or another character is an error", and so are more bytes than there is room for.
unfoldable pub checked_file : ℕ → List ℕ → Left → Left
checked_file room w l =
    cond (hexadecimal w) (cond (leb (length (bytes_of_hex w)) room) l (faulted l Reason.TooLong)) (faulted l Reason.NotHex)

-- The end of a line: a word more is a fault.
unfoldable pub ended : Left → Left
ended (more []) = more []
ended (more (w ∷ ws)) = fault Reason.TooManyWords
ended (fault e) = fault e
