-- The names that a line may have: of calls, of roles, and of what is lodged.
-- Assumes nothing.
use Rattle.std.specs.Prelude.{ℕ, cond, List, [], ◌∷◌, ltb, ℤ, Option, Some, None}
use Rattle.words.specs.Text.{text}
use Rattle.words.specs.Words.{place_in}
use Rattle.words.specs.Numerals.{natural_of, unsigned_of, signed_of}
use Rattle.words.specs.Euros.{amount_of, figure_of}
use Rattle.words.specs.Dates.{day_in, month_in}
use Rattle.journal.specs.declared.Reason.{Reason}
use Rattle.journal.specs.declared.fields.Kind.{Kind}
use Rattle.journal.specs.declared.lists.Listed.{Listed}

-- 'The journal': the first words of its lines, in the order in which it lists them; and of paper 02 the line that ends the first stretch of a journal
-- (Ask 3), and that of a deletion (Ask 4); and three questions: a participant's file, what of a position may be released, and the book's today.
unfoldable pub call_names : List (List ℕ)
call_names =
    text "fresh"
    ∷ text "admit"
    ∷ text "lodge"
    ∷ text "release"
    ∷ text "settle"
    ∷ text "annual"
    ∷ text "advance"
    ∷ text "statement"
    ∷ text "calls"
    ∷ text "special"
    ∷ text "report"
    ∷ text "batch"
    ∷ text "role-retired"
    ∷ text "delete"
    ∷ text "file"
    ∷ text "releasable"
    ∷ text "today"
    ∷ []

-- "the role's name in lower case", in the order of their numbers: paper 01, 'One participant's file'.
unfoldable pub role_names : List (List ℕ)
role_names =
    text "supplier"
    ∷ text "self-supplied"
    ∷ text "trader"
    ∷ text "producer"
    ∷ text "res-aggregator"
    ∷ text "demand-response"
    ∷ []

-- What is lodged: 0 for cash, 1 for a letter.
unfoldable pub lodged_names : List (List ℕ)
lodged_names = text "cash" ∷ text "letter" ∷ []

-- "ROLE is a number or the role's name in lower case".
unfoldable pub role_of_word : List ℕ → Option ℕ
role_of_word w = cond (ltb (place_in w role_names) 6) (Some (place_in w role_names)) (natural_of w)

-- `cash` or `letter`.
unfoldable pub lodged_in : List ℕ → Option ℕ
lodged_in w = cond (ltb (place_in w lodged_names) 2) (Some (place_in w lodged_names)) None

-- A word as what is due at its place.
abbrev pub read_as : Kind → List ℕ → Option ℕ
read_as Kind.Natural w = natural_of w
read_as Kind.Amount w = amount_of w
read_as Kind.Role w = role_of_word w
read_as Kind.Day w = day_in w
read_as Kind.Month w = month_in w

-- What is wrong with a word that is not what is due.
abbrev pub why_not : Kind → Reason
why_not Kind.Natural = Reason.NotNumber
why_not Kind.Amount = Reason.NotNumber
why_not Kind.Role = Reason.NotRole
why_not Kind.Day = Reason.NotDay
why_not Kind.Month = Reason.NotMonth

-- A number of a list: marks are natural numbers, and "figures, rates, zero settlements and excesses may have a minus"; a figure may be in euros.
unfoldable pub read_number : Listed → List ℕ → Option ℤ
read_number Listed.Mark w = unsigned_of w
read_number Listed.Number w = signed_of w
read_number Listed.Figure w = figure_of w
