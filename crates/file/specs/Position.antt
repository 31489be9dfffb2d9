-- Positions, and the cover that they give on a day, or from one day to another (paper 01, 'One participant's file').
-- Assumes nothing.
use Rattle.std.specs.Prelude.{ℕ, ◌+◌, ◌-◌, Bool, true, false, cond, not, ◌&&◌, List, [], ◌∷◌, leb, ltb, eqb, get_or}
use Rattle.file.specs.declared.Position.{Position}
use Rattle.file.specs.declared.Position.TheVariants.{Empty, Cash, Letter}
use Rattle.file.specs.declared.Slot.{Slot}

-- The amount of a position; an empty one has none.
abbrev pub amount_of : Position → ℕ
amount_of Empty = 0
amount_of (Cash a) = a
amount_of (Letter a first last) = a

-- Whether a position is cash, or a letter whose days, "first day and last day, both included", include all from day d to a day e not before it.
abbrev pub in_force_through : ℕ → ℕ → Position → Bool
in_force_through d e Empty = false
in_force_through d e (Cash a) = true
in_force_through d e (Letter a first last) = leb first.0 d && leb e last.0

-- Whether it is cash, or a letter "whose days include" d.
abbrev pub in_force : ℕ → Position → Bool
in_force d p = in_force_through d d p

-- What a position counts for from day d to day e.
unfoldable pub counts_through : ℕ → ℕ → Position → ℕ
counts_through d e p = cond (in_force_through d e p) (amount_of p) 0

-- The cover that lasts from day d to a day e not before it: all cash plus every letter whose days include both.
unfoldable pub cover_through : ℕ → ℕ → List Slot → ℕ
cover_through d e [] = 0
cover_through d e (s ∷ slots) = counts_through d e s.position + cover_through d e slots

-- "Cover on a day: all cash plus every letter whose days include it."
unfoldable pub cover_on : ℕ → List Slot → ℕ
cover_on d slots = cover_through d d slots

-- Whether something is held at a position.
abbrev pub filled : Position → Bool
filled Empty = false
filled (Cash a) = true
filled (Letter a first last) = true

-- A letter "whose last day is before" d.
abbrev pub lapsed_by : ℕ → Position → Bool
lapsed_by d Empty = false
lapsed_by d (Cash a) = false
lapsed_by d (Letter a first last) = ltb last.0 d

-- 'Advance': "letters with last day before d are emptied".
unfoldable pub emptied_on : ℕ → Position → Position
emptied_on d p = cond (lapsed_by d p) Empty p

-- What a release of an amount leaves. 'Release': "Cash in part or whole; a letter only whole. A position released whole is empty."
abbrev pub less_released : ℕ → Position → Position
less_released a Empty = Empty
less_released a (Cash b) = cond (eqb a b) Empty (Cash (b - a))
less_released a (Letter b first last) = Empty

-- Cause 15: "release above what is held, or a letter in part".
abbrev pub not_releasable : ℕ → Position → Bool
not_releasable a Empty = false
not_releasable a (Cash b) = ltb b a
not_releasable a (Letter b first last) = not (eqb a b)

-- Cause 8: "lodged or released amount outside 1 to 10^12".
unfoldable pub outside_amounts : ℕ → Bool
outside_amounts a = not (leb 1 a && leb a 1000000000000)

-- Cause 9: "letter days against the rule". 'Lodge': "A letter's first day isn't after its last, and its last is at least t and at most
-- 29,219."
abbrev pub against_days : ℕ → Position → Bool
against_days t Empty = false
against_days t (Cash a) = false
against_days t (Letter a first last) = not (leb first.0 last.0 && (leb t last.0 && leb last.0 29219))

-- A slot that holds a position, and what stands at a place; a place past the eighth is empty.
abbrev pub slot_of : Position → Slot
slot_of p = record { position = p }

abbrev pub position_at : List Slot → ℕ → Position
position_at slots k = (get_or slots k (slot_of Empty)).position
