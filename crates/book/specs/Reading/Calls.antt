-- The calls made, the firm amount and the open calls, read from a participant's calls and the days opened.
-- Assumes nothing.
use Rattle.std.specs.Prelude.{ℕ, ◌+◌, Bool, cond, ◌&&◌, List, [], ◌∷◌, ◌++◌, leb, ltb, length, ℤ, nat_abs}
use Rattle.calendar.specs.Civil.{month_of, is_first_october}
use Rattle.manual.specs.Minimum.{minimum_of}
use Rattle.manual.specs.Check.{call_is_made}
use Rattle.manual.specs.Figures.{sum_of}
use Rattle.file.specs.declared.OpenCall.{OpenCall}
use Rattle.file.specs.Calls.{largest, amounts_of, call_of, keep}
use Rattle.file.specs.Settle.{check_due}
use Rattle.book.specs.Call.{admit, lodge, release, settle, annual_run, delete}
use Rattle.book.specs.Reading.Events.{Own, day_opened, act}
use Rattle.book.specs.Reading.Holdings.{deposited_in}
use Rattle.book.specs.Reading.Months.{deletion_in, next_in}

-- R and the base.
pub record Base : Type 0 where
  pub from : ℕ
  pub amount : ℕ

-- "Let R be the latest 1 October opened, not after d, on which a next amount took effect, with base that amount; with none, R is the
-- admission day and the base 0."
unfoldable pub base_in : ℕ → List Own → Base
base_in d [] = record { from = 0; amount = 0 }
base_in d (day_opened e ∷ own) =
    cond (leb e d && (is_first_october e && (next_in own).set)) (record { from = e; amount = (next_in own).amount }) (base_in d own)
base_in d (act e (admit role) ∷ own) = record { from = e; amount = 0 }
base_in d (act e (lodge k h) ∷ own) = base_in d own
base_in d (act e (release k a) ∷ own) = base_in d own
base_in d (act e (settle m figures) ∷ own) = base_in d own
base_in d (act e annual_run ∷ own) = base_in d own
base_in d (act e delete ∷ own) = base_in d own

-- ".. with R ≤ last free day < d".
abbrev pub counts_from : ℕ → ℕ → OpenCall → Bool
counts_from r d c = leb r c.last.0 && ltb c.last.0 d

-- "The firm amount on d is the largest of the base and every called amount, an admission's included, with R ≤ last free day < d."
unfoldable pub firm_from : ℕ → Base → List OpenCall → ℕ
firm_from d base made = largest base.amount (amounts_of (keep (counts_from base.from d) made))

-- "A call is open on day t if it was made and its last free day is t or later."
unfoldable pub open_on : ℕ → List OpenCall → List OpenCall
open_on t made = keep (λ (c : OpenCall). leb t c.last.0) made

-- Whether a settlement called: "E is checked against D .. A call is made when .." Paper 02, Ask 2: "The reading of the history takes the new D for
-- whether a settlement called". Its firm amount and open calls are read from the calls made before it.
unfoldable pub called_in : ℕ → ℕ → List ℤ → List Own → List OpenCall → Bool
called_in d m figures own made =
    check_due (month_of d) m
    && call_is_made (sum_of figures) (deposited_in d own) (firm_from d (base_in d own) made) (amounts_of (open_on d made))

-- Paper 02, Ask 4: whether a deletion called: "If it exceeds the firm amount and every open call it becomes an open call .., whatever the cover", so
-- where its amount is above the largest of these.
unfoldable pub deletion_called : ℕ → List Own → List OpenCall → Bool
deletion_called d own made = ltb (largest (firm_from d (base_in d own) made) (amounts_of (open_on d made))) (deletion_in d own)

-- Every call made, the oldest first: an admission's minimum, the settlements that called, and a deletion that called, "with last free day t + 10, .. and
-- is counted among the calls made" (paper 02, Ask 4).
unfoldable pub calls_in : List Own → List OpenCall
calls_in [] = []
calls_in (day_opened d ∷ own) = calls_in own
calls_in (act d (admit role) ∷ own) =
    calls_in own ++ cond (ltb 0 (minimum_of role)) (call_of (minimum_of role) (d + 10) ∷ []) []
calls_in (act d (lodge k h) ∷ own) = calls_in own
calls_in (act d (release k a) ∷ own) = calls_in own
calls_in (act d (settle m figures) ∷ own) =
    calls_in own ++ cond (called_in d m figures own (calls_in own)) (call_of (nat_abs (sum_of figures)) (d + 10) ∷ []) []
calls_in (act d annual_run ∷ own) = calls_in own
calls_in (act d delete ∷ own) =
    calls_in own ++ cond (deletion_called d own (calls_in own)) (call_of (deletion_in d own) (d + 10) ∷ []) []

-- Paper 02, Ask 6: a participant's count of calls made "equals the number of calls made in the reading of that participant's own calls and the days
-- opened, its admission's and deletion's included".
abbrev pub made_in : List Own → ℕ
made_in own = length (calls_in own)

-- The firm amount on day d, and the calls open on day t.
unfoldable pub firm_in : ℕ → List Own → ℕ
firm_in d own = firm_from d (base_in d own) (calls_in own)

unfoldable pub open_in : ℕ → List Own → List OpenCall
open_in t own = open_on t (calls_in own)
