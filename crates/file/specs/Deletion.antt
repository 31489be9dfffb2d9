-- Paper 02, Ask 4, 'Leaving participants' (002, section 6): "A new call puts an admitted participant into that status", under deletion. Causes in their
-- order: 24, 13. P is the month that holds t.
-- Assumes nothing.
use Rattle.std.specs.Prelude.{ℕ, ◌+◌, ◌-◌, Bool, cond, not, ◌&&◌, ◌||◌, List, [], ◌∷◌, ◌++◌, leb, length, drop, ℤ, pos}
use Rattle.calendar.specs.Civil.{month_of, in_deletion_months}
use Rattle.manual.specs.Check.{exceeds_each}
use Rattle.manual.specs.Deletion.{deletion_amount}
use Rattle.file.specs.declared.File.{File}
use Rattle.file.specs.declared.OpenCall.{OpenCall}
use Rattle.file.specs.Answer.{Answer, refused, deletion, decide, accepted}
use Rattle.file.specs.Calls.{call_of}
use Rattle.file.specs.Totals.{total_at, totals_from}
use Rattle.file.specs.Fields.{open_calls, open_amounts, with_deletion}

-- The totals that the file has recorded of the months "P − 14 to P − 2", in the months' order; there is no month before month 0.
unfoldable pub deletion_totals : File → ℕ → List ℤ
deletion_totals f t = totals_from (total_at f.totals) (month_of t - 14) (month_of t - 1 - (month_of t - 14))

-- Those of the "three latest recorded months .., of fewer if fewer are recorded": the last three of a list, or all of a shorter one.
unfoldable pub last_three : List ℤ → List ℤ
last_three totals = drop (length totals - 3) totals

-- "Its amount is the largest total of its three latest recorded months among P − 14 to P − 2, of fewer if fewer are recorded, and 0 if none or
-- negative."
unfoldable pub deletion_amount_of : File → ℕ → ℕ
deletion_amount_of f t = deletion_amount (last_three (deletion_totals f t))

-- "If it exceeds the firm amount and every open call it becomes an open call .., whatever the cover".
unfoldable pub deletion_calls : File → ℕ → Bool
deletion_calls f t = exceeds_each (pos (deletion_amount_of f t)) (f.firm ∷ open_amounts f)

-- "The answer gives the amount and whether it became a call." Cause 24: "outside August and September or already in the status". Cause 13: "A fifth
-- open call gives 13 here too. .. 13 comes after 24".
unfoldable pub deletion_answer : File → ℕ → Answer
deletion_answer f t =
    decide refused
    (record { number = 24; holds = not (in_deletion_months t) || f.leaving }
    ∷ record { number = 13; holds = deletion_calls f t && leb 4 (length (open_calls f)) }
    ∷ [])
    (deletion (deletion_amount_of f t) (deletion_calls f t))

-- The open calls after it: ".. an open call with last free day t + 10".
unfoldable pub calls_deleted : File → ℕ → List OpenCall
calls_deleted f t =
    cond (deletion_calls f t) (open_calls f ++ (call_of (deletion_amount_of f t) (t + 10) ∷ [])) (open_calls f)

-- The file after it, in that status; "a next amount already set stays". The call "is counted among the calls made".
unfoldable pub deleted_file : File → ℕ → File
deleted_file f t = cond (accepted (deletion_answer f t)) (with_deletion f (calls_deleted f t) (cond (deletion_calls f t) 1 0)) f
