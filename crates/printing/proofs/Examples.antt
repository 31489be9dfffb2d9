-- Lines as they are printed, computed by the definitions.
-- Assumes nothing.
use mathlib.Core.Path.{◌≡◌, refl, ap}
use mathlib.Core.List.{List, [], ◌∷◌, ◌++◌}
use lib.IntN.{pos, negsuc}
use Prim.Native.Nat.{ℕ}
use Rattle.calendar.specs.DateLaws.{date_of-day_of_date, october-2021}
use Rattle.words.specs.Text.{text}
use Rattle.journal.specs.declared.Request.{Request}
use Rattle.printing.specs.declared.Answer.{Answer}
use Rattle.printing.specs.Decimals.{numeral, decimal, integer, spaced, joined}
use Rattle.printing.specs.Columns.{digits}
use Rattle.printing.specs.Dates.{dated_text, date_text}
use Rattle.printing.specs.Lines.{call_words, printed}
use Rattle.printing.specs.Answers.{answer_words, answer_line}

-- Calls in their numeric form, amounts and figures in cents; the three questions.
pub calls :
    (printed (Request.LodgeCash 1 0 2005) [] ≡ text "lodge 1 0 cash 2005")
    × (printed (Request.Release 1 0 150) [] ≡ text "release 1 0 150")
    × (printed (Request.Settle 1 (record { 0 = 21 }) 2) (negsuc 104 ∷ pos 7 ∷ []) ≡ text "settle 1 21 -105 7")
    × (printed (Request.Advance (record { 0 = 639 }) 29219) [] ≡ text "advance 639 29219")
    × (printed (Request.File 3) [] ≡ text "file 3")
    × (printed (Request.Releasable 3 0) [] ≡ text "releasable 3 0")
    × (printed Request.Today [] ≡ text "today")
unfolding printed call_words joined spaced integer decimal numeral
calls = (refl, refl, refl, refl, refl, refl, refl)

-- 1 October 2021 is day 639.
date : date_text 639 ≡ text "2021-10-01"
unfolding date_text digits
date = ap dated_text (date_of-day_of_date 2021 10 1 (record { 0 = 639 }) october-2021)

-- What the questions answer.
pub answers :
    (answer_line (Answer.Releasable 15000) ≡ text "releasable 15000")
    × (answer_line (Answer.Releasable 0) ≡ text "releasable 0")
    × (answer_line (Answer.Today (record { 0 = 639 })) ≡ text "today 639 2021-10-01")
unfolding answer_line answer_words joined spaced decimal numeral
answers = (refl, refl, ap (λ (t : List ℕ). text "today 639 " ++ (t ++ [])) date)
