-- The annual run's answers and the files that it leaves, by the tests that the code makes. Assumes nothing.
use Prim.Native.Nat.{ℕ, ◌-◌}
use mathlib.Core.Path.{◌≡◌, refl}
use mathlib.Core.Bool.{true, false}
use mathlib.Core.List.{List}
use lib.ListN.{length}
use lib.IntN.{ℤ}
use Rattle.calendar.specs.Civil.{month_of, in_annual_days}
use Rattle.manual.specs.Annual.{annual_amount}
use Rattle.file.specs.declared.File.{File}
use Rattle.file.specs.Answer.{refused, annual, decide}
use Rattle.file.specs.Fields.{set_to, with_next}
use Rattle.file.specs.Annual.{annual_totals, annual_amount_of, annual_answer, annual_file}
use Rattle.file.specs.Totals.{total_at, totals_from}

-- refused outside 1 to 10 September
pub run-refused : (f : File) (t : ℕ) → in_annual_days t ≡ false → (refused 14 ≡ annual_answer f t) × (f ≡ annual_file f t)
unfolding annual_answer annual_file decide
run-refused f t h = rw h (refl, refl)

-- refused under deletion
pub run-leaving : (f : File) (t : ℕ) → in_annual_days t ≡ true → f.leaving ≡ true → (refused 25 ≡ annual_answer f t) × (f ≡ annual_file f t)
unfolding annual_answer annual_file decide
run-leaving f t h l = rw (h, l) (refl, refl)

-- done, with the amount of the recorded totals and their number
pub run-done : (f : File) (t p first end amount : ℕ) (found : List ℤ) → in_annual_days t ≡ true → f.leaving ≡ false → p ≡ month_of t → first ≡ p - 14
    → end ≡ p - 2 → found ≡ totals_from (total_at f.totals) first (end - first) → amount ≡ annual_amount f.role found
    → (annual amount (length found) ≡ annual_answer f t) × (with_next f (set_to amount) ≡ annual_file f t)
unfolding annual_answer annual_file annual_amount_of annual_totals decide
run-done f t p first end amount found h stays p-is first-is end_is found-is amount-is =
    rw (h, stays, amount-is, found-is, first-is, end_is, p-is) (refl, refl)
