-- The recorded totals of a window of months, by the tests that the code makes. Assumes nothing.
use Prim.Native.Nat.{ℕ, ◌+◌, ◌<◌}
use mathlib.Core.Path.{◌≡◌, refl, sym, ◌∙◌, ap}
use mathlib.Core.List.{List, [], ◌∷◌, ◌++◌, append-nil}
use native.Mathlib.Numerals.{add-one}
use lib.ListN.{length, take, set}
use lib.Seq.{take-suc-set}
use lib.IntN.{ℤ}
use Rattle.std.proofs.Common.{Some, None}
use Rattle.file.specs.Totals.{Total, added, totals_from}
use Rattle.file.specs.TotalLaws.{totals-next}

-- with none passed
pub no-month : (look : ℕ → Total) (first : ℕ) → [] ≡ totals_from look first 0
unfolding totals_from
no-month look first = refl

module _ (look : ℕ → Total) (first passed count : ℕ) (room : List ℤ) (found : take count room ≡ totals_from look first passed) where
  -- one more month of a window
  next-month : totals_from look first (passed + 1) ≡ totals_from look first passed ++ added (look (first + passed)) []
  next-month = rw (add-one passed) (totals-next look first passed)

  -- it adds its total, where it is recorded, and nothing else
  pub month-recorded : (m : ℕ) (e x : ℤ) → m ≡ first + passed → look m ≡ Some e → x ≡ e → count < length room
      → take (count + 1) (set room count x) ≡ totals_from look first (passed + 1)
  month-recorded m e x is h same short =
      rw (add-one count, same, take-suc-set room count e short)
      (ap (λ (l : List ℤ). l ++ e ∷ []) found ∙ sym (next-month ∙ rw (← is, h) refl))

  pub month-empty : (m : ℕ) → m ≡ first + passed → look m ≡ None → take count room ≡ totals_from look first (passed + 1)
  month-empty m is h = found ∙ sym (next-month ∙ rw (← is, h) (append-nil (totals_from look first passed)))
