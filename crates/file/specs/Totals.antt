-- Month totals (paper 01, 'One participant's file'): a ring of sixteen, the month beside each total. Only the months P − 14 to P − 2 are ever
-- read or written.
-- Assumes nothing.
use Rattle.std.specs.Prelude.{ℕ, zero, suc, ◌-◌, ◌%◌, true, false, cond, ◌&&◌, List, [], ◌∷◌, eqb, get_or, set, ℤ, pos, Option}
pub use Rattle.std.specs.Prelude.{Some as total, None as none}
use Rattle.file.specs.declared.MonthTotal.{MonthTotal}

-- A month's total, where it is recorded.
abbrev pub Total : Type 0
Total = Option ℤ

-- A place of the ring with nothing in it, and with month m's total.
abbrev pub no_total : MonthTotal
no_total = record { recorded = false; month = record { 0 = 0 }; total = pos 0 }

abbrev pub total_of : ℕ → ℤ → MonthTotal
total_of m e = record { recorded = true; month = record { 0 = m }; total = e }

-- What a place of the ring says of month m.
unfoldable pub total_here : ℕ → MonthTotal → Total
total_here m r = cond (r.recorded && eqb r.month.0 m) (total r.total) none

-- Month m's total in the ring.
unfoldable pub total_at : List MonthTotal → ℕ → Total
total_at totals m = total_here m (get_or totals (m % 16) no_total)

-- The ring with month m's total, replacing an earlier one.
unfoldable pub with_total : List MonthTotal → ℕ → ℤ → List MonthTotal
with_total totals m e = set totals (m % 16) (total_of m e)

-- A total added to a list, where it is recorded.
abbrev pub added : Total → List ℤ → List ℤ
added none rest = rest
added (total e) rest = e ∷ rest

-- The recorded totals of the n months from m on, in their order.
unfoldable pub totals_from : (ℕ → Total) → ℕ → ℕ → List ℤ
totals_from look m zero = []
totals_from look m (suc n) = added (look m) (totals_from look (suc m) n)

-- The recorded totals "of months P − 14 to P − 3 (July to June)", P being a September; there is no month before month 0.
abbrev pub year_totals : (ℕ → Total) → ℕ → List ℤ
year_totals look p = totals_from look (p - 14) (p - 2 - (p - 14))
