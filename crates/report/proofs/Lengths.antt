-- The most bytes of numbers, of columns, of dates and of the names of roles.
-- Assumes nothing.
use Rattle.std.specs.Prelude.{Option, Some, None}
use Rattle.std.proofs.Common.{ℕ, zero, suc, ◌+◌, ◌*◌, ◌/◌, ◌%◌, ◌^◌, ◌≤◌, ◌<◌, ltb, List, [], ◌∷◌, length, div-le_self, arith, length-append, ltb-false, ltb-true, ℤ, pos, negsuc}
use Rattle.std.specs.Prelude.{nat_abs}
use lib.ListN.{length-replicate}
use Rattle.laws.specs.Cases.{split}
use Rattle.laws.specs.Lists.{all-default}
use Rattle.calendar.specs.Dates.{date_of}
use Rattle.calendar.specs.declared.date.Date.{Date}
use Rattle.journal.specs.Names.{role_names}
use Rattle.printing.specs.Decimals.{decimal}
use Rattle.printing.specs.WrittenLaws.{decimal_step, decimal-small}
use Rattle.printing.specs.Columns.{padded, digits, fixed}
use Rattle.printing.specs.Dates.{dated_text, date_text}
use Rattle.printing.specs.Lines.{Natural64}
use Rattle.printing.proofs.ColumnLaws.{digits-count}
use Rattle.report.specs.Table.{role_text}
use Rattle.report.specs.FileText.{euros_signed}

-- ten to the power of k
abbrev tens : ℕ → ℕ
tens zero = 1
tens (suc k) = 10 * tens k

-- A number below 10^(k + 1) has at most k + 1 digits.
pub digits-short : (k n : ℕ) → n < tens (suc k) → length (decimal n) ≤ suc k
digits-short zero n h = rw (decimal-small n (omega arith)) (omega arith)
digits-short (suc k) n h =
    split (ltb n 10) (λ t. rw (decimal-small n (ltb-true n 10 t)) (omega arith))
    (λ t.
    rw (decimal_step n (ltb-false n 10 t))
    (omega (arith, length-append (decimal (n / 10)) ((48 + n % 10) ∷ []), digits-short k (n / 10) (omega arith))))

pub decimal-short : (n : ℕ) → Natural64 n → length (decimal n) ≤ 20
decimal-short n h = digits-short 19 n (omega arith)

pub fixed-short : (k n : ℕ) → Natural64 n → length (fixed k n) ≤ 21 + k
unfolding fixed
fixed-short k n h =
    omega (
      arith,
      length-append (decimal (n / 10 ^ k)) (46 ∷ digits k n),
      digits-count k n,
      decimal-short (n / 10 ^ k) (omega (arith, div-le_self n (10 ^ k))),
    )

pub signed-short : (z : ℤ) → Natural64 (nat_abs z) → length (euros_signed z) ≤ 24
unfolding euros_signed
signed-short (pos n) h = omega (arith, fixed-short 2 n h)
signed-short (negsuc n) h = omega (arith, fixed-short 2 (suc n) h)

pub padded-short : (w n : ℕ) (t : List ℕ) → w ≤ n → length t ≤ n → length (padded w t) ≤ n
unfolding padded
padded-short w n t h k = simp (length-append, length-replicate) (omega arith)

pub role-short : (r : ℕ) → length (role_text r) ≤ 16
unfolding role_text role_names
role-short r =
    all-default (λ (t : List ℕ). length t ≤ 16) role_names r [] (omega arith)
    (omega arith, (omega arith, (omega arith, (omega arith, (omega arith, (omega arith, tt))))))

dated-short : (d : Option Date) → length (dated_text d) ≤ 10
dated-short (Some x) =
    simp length-append (omega (arith, digits-count 4 x.year, digits-count 2 x.month, digits-count 2 x.day))
dated-short None = omega arith

pub date-short : (d : ℕ) → length (date_text d) ≤ 10
unfolding date_text
date-short d = dated-short (date_of d)
