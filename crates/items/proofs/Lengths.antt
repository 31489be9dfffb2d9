-- The most bytes of a line, whose numbers are those of words.
-- Assumes nothing.
use Rattle.std.proofs.Common.{◌≡◌, ℕ, zero, suc, ◌+◌, ◌-◌, ◌*◌, ◌/◌, ◌%◌, ◌^◌, ◌≤◌, ◌<◌, max, List, [], ◌∷◌, length, div-le_self, arith, length-append}
use Rattle.std.proofs.Common.{refl, ltb, eqb, ltb-true, ltb-false}
use lib.ListN.{length-replicate}
use Rattle.std.specs.Prelude.{Option, Some, None}
use Rattle.laws.specs.Cases.{split, by-test}
use Rattle.calendar.specs.Dates.{date_of}
use Rattle.calendar.specs.declared.date.Date.{Date}
use Rattle.file.specs.declared.File.{File}
use Rattle.manual.specs.Charge.{day_charge}
use Rattle.printing.specs.Decimals.{decimal, spaced, joined}
use Rattle.printing.specs.Columns.{padded, digits, fixed}
use Rattle.printing.specs.Dates.{dated_text, date_text}
use Rattle.printing.specs.WrittenLaws.{decimal_step, decimal-small}
use Rattle.printing.proofs.ColumnLaws.{digits-count}
use Rattle.items.specs.declared.Charged.{Charged}
use Rattle.items.specs.declared.Items.{Items}
use Rattle.items.specs.declared.Run.{Run}
use Rattle.items.specs.declared.Form.{Form}
use Rattle.items.specs.declared.Form.TheVariants.{Columns, Csv}
use Rattle.items.specs.Items.{extends, days_of, shortfall_of, charge_a_day, charge_of}
use Rattle.items.specs.State.{in_word, charged_on}
use Rattle.items.specs.Lines.{listed, comma_joined, line, heading, line_ended, text_if, text_after, sum_line}

-- ---- numbers

-- A number of a word.
abbrev pub Small : ℕ → Type 0
Small n = n < 18446744073709551616

abbrev tens : ℕ → ℕ
tens zero = 1
tens (suc k) = 10 * tens k

-- A number below 10^(k + 1) has at most k + 1 digits.
decimal-short : (k n : ℕ) → n < tens (suc k) → length (decimal n) ≤ suc k
decimal-short zero n h = rw (decimal-small n (omega arith)) (omega arith)
decimal-short (suc k) n h =
    split (ltb n 10) (λ t. rw (decimal-small n (ltb-true n 10 t)) (omega arith))
    (λ t.
    rw (decimal_step n (ltb-false n 10 t))
    (omega (arith, length-append (decimal (n / 10)) ((48 + n % 10) ∷ []), decimal-short k (n / 10) (omega arith))))

number_short : (n : ℕ) → Small n → length (decimal n) ≤ 20
number_short n h = decimal-short 19 n (omega arith)

fixed-short : (k n : ℕ) → Small n → length (fixed k n) ≤ 21 + k
unfolding fixed
fixed-short k n h =
    omega (
      arith,
      length-append (decimal (n / 10 ^ k)) (46 ∷ digits k n),
      digits-count k n,
      number_short (n / 10 ^ k) (omega (arith, div-le_self n (10 ^ k))),
    )

padded-short : (w n : ℕ) (t : List ℕ) → w ≤ n → length t ≤ n → length (padded w t) ≤ n
unfolding padded
padded-short w n t h k = simp (length-append, length-replicate) (omega arith)

dated-short : (d : Option Date) → length (dated_text d) ≤ 10
dated-short (Some x) =
    simp length-append (omega (arith, digits-count 4 x.year, digits-count 2 x.month, digits-count 2 x.day))
dated-short None = omega arith

date-short : (d : ℕ) → length (date_text d) ≤ 10
unfolding date_text
date-short d = dated-short (date_of d)

-- ---- the figures of an item

-- An item whose days and amounts are those of words.
pub record SmallRun (r : Run) : Type 0 where
  pub to : Small (suc r.to.0)
  pub firm : Small r.firm
  pub cover : Small r.cover

days-small : (r : Run) → SmallRun r → Small (days_of r)
unfolding days_of
days-small r h = omega (arith, h.to)

charge-small : (s : ℕ) → Small s → Small (day_charge s)
unfolding day_charge
charge-small s h = by-test (eqb s 0) 0 (max s 100000000) Small (λ e. omega arith) (λ e. omega arith)

a_day-small : (r : Run) → SmallRun r → Small (charge_a_day r)
unfolding charge_a_day
a_day-small r h = charge-small (r.firm - r.cover) (omega (arith, h.firm))

word-small : (n : ℕ) → Small (in_word n)
unfolding in_word
word-small n = omega arith

-- ---- a line

pub line-short : (form : Form) (r : Run) → SmallRun r → length (line form r) ≤ 200
unfolding line joined spaced comma_joined listed
line-short Columns r h =
    simp length-append
    (omega (
      arith,
      date-short r.from.0,
      date-short r.to.0,
      padded-short 6 20 (decimal (days_of r)) (omega arith) (number_short (days_of r) (days-small r h)),
      padded-short 17 23 (fixed 2 r.firm) (omega arith) (fixed-short 2 r.firm h.firm),
      padded-short 17 23 (fixed 2 r.cover) (omega arith) (fixed-short 2 r.cover h.cover),
      padded-short 17 23 (fixed 2 (shortfall_of r)) (omega arith) (fixed-short 2 (shortfall_of r) (omega (arith, h.firm))),
      padded-short 17 26 (fixed 5 (charge_a_day r)) (omega arith) (fixed-short 5 (charge_a_day r) (a_day-small r h)),
      padded-short 21 26 (fixed 5 (in_word (charge_of r))) (omega arith) (fixed-short 5 (in_word (charge_of r)) (word-small (charge_of r))),
    ))
line-short Csv r h =
    simp length-append
    (omega (
      arith,
      date-short r.from.0,
      date-short r.to.0,
      number_short (days_of r) (days-small r h),
      fixed-short 2 r.firm h.firm,
      fixed-short 2 r.cover h.cover,
      fixed-short 2 (shortfall_of r) (omega (arith, h.firm)),
      fixed-short 5 (charge_a_day r) (a_day-small r h),
      fixed-short 5 (in_word (charge_of r)) (word-small (charge_of r)),
    ))

joined-short : (form : Form) (c : Charged) (run : Option Run) → ((r : Run) → run ≡ Some r → SmallRun r) → length (line_ended form c run) ≤ 200
joined-short form c None h = omega arith
joined-short form c (Some r) h =
    by-test (extends c r) [] (line form r) (λ (t : List ℕ). length t ≤ 200) (λ e. omega arith) (λ e. line-short form r (h r refl))

if-short : (form : Form) (charged : Option Charged) (s : Items) → ((r : Run) → s.run ≡ Some r → SmallRun r) → length (text_if form charged s) ≤ 200
if-short form None s h = omega arith
if-short form (Some c) s h = joined-short form c s.run h

pub heading-short : (form : Form) → length (heading form) ≤ 200
unfolding heading joined spaced padded
heading-short Columns = omega arith
heading-short Csv = omega arith

pub sum-short : (label : List ℕ) (days mills : ℕ) → length label ≤ 21 → Small days → Small mills → length (sum_line label days mills) ≤ 200
unfolding sum_line joined spaced
sum-short label days mills l d m =
    simp length-append
    (omega (
      arith,
      l,
      padded-short 6 20 (decimal days) (omega arith) (number_short days d),
      padded-short 93 93 (fixed 5 mills) (omega arith) (omega (arith, fixed-short 5 mills m)),
    ))

-- What a day that is opened has written, by items of words.
pub ended-short : (form : Form) (f : File) (d : ℕ) (s : Items) → ((r : Run) → s.run ≡ Some r → SmallRun r) → length (text_after form f d s) ≤ 200
unfolding text_after
ended-short form f d s h = if-short form (charged_on f d) s h
