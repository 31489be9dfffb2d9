-- The most bytes of a participant's file: the figures of well-formed words are sound, and there are eight positions, at most four open calls and at
-- most thirteen months.
-- Assumes nothing.
use Rattle.std.specs.Prelude.{Bool, true, false, nat_abs}
use Rattle.std.proofs.Common.{◌≡◌, ℕ, zero, suc, ◌+◌, ◌-◌, ◌*◌, ◌%◌, ◌≤◌, ◌&&◌, eqb, List, [], ◌∷◌, ◌++◌, length, get_or, ap, ◌∙◌, arith, length-append}
use lib.ListN.{length-replicate}
use Rattle.laws.specs.Cases.{by-test}
use Rattle.laws.specs.Lists.{All, all-default}
use Rattle.words.specs.Text.{text}
use Rattle.calendar.specs.Civil.{month_of}
use Rattle.file.specs.declared.File.{File}
use Rattle.file.specs.declared.Position.{Position}
use Rattle.file.specs.declared.Position.TheVariants.{Empty, Cash, Letter}
use Rattle.file.specs.declared.Slot.{Slot}
use Rattle.file.specs.declared.OpenCall.{OpenCall}
use Rattle.file.specs.declared.NextAmount.{NextAmount}
use Rattle.file.specs.declared.MonthTotal.{MonthTotal}
use Rattle.file.specs.Position.{slot_of, position_at}
use Rattle.file.specs.Totals.{Total, none, total, no_total, total_here, total_at}
use Rattle.file.specs.Fields.{open_calls, cover_of, shortfall_of}
use Rattle.file.specs.Sound.{Sound, SoundCall, SoundPosition, total_bound}
use Rattle.file.specs.KeepsCalls.{open-count, open-sound}
use Rattle.file.specs.KeepsPositions.{sound-cover}
use Rattle.layout.specs.Words.{book_of_words}
use Rattle.layout.specs.WellFormed.{WellFormed}
use Rattle.book.specs.Account.{file_at}
use Rattle.book.proofs.Functions.OnWords.{file-there}
use Rattle.book.proofs.Functions.SoundBook.{sound-file}
use Rattle.book.proofs.Functions.Viewing.{slots-eight}
use Rattle.printing.specs.Decimals.{decimal, spaced, joined}
use Rattle.printing.specs.Columns.{padded, fixed}
use Rattle.printing.specs.Lines.{Natural64}
use Rattle.report.specs.Table.{role_text}
use Rattle.report.specs.FileText.{label, figure, no_kind, said_line, figure_line, amount_line, count_line, charge_line, file_title, status_text}
use Rattle.report.specs.FileText.{position_label, position_line, position_lines, call_line, call_lines, next_line, month_text, euros_signed, month_line, month_lines}
use Rattle.report.specs.FileText.{recorded_lines, opening_lines, entry_lines, standing_lines, charge_lines, lines_of_file, file_text}
use Rattle.report.proofs.FileLaws.{month-long, admitted_low}
use Rattle.report.proofs.Lengths.{digits-short, decimal-short, fixed-short, signed-short, padded-short, role-short, date-short}

-- ---- labels and figures

label-long : (t : List ℕ) → length t ≤ 17 → length (label t) ≡ 17
unfolding label
label-long t h = simp (length-append, length-replicate) (omega arith)

figure-short : (name kind : List ℕ) (w n : ℕ) (t : List ℕ) → length name ≤ 17 → length kind ≤ 7 → w ≤ n → length t ≤ n
    → length (figure name kind w t) ≤ 24 + n
unfolding figure
figure-short name kind w n t h k l m =
    omega (
      arith,
      length-append (label name ++ kind) (padded w t),
      length-append (label name) kind,
      label-long name h,
      padded-short w n t l m,
    )

figure_line-short : (name : List ℕ) (w n : ℕ) (t : List ℕ) → length name ≤ 17 → w ≤ n → length t ≤ n → length (figure_line name w t) ≤ 25 + n
unfolding figure_line
figure_line-short name w n t h l m =
    omega (
      arith,
      length-append (figure name no_kind w t) (10 ∷ []),
      figure-short name no_kind w n t h (omega arith) l m,
    )

amount-short : (name : List ℕ) (c : ℕ) → length name ≤ 17 → Natural64 c → length (amount_line name c) ≤ 50
unfolding amount_line
amount-short name c h k = omega (arith, figure_line-short name 17 23 (fixed 2 c) h (omega arith) (fixed-short 2 c k))

count-short : (name : List ℕ) (n : ℕ) → length name ≤ 17 → Natural64 n → length (count_line name n) ≤ 50
unfolding count_line
count-short name n h k = omega (arith, figure_line-short name 14 20 (decimal n) h (omega arith) (decimal-short n k))

charge-short : (name : List ℕ) (m : ℕ) → length name ≤ 17 → Natural64 m → length (charge_line name m) ≤ 60
unfolding charge_line
charge-short name m h k = omega (arith, figure_line-short name 20 26 (fixed 5 m) h (omega arith) (fixed-short 5 m k))

-- ---- the first three lines

title-short : (p t : ℕ) → Natural64 p → Natural64 t → length (file_title p t) ≤ 60
unfolding file_title joined spaced
title-short p t h k = simp length-append (omega (arith, decimal-short p h, decimal-short t k, date-short t))

status-short : (b : Bool) → length (status_text b) ≤ 16
unfolding status_text
status-short true = omega arith
status-short false = omega arith

said-short : (name t : List ℕ) → length name ≤ 17 → length t ≤ 16 → length (said_line name t) ≤ 40
unfolding said_line
said-short name t h k = simp length-append (omega (arith, label-long name h))

opening-short : (p t : ℕ) (f : File) → Natural64 p → Natural64 t → length (opening_lines p t f) ≤ 140
unfolding opening_lines
opening-short p t f h k =
    simp length-append
    (omega (
      arith,
      title-short p t h k,
      said-short (text "role") (role_text f.role) (omega arith) (role-short f.role),
      said-short (text "status") (status_text f.leaving) (omega arith) (status-short f.leaving),
    ))

-- ---- positions

position_label-short : (k : ℕ) → k ≤ 7 → length (position_label k) ≤ 10
unfolding position_label
position_label-short k h = omega (arith, length-append (text "position ") (decimal k), digits-short 0 k (omega arith))

held-short : (k : ℕ) (kind : List ℕ) (a : ℕ) → k ≤ 7 → length kind ≤ 7 → a ≤ 1000000000000 → length (figure (position_label k) kind 17 (fixed 2 a)) ≤ 47
held-short k kind a h l m =
    figure-short (position_label k) kind 17 23 (fixed 2 a) (omega (arith, position_label-short k h)) l (omega arith) (fixed-short 2 a (omega arith))

position-short : (k : ℕ) (q : Position) → k ≤ 7 → SoundPosition q → length (position_line k q) ≤ 80
unfolding position_line
position-short k Empty h s = omega arith
position-short k (Cash a) h s = simp length-append (omega (arith, held-short k (text "cash   ") a h (omega arith) s.1))
position-short k (Letter a first last) h s =
    simp length-append (omega (arith, held-short k (text "letter ") a h (omega arith) s.1, date-short first.0, date-short last.0))

positions-short : (n : ℕ) (slots : List Slot) → n ≤ 8 → All (λ (s : Slot). SoundPosition s.position) slots → length (position_lines n slots) ≤ n * 80
unfolding position_lines
positions-short zero slots h a = omega arith
positions-short (suc n) slots h a =
    omega (
      arith,
      length-append (position_lines n slots) (position_line n (position_at slots n)),
      positions-short n slots (omega arith) a,
      position-short n (position_at slots n) (omega arith) (all-default (λ (s : Slot). SoundPosition s.position) slots n (slot_of Empty) tt a),
    )

-- ---- open calls and the next amount

call-short : (c : OpenCall) → SoundCall c → length (call_line c) ≤ 80
unfolding call_line
call-short c s =
    simp length-append
    (omega (
      arith,
      figure-short (text "open call") no_kind 17 23 (fixed 2 c.amount) (omega arith) (omega arith) (omega arith) (fixed-short 2 c.amount (omega (arith, s.amount))),
      date-short c.last.0,
    ))

calls-short : (calls : List OpenCall) → All SoundCall calls → length (call_lines calls) ≤ length calls * 80
unfolding call_lines
calls-short [] a = omega arith
calls-short (c ∷ calls) a = omega (arith, length-append (call_line c) (call_lines calls), call-short c a.0, calls-short calls a.1)

next-short : (next : NextAmount) → next.amount ≤ total_bound → length (next_line next) ≤ 50
unfolding next_line
next-short next h =
    by-test next.set (amount_line (text "next amount") next.amount) [] (λ (t : List ℕ). length t ≤ 50)
    (λ e. amount-short (text "next amount") next.amount (omega arith) (omega arith)) (λ e. omega arith)

-- ---- months

-- a total that is recorded fits a word
abbrev Fitting : Total → Type 0
Fitting none = Unit {0}
Fitting (total e) = Natural64 (nat_abs e)

month-short : (m : ℕ) (x : Total) → Fitting x → length (month_line m x) ≤ 50
unfolding month_line
month-short m none h = omega arith
month-short m (total e) h =
    omega (
      arith,
      figure_line-short (text "month " ++ month_text m) 17 24 (euros_signed e) (omega (arith, length-append (text "month ") (month_text m), month-long m))
          (omega arith) (signed-short e h),
    )

months-short : (look : ℕ → Total) → ((k : ℕ) → Fitting (look k)) → (m n : ℕ) → length (month_lines look m n) ≤ n * 50
unfolding month_lines
months-short look h m zero = omega arith
months-short look h m (suc n) =
    omega (
      arith,
      length-append (month_lines look m n) (month_line (m + n) (look (m + n))),
      months-short look h m n,
      month-short (m + n) (look (m + n)) (h (m + n)),
    )

total-fits : (totals : List MonthTotal) → All (λ (r : MonthTotal). nat_abs r.total ≤ total_bound) totals → (m : ℕ) → Fitting (total_at totals m)
unfolding total_at total_here
total-fits totals a m =
    let r = get_or totals (m % 16) no_total in
    let h : nat_abs r.total ≤ total_bound = all-default (λ (r : MonthTotal). nat_abs r.total ≤ total_bound) totals (m % 16) no_total (omega arith) a in
    by-test (r.recorded && eqb r.month.0 m) (total r.total) none Fitting (λ e. omega (arith, h)) (λ e. tt)

recorded-short : (t : ℕ) (f : File) → Sound t f → length (recorded_lines f t) ≤ 650
unfolding recorded_lines
recorded-short t f s =
    omega (arith, months-short (total_at f.totals) (total-fits f.totals s.totals) (month_of t - 14) (month_of t - 1 - (month_of t - 14)))

-- ---- a file

entries-short : (t : ℕ) (f : File) → Sound t f → length (entry_lines t f) ≤ 1660
unfolding entry_lines
entries-short t f s =
    simp length-append
    (omega (
      arith,
      positions-short 8 f.slots (omega arith) s.slots,
      calls-short (open_calls f) (open-sound f s.calls),
      open-count f t s,
      s.count,
      next-short f.next s.next,
      recorded-short t f s,
    ))

standing-short : (t : ℕ) (f : File) → Sound t f → length f.slots ≡ 8 → length (standing_lines t f) ≤ 150
unfolding standing_lines shortfall_of
standing-short t f s e =
    simp length-append
    (omega (
      arith,
      amount-short (text "firm amount") f.firm (omega arith) (omega (arith, s.firm)),
      amount-short (text "cover") (cover_of f t) (omega arith) (omega (arith, sound-cover t t f s e)),
      amount-short (text "shortfall") (f.firm - cover_of f t) (omega arith) (omega (arith, s.firm)),
    ))

charges-short : (t : ℕ) (f : File) → Sound t f → length (charge_lines f) ≤ 160
unfolding charge_lines
charges-short t f s =
    simp length-append
    (omega (
      arith,
      count-short (text "days charged") f.charged (omega arith) (omega (arith, s.charged, s.day)),
      charge-short (text "charge") f.accrued (omega arith) (omega (arith, s.accrued, s.charged, s.day)),
      count-short (text "calls made") f.made (omega arith) (omega (arith, s.made, s.day, s.count)),
    ))

lines-short : (p t : ℕ) (f : File) → p ≤ 63 → Sound t f → length f.slots ≡ 8 → length (lines_of_file p t f) ≤ 6000
unfolding lines_of_file
lines-short p t f h s e =
    simp length-append
    (omega (
      arith,
      opening-short p t f (omega arith) (omega (arith, s.day)),
      entries-short t f s,
      standing-short t f s e,
      charges-short t f s,
    ))

pub file-text-short : (l : List ℕ) (p : ℕ) → WellFormed l → length (file_text (book_of_words l) p) ≤ 6000
unfolding file_text
file-text-short l p w =
    let b = book_of_words l in
    by-test (file_at b p).admitted (lines_of_file p b.today.0 (file_at b p)) [] (λ (t : List ℕ). length t ≤ 6000)
    (λ e.
    let low = admitted_low l p e in
    lines-short p b.today.0 (file_at b p) low (sound-file b p w.sound) (ap (λ (f : File). length f.slots) (file-there l p low) ∙ slots-eight l p))
    (λ e. omega arith)
