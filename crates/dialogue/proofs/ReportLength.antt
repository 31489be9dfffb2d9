-- The most bytes of a report: the figures of well-formed words are sound, so that each column has its most bytes.
-- Assumes nothing.
use Rattle.std.proofs.Common.{◌≡◌, ℕ, zero, suc, ◌+◌, ◌-◌, ◌*◌, ◌/◌, ◌^◌, ◌≤◌, not, ltb, List, [], ◌∷◌, ◌++◌, length, get_or, ap, ◌∙◌, div-le_self, arith, length-append, ltb-false, ltb-true}
use lib.ListN.{length-replicate, get_or-eq_default}
use Rattle.laws.specs.Cases.{split}
use Rattle.laws.specs.Lists.{all-default, table}
use Rattle.laws.specs.Tabulated.{length-table, get_d-table}
use Rattle.calendar.specs.Dates.{date_of}
use Rattle.std.specs.Prelude.{Option, Some, None}
use Rattle.calendar.specs.declared.date.Date.{Date}
use Rattle.file.specs.Answer.{stated, decide}
use Rattle.file.specs.Fields.{cover_of, shortfall_of}
use Rattle.file.specs.KeepsPositions.{sound-cover}
use Rattle.file.specs.Sound.{Sound}
use Rattle.file.specs.Statement.{file_statement}
use Rattle.file.specs.declared.File.{File}
use Rattle.layout.specs.Book.{Book}
use Rattle.layout.specs.Files.{file_of_words, words_at}
use Rattle.layout.specs.Words.{place, file_in_words, book_of_words}
use Rattle.layout.proofs.FileLaws.{slots-long}
use Rattle.layout.specs.WellFormed.{SoundBook, WellFormed}
use Rattle.book.specs.Account.{file_at, if_numbered, if_admitted, answer}
use Rattle.file.specs.Admit.{no_file}
use Rattle.book.proofs.Functions.SoundBook.{sound-file}
use Rattle.journal.specs.Names.{role_names}
use Rattle.printing.specs.Decimals.{decimal, spaced, joined}
use Rattle.printing.specs.Columns.{padded, digits, fixed}
use Rattle.printing.specs.Dates.{dated_text, date_text}
use Rattle.report.specs.Table.{in_columns, table_line, heading, role_text, line_of, row, rows, admitted_below, admitted_count, title_line, report_text}
use Rattle.printing.proofs.ColumnLaws.{digits-count}
use Rattle.report.proofs.TableLaws.{below-small}
use Rattle.dialogue.specs.Said.{Small}
use Rattle.dialogue.proofs.Lengths.{number_short}

-- ---- columns

padded-short : (w n : ℕ) (t : List ℕ) → w ≤ n → length t ≤ n → length (padded w t) ≤ n
unfolding padded
padded-short w n t h k = simp (length-append, length-replicate) (omega arith)

fixed-short : (k n : ℕ) → Small n → length (fixed k n) ≤ 21 + k
unfolding fixed
fixed-short k n h =
    omega (
      arith,
      length-append (decimal (n / 10 ^ k)) (46 ∷ digits k n),
      digits-count k n,
      number_short (n / 10 ^ k) (omega (arith, div-le_self n (10 ^ k))),
    )

role-short : (r : ℕ) → length (role_text r) ≤ 16
unfolding role_text role_names
role-short r =
    all-default (λ (t : List ℕ). length t ≤ 16) role_names r [] (omega arith)
    (omega arith, (omega arith, (omega arith, (omega arith, (omega arith, (omega arith, tt))))))

-- ---- a line of the table

line-short : (p r f c s d a m : ℕ) → Small p → Small f → Small c → Small s → Small d → Small a → length (line_of p r (stated f c s d a m)) ≤ 160
unfolding line_of table_line in_columns joined spaced
line-short p r f c s d a m hp hf hc hs hd ha =
    simp length-append
    (omega (
      arith,
      padded-short 11 20 (decimal p) (omega arith) (number_short p hp),
      padded-short 16 16 (role_text r) (omega arith) (role-short r),
      padded-short 17 23 (fixed 2 f) (omega arith) (fixed-short 2 f hf),
      padded-short 17 23 (fixed 2 c) (omega arith) (fixed-short 2 c hc),
      padded-short 17 23 (fixed 2 s) (omega arith) (fixed-short 2 s hs),
      padded-short 12 20 (decimal d) (omega arith) (number_short d hd),
      padded-short 21 26 (fixed 5 a) (omega arith) (fixed-short 5 a ha),
    ))

-- ---- a participant's line

slots-in : (n : ℕ) (f : ℕ → File) (p : ℕ) → ((k : ℕ) → length (f k).slots ≡ 8) → length (get_or (table n f) p no_file).slots ≡ 8
slots-in n f p h =
    split (ltb p n) (λ e. ap (λ (x : File). length x.slots) (get_d-table n f p no_file (ltb-true p n e)) ∙ h p)
    (λ e. ap (λ (x : File). length x.slots) (get_or-eq_default (table n f) no_file (omega (arith, length-table n f, ltb-false p n e))))

slots-word : (w : ℕ → ℕ) → length (file_of_words w).slots ≡ 8
unfolding file_of_words
slots-word w = slots-long w

slots-of : (l : List ℕ) (p : ℕ) → length (file_at (book_of_words l) p).slots ≡ 8
unfolding file_at book_of_words
slots-of l p = slots-in 64 (λ k. file_in_words l k) p (λ k. slots-word (words_at l (place k)))

row-short : (b : Book) (p : ℕ) → SoundBook b → length (file_at b p).slots ≡ 8 → Small p → length (row b p) ≤ 160
unfolding row answer if_numbered if_admitted decide line_of file_statement shortfall_of
row-short b p r eight h =
    let s : Sound b.today.0 (file_at b p) = sound-file b p r in
    let c : cover_of (file_at b p) b.today.0 ≤ 8000000000000 = sound-cover b.today.0 b.today.0 (file_at b p) s eight in
    split (ltb 63 p) (λ e. rw e (omega arith))
    (λ e.
    rw e
    (split (not (file_at b p).admitted) (λ g. rw g (omega arith))
    (λ g.
    rw g
    (line-short p (file_at b p).role (file_at b p).firm (cover_of (file_at b p) b.today.0) ((file_at b p).firm - cover_of (file_at b p) b.today.0)
    (file_at b p).charged (file_at b p).accrued (file_at b p).made h (omega (arith, s.firm)) (omega arith) (omega (arith, s.firm)) (omega (arith, s.charged, s.day))
    (omega (arith, s.accrued, s.charged, s.day))))))

rows_short : (n : ℕ) (b : Book) → SoundBook b → ((p : ℕ) → length (file_at b p).slots ≡ 8) → n ≤ 64 → length (rows n b) ≤ n * 160
unfolding rows
rows_short zero b r eight h = omega arith
rows_short (suc n) b r eight h =
    omega (arith, length-append (rows n b) (row b n), rows_short n b r eight (omega arith), row-short b n r (eight n) (omega arith))

-- ---- the title and the heading

dated-short : (d : Option Date) → length (dated_text d) ≤ 10
dated-short (Some x) =
    simp length-append (omega (arith, digits-count 4 x.year, digits-count 2 x.month, digits-count 2 x.day))
dated-short None = omega arith

date-short : (d : ℕ) → length (date_text d) ≤ 10
unfolding date_text
date-short d = dated-short (date_of d)

title-short : (b : Book) → SoundBook b → length (title_line b) ≤ 60
unfolding title_line joined spaced admitted_count
title-short b r =
    simp length-append
    (omega (
      arith,
      number_short b.today.0 (omega (arith, r.day)),
      date-short b.today.0,
      number_short (admitted_below 64 b) (omega (arith, below-small b 64)),
    ))

heading-short : length heading ≤ 120
unfolding heading table_line in_columns joined spaced padded
heading-short = omega arith

pub report-short : (l : List ℕ) → WellFormed l → length (report_text (book_of_words l)) ≤ 15000
unfolding report_text
report-short l w =
    let b = book_of_words l in
    omega (
      arith,
      length-append (title_line b ++ heading) (rows 64 b),
      length-append (title_line b) heading,
      title-short b w.sound,
      heading-short,
      rows_short 64 b w.sound (slots-of l) (omega arith),
    )
