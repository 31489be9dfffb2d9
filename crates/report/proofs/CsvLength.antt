-- The most bytes of the comma-separated values: a line for each of at most 64 participants, the figures of which are sound.
-- Assumes nothing.
use Rattle.std.proofs.Common.{◌≡◌, ℕ, zero, suc, ◌-◌, ◌*◌, ◌≤◌, List, [], length, ap, ◌∙◌, arith, length-append}
use Rattle.laws.specs.Cases.{by-test}
use Rattle.file.specs.declared.File.{File}
use Rattle.file.specs.Fields.{cover_of, shortfall_of}
use Rattle.file.specs.Sound.{Sound}
use Rattle.file.specs.KeepsPositions.{sound-cover}
use Rattle.layout.specs.Words.{book_of_words}
use Rattle.layout.specs.WellFormed.{WellFormed}
use Rattle.book.specs.Account.{file_at}
use Rattle.book.proofs.Functions.OnWords.{file-there}
use Rattle.book.proofs.Functions.SoundBook.{sound-file}
use Rattle.book.proofs.Functions.Viewing.{slots-eight}
use Rattle.report.specs.Csv.{behind_commas, csv_line, csv_heading, csv_values, csv_row, csv_rows, report_csv}
use Rattle.report.proofs.FileLaws.{admitted_low}
use Rattle.report.proofs.Lengths.{decimal-short, fixed-short, role-short}

values-short : (p t : ℕ) (f : File) → p ≤ 63 → Sound t f → length f.slots ≡ 8 → length (csv_values p t f) ≤ 160
unfolding csv_values csv_line behind_commas shortfall_of
values-short p t f h s e =
    simp length-append
    (omega (
      arith,
      decimal-short p (omega arith),
      role-short f.role,
      fixed-short 2 f.firm (omega (arith, s.firm)),
      fixed-short 2 (cover_of f t) (omega (arith, sound-cover t t f s e)),
      fixed-short 2 (f.firm - cover_of f t) (omega (arith, s.firm)),
      decimal-short f.charged (omega (arith, s.charged, s.day)),
      fixed-short 5 f.accrued (omega (arith, s.accrued, s.charged, s.day)),
    ))

row-short : (l : List ℕ) (p : ℕ) → WellFormed l → length (csv_row (book_of_words l) p) ≤ 160
unfolding csv_row
row-short l p w =
    let b = book_of_words l in
    by-test (file_at b p).admitted (csv_values p b.today.0 (file_at b p)) [] (λ (t : List ℕ). length t ≤ 160)
    (λ e.
    let low = admitted_low l p e in
    values-short p b.today.0 (file_at b p) low (sound-file b p w.sound) (ap (λ (f : File). length f.slots) (file-there l p low) ∙ slots-eight l p))
    (λ e. omega arith)

rows-short : (n : ℕ) (l : List ℕ) → WellFormed l → length (csv_rows n (book_of_words l)) ≤ n * 160
unfolding csv_rows
rows-short zero l w = omega arith
rows-short (suc n) l w =
    omega (arith, length-append (csv_rows n (book_of_words l)) (csv_row (book_of_words l) n), rows-short n l w, row-short l n w)

heading-short : length csv_heading ≤ 60
unfolding csv_heading
heading-short = omega arith

pub report-csv-short : (l : List ℕ) → WellFormed l → length (report_csv (book_of_words l)) ≤ 15000
unfolding report_csv
report-csv-short l w =
    omega (arith, length-append csv_heading (csv_rows 64 (book_of_words l)), heading-short, rows-short 64 l w)
