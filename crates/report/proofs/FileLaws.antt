-- The lines of a participant's file, as they are written one after the other, and the file in the words of a book.
-- Assumes nothing.
use Prim.Native.Nat.{ℕ, ◌+◌, ◌*◌, ◌-◌, ◌/◌, ◌%◌, ◌≤◌, ◌<◌}
use mathlib.Core.Path.{◌≡◌, refl, sym, ap, ◌∙◌}
use mathlib.Core.Bool.{true}
use mathlib.Core.List.{List, [], ◌∷◌, ◌++◌}
use native.Mathlib.Numerals.{add-one}
use native.Mathlib.Omega.{arith}
use borrow.Author.Tests.{ltb-true, ltb-false}
use lib.Dec.{ltb}
use lib.ListN.{length, length-append, get_or, drop, replicate}
use Rattle.std.proofs.Common.{drop-cons, drop_of_length-le}
use Rattle.laws.specs.Cases.{split, clash}
use Rattle.calendar.specs.declared.Day.{Day}
use Rattle.words.specs.Text.{text}
use Rattle.file.specs.declared.File.{File}
use Rattle.file.specs.declared.Slot.{Slot}
use Rattle.file.specs.declared.OpenCall.{OpenCall}
use Rattle.file.specs.Fields.{cover_of, shortfall_of}
use Rattle.file.specs.Position.{position_at, cover_on}
use Rattle.file.specs.Totals.{Total, none}
use Rattle.file.specs.Sound.{Sound}
use Rattle.layout.specs.Files.{file_of_words, words_at}
use Rattle.layout.specs.Words.{book_length, book_of_words}
use Rattle.layout.specs.WellFormed.{WellFormed}
use Rattle.book.specs.Account.{file_at}
use Rattle.book.proofs.Functions.OnWords.{file-there, none-there}
use Rattle.book.proofs.Functions.SoundBook.{sound-file}
use Rattle.printing.specs.Decimals.{decimal, spaced, joined}
use Rattle.printing.specs.Columns.{digits}
use Rattle.printing.specs.Dates.{date_text}
use Rattle.printing.specs.Written.{Sheet, followed}
use Rattle.printing.specs.WrittenLaws.{followed_none, followed_twice, joined_more, decimal-small}
use Rattle.printing.proofs.ColumnLaws.{digits-count}
use Rattle.report.specs.FileText.{label, file_title, position_label, position_line, position_lines, call_line, call_lines, month_text, month_line, month_lines, amount_line, standing_lines}

-- ---- labels

-- the blanks behind a text of so many bytes
labelled : (t : List ℕ) (n m : ℕ) → length t ≡ n → 17 - n ≡ m → label t ≡ t ++ replicate m 32
unfolding label
labelled t n m e h = ap (λ (k : ℕ). t ++ replicate (17 - k) 32) e ∙ ap (λ (k : ℕ). t ++ replicate k 32) h

pub month-long : (m : ℕ) → length (month_text m) ≡ 7
unfolding month_text
month-long m =
    omega (
      arith,
      length-append (digits 4 (2020 + m / 12)) (45 ∷ digits 2 (m % 12 + 1)),
      digits-count 4 (2020 + m / 12),
      digits-count 2 (m % 12 + 1),
    )

-- Texts one behind the other: three, and four.
pub three_parts : (s t u v : Sheet) (a b c : List ℕ) → t ≡ followed s a → u ≡ followed t b → v ≡ followed u c → v ≡ followed s (a ++ b ++ c)
three_parts s t u v a b c e f g =
    let two : u ≡ followed s (a ++ b) = rw (f, e, followed_twice) in
    rw (g, two, followed_twice)

pub four_parts : (s t u v w : Sheet) (a b c d : List ℕ) → t ≡ followed s a → u ≡ followed t b → v ≡ followed u c → w ≡ followed v d
    → w ≡ followed s (a ++ b ++ c ++ d)
four_parts s t u v w a b c d e f g h = rw (h, three_parts s t u v a b c e f g, followed_twice)

module _ (s t u v : Sheet) where
  -- the label of a position
  pub position_labelled : (k : ℕ) → k < 8 → t ≡ followed s (text "position ") → u ≡ followed t (decimal k) → v ≡ followed u (replicate 7 32)
      → v ≡ followed s (label (position_label k))
  unfolding position_label
  position_labelled k h e f g =
      let one : length (decimal k) ≡ 1 = ap length (decimal-small k (omega arith)) in
      let ten : length (text "position " ++ decimal k) ≡ 10 = omega (arith, one, length-append (text "position ") (decimal k)) in
      rw (labelled (text "position " ++ decimal k) 10 7 ten refl) (three_parts s t u v (text "position ") (decimal k) (replicate 7 32) e f g)

  -- the label of a month
  pub month_labelled : (m : ℕ) → t ≡ followed s (text "month ") → u ≡ followed t (month_text m) → v ≡ followed u (replicate 4 32)
      → v ≡ followed s (label (text "month " ++ month_text m))
  month_labelled m e f g =
      rw (labelled (text "month " ++ month_text m) 13 4 (omega (arith, length-append (text "month ") (month_text m), month-long m)) refl)
      (three_parts s t u v (text "month ") (month_text m) (replicate 4 32) e f g)

-- The first line.
pub file_titled : (p : ℕ) (d : Day) (s t u v : Sheet) → t ≡ followed s (joined (text "file" ∷ decimal p ∷ decimal d.0 ∷ []))
    → u ≡ followed t (spaced (date_text d.0 ∷ [])) → v ≡ followed u (10 ∷ []) → v ≡ followed s (file_title p d.0)
unfolding file_title
file_titled p d s t u v e f g =
    let all : u ≡ followed s (joined (text "file" ∷ decimal p ∷ decimal d.0 ∷ date_text d.0 ∷ [])) =
    joined_more s t u (text "file") (decimal p ∷ decimal d.0 ∷ []) (date_text d.0 ∷ []) e f in
    rw (g, all, followed_twice)

-- ---- positions

module _ (slots : List Slot) (s u v : Sheet) where
  pub positions_none : s ≡ followed s (position_lines 0 slots)
  unfolding position_lines
  positions_none = sym (followed_none s)

  pub positions_more : (i : ℕ) → u ≡ followed s (position_lines i slots) → v ≡ followed u (position_line i (position_at slots i))
      → v ≡ followed s (position_lines (i + 1) slots)
  unfolding position_lines
  positions_more i x y = rw (y, x, followed_twice, add-one i)

-- ---- open calls

pub call_first : (calls : List OpenCall) (i : ℕ) (d : OpenCall) → i < length calls
    → call_lines (drop i calls) ≡ call_line (get_or calls i d) ++ call_lines (drop (i + 1) calls)
unfolding call_lines
call_first calls i d h =
    let k : drop i calls ≡ get_or calls i d ∷ drop (i + 1) calls = rw (add-one i) (drop-cons calls i d h) in
    rw k refl

pub calls_done : (calls : List OpenCall) (i : ℕ) → length calls ≤ i → call_lines (drop i calls) ≡ []
unfolding call_lines
calls_done calls i h = rw (drop_of_length-le calls h)

-- ---- months

module _ (look : ℕ → Total) (first : ℕ) (s u v : Sheet) where
  pub months_none : s ≡ followed s (month_lines look first 0)
  unfolding month_lines
  months_none = sym (followed_none s)

  pub months_more : (i m : ℕ) → m ≡ first + i → u ≡ followed s (month_lines look first i) → v ≡ followed u (month_line m (look m))
      → v ≡ followed s (month_lines look first (i + 1))
  unfolding month_lines
  months_more i m e x y = rw (y, x, followed_twice, add-one i, e)

pub month_silent : (s : Sheet) (m : ℕ) (x : Total) → x ≡ none → s ≡ followed s (month_line m x)
unfolding month_line
month_silent s m x e = rw e (sym (followed_none s))

-- ---- the firm amount, the cover and the shortfall

pub standing_put : (f : File) (t c d : ℕ) (s u v w : Sheet) → c ≡ cover_on t f.slots → d ≡ f.firm - c
    → u ≡ followed s (amount_line (text "firm amount") f.firm) → v ≡ followed u (amount_line (text "cover") c)
    → w ≡ followed v (amount_line (text "shortfall") d) → w ≡ followed s (standing_lines t f)
unfolding standing_lines cover_of shortfall_of
standing_put f t c d s u v w e h x y z =
    let two : v ≡ followed s (amount_line (text "firm amount") f.firm ++ amount_line (text "cover") c) = rw (y, x, followed_twice) in
    rw (z, two, followed_twice, h, e)

-- ---- the file in the words of a book

pub words_long : (l : List ℕ) → WellFormed l → length l ≡ book_length
words_long l w = w.long

-- An admitted participant is one of 64.
pub admitted_low : (l : List ℕ) (p : ℕ) → (file_at (book_of_words l) p).admitted ≡ true → p ≤ 63
admitted_low l p e =
    split (ltb 63 p) (λ t. clash e (ap (λ (z : File). z.admitted) (none-there l p (ltb-true 63 p t)))) (λ t. ltb-false 63 p t)

pub file_there : (l : List ℕ) (p at : ℕ) (f : File) → p ≤ 63 → at ≡ 1 + 97 * p → f ≡ file_of_words (words_at l at) → f ≡ file_at (book_of_words l) p
file_there l p at f low e h = h ∙ ap (λ (n : ℕ). file_of_words (words_at l n)) e ∙ sym (file-there l p low)

pub sound_there : (l : List ℕ) (p : ℕ) (f : File) (d : Day) → WellFormed l → f ≡ file_at (book_of_words l) p → d ≡ (book_of_words l).today → Sound d.0 f
sound_there l p f d w e h = rw (e, h) (sound-file (book_of_words l) p w.sound)
