-- The tests of a book's words decide whether they are well formed.
-- Assumes nothing.
use Prim.Native.Nat.{ℕ, zero, suc, ◌+◌, ◌*◌, ◌/◌, ◌%◌, ◌≤◌, ◌<◌}
use mathlib.Core.Path.{◌≡◌, refl, sym, ap, subst, ◌∙◌}
use mathlib.Core.Bool.{Bool, false}
use mathlib.Core.List.{List, [], ◌∷◌, ◌++◌, map, append-nil}
use native.Mathlib.Omega.{arith}
use lib.ListN.{length, get_or}
use lib.Seq.{ext_get_or, get_or-append-add}
use Rattle.laws.specs.Lists.{table}
use Rattle.laws.specs.Tabulated.{length-table, get_d-table, map-table, all-table, table-all}
use Rattle.file.specs.declared.File.{File}
use Rattle.file.specs.Sound.{Sound}
use Rattle.layout.specs.Files.{words_at, flat, file_words}
use Rattle.layout.specs.Words.{file_in_words, today_in, book_of_words, book_words}
use Rattle.layout.specs.WellFormed.{WellFormed, SoundBook, BlankUnlessAdmitted}
use Rattle.layout.proofs.Flat.{flat-length, flat-at}
use Rattle.layout.proofs.BookLaws.{read-long}
use Rattle.formed.specs.Decides.{Decides, Below}
use Rattle.formed.specs.Checks.{Canonical, SoundAt, FormedFile, FileAt}
use Rattle.formed.proofs.Decided.{says-no, as-well}

-- ---- the words of the files one after another

-- The words of parts that are given by a rule.
flat_map : {A B : Type 0} (enc : B → List ℕ) (g : A → B) (xs : List A) → flat enc (map g xs) ≡ flat (λ x. enc (g x)) xs
unfolding flat
flat_map enc g [] = refl
flat_map enc g (x ∷ xs) = ap (λ (m : List ℕ). enc (g x) ++ m) (flat_map enc g xs)

module _ (n : ℕ) (g : ℕ → File) (size : (p : ℕ) → length (file_words (g p)) ≡ 97) where
  -- Participant p's words.
  abbrev words : ℕ → List ℕ
  words p = file_words (g p)

  -- The words of the files, by participant.
  rows : flat file_words (table n g) ≡ flat words (table n (λ p. p))
  rows = ap (λ (m : List File). flat file_words m) (sym (map-table g n (λ p. p))) ∙ flat_map file_words g (table n (λ p. p))

  -- How many they are.
  rows_long : length (flat file_words (table n g)) ≡ 97 * n
  rows_long =
      ap length rows ∙ flat-length words 97 size (λ p. Unit {0}) (table n (λ p. p)) ∙ ap (λ (k : ℕ). 97 * k) (length-table n (λ p. p))

  -- What stands at place j of participant i's words.
  row_at : (i j : ℕ) → i < n → j < 97 → get_or (flat file_words (table n g)) (97 * i + j) 0 ≡ get_or (file_words (g i)) j 0
  row_at i j h k =
      ap (λ (m : List ℕ). get_or m (97 * i + j) 0) (rows ∙ sym (append-nil (flat words (table n (λ p. p)))))
      ∙ flat-at words 97 size (λ p. Unit {0}) (table n (λ p. p)) [] i j 0 (omega (arith, length-table n (λ (p : ℕ). p))) k
      ∙ ap (λ (p : ℕ). get_or (file_words (g p)) j 0) (get_d-table n (λ p. p) i 0 h)

module _ (l : List ℕ) where
  -- The words of the book that the words stand for.
  abbrev again : List ℕ
  again = book_words (book_of_words l)

  -- Participant p's file.
  abbrev file_here : ℕ → File
  file_here p = file_in_words l p

  -- How many they are.
  book-long : length again ≡ 6210
  unfolding book_words book_of_words
  book-long = omega (arith, rows_long 64 file_here (λ p. read-long (words_at l (1 + 97 * p))))

  -- What stands at place j of participant i's words.
  book-word : (i j : ℕ) → i < 64 → j < 97 → get_or again (2 + (97 * i + j)) 0 ≡ get_or (file_words (file_here i)) j 0
  unfolding book_words book_of_words
  book-word i j h k =
      get_or-append-add (2 ∷ today_in l ∷ []) (flat file_words (table 64 file_here)) (97 * i + j) 0
      ∙ row_at 64 file_here (λ p. read-long (words_at l (1 + 97 * p))) i j h k

  -- Today stands in it as it is read.
  book-day : get_or again 1 0 ≡ today_in l
  unfolding book_words book_of_words
  book-day = refl

  -- The number of the layout.
  book-layout : get_or again 0 0 ≡ 2
  unfolding book_words book_of_words
  book-layout = refl

  -- ---- what well-formed words are

  -- Their first word is the number of the layout.
  wf-layout : WellFormed l → get_or l 0 0 ≡ 2
  wf-layout s = ap (λ (m : List ℕ). get_or m 0 0) s.canonical ∙ book-layout

  -- Their second is today.
  wf-today : WellFormed l → get_or l 1 0 ≡ today_in l
  wf-today s = ap (λ (m : List ℕ). get_or m 1 0) s.canonical ∙ book-day

  -- Today is in the calendar.
  wf-day : WellFormed l → today_in l ≤ 29219
  unfolding book_of_words
  wf-day s = s.sound.day

  -- The words of each file are its own.
  wf-words : WellFormed l → (i : ℕ) → i < 64 → Canonical l (1 + 97 * i)
  unfolding Canonical Below
  wf-words s i h k b =
      let e : 1 + 97 * i + (k + 1) ≡ 2 + (97 * i + k) = omega arith in
      ap (λ (x : ℕ). get_or l x 0) e ∙ ap (λ (m : List ℕ). get_or m (2 + (97 * i + k)) 0) s.canonical ∙ book-word i k h b

  -- Each file is sound.
  wf-sound : WellFormed l → (i : ℕ) → i < 64 → Sound (today_in l) (file_here i)
  unfolding book_of_words
  wf-sound s i h = table-all (Sound (today_in l)) 64 file_here s.sound.files i h

  -- Each file is sound, from its words.
  wf-sound-at : WellFormed l → (i : ℕ) → i < 64 → SoundAt (get_or l 1 0) l (1 + 97 * i)
  unfolding SoundAt
  wf-sound-at s i h = subst (λ (t : ℕ). Sound t (file_here i)) (sym (wf-today s)) (wf-sound s i h)

  -- Each file that is not admitted is blank.
  wf-blank : WellFormed l → (i : ℕ) → i < 64 → BlankUnlessAdmitted (file_here i)
  unfolding book_of_words
  wf-blank s i h = table-all BlankUnlessAdmitted 64 file_here s.sound.blank i h

  -- Each file is well formed.
  wf-files : WellFormed l → Below 64 (FileAt (get_or l 1 0) l)
  unfolding Below
  wf-files s i h = record { canonical = wf-words s i h; sound = wf-sound-at s i h; blank = wf-blank s i h }

  -- ---- which words are well formed

  module _ (long : length l ≡ 6210) (layout : get_or l 0 0 ≡ 2) (day : get_or l 1 0 ≤ 29219) (b : Below 64 (FileAt (get_or l 1 0) l)) where
    -- The second word is today.
    today : get_or l 1 0 ≡ today_in l
    today = omega arith

    -- Each file.
    file-here : (i : ℕ) → i < 64 → FormedFile (get_or l 1 0) l (1 + 97 * i)
    unfolding Below
    file-here i h = b i h

    -- Each word of each file.
    file-word : (i j : ℕ) → i < 64 → j < 97 → get_or l (1 + 97 * i + (j + 1)) 0 ≡ get_or (file_words (file_here i)) j 0
    unfolding Canonical Below
    file-word i j h k = (file-here i h).canonical j k

    -- Each word.
    word : (k : ℕ) → k < 6210 → get_or l k 0 ≡ get_or again k 0
    word zero h = layout ∙ sym book-layout
    word (suc zero) h = today ∙ sym book-day
    word (suc (suc n)) h =
        let e : suc (suc n) ≡ 1 + 97 * (n / 97) + (n % 97 + 1) = omega arith in
        let g : 2 + (97 * (n / 97) + n % 97) ≡ suc (suc n) = omega arith in
        ap (λ (x : ℕ). get_or l x 0) e
        ∙ file-word (n / 97) (n % 97) (omega arith) (omega arith)
        ∙ sym (book-word (n / 97) (n % 97) (omega arith) (omega arith))
        ∙ ap (λ (x : ℕ). get_or again x 0) g

    -- So they are the same words.
    same-words : l ≡ again
    same-words = ext_get_or 0 l again (long ∙ sym book-long) (λ k h. word k (omega arith))

    -- Each file is sound today.
    sound-here : (i : ℕ) → i < 64 → Sound (today_in l) (file_here i)
    unfolding SoundAt
    sound-here i h = subst (λ (t : ℕ). Sound t (file_here i)) today (file-here i h).sound

    -- So the book is sound.
    sound-book : SoundBook (book_of_words l)
    unfolding book_of_words
    sound-book =
        record {
          day = omega (arith, today);
          many = length-table 64 file_here;
          files = all-table (Sound (today_in l)) 64 file_here sound-here;
          blank = all-table BlankUnlessAdmitted 64 file_here (λ i k. (file-here i k).blank);
        }

    -- So they are a book.
    pub files-do : WellFormed l
    files-do = record { long = long; canonical = same-words; sound = sound-book }

  -- Words of another length are no book.
  pub long-fails : (length l ≡ 6210 → ⊥) → Decides false (WellFormed l)
  long-fails h = says-no (λ s. h s.long)

  -- Words of another layout are none.
  pub layout-fails : (get_or l 0 0 ≡ 2 → ⊥) → Decides false (WellFormed l)
  layout-fails h = says-no (λ s. h (wf-layout s))

  -- Words of a day past the calendar are none.
  pub day-fails : 29219 < get_or l 1 0 → Decides false (WellFormed l)
  day-fails h = says-no (λ s. omega (arith, wf-today s, wf-day s))

  -- Of others, those are one whose files are well formed.
  pub files-decide : (r : Bool) → length l ≡ 6210 → get_or l 0 0 ≡ 2 → get_or l 1 0 ≤ 29219 → Decides r (Below 64 (FileAt (get_or l 1 0) l))
      → Decides r (WellFormed l)
  files-decide r long layout day d = as-well d (files-do long layout day) wf-files
