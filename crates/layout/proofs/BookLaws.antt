-- A book in words: its files, one of them put back, another day in its word, and a book's words one after another.
-- Assumes nothing.
use Prim.Native.Nat.{ℕ, zero, suc, ◌+◌, ◌*◌, ◌≤◌, ◌<◌}
use mathlib.Core.Path.{◌≡◌, refl, sym, ap, ◌∙◌}
use mathlib.Core.List.{List, [], ◌∷◌, ◌++◌}
use native.Mathlib.Nat.{mul-suc}
use native.Mathlib.Omega.{arith}
use borrow.Author.Tests.{ltb-true, ltb-false}
use lib.Dec.{ltb}
use lib.ListN.{length, get_or, set, replicate, length-append, replicate-append-replicate}
use lib.Seq.{get_or-set_same, get_or-set_other, set-get_or}
use Rattle.laws.specs.Cases.{split}
use Rattle.laws.specs.Places.{get_d-same}
use Rattle.laws.specs.Lists.{All, table}
use Rattle.laws.specs.Tabulated.{length-table, get_d-table, set-table-as, table-ext, replicate-table}
use Rattle.file.specs.declared.File.{File}
use Rattle.file.specs.Admit.{no_file}
use Rattle.layout.specs.Parts.{number_of, admitted_of, leaving_of, slot_of_words, open_call_of_words, total_of_words, signed_of_word, zigzag_of, written}
use Rattle.layout.specs.Files.{file_of_words, slots_of_words, calls_of_words, totals_of_words, words_at, flat, file_words, Put}
use Rattle.layout.specs.Words.{place, file_in_words, book_of_words, book_words}
use Rattle.layout.proofs.Written.{length-written, written-before, written_behind, written-first, written-later}
use Rattle.layout.proofs.FileLaws.{file-ext}

-- ---- the files of a book in words

pub book-long : (l : List ℕ) → length (book_of_words l).files ≡ 64
unfolding book_of_words
book-long l = length-table 64 (λ p. file_in_words l p)

pub book-file : (l : List ℕ) (p : ℕ) → p ≤ 63 → get_or (book_of_words l).files p no_file ≡ file_in_words l p
unfolding book_of_words
book-file l p h = get_d-table 64 (λ p. file_in_words l p) p no_file (omega arith)

-- A file that is read has 97 words.
pub read-long : (w : ℕ → ℕ) → length (file_words (file_of_words w)) ≡ 97
unfolding file_words file_of_words slots_of_words calls_of_words totals_of_words flat
read-long w = refl

-- ---- one file is put back

apart : {a b : ℕ} → a ≤ b → (b ≡ a → ⊥) → a < b
apart h ne = omega arith

module _ (l m : List ℕ) (p : ℕ) (g : File) (low : p ≤ 63) (put : Put l (place p) g m) where
  other : (j : ℕ) → j < place p + 1 → get_or l j 0 ≡ get_or m j 0
  other j h = sym (ap (λ (z : List ℕ). get_or z j 0) put.stored ∙ written-before l (place p + 1) (file_words g) j h)

  later : (j : ℕ) → place p + 98 ≤ j → get_or l j 0 ≡ get_or m j 0
  later j h =
      sym (ap (λ (z : List ℕ). get_or z j 0) put.stored ∙ written_behind l (place p + 1) (file_words g) j (omega (arith, put.long)))

  others : (j : ℕ) → (j ≡ p → ⊥) → file_in_words l j ≡ file_in_words m j
  others j ne =
      split (ltb j p)
      (λ e. file-ext (words_at l (place j)) (words_at m (place j))
      (λ k a b. let h = ltb-true j p e in other (place j + k) (omega arith)))
      (λ e. file-ext (words_at l (place j)) (words_at m (place j))
      (λ k a b. let h : p < j = apart (ltb-false j p e) ne in later (place j + k) (omega arith)))

  pub put-book : book_of_words m ≡ record { files = set (book_of_words l).files p g; today = (book_of_words l).today }
  unfolding book_of_words
  put-book =
      sym (λ i. record {
        files = set-table-as 64 (λ j. file_in_words l j) (λ j. file_in_words m j) p g (sym put.back) others i;
        today = record { 0 = number_of (other 1 (omega arith) i) };
      })

  pub put-length : length m ≡ length l
  put-length = ap length put.stored ∙ length-written l (place p + 1) (file_words g)

-- ---- another day

pub today-book : (m : List ℕ) (d : ℕ) → 2 ≤ length m → d ≤ 29219
    → book_of_words (set m 1 d) ≡ record { files = (book_of_words m).files; today = record { 0 = d } }
unfolding book_of_words
today-book m d long h =
    λ i. record {
      files = table-ext 64 (λ p. file_in_words (set m 1 d) p) (λ p. file_in_words m p)
          (λ p k. file-ext (words_at (set m 1 d) (place p)) (words_at m (place p))
          (λ j a b. get_or-set_other m 1 (place p + j) d 0 (λ e. omega arith)))
          i;
      today = record { 0 = day i };
    }
  where
    day : number_of (get_or (set m 1 d) 1 0) ≡ d
    day = ap number_of (get_or-set_same m 1 d 0 (omega arith)) ∙ omega arith

-- ---- words that are those of their book stay so

-- the words of files, of 97 each
abbrev Long : File → Type 0
Long f = length (file_words f) ≡ 97

files-length : (files : List File) → All Long files → length (flat file_words files) ≡ 97 * length files
unfolding flat
files-length [] all = refl
files-length (f ∷ files) all =
    length-append (file_words f) (flat file_words files) ∙ omega (arith, all.0, files-length files all.1, mul-suc 97 (length files))

file-replaced : (files : List File) (p : ℕ) (g : File) → All Long files → p < length files → length (file_words g) ≡ 97
    → flat file_words (set files p g) ≡ written (flat file_words files) (97 * p) (file_words g)
unfolding flat
file-replaced [] p g all h long = absurd (omega arith)
file-replaced (f ∷ files) zero g all h long = sym (written-first (file_words f) (file_words g) (flat file_words files) (all.0 ∙ sym long))
file-replaced (f ∷ files) (suc p) g all h long =
    let at : 97 * suc p ≡ length (file_words f) + 97 * p = omega (arith, all.0) in
    ap (λ (z : List ℕ). file_words f ++ z) (file-replaced files p g all.1 (omega arith) long)
    ∙ sym (ap (λ (j : ℕ). written (file_words f ++ flat file_words files) j (file_words g)) at
    ∙ written-later (file_words f) (file_words g) (flat file_words files) (97 * p)
    (omega (arith, files-length files all.1, long)))

-- every file of a book in words is read, so it has 97 words
table-long : (n : ℕ) (f : ℕ → ℕ → ℕ) → All Long (table n (λ p. file_of_words (f p)))
table-long zero f = tt
table-long (suc n) f = (read-long (f zero), table-long n (λ p. f (suc p)))

files-long : (l : List ℕ) → All Long (book_of_words l).files
unfolding book_of_words
files-long l = table-long 64 (λ p. words_at l (place p))

-- behind the head
written-behind-head : (a b : ℕ) (rest vs : List ℕ) (k : ℕ) → k + length vs ≤ length rest
    → written (a ∷ b ∷ rest) (2 + k) vs ≡ a ∷ b ∷ written rest k vs
written-behind-head a b rest vs k h = written-later (a ∷ b ∷ []) vs rest k h

-- one file is put back
pub canonical-put : (l m : List ℕ) (p : ℕ) (g : File) → l ≡ book_words (book_of_words l) → p ≤ 63 → Put l (place p) g m
    → m ≡ book_words (book_of_words m)
unfolding book_words
canonical-put l m p g same low put =
    let b = book_of_words l in
    let F = flat file_words b.files in
    let at : place p + 1 ≡ 2 + 97 * p = omega arith in
    let room = files-length b.files (files-long l) in
    let many = book-long l in
    put.stored
    ∙ ap (λ (j : ℕ). written l j (file_words g)) at
    ∙ ap (λ (z : List ℕ). written z (2 + 97 * p) (file_words g)) same
    ∙ written-behind-head 2 b.today.0 F (file_words g) (97 * p) (omega (arith, put.long))
    ∙ ap (λ (z : List ℕ). 2 ∷ b.today.0 ∷ z)
    (sym (file-replaced b.files p g (files-long l) (omega arith) put.long))
    ∙ ap book_words (sym (put-book l m p g low put))

-- a file's words stand at its place
pub words-stand : (l : List ℕ) (p : ℕ) → l ≡ book_words (book_of_words l) → p ≤ 63 → l ≡ written l (place p + 1) (file_words (file_in_words l p))
unfolding book_words
words-stand l p same low =
    let b = book_of_words l in
    let F = flat file_words b.files in
    let f = file_in_words l p in
    let at : 2 + 97 * p ≡ place p + 1 = omega arith in
    let room = files-length b.files (files-long l) in
    let many = book-long l in
    let long = read-long (words_at l (place p)) in
    let there : set b.files p f ≡ b.files = ap (set b.files p) (sym (book-file l p low)) ∙ set-get_or b.files p no_file in
    same
    ∙ ap (λ (z : List File). 2 ∷ b.today.0 ∷ flat file_words z) (sym there)
    ∙ ap (λ (z : List ℕ). 2 ∷ b.today.0 ∷ z) (file-replaced b.files p f (files-long l) (omega arith) long)
    ∙ sym (written-behind-head 2 b.today.0 F (file_words f) (97 * p) (omega (arith, long)))
    ∙ ap (λ (z : List ℕ). written z (2 + 97 * p) (file_words f)) (sym same)
    ∙ ap (λ (j : ℕ). written l j (file_words f)) at

-- another day
pub canonical-today : (m : List ℕ) (d : ℕ) → m ≡ book_words (book_of_words m) → 2 ≤ length m → d ≤ 29219
    → set m 1 d ≡ book_words (book_of_words (set m 1 d))
unfolding book_words
canonical-today m d same long h = ap (λ (z : List ℕ). set z 1 d) same ∙ ap book_words (sym (today-book m d long h))

-- ---- a fresh book

-- A file of zeros is the file of a participant that isn't admitted.
pub zero-file : file_of_words (λ (k : ℕ). 0) ≡ no_file
unfolding file_of_words admitted_of leaving_of slots_of_words calls_of_words totals_of_words slot_of_words open_call_of_words total_of_words signed_of_word
zero-file = refl

-- The words of a fresh book on day d.
abbrev pub fresh_words : ℕ → List ℕ
fresh_words d = 2 ∷ d ∷ replicate 6208 0

behind-head : (d j : ℕ) → 2 ≤ j → get_or (fresh_words d) j 0 ≡ 0
behind-head d zero h = absurd (omega arith)
behind-head d (suc zero) h = absurd (omega arith)
behind-head d (suc (suc j)) h = get_d-same 0 6208 j

pub fresh-words : (d : ℕ) → d ≤ 29219 → book_of_words (fresh_words d) ≡ record { files = replicate 64 no_file; today = record { 0 = d } }
unfolding book_of_words
fresh-words d h =
    λ i. record {
      files = (table-ext 64 (λ p. file_in_words (fresh_words d) p) (λ p. no_file)
          (λ p k. file-ext (words_at (fresh_words d) (place p)) (λ (j : ℕ). 0) (λ j a b. behind-head d (place p + j) (omega arith)) ∙ zero-file)
          ∙ sym (replicate-table 64 no_file))
          i;
      today = record { 0 = day i };
    }
  where
    day : number_of d ≡ d
    day = omega arith

-- The words of a participant that is not admitted are zeros.
pub zero-words : file_words no_file ≡ replicate 97 0
unfolding file_words flat zigzag_of
zero-words = refl

files-zero : (n : ℕ) → flat file_words (replicate n no_file) ≡ replicate (97 * n) 0
unfolding flat
files-zero zero = refl
files-zero (suc n) =
    let e : 97 + 97 * n ≡ 97 * suc n = omega arith in
    ap (λ (z : List ℕ). z ++ flat file_words (replicate n no_file)) zero-words
    ∙ ap (λ (z : List ℕ). replicate 97 0 ++ z) (files-zero n)
    ∙ replicate-append-replicate 97 (97 * n) 0
    ∙ ap (λ (k : ℕ). replicate k 0) e

pub canonical-fresh : (d : ℕ) → d ≤ 29219 → fresh_words d ≡ book_words (book_of_words (fresh_words d))
unfolding book_words
canonical-fresh d h =
    ap (λ (z : List ℕ). 2 ∷ d ∷ z) (sym (files-zero 64)) ∙ ap book_words (sym (fresh-words d h))
