-- The tests of a file's words decide whether they are a well-formed file.
-- Assumes nothing.
use Prim.Native.Nat.{ℕ, zero, suc, ◌+◌, ◌-◌, ◌≤◌, ◌<◌}
use mathlib.Core.Path.{◌≡◌, sym, ap, subst, ◌∙◌}
use mathlib.Core.Bool.{Bool, true, false, true≢false}
use mathlib.Core.List.{List}
use native.Mathlib.Omega.{arith}
use native.Mathlib.Numerals.{add-one}
use lib.Dec.{eqb}
use lib.ListN.{length, get_or, take, drop, replicate, length-take, length-drop}
use lib.Seq.{ext_get_or, get_or-take, get_or-drop}
use Rattle.std.specs.Cmp.Lexicographic.{pointwise}
use Rattle.std.proofs.lemmas.Slice.Eq.{slice_eq-Decides}
use Rattle.std.proofs.lemmas.Bool.Decides.{Decides-eqb}
use Rattle.laws.specs.Cases.{clash}
use Rattle.file.specs.declared.File.{File}
use Rattle.file.specs.Admit.{no_file}
use Rattle.file.specs.Sound.{Sound}
use Rattle.file.specs.KeepsPositions.{none-sound}
use Rattle.layout.specs.Parts.{admitted_of}
use Rattle.layout.specs.Files.{file_of_words, words_at, file_words, Put}
use Rattle.layout.proofs.Written.{length-written, written_in}
use Rattle.layout.proofs.FileLaws.{file-ext}
use Rattle.formed.specs.Decides.{Decides, Below}
use Rattle.formed.specs.Checks.{Canonical, Blank, SoundAt, FormedFile}
use Rattle.formed.proofs.Decided.{as-well}
use Rattle.laws.specs.Places.{get_d-same}
use Rattle.layout.proofs.BookLaws.{zero-file, zero-words}

-- ---- the same words

-- The words behind a place, compared with others.
part-decides : (l : List ℕ) (at : ℕ) (ys : List ℕ) (r : Bool) → at + 98 ≤ length l → length ys ≡ 97
    → r ≡ pointwise eqb (take (at + 98 - (at + 1)) (drop (at + 1) l)) ys → Decides r (Below 97 (λ k. get_or l (at + (k + 1)) 0 ≡ get_or ys k 0))
unfolding Below
part-decides l at ys r room long e =
    record {
      yes = λ h k b. sym (there k b) ∙ ap (λ (z : List ℕ). get_or z k 0) (same.0 h);
      no = λ h all. true≢false (sym (same.1 (ext_get_or 0 part ys (part-long ∙ sym long) (λ k b. there k (omega (arith, part-long)) ∙ all k (omega (arith, part-long))))) ∙ h);
    }
  where
    part : List ℕ
    part = take (at + 98 - (at + 1)) (drop (at + 1) l)

    same : (r ≡ true → part ≡ ys) × (part ≡ ys → r ≡ true)
    same = slice_eq-Decides Decides-eqb part ys r e

    part-long : length part ≡ 97
    part-long = omega (arith, length-take (at + 98 - (at + 1)) (drop (at + 1) l), length-drop (at + 1) l)

    there : (k : ℕ) → k < 97 → get_or part k 0 ≡ get_or l (at + (k + 1)) 0
    there k b =
        let e : at + 1 + k ≡ at + (k + 1) = omega arith in
        get_or-take (at + 98 - (at + 1)) (drop (at + 1) l) k 0 (omega arith) ∙ get_or-drop (at + 1) l k 0 ∙ ap (λ (j : ℕ). get_or l j 0) e

-- What stands in the words that a file is put into.
put-words : (z m : List ℕ) (f : File) → length z ≡ 98 → Put z 0 f m → (k : ℕ) → k < 97 → get_or m (k + 1) 0 ≡ get_or (file_words f) k 0
put-words z m f n p k h =
    ap (λ (x : List ℕ). get_or x (k + 1) 0) p.stored
    ∙ written_in z 1 (file_words f) (k + 1) k (omega arith) (omega (arith, p.long)) (omega (arith, p.long))

-- The words compared with those that the file read there is written in.
pub canonical-decides : (l z m : List ℕ) (at : ℕ) (f : File) (r : Bool) → at + 98 ≤ length l → length z ≡ 98 → f ≡ file_of_words (words_at l at)
    → Put z 0 f m → r ≡ pointwise eqb (take (at + 98 - (at + 1)) (drop (at + 1) l)) (take 97 (drop 1 m)) → Decides r (Canonical l at)
unfolding Canonical Below
canonical-decides l z m at f r room n e p c =
    let long : length m ≡ 98 = ap length p.stored ∙ length-written z 1 (file_words f) ∙ n in
    let again = file_words (file_of_words (words_at l at)) in
    let words : (k : ℕ) → k < 97 → get_or (take 97 (drop 1 m)) k 0 ≡ get_or again k 0 =
    λ (k : ℕ) (b : k < 97).
    let q : 1 + k ≡ k + 1 = omega arith in
    get_or-take 97 (drop 1 m) k 0 b
    ∙ get_or-drop 1 m k 0
    ∙ ap (λ (j : ℕ). get_or m j 0) q
    ∙ put-words z m f n p k b
    ∙ ap (λ (g : File). get_or (file_words g) k 0) e in
    as-well
    (part-decides l at (take 97 (drop 1 m)) r room (omega (arith, length-take 97 (drop 1 m), length-drop 1 m)) c)
    (λ s k h. s k h ∙ words k h) (λ s k h. s k h ∙ sym (words k h))

-- The words compared with zeros.
pub blank-decides : (l : List ℕ) (at : ℕ) (r : Bool) → at + 98 ≤ length l
    → r ≡ pointwise eqb (take (at + 98 - (at + 1)) (drop (at + 1) l)) (replicate 97 0) → Decides r (Blank l at)
unfolding Blank Below
blank-decides l at r room c =
    as-well (part-decides l at (replicate 97 0) r room (omega arith) c) (λ s k h. s k h ∙ get_d-same 0 97 k) (λ s k h. s k h ∙ sym (get_d-same 0 97 k))

-- ---- a file that isn't admitted

module _ (t : ℕ) (l : List ℕ) (at : ℕ) where
  -- The file.
  abbrev f : File
  f = file_of_words (words_at l at)

  -- Each of its words is zero.
  word-zero : Blank l at → (k : ℕ) → 1 ≤ k → k ≤ 97 → words_at l at k ≡ 0
  unfolding Blank Below
  word-zero b zero g h = absurd (omega arith)
  word-zero b (suc k) g h = ap (λ (j : ℕ). get_or l (at + j) 0) (sym (add-one k)) ∙ b k (omega arith)

  -- Zeros are no file.
  file-none : Blank l at → f ≡ no_file
  file-none b = file-ext (words_at l at) (λ k. 0) (word-zero b) ∙ zero-file

  -- The words of no file are zeros.
  none-blank : Canonical l at → f ≡ no_file → Blank l at
  unfolding Canonical Blank Below
  none-blank c e k h =
      c k h ∙ ap (λ (g : File). get_or (file_words g) k 0) e ∙ ap (λ (m : List ℕ). get_or m k 0) zero-words ∙ get_d-same 0 97 k

  -- No file is sound.
  blank-sound : t ≤ 29219 → f ≡ no_file → SoundAt t l at
  unfolding SoundAt
  blank-sound day e = subst (Sound t) (sym e) (none-sound t day)

  -- The first word says whether somebody is admitted.
  admitted-is : (a : Bool) → admitted_of (get_or l (at + 1) 0) ≡ a → f.admitted ≡ a
  unfolding file_of_words
  admitted-is a e = e

  -- Where nobody is admitted, whether they are zeros decides it.
  pub blank-formed : (q r : Bool) → t ≤ 29219 → Decides q (Canonical l at) → q ≡ true → admitted_of (get_or l (at + 1) 0) ≡ false → Decides r (Blank l at)
      → Decides r (FormedFile t l at)
  blank-formed q r day c e z d =
      as-well d (λ b. record { canonical = c.yes e; sound = blank-sound day (file-none b); blank = λ n. file-none b })
      (λ s. none-blank (c.yes e) (s.blank (admitted-is false z)))

  -- Where somebody is, whether the file is sound decides it.
  pub sound-formed : (q r : Bool) → Decides q (Canonical l at) → q ≡ true → admitted_of (get_or l (at + 1) 0) ≡ true → Decides r (SoundAt t l at)
      → Decides r (FormedFile t l at)
  sound-formed q r c e z d =
      as-well d (λ s. record { canonical = c.yes e; sound = s; blank = λ n. clash (admitted-is true z) n }) (λ s. s.sound)
