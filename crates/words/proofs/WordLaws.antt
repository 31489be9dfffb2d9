-- The words of a text, read word by word.
-- Assumes nothing.
use Rattle.std.proofs.Common.{ℕ, suc, ◌-◌, ◌≤◌, ◌<◌, ◌≡◌, refl, sym, ap, ◌∙◌, Bool, true, false, not, ◌&&◌, List, [], ◌∷◌, ◌++◌, arith, length, take, drop, ltb-true, ltb-false}
use Rattle.std.specs.List.{position, position_or_len}
use Rattle.std.specs.Option.{unwrap_or}
use Rattle.std.specs.Cmp.Lexicographic.{pointwise}
use native.Mathlib.Nat.{not-suc-le-zero, pos_of_ne-zero}
use borrow.Author.Tests.{not-true}
use lib.Dec.{eqb, ltb}
use lib.ListN.{drop_of_length-le, length-take, length-drop, take-append-drop}
use lib.Seq.{take_all}
use Rattle.laws.specs.Cases.{split, and_left, and_right}
use Rattle.words.specs.Bytes.{blank, each, same}
use Rattle.words.specs.Words.{apart, onto, words, blanks_in, solid_in, place_in, place_of}
use Rattle.words.proofs.Scans.{one_more}

-- a byte that is no blank
unfoldable pub solid : ℕ → Bool
solid b = not (blank b)

pub solid-not : (b : ℕ) → solid b ≡ true → blank b ≡ false
unfolding solid
solid-not b e = not-true (blank b) e

pub not-solid : (b : ℕ) → blank b ≡ false → solid b ≡ true
unfolding solid
not-solid b e = rw e

-- a byte before a text whose first word goes on
words-joined : (b : ℕ) (l : List ℕ) → blank b ≡ false → apart l ≡ false → words (b ∷ l) ≡ onto b (words l)
unfolding words
words-joined b l n a = rw (n, a)

words-single : (b : ℕ) (l : List ℕ) → blank b ≡ false → apart l ≡ true → words (b ∷ l) ≡ (b ∷ []) ∷ words l
unfolding words
words-single b l n a = rw (n, a)

pub words-blank : (b : ℕ) (l : List ℕ) → blank b ≡ true → words (b ∷ l) ≡ words l
unfolding words
words-blank b l n = rw n

apart-not : (b : ℕ) (l : List ℕ) → blank b ≡ false → apart (b ∷ l) ≡ false
unfolding apart
apart-not b l n = n

onto-word : (b : ℕ) (w : List ℕ) (ws : List (List ℕ)) → onto b (w ∷ ws) ≡ (b ∷ w) ∷ ws
unfolding onto
onto-word b w ws = refl

-- bytes that are no blanks, before a blank or the end, are one word
pub one_word : (b : ℕ) (w t : List ℕ) → blank b ≡ false → each solid w ≡ true → apart t ≡ true → words (b ∷ (w ++ t)) ≡ (b ∷ w) ∷ words t
unfolding each
one_word b [] t n e a = words-single b t n a
one_word b (x ∷ w) t n e a =
    let m = solid-not x (and_left (solid x) (each solid w) e) in
    words-joined b (x ∷ (w ++ t)) n (apart-not x (w ++ t) m)
    ∙ ap (onto b) (one_word x w t m (and_right (solid x) (each solid w) e) a)
    ∙ onto-word b (x ∷ w) (words t)

pub whole_word : (w t : List ℕ) → 0 < length w → each solid w ≡ true → apart t ≡ true → words (w ++ t) ≡ w ∷ words t
unfolding each
whole_word [] t h e a = absurd (not-suc-le-zero h)
whole_word (b ∷ w) t h e a =
    one_word b w t (solid-not b (and_left (solid b) (each solid w) e)) (and_right (solid b) (each solid w) e) a

-- The blanks that a text begins with.

blanks-few : (l : List ℕ) → blanks_in l ≤ length l
unfolding blanks_in
blanks-few [] = omega arith
blanks-few (b ∷ l) = split (blank b) (λ t. rw t (omega (arith, blanks-few l))) (λ t. rw t (omega arith))

blanks-skipped : (l : List ℕ) → words (drop (blanks_in l) l) ≡ words l
unfolding blanks_in
blanks-skipped [] = refl
blanks-skipped (b ∷ l) =
    split (blank b) (λ t. rw t (blanks-skipped l ∙ sym (words-blank b l t))) (λ t. rw t)

blanks-first : (l : List ℕ) → blanks_in l < length l → solid_in (drop (blanks_in l) l) ≡ 0 → ⊥
unfolding blanks_in solid_in
blanks-first [] h e = not-suc-le-zero h
blanks-first (b ∷ l) h e =
    split (blank b)
    (λ t.
    let g : suc (blanks_in l) < suc (length l) = rw t at h in
    let f : solid_in (drop (blanks_in l) l) ≡ 0 = rw t at e in
    blanks-first l (omega arith) f)
    (λ t.
    let f : solid_in (b ∷ l) ≡ 0 = rw t at e in
    let k : suc (solid_in l) ≡ 0 = rw t at f in
    omega arith)

-- The word that a text begins with.

solid-few : (l : List ℕ) → solid_in l ≤ length l
unfolding solid_in
solid-few [] = omega arith
solid-few (b ∷ l) = split (blank b) (λ t. rw t (omega arith)) (λ t. rw t (omega (arith, solid-few l)))

solid-each : (l : List ℕ) → each solid (take (solid_in l) l) ≡ true
unfolding solid_in each
solid-each [] = refl
solid-each (b ∷ l) = split (blank b) (λ t. rw t) (λ t. rw (t, not-solid b t) (solid-each l))

solid-apart : (l : List ℕ) → apart (drop (solid_in l) l) ≡ true
unfolding solid_in apart
solid-apart [] = refl
solid-apart (b ∷ l) = split (blank b) (λ t. rw t t) (λ t. rw t (solid-apart l))

solid-word : (l : List ℕ) → 0 < solid_in l → words l ≡ take (solid_in l) l ∷ words (drop (solid_in l) l)
solid-word l h =
    let g : 0 < length (take (solid_in l) l) = rw length-take (omega (arith, solid-few l)) in
    ap words (sym (take-append-drop (solid_in l) l)) ∙ whole_word (take (solid_in l) l) (drop (solid_in l) l) g (solid-each l) (solid-apart l)

-- no word is left
pub words-none : words [] ≡ []
unfolding words
words-none = refl

-- a text has no more words than bytes
onto-few : (b : ℕ) (ws : List (List ℕ)) → length (onto b ws) ≤ suc (length ws)
unfolding onto
onto-few b [] = omega arith
onto-few b (w ∷ ws) = omega arith

pub words_few : (l : List ℕ) → length (words l) ≤ length l
unfolding words
words_few [] = omega arith
words_few (b ∷ l) =
    split (blank b) (λ t. rw t (omega (arith, words_few l)))
    (λ t. split (apart l) (λ u. rw (t, u) (omega (arith, words_few l))) (λ u. rw (t, u) (omega (arith, words_few l, onto-few b (words l)))))

-- The first word of a text: what stands behind its blanks, up to the next blank.

pub blanks_few : (l : List ℕ) → blanks_in l ≤ length l
blanks_few l = blanks-few l

pub solid_few : (l : List ℕ) → solid_in l ≤ length l
solid_few l = solid-few l

pub word_next : (l : List ℕ) → (solid_in (drop (blanks_in l) l) ≡ 0 → ⊥)
    → words l
    ≡ take (solid_in (drop (blanks_in l) l)) (drop (blanks_in l) l) ∷ words (drop (solid_in (drop (blanks_in l) l)) (drop (blanks_in l) l))
word_next l n = sym (blanks-skipped l) ∙ solid-word (drop (blanks_in l) l) (pos_of_ne-zero n)

pub word_none : (l : List ℕ) → solid_in (drop (blanks_in l) l) ≡ 0 → words l ≡ []
word_none l e =
    split (ltb (blanks_in l) (length l)) (λ t. absurd (blanks-first l (ltb-true (blanks_in l) (length l) t) e))
    (λ t. sym (blanks-skipped l) ∙ ap words (drop_of_length-le l (ltb-false (blanks_in l) (length l) t)) ∙ words-none)

-- the same, as the code takes it
module _ (s : List ℕ) (b n : ℕ) (here : b ≡ blanks_in s) (long : n ≡ solid_in (take (length s - b) (drop b s))) where
  behind : take (length s - b) (drop b s) ≡ drop (blanks_in s) s
  behind = take_all (length s - b) (drop b s) (omega (arith, length-drop b s)) ∙ ap (λ (k : ℕ). drop k s) here

  whole : n ≡ solid_in (drop (blanks_in s) s)
  whole = long ∙ ap solid_in behind

  pub word_found : (word rest : List ℕ) → word ≡ take n (take (length s - b) (drop b s)) → rest ≡ drop n (take (length s - b) (drop b s))
      → (n ≡ 0 → ⊥) → words s ≡ word ∷ words rest
  word_found word rest e f h =
      let t : word ≡ take (solid_in (drop (blanks_in s) s)) (drop (blanks_in s) s) = e ∙ ap (λ (k : ℕ). take k (take (length s - b) (drop b s))) whole ∙ ap (take (solid_in (drop (blanks_in s) s))) behind in
      let d : rest ≡ drop (solid_in (drop (blanks_in s) s)) (drop (blanks_in s) s) = f ∙ ap (λ (k : ℕ). drop k (take (length s - b) (drop b s))) whole ∙ ap (drop (solid_in (drop (blanks_in s) s))) behind in
      word_next s (λ z. h (whole ∙ z)) ∙ rw (t, d)

  pub word_ended : (rest : List ℕ) → rest ≡ drop n (take (length s - b) (drop b s)) → n ≡ 0 → (words s ≡ []) × (words rest ≡ [])
  word_ended rest f z =
      let none : words s ≡ [] = word_none s (sym whole ∙ z) in
      let r : rest ≡ drop (blanks_in s) s = f ∙ ap (λ (k : ℕ). drop k (take (length s - b) (drop b s))) z ∙ behind in
      (none, ap words r ∙ blanks-skipped s ∙ none)

-- The place of a word among the words of a text.

pub same_is : (w n : List ℕ) → pointwise eqb w n ≡ same w n
unfolding same
same_is [] [] = refl
same_is [] (b ∷ n) = refl
same_is (a ∷ w) [] = refl
same_is (a ∷ w) (b ∷ n) = ap (λ (t : Bool). eqb a b && t) (same_is w n)

place-is : (w : List ℕ) (ns : List (List ℕ)) → position_or_len (λ n. pointwise eqb w n) ns ≡ place_in w ns
unfolding place_in
place-is w [] = refl
place-is w (n ∷ ns) =
    rw (same_is w n) (split (same w n) (λ t. rw t) (λ t. rw (t, one_more (position_or_len (λ n. pointwise eqb w n) ns)) (ap suc (place-is w ns))))

pub place_found : (w : List ℕ) (ns : List (List ℕ)) → position (λ n. pointwise eqb w n) ns ≡ place_of w ns
place_found w ns = rw (place-is w ns)

-- it is below the number of the words, or there is none
pub place_few : (w : List ℕ) (ns : List (List ℕ)) → place_in w ns ≤ length ns
unfolding place_in
place_few w [] = omega arith
place_few w (n ∷ ns) = split (same w n) (λ t. rw t (omega arith)) (λ t. rw t (omega (arith, place_few w ns)))

pub place_or : (w : List ℕ) (ns : List (List ℕ)) → unwrap_or (place_of w ns) (length ns) ≡ place_in w ns
place_or w ns =
    split (ltb (place_in w ns) (length ns)) (λ t. rw t)
    (λ t. rw t (omega (arith, place_few w ns, ltb-false (place_in w ns) (length ns) t)))
