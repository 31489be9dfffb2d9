-- The comment of a line, and the reference that is kept of it: behind another line it is the same.
-- Assumes nothing.
use Rattle.std.proofs.Common.{◌≡◌, ℕ, zero, suc, ◌+◌, ◌-◌, ◌≤◌, ◌<◌, Bool, true, false, cond, not, ◌&&◌, List, [], ◌∷◌, ◌++◌, length, take, drop, get_or, min, Option, Some, None, refl, sym, ap, ◌∙◌, arith, eqb, ltb, leb, leb-true, leb-false, ltb-true, ltb-false, add-one, take_all, length-drop, length-append}
use Rattle.std.specs.List.{position, position_or_len}
use Rattle.std.proofs.lemmas.List.{length-take}
use lib.ListN.{drop_of_length-le}
use Rattle.laws.specs.Cases.{split, clash, and_left, and_right}
use Rattle.words.specs.Bytes.{blank, each, some, control, uncommented}
use Rattle.words.specs.Words.{apart, onto, words, blanks_in}
use Rattle.words.specs.Comments.{comment_of, trimmed, reference_of, commented}
use Rattle.words.proofs.Scans.{one_more}
use Rattle.words.proofs.WordLaws.{blanks_few}

-- ---- the comment

comment-cut : (l : List ℕ) → drop (suc (position_or_len (λ b. eqb b 35) l)) l ≡ comment_of l
unfolding comment_of
comment-cut [] = refl
comment-cut (b ∷ l) =
    split (eqb b 35) (λ t. rw t) (λ t. rw (t, one_more (position_or_len (λ b. eqb b 35) l)) (comment-cut l))

comment-behind : (l : List ℕ) (k : ℕ) → position (λ b. eqb b 35) l ≡ Some k → drop (k + 1) l ≡ comment_of l
comment-behind l k e =
    split (ltb (position_or_len (λ b. eqb b 35) l) (length l))
    (λ t.
    let f : ◌≡◌ {A = Option ℕ} (Some (position_or_len (λ b. eqb b 35) l)) (Some k) = rw t at e in
    let g : position_or_len (λ b. eqb b 35) l ≡ k = cc in
    rw (← g, add-one (position_or_len (λ b. eqb b 35) l)) (comment-cut l))
    (λ t. let f : ◌≡◌ {A = Option ℕ} None (Some k) = rw t at e in cc)

pub comment_at : (l : List ℕ) (k : ℕ) → position (λ b. eqb b 35) l ≡ Some k → take (length l - (k + 1)) (drop (k + 1) l) ≡ comment_of l
comment_at l k e = take_all (length l - (k + 1)) (drop (k + 1) l) (omega (arith, length-drop (k + 1) l)) ∙ comment-behind l k e

pub comment_none : (l : List ℕ) → position (λ b. eqb b 35) l ≡ None → [] ≡ comment_of l
comment_none l e =
    split (ltb (position_or_len (λ b. eqb b 35) l) (length l))
    (λ t. let f : ◌≡◌ {A = Option ℕ} (Some (position_or_len (λ b. eqb b 35) l)) None = rw t at e in cc)
    (λ t.
    let g : length l ≤ position_or_len (λ b. eqb b 35) l = ltb-false (position_or_len (λ b. eqb b 35) l) (length l) t in
    let n = position_or_len (λ b. eqb b 35) l in
    let h : length l ≤ suc n = omega (arith, g) in
    sym (drop_of_length-le l h) ∙ comment-cut l)

-- ---- the blanks before it

pub blanks_within : (l : List ℕ) (n : ℕ) → n ≡ blanks_in l → n ≤ length l
blanks_within l n e = omega (arith, e, blanks_few l)

pub blanks_cut : (l : List ℕ) (n : ℕ) → n ≡ blanks_in l → take (length l - n) (drop n l) ≡ drop (blanks_in l) l
blanks_cut l n e = take_all (length l - n) (drop n l) (omega (arith, length-drop n l)) ∙ ap (λ (k : ℕ). drop k l) e

-- ---- the blanks at the end

all-blank : (l : List ℕ) → ((k : ℕ) → 0 ≤ k → k < length l → blank (get_or l k 0) ≡ true) → each blank l ≡ true
unfolding each
all-blank [] h = refl
all-blank (b ∷ l) h = rw (h 0 (omega arith) (omega arith)) (all-blank l (λ k m n. h (suc k) (omega arith) (omega (arith, n))))

some-solid : (l : List ℕ) (n : ℕ) → n < length l → blank (get_or l n 0) ≡ false → each blank l ≡ false
unfolding each
some-solid [] n h e = absurd (omega arith)
some-solid (b ∷ l) zero h e = rw e refl
some-solid (b ∷ l) (suc n) h e =
    split (blank b) (λ t. rw t (some-solid l n (omega arith) e)) (λ t. rw t refl)

pub trimmed_is : (l : List ℕ) (n : ℕ) → n ≤ length l → (0 < n → blank (get_or l (n - 1) 0) ≡ false)
    → ((k : ℕ) → n ≤ k → k < length l → blank (get_or l k 0) ≡ true) → take n l ≡ trimmed l
unfolding trimmed
trimmed_is [] zero h s b = refl
trimmed_is [] (suc n) h s b = absurd (omega arith)
trimmed_is (x ∷ l) zero h s b = rw (all-blank (x ∷ l) b)
trimmed_is (x ∷ l) (suc n) h s b =
    let less : suc n - 1 ≡ n = omega arith in
    let e : blank (get_or (x ∷ l) n 0) ≡ false = ap (λ (k : ℕ). blank (get_or (x ∷ l) k 0)) (sym less) ∙ s (omega arith) in
    rw (some-solid (x ∷ l) n (omega arith) e)
    (ap (λ (t : List ℕ). x ∷ t)
    (trimmed_is l n (omega arith)
    (λ p. let more : n ≡ suc (n - 1) = omega arith in ap (λ (k : ℕ). blank (get_or (x ∷ l) k 0)) (sym more) ∙ e)
    (λ k m i. b (suc k) (omega arith) (omega (arith, i)))))

-- as many of the first bytes as there are
pub first_bytes : (l : List ℕ) (n : ℕ) → n ≡ min (length l) 1000 → take n l ≡ take 1000 l
first_bytes l n e =
    split (leb (length l) 1000)
    (λ t. let h = leb-true (length l) 1000 t in take_all n l (omega arith) ∙ sym (take_all 1000 l h))
    (λ t. let h = leb-false (length l) 1000 t in let k : n ≡ 1000 = omega arith in rw k)
