-- A text read byte by byte: what the chains over it give, by the definitions.
-- Assumes nothing.
use Rattle.std.proofs.Common.{ℕ, suc, ◌+◌, ◌≤◌, ◌<◌, ◌≡◌, refl, sym, ap, ◌∙◌, Bool, not, ◌&&◌, ◌||◌, List, [], ◌∷◌, Option, Some, None, length, take, drop, get_or, unwrap_or, add-one, arith, ltb-false}
use Rattle.std.specs.List.{list_any, list_all, position, position_or_len, prefix_len, take_while}
use Rattle.std.proofs.lemmas.List.Quantifiers.{position-Some}
use Rattle.std.specs.Char.{is_ascii_control}
use borrow.Author.Tests.{eqb-true, eqb-false}
use lib.Dec.{eqb, ltb}
use lib.Seq.{drop-cons, take_all}
use Rattle.laws.specs.Cases.{split}
use Rattle.words.specs.Bytes.{some, each, blank, uncommented}
use Rattle.words.specs.Words.{blanks_in, solid_in}

-- what is left from a place in the text: its byte, and what is left from the next place
pub drop_at : (s : List ℕ) (i : ℕ) → i < length s → drop i s ≡ get_or s i 0 ∷ drop (i + 1) s
drop_at s i h = rw (add-one, drop-cons s i 0)

-- one more
pub one_more : (n : ℕ) → 1 + n ≡ suc n
one_more n = omega arith

-- whether some byte passes a test, and whether each does
pub some_any : (test : ℕ → Bool) (l : List ℕ) → list_any test l ≡ some test l
unfolding some
some_any test [] = refl
some_any test (b ∷ l) = ap (λ (t : Bool). test b || t) (some_any test l)

pub each_all : (test : ℕ → Bool) (l : List ℕ) → list_all test l ≡ each test l
unfolding each
each_all test [] = refl
each_all test (b ∷ l) = ap (λ (t : Bool). test b && t) (each_all test l)

-- the text without its comment
before_comment : (l : List ℕ) → take (position_or_len (λ b. eqb b 35) l) l ≡ uncommented l
unfolding uncommented
before_comment [] = refl
before_comment (b ∷ l) =
    split (eqb b 35) (λ t. rw t)
    (λ t. rw (t, one_more (position_or_len (λ b. eqb b 35) l)) (ap (λ (m : List ℕ). b ∷ m) (before_comment l)))

some_within : (l : List ℕ) (k : ℕ) → position (λ b. eqb b 35) l ≡ Some k → k ≤ length l
some_within l k e = omega (arith, (position-Some (λ b. eqb b 35) l k 0 e).0)

some_cut : (l : List ℕ) (k : ℕ) → position (λ b. eqb b 35) l ≡ Some k → take k l ≡ uncommented l
some_cut l k e =
    split (ltb (position_or_len (λ b. eqb b 35) l) (length l))
    (λ t.
    let f : ◌≡◌ {A = Option ℕ} (Some (position_or_len (λ b. eqb b 35) l)) (Some k) = rw t at e in
    let g : position_or_len (λ b. eqb b 35) l ≡ k = cc in
    rw (← g) (before_comment l))
    (λ t. let f : ◌≡◌ {A = Option ℕ} None (Some k) = rw t at e in cc)

none-cut : (l : List ℕ) → position (λ b. eqb b 35) l ≡ None → l ≡ uncommented l
none-cut l e =
    split (ltb (position_or_len (λ b. eqb b 35) l) (length l))
    (λ t. let f : ◌≡◌ {A = Option ℕ} (Some (position_or_len (λ b. eqb b 35) l)) None = rw t at e in cc)
    (λ t. sym (take_all (position_or_len (λ b. eqb b 35) l) l (ltb-false (position_or_len (λ b. eqb b 35) l) (length l) t)) ∙ before_comment l)

pub comment_within : (l : List ℕ) (o : Option ℕ) (k : ℕ) → o ≡ position (λ b. eqb b 35) l → k ≡ unwrap_or o (length l) → k ≤ length l
comment_within l (Some p) k e f = let g : k ≡ p = f in omega (arith, some_within l p (sym e))
comment_within l None k e f = let g : k ≡ length l = f in omega arith

pub comment_cut : (l : List ℕ) (o : Option ℕ) (k : ℕ) → o ≡ position (λ b. eqb b 35) l → k ≡ unwrap_or o (length l) → take k l ≡ uncommented l
comment_cut l (Some p) k e f = let g : k ≡ p = f in rw g (some_cut l p (sym e))
comment_cut l None k e f = let g : k ≡ length l = f in rw g (take_all (length l) l (omega arith) ∙ none-cut l (sym e))

-- the blanks that a text begins with, and the bytes before its first blank
pub blanks_counted : (l : List ℕ) → length (take_while blank l) ≡ blanks_in l
unfolding blanks_in
blanks_counted [] = refl
blanks_counted (b ∷ l) = split (blank b) (λ t. rw (t, one_more (prefix_len blank l)) (ap suc (blanks_counted l))) (λ t. rw t)

pub solid_counted : (l : List ℕ) → length (take_while (λ b. not (blank b)) l) ≡ solid_in l
unfolding solid_in
solid_counted [] = refl
solid_counted (b ∷ l) =
    split (blank b) (λ t. rw t) (λ t. rw (t, one_more (prefix_len (λ b. not (blank b)) l)) (ap suc (solid_counted l)))

-- a control byte of ASCII
pub control_is : (b : ℕ) → is_ascii_control b ≡ (ltb b 32 || eqb b 127)
control_is b = split (eqb b 127) (λ t. rw (eqb-true b 127 t)) (λ t. rw t (grind (arith, eqb-false b 127 t)))
