-- A text with no comment and a reference behind it: its words are those of the text, and its reference is that one.
-- Assumes nothing.
use Rattle.std.proofs.Common.{◌≡◌, ℕ, zero, suc, ◌+◌, ◌-◌, ◌≤◌, ◌<◌, Bool, true, false, cond, ◌&&◌, ◌||◌, List, [], ◌∷◌, ◌++◌, length, take, drop, refl, sym, ap, ◌∙◌, arith, eqb, append-nil, take_all}
use Rattle.std.proofs.lemmas.List.{length-take}
use Rattle.laws.specs.Cases.{split}
use Rattle.words.specs.Bytes.{blank, each, some, control, uncommented}
use Rattle.words.specs.Words.{apart, onto, words, blanks_in}
use Rattle.words.specs.Comments.{comment_of, trimmed, reference_of, commented}

-- ---- a text with no comment, and one behind it

no-cons : {G : Type 0} (b : ℕ) (l : List ℕ) → [] ≡ b ∷ l → G
no-cons b l e = let n : 0 ≡ suc (length l) = ap length e in absurd (omega (arith, n))

tail-of : (b : ℕ) (l m : List ℕ) → b ∷ l ≡ b ∷ m → l ≡ m
tail-of b l m e = ap (drop 1) e

pub uncommented-then : (p t : List ℕ) → uncommented p ≡ p → uncommented (p ++ (32 ∷ 35 ∷ t)) ≡ p ++ (32 ∷ [])
unfolding uncommented
uncommented-then [] t e = refl
uncommented-then (b ∷ p) t e =
    split (eqb b 35) (λ h. no-cons b p (rw h at e))
    (λ h.
    let f : b ∷ uncommented p ≡ b ∷ p = rw h at e in
    rw h (ap (λ (z : List ℕ). b ∷ z) (uncommented-then p t (tail-of b (uncommented p) p f))))

pub comment-then : (p t : List ℕ) → uncommented p ≡ p → comment_of (p ++ (32 ∷ 35 ∷ t)) ≡ t
unfolding uncommented comment_of
comment-then [] t e = refl
comment-then (b ∷ p) t e =
    split (eqb b 35) (λ h. no-cons b p (rw h at e))
    (λ h.
    let f : b ∷ uncommented p ≡ b ∷ p = rw h at e in
    rw h (comment-then p t (tail-of b (uncommented p) p f)))

pub no-comment : (p : List ℕ) → uncommented p ≡ p → comment_of p ≡ []
unfolding uncommented comment_of
no-comment [] e = refl
no-comment (b ∷ p) e =
    split (eqb b 35) (λ h. no-cons b p (rw h at e))
    (λ h.
    let f : b ∷ uncommented p ≡ b ∷ p = rw h at e in
    rw h (no-comment p (tail-of b (uncommented p) p f)))

-- a blank behind a text is no word and no control byte
apart-then : (p : List ℕ) → apart (p ++ (32 ∷ [])) ≡ apart p
unfolding apart blank
apart-then [] = refl
apart-then (b ∷ p) = refl

pub words-then : (p : List ℕ) → words (p ++ (32 ∷ [])) ≡ words p
unfolding words blank
words-then [] = refl
words-then (b ∷ p) = rw (apart-then p, words-then p) refl

pub control-then : (p : List ℕ) → some control (p ++ (32 ∷ [])) ≡ some control p
unfolding some control blank
control-then [] = refl
control-then (b ∷ p) = rw (control-then p) refl

-- ---- a reference

trimmed-few : (l : List ℕ) → length (trimmed l) ≤ length l
unfolding trimmed
trimmed-few [] = omega arith
trimmed-few (b ∷ l) = split (each blank (b ∷ l)) (λ t. rw t (omega arith)) (λ t. rw t (omega (arith, trimmed-few l)))

pub reference_few : (l : List ℕ) → length (reference_of l) ≤ 1000
unfolding reference_of
reference_few l =
    let x = drop (blanks_in (comment_of l)) (comment_of l) in
    omega (arith, trimmed-few (take 1000 x), length-take 1000 x)

each-none : {t : Bool} → t ≡ true → each blank [] ≡ t
unfolding each
each-none e = sym e

each-on : (b : ℕ) (l m : List ℕ) → each blank l ≡ each blank m → each blank (b ∷ l) ≡ each blank (b ∷ m)
unfolding each
each-on b l m e = ap (λ (t : Bool). blank b && t) e

each-first : (b : ℕ) (l : List ℕ) → blank b ≡ false → each blank (b ∷ l) ≡ false
unfolding each
each-first b l e = rw e refl

trimmed-blank : (b : ℕ) (l : List ℕ) → each blank (b ∷ l) ≡ true → trimmed (b ∷ l) ≡ []
unfolding trimmed
trimmed-blank b l e = rw e refl

trimmed-on : (b : ℕ) (l : List ℕ) → each blank (b ∷ l) ≡ false → trimmed (b ∷ l) ≡ b ∷ trimmed l
unfolding trimmed
trimmed-on b l e = rw e refl

trimmed-none : trimmed [] ≡ []
unfolding trimmed
trimmed-none = refl

each-trimmed : (l : List ℕ) → each blank (trimmed l) ≡ each blank l
each-trimmed [] = ap (each blank) trimmed-none
each-trimmed (b ∷ l) =
    split (each blank (b ∷ l)) (λ t. ap (each blank) (trimmed-blank b l t) ∙ each-none t)
    (λ t. ap (each blank) (trimmed-on b l t) ∙ each-on b (trimmed l) l (each-trimmed l))

trimmed-twice : (l : List ℕ) → trimmed (trimmed l) ≡ trimmed l
trimmed-twice [] = ap trimmed trimmed-none
trimmed-twice (b ∷ l) =
    split (each blank (b ∷ l)) (λ t. ap trimmed (trimmed-blank b l t) ∙ trimmed-none ∙ sym (trimmed-blank b l t))
    (λ t.
    ap trimmed (trimmed-on b l t)
    ∙ trimmed-on b (trimmed l) (each-on b (trimmed l) l (each-trimmed l) ∙ t)
    ∙ ap (λ (z : List ℕ). b ∷ z) (trimmed-twice l)
    ∙ sym (trimmed-on b l t))

-- it does not begin with a blank
no-blanks : (l : List ℕ) → blanks_in (drop (blanks_in l) l) ≡ 0
unfolding blanks_in
no-blanks [] = refl
no-blanks (b ∷ l) = split (blank b) (λ t. rw t (no-blanks l)) (λ t. rw (t, t) refl)

starts-taken : (n : ℕ) (l : List ℕ) → blanks_in l ≡ 0 → blanks_in (take n l) ≡ 0
unfolding blanks_in
starts-taken zero l e = refl
starts-taken (suc n) [] e = refl
starts-taken (suc n) (b ∷ l) e =
    split (blank b) (λ t. let f : suc (blanks_in l) ≡ 0 = rw t at e in absurd (omega (arith, f))) (λ t. rw t refl)

starts-trimmed : (l : List ℕ) → blanks_in l ≡ 0 → blanks_in (trimmed l) ≡ 0
unfolding blanks_in
starts-trimmed [] e = ap blanks_in trimmed-none
starts-trimmed (b ∷ l) e =
    split (blank b) (λ t. let f : suc (blanks_in l) ≡ 0 = rw t at e in absurd (omega (arith, f)))
    (λ t. ap blanks_in (trimmed-on b l (each-first b l t)) ∙ starts-first t)
  where
    starts-first : blank b ≡ false → blanks_in (b ∷ trimmed l) ≡ 0
    starts-first t = rw t refl

reference-starts : (l : List ℕ) → blanks_in (reference_of l) ≡ 0
unfolding reference_of
reference-starts l =
    let x = drop (blanks_in (comment_of l)) (comment_of l) in
    starts-trimmed (take 1000 x) (starts-taken 1000 x (no-blanks (comment_of l)))

reference-trimmed : (l : List ℕ) → trimmed (reference_of l) ≡ reference_of l
unfolding reference_of
reference-trimmed l = trimmed-twice (take 1000 (drop (blanks_in (comment_of l)) (comment_of l)))

-- ---- a reference behind a text

one-blank : (r : List ℕ) → blanks_in r ≡ 0 → drop (blanks_in (32 ∷ r)) (32 ∷ r) ≡ r
unfolding blanks_in blank
one-blank r e = rw e refl

none-behind : (p : List ℕ) → uncommented p ≡ p → reference_of p ≡ []
unfolding reference_of blanks_in trimmed
none-behind p e = rw (no-comment p e) refl

pub reference-none : (p : List ℕ) → uncommented p ≡ p → reference_of p ≡ []
reference-none = none-behind

again-by : (p r : List ℕ) → uncommented p ≡ p → blanks_in r ≡ 0 → length r ≤ 1000 → trimmed r ≡ r → reference_of (p ++ commented r) ≡ r
unfolding reference_of commented
again-by p [] e s f t = ap (λ (l : List ℕ). trimmed (take 1000 (drop (blanks_in (comment_of l)) (comment_of l)))) (append-nil p) ∙ none-behind p e
again-by p (b ∷ r) e s f t =
    ap (λ (c : List ℕ). trimmed (take 1000 (drop (blanks_in c) c))) (comment-then p (32 ∷ b ∷ r) e)
    ∙ ap (λ (x : List ℕ). trimmed (take 1000 x)) (one-blank (b ∷ r) s)
    ∙ ap trimmed (take_all 1000 (b ∷ r) f)
    ∙ t

-- A line's reference behind a text with no comment is the reference of both together.
pub reference-again : (p l : List ℕ) → uncommented p ≡ p → reference_of (p ++ commented (reference_of l)) ≡ reference_of l
reference-again p l e = again-by p (reference_of l) e (reference-starts l) (reference_few l) (reference-trimmed l)
