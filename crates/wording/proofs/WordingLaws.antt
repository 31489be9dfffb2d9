-- The wording as it is written piece by piece.
-- Assumes nothing.
use Rattle.std.proofs.Common.{◌≡◌, ℕ, ◌≤◌, ◌<◌, List, [], ◌∷◌, ◌++◌, length, take, get_or, min, refl, sym, ap, ◌∙◌, append-nil, true, arith, take_all, leb, leb-true, leb-false}
use lib.ListN.{get_or-eq_default}
use Rattle.laws.specs.Cases.{split}
use Rattle.words.specs.Words.{apart}
use Rattle.words.specs.Bytes.{blank}
use Rattle.printing.specs.Written.{Sheet, followed}
use Rattle.printing.specs.WrittenLaws.{followed_none, followed_twice}
use Rattle.wording.specs.Wording.{causes, cause_text, because, comma_hint, word_text}

-- Two texts and more, one behind the other.
pub two_put : (s t u : Sheet) (a b : List ℕ) → t ≡ followed s a → u ≡ followed t b → u ≡ followed s (a ++ b)
two_put s t u a b x y = rw (y, x, followed_twice)

pub three_put : (s t u v : Sheet) (a b c : List ℕ) → t ≡ followed s a → u ≡ followed t b → v ≡ followed u c → v ≡ followed s (a ++ b ++ c)
three_put s t u v a b c x y z = two_put s u v (a ++ b) c (two_put s t u a b x y) z

pub six_put : (s t u v w x y : Sheet) (a b c d e f : List ℕ) → t ≡ followed s a → u ≡ followed t b → v ≡ followed u c → w ≡ followed v d
    → x ≡ followed w e → y ≡ followed x f → y ≡ followed s (a ++ b ++ c ++ d ++ e ++ f)
six_put s t u v w x y a b c d e f g h i j k l =
    two_put s x y (a ++ b ++ c ++ d ++ e) f (three_put s v w x (a ++ b ++ c) d e (three_put s t u v a b c g h i) j k) l

-- a number that no cause has
pub no_cause : (n : ℕ) → 26 ≤ n → cause_text n ≡ []
unfolding cause_text causes
no_cause n h = get_or-eq_default causes [] h

pub cause_zero : (n : ℕ) → n ≡ 0 → [] ≡ cause_text n
unfolding cause_text causes
cause_zero n e = rw e refl

-- a clause, and none
pub because_none : (s : Sheet) (clause t : List ℕ) → length clause ≡ 0 → s ≡ followed s (because clause t)
unfolding because
because_none s [] t h = sym (followed_none s)
because_none s (b ∷ clause) t h = absurd (omega arith)

because-is : (clause t : List ℕ) → 0 < length clause → because clause t ≡ (32 ∷ 32 ∷ []) ++ (clause ++ t)
unfolding because
because-is [] t h = absurd (omega arith)
because-is (b ∷ clause) t h = refl

pub because_some : (s t u : Sheet) (clause : List ℕ) → 0 < length clause → t ≡ followed s (32 ∷ 32 ∷ []) → u ≡ followed t clause
    → u ≡ followed s (because clause [])
because_some s t u clause h x y = rw (because-is clause [] h, append-nil clause) (two_put s t u (32 ∷ 32 ∷ []) clause x y)

pub pair_none : (s t : Sheet) (clause p : List ℕ) → length clause ≡ 0 → t ≡ followed s (because clause []) → t ≡ followed s (because clause p)
unfolding because
pair_none s t [] p h x = x
pair_none s t (b ∷ clause) p h x = absurd (omega arith)

pub pair_some : (s t u : Sheet) (clause p : List ℕ) → 0 < length clause → t ≡ followed s (because clause []) → u ≡ followed t p
    → u ≡ followed s (because clause p)
unfolding because
pair_some s t u [] p h x y = absurd (omega arith)
pair_some s t u (b ∷ clause) p h x y =
    let e : (32 ∷ 32 ∷ b ∷ (clause ++ [])) ++ p ≡ 32 ∷ 32 ∷ b ∷ (clause ++ p) = ap (λ (z : List ℕ). (32 ∷ 32 ∷ b ∷ z) ++ p) (append-nil clause) in
    rw e at (two_put s t u (32 ∷ 32 ∷ b ∷ (clause ++ [])) p x y)

-- the word that is wrong, and none
pub word_none : (s : Sheet) (w : List ℕ) → length w ≡ 0 → s ≡ followed s (word_text w)
unfolding word_text
word_none s [] h = sym (followed_none s)
word_none s (b ∷ w) h = absurd (omega arith)

few : (w : List ℕ) (n : ℕ) → n ≡ min (length w) 40 → take n w ≡ take 40 w
few w n e =
    split (leb (length w) 40) (λ t. let l = leb-true (length w) 40 t in take_all n w (omega arith) ∙ sym (take_all 40 w l))
    (λ t. let l = leb-false (length w) 40 t in let k : n ≡ 40 = omega arith in rw k)

pub word_some : (s t u v : Sheet) (w m : List ℕ) (n : ℕ) → 0 < length w → n ≡ min (length w) 40 → m ≡ take n w → t ≡ followed s (58 ∷ 32 ∷ [])
    → u ≡ followed t m → v ≡ followed u (comma_hint w) → v ≡ followed s (word_text w)
unfolding word_text
word_some s t u v [] m n h k f x y z = absurd (omega arith)
word_some s t u v (b ∷ w) m n h k f x y z =
    three_put s t u v (58 ∷ 32 ∷ []) (take 40 (b ∷ w)) (comma_hint (b ∷ w)) x (rw (f, few (b ∷ w) n k) at y) z

-- whether a word goes on
pub apart_none : (t : List ℕ) → length t ≡ 0 → apart t ≡ true
unfolding apart
apart_none [] h = refl
apart_none (b ∷ t) h = absurd (omega arith)

pub apart_some : (t : List ℕ) → 0 < length t → apart t ≡ blank (get_or t 0 0)
unfolding apart
apart_some [] h = absurd (omega arith)
apart_some (b ∷ t) h = refl
