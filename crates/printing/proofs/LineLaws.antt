-- The lines of calls and answers as they are written.
-- Assumes nothing.
use Rattle.std.proofs.Common.{◌≡◌, ℕ, ◌+◌, ◌≤◌, ◌<◌, List, [], ◌∷◌, ◌++◌, length, take, drop, get_or, map, ℤ, refl, sym, ap, ◌∙◌, add-one, append-nil, drop-cons, drop_of_length-le}
use Rattle.printing.specs.Decimals.{decimal, integer, spaced, joined}
use Rattle.printing.specs.Lines.{cut, list_words}
use Rattle.printing.specs.Written.{Sheet, followed}
use Rattle.printing.specs.WrittenLaws.{followed_none, spaced-append, joined_more, followed_part}

-- nothing is written
pub nothing_put : (s : Sheet) → s ≡ followed s []
nothing_put s = sym (followed_none s)

blank-first : (x : List ℕ) (b : List (List ℕ)) → joined ((32 ∷ x) ∷ b) ≡ spaced (x ∷ b)
unfolding joined spaced
blank-first x b = refl

-- a word alone
pub word_alone : (s u : Sheet) (w : List ℕ) → u ≡ followed s w → u ≡ followed s (joined (w ∷ []))
unfolding joined spaced
word_alone s u w h = rw (append-nil w) h

-- words behind words, of which the first is written with a blank before it
pub words_more : (s u v : Sheet) (w x : List ℕ) (a b : List (List ℕ)) → u ≡ followed s (joined (w ∷ a)) → v ≡ followed u (joined ((32 ∷ x) ∷ b))
    → v ≡ followed s (joined (w ∷ (a ++ (x ∷ b))))
words_more s u v w x a b p q = joined_more s u v w a (x ∷ b) p (q ∙ ap (λ (t : List ℕ). followed u t) (blank-first x b))

-- Lists, one by one.

-- the next list and the rest
lists_first : (ks : List ℕ) (zs : List ℤ) (i n : ℕ) → i < length ks → n ≡ get_or ks i 0
    → spaced (list_words (cut (drop i ks) zs))
    ≡ spaced (decimal (length (take n zs)) ∷ map integer (take n zs)) ++ spaced (list_words (cut (drop (i + 1) ks) (drop n zs)))
unfolding cut list_words
lists_first ks zs i n h e =
    let o : drop i ks ≡ n ∷ drop (i + 1) ks = rw (e, add-one i) (drop-cons ks i 0 h) in
    rw o
    (spaced-append (decimal (length (take n zs)) ∷ map integer (take n zs)) (list_words (cut (drop (i + 1) ks) (drop n zs))))

pub lists_step : (s u w : Sheet) (ks : List ℕ) (zs list rest : List ℤ) (i n : ℕ) → i < length ks → n ≡ get_or ks i 0
    → list ≡ take n zs → rest ≡ drop n zs → followed s (spaced (list_words (cut (drop i ks) zs))) ≡ w
    → u ≡ followed s (spaced (decimal (length list) ∷ map integer list)) → followed u (spaced (list_words (cut (drop (i + 1) ks) rest))) ≡ w
lists_step s u w ks zs list rest i n h e a b x y = rw b (followed_part s u w _ _ _ x (lists_first ks zs i n h e) (rw a at y))

pub lists_done : (ks : List ℕ) (zs : List ℤ) (i : ℕ) → length ks ≤ i → spaced (list_words (cut (drop i ks) zs)) ≡ []
unfolding cut list_words spaced
lists_done ks zs i h = rw (drop_of_length-le ks h)
