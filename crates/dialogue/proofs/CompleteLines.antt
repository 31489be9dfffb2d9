-- Complete lines and their newlines: lines written with newlines are just those lines, and a list is its lines and the rest.
-- Assumes nothing.
use Rattle.std.proofs.Common.{◌≡◌, ℕ, true, false, eqb, List, [], ◌∷◌, ◌++◌, take, drop, sym, refl, ap, ◌∙◌, append-nil, arith, take-append-drop, eqb-true}
use Rattle.laws.specs.Cases.{split}
use Rattle.laws.specs.Lists.{All}
use Rattle.dialogue.specs.Split.{ahead, lines_in, behind, rest_in, with_newlines}
use Rattle.dialogue.proofs.SplitLaws.{lines-behind}

-- ---- no line, one line, all lines

-- Where a part of an input ends with a newline and no complete line stands behind it, its lines are all lines of the input.
pub all_lines : (input : List ℕ) (used : ℕ) → rest_in (take used input) ≡ [] → lines_in (drop used input) ≡ []
    → lines_in (take used input) ≡ lines_in input
all_lines input used whole all =
    sym (append-nil (lines_in (take used input))) ∙ ap (λ (ls : List (List ℕ)). lines_in (take used input) ++ ls) (sym all)
    ∙ sym (lines-behind (take used input) (drop used input) whole) ∙ ap lines_in (take-append-drop used input)

no-cons : {G : Type 0} (l : List ℕ) (ls : List (List ℕ)) → (l ∷ ls) ≡ [] → G
no-cons l ls g = let z : ◌≡◌ {A = ℕ} 0 1 = cc in absurd (omega arith)

none-behind : (b : ℕ) (ls : List (List ℕ)) → ahead b ls ≡ [] → ls ≡ []
none-behind b [] g = refl
none-behind b (l ∷ ls) g = no-cons (b ∷ l) ls g

-- What has no complete line is all rest.
pub none_rest : (s : List ℕ) → lines_in s ≡ [] → rest_in s ≡ s
unfolding lines_in rest_in
none_rest [] e = refl
none_rest (b ∷ s) e =
    split (eqb b 10) (λ t. let g : ([] ∷ lines_in s) ≡ [] = rw t at e in no-cons [] (lines_in s) g)
    (λ t.
    let g : ahead b (lines_in s) ≡ [] = rw t at e in
    let n : lines_in s ≡ [] = none-behind b (lines_in s) g in
    rw (t, n) (ap (◌∷◌ b) (none_rest s n)))

-- No byte of a line is a newline.
abbrev pub Plain : List ℕ → Type 0
Plain [] = Unit {0}
Plain (b ∷ l) = (eqb b 10 ≡ false) × Plain l

-- No byte of the rest is one.
behind-plain : (b : ℕ) (ls : List (List ℕ)) (rest : List ℕ) → eqb b 10 ≡ false → Plain rest → Plain (behind b ls rest)
behind-plain b [] rest t p = (t, p)
behind-plain b (l ∷ ls) rest t p = p

pub rest_plain : (s : List ℕ) → Plain (rest_in s)
unfolding rest_in
rest_plain [] = tt
rest_plain (b ∷ s) =
    split (eqb b 10) (λ t. rw t (rest_plain s)) (λ t. rw t (behind-plain b (lines_in s) (rest_in s) t (rest_plain s)))

-- What has begun stands before the first line of what follows.
pub begun_lines : (r b l : List ℕ) (ls : List (List ℕ)) → Plain r → lines_in b ≡ l ∷ ls → lines_in (r ++ b) ≡ (r ++ l) ∷ ls
unfolding lines_in
begun_lines [] b l ls p e = e
begun_lines (x ∷ r) b l ls p e = rw (p.0, begun_lines r b l ls p.1 e)

-- ---- lines with their newlines

-- A line with its newline, before others.
pub line_first : (l t : List ℕ) → Plain l → lines_in (l ++ (10 ∷ t)) ≡ l ∷ lines_in t
unfolding lines_in
line_first [] t h = refl
line_first (b ∷ l) t h = rw (h.0, line_first l t h.1)

pub rest-first : (l t : List ℕ) → Plain l → rest_in (l ++ (10 ∷ t)) ≡ rest_in t
unfolding lines_in rest_in
rest-first [] t h = refl
rest-first (b ∷ l) t h = rw (h.0, line_first l t h.1) (rest-first l t h.1)

-- Lines written one after the other, each with its newline, are just those lines, and nothing is left.
pub lines-back : (ls : List (List ℕ)) → All Plain ls → lines_in (with_newlines ls) ≡ ls
unfolding with_newlines lines_in
lines-back [] h = refl
lines-back (l ∷ ls) h = line_first l (with_newlines ls) h.0 ∙ ap (◌∷◌ l) (lines-back ls h.1)

pub no-rest : (ls : List (List ℕ)) → All Plain ls → rest_in (with_newlines ls) ≡ []
unfolding with_newlines rest_in
no-rest [] h = refl
no-rest (l ∷ ls) h = rest-first l (with_newlines ls) h.0 ∙ no-rest ls h.1

-- A list is its lines with their newlines, and the rest.
join-ahead : (b : ℕ) (ls : List (List ℕ)) (rest s : List ℕ) → with_newlines ls ++ rest ≡ s → with_newlines (ahead b ls) ++ behind b ls rest ≡ b ∷ s
unfolding with_newlines
join-ahead b [] rest s e = ap (◌∷◌ b) e
join-ahead b (l ∷ ls) rest s e = ap (◌∷◌ b) e

newline : (b : ℕ) (x s : List ℕ) → eqb b 10 ≡ true → x ≡ s → 10 ∷ x ≡ b ∷ s
newline b x s t e = let k : b ≡ 10 = eqb-true b 10 t in rw (k, e)

pub joined-again : (s : List ℕ) → with_newlines (lines_in s) ++ rest_in s ≡ s
unfolding lines_in rest_in with_newlines
joined-again [] = refl
joined-again (b ∷ s) =
    split (eqb b 10) (λ t. rw t (newline b (with_newlines (lines_in s) ++ rest_in s) s t (joined-again s)))
    (λ t. rw t (join-ahead b (lines_in s) (rest_in s) s (joined-again s)))
