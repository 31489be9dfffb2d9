-- The last line of a text is what stands behind its last newline.
-- Assumes nothing.
use Rattle.std.proofs.Common.{◌≡◌, ◌≢◌, ℕ, zero, suc, ◌+◌, ◌-◌, ◌<◌, ◌≤◌, List, [], ◌∷◌, ◌++◌, length, get_or, take, drop, sym, refl, ap, ◌∙◌, arith, length-drop, take-append-drop, ne_eqb}
use Rattle.std.proofs.lemmas.List.{get_or-drop}
use Rattle.std.proofs.Math.Seq.{take-suc}
use Rattle.dialogue.specs.Split.{lines_in, rest_in}
use Rattle.dialogue.proofs.CompleteLines.{Plain, none_rest, rest_plain, rest-first}
use Rattle.dialogue.proofs.SplitLaws.{rest-cut, rest-behind}
use Rattle.serving.proofs.PartLaws.{rest_all}

-- Bytes none of which is a newline have no complete line.
plain : (s : List ℕ) → ((k : ℕ) → k < length s → get_or s k 0 ≢ 10) → Plain s
plain [] h = tt
plain (b ∷ s) h = (ne_eqb b 10 (h 0 (omega arith)), plain s (λ k l. h (suc k) (omega arith)))

no-line : (s : List ℕ) → Plain s → lines_in s ≡ []
unfolding lines_in
no-line [] p = refl
no-line (b ∷ s) p = rw (p.0, no-line s p.1) refl

-- Bytes up to a newline leave nothing.
no-bytes : rest_in [] ≡ []
unfolding rest_in
no-bytes = refl

ended-whole : (s : List ℕ) (k : ℕ) → k ≤ length s → (0 < k → get_or s (k - 1) 0 ≡ 10) → rest_in (take k s) ≡ []
ended-whole s zero h e = no-bytes
ended-whole s (suc k) h e =
    let less : suc k - 1 ≡ k = omega arith in
    let byte : get_or s k 0 ≡ 10 = ap (λ (n : ℕ). get_or s n 0) (sym less) ∙ e (omega arith) in
    ap rest_in (take-suc s k 0 (omega arith) ∙ ap (λ (b : ℕ). take k s ++ (b ∷ [])) byte)
    ∙ rest-cut (take k s) (10 ∷ [])
    ∙ rest-first (rest_in (take k s)) [] (rest_plain (take k s))
    ∙ no-bytes

is_rest : (s : List ℕ) (k : ℕ) → k ≤ length s → (0 < k → get_or s (k - 1) 0 ≡ 10)
    → ((i : ℕ) → k ≤ i → i < length s → get_or s i 0 ≢ 10) → drop k s ≡ rest_in s
is_rest s k h e n =
    let none : Plain (drop k s) =
    plain (drop k s)
    (λ i l f. n (k + i) (omega arith) (omega (arith, l, length-drop k s)) (sym (get_or-drop k s i 0) ∙ f)) in
    sym (none_rest (drop k s) (no-line (drop k s) none)) ∙ sym (rest-behind (take k s) (drop k s) (ended-whole s k h e))
    ∙ ap rest_in (take-append-drop k s)

-- The last of some lines whose text ends with one byte more.
pub last_rest : (text : List ℕ) (n k : ℕ) → n ≡ length text - 1 → k ≤ length (take n text) → (0 < k → get_or (take n text) (k - 1) 0 ≡ 10)
    → ((i : ℕ) → k ≤ i → i < length (take n text) → get_or (take n text) i 0 ≢ 10)
    → take (length (take n text) - k) (drop k (take n text)) ≡ rest_in (take (length text - 1) text)
last_rest text n k m h e f =
    rest_all (take n text) k ∙ is_rest (take n text) k h e f ∙ ap (λ (j : ℕ). rest_in (take j text)) m
