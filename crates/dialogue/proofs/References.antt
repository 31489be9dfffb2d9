-- A reference behind a call: it is no part of the call, it is found again, it has no newline and is short.
-- Assumes nothing.
use Rattle.std.proofs.Common.{◌≡◌, ℕ, zero, suc, ◌+◌, ◌≤◌, Bool, true, false, cond, eqb, List, [], ◌∷◌, ◌++◌, length, take, drop, get_or, ℤ, sym, refl, ap, ◌∙◌, append-nil, arith}
use mathlib.Core.Bool.{and-false}
use Rattle.laws.specs.Cases.{split, by-test}
use Rattle.laws.specs.Lists.{All}
use Rattle.words.specs.Bytes.{blank, each, some, control, uncommented}
use Rattle.words.specs.Words.{words, blanks_in}
use Rattle.words.specs.Comments.{comment_of, trimmed, reference_of, commented}
use Rattle.words.proofs.ReferenceLaws.{uncommented-then, words-then, control-then, reference_few, reference-again}
use Rattle.journal.specs.Grammar.{Parsed, plain, words_of, parsed}
use Rattle.journal.specs.declared.Reason.{Reason}
use Rattle.journal.specs.declared.Request.{Request}
use Rattle.printing.specs.Decimals.{joined}
use Rattle.printing.specs.Lines.{call_words, printed}
use Rattle.printing.proofs.PlainWords.{uncommented-line, joined_line}
use Rattle.printing.proofs.RoundTrip.{call-words}
use Rattle.answering.specs.Asked.{Asked, asked}
use Rattle.answering.specs.Kept.{fresh_first}
use Rattle.answering.specs.Lines.{line_request}
use Rattle.dialogue.specs.declared.Way.{Way}
use Rattle.dialogue.specs.declared.Place.{Place}
use Rattle.dialogue.specs.Split.{ahead, lines_in}
use Rattle.dialogue.specs.Asks.{mark_length, text_of, held_back, request_of, asks}
use Rattle.dialogue.specs.Turns.{numeric, kept_text}
use Rattle.dialogue.proofs.CompleteLines.{Plain}
use Rattle.dialogue.proofs.KeptForm.{printed-plain, printed-text, unmarked, first_byte}

-- ---- no newline

plain-append : (a b : List ℕ) → Plain a → Plain b → Plain (a ++ b)
plain-append [] b p q = q
plain-append (x ∷ a) b p q = (p.0, plain-append a b p.1 q)

plain-drop : (n : ℕ) (l : List ℕ) → Plain l → Plain (drop n l)
plain-drop zero l p = p
plain-drop (suc n) [] p = tt
plain-drop (suc n) (b ∷ l) p = plain-drop n l p.1

plain-take : (n : ℕ) (l : List ℕ) → Plain l → Plain (take n l)
plain-take zero l p = tt
plain-take (suc n) [] p = tt
plain-take (suc n) (b ∷ l) p = (p.0, plain-take n l p.1)

plain-trimmed : (l : List ℕ) → Plain l → Plain (trimmed l)
unfolding trimmed
plain-trimmed [] p = tt
plain-trimmed (b ∷ l) p =
    by-test (each blank (b ∷ l)) [] (b ∷ trimmed l) Plain (λ t. tt) (λ t. (p.0, plain-trimmed l p.1))

plain-comment : (l : List ℕ) → Plain l → Plain (comment_of l)
unfolding comment_of
plain-comment [] p = tt
plain-comment (b ∷ l) p = by-test (eqb b 35) l (comment_of l) Plain (λ t. p.1) (λ t. plain-comment l p.1)

plain-reference : (l : List ℕ) → Plain l → Plain (reference_of l)
unfolding reference_of
plain-reference l p =
    let c = comment_of l in
    plain-trimmed (take 1000 (drop (blanks_in c) c)) (plain-take 1000 (drop (blanks_in c) c) (plain-drop (blanks_in c) c (plain-comment l p)))

plain-commented : (r : List ℕ) → Plain r → Plain (commented r)
unfolding commented
plain-commented [] p = tt
plain-commented (b ∷ r) p = (refl, (refl, (refl, p)))

plain-text : (before : ℕ) (l : List ℕ) → Plain l → Plain (text_of before l)
unfolding text_of
plain-text before l p = plain-drop (mark_length before l) l p

pub kept-plain : (room before : ℕ) (l : List ℕ) → Plain l → Plain (kept_text room before l)
unfolding kept_text numeric
kept-plain room before l p =
    let text = text_of before l in
    plain-append (printed (parsed room text).request (parsed room text).numbers) (commented (reference_of text))
    (printed-plain (parsed room text).request (parsed room text).numbers)
    (plain-commented (reference_of text) (plain-reference text (plain-text before l p)))

-- The lines of an input have none.
ahead-plain : (b : ℕ) (ls : List (List ℕ)) → eqb b 10 ≡ false → All Plain ls → All Plain (ahead b ls)
ahead-plain b [] e a = tt
ahead-plain b (l ∷ ls) e a = ((e, a.0), a.1)

pub lines-plain : (s : List ℕ) → All Plain (lines_in s)
unfolding lines_in
lines-plain [] = tt
lines-plain (b ∷ s) =
    by-test (eqb b 10) ([] ∷ lines_in s) (ahead b (lines_in s)) (All Plain) (λ t. (tt, lines-plain s))
    (λ t. ahead-plain b (lines_in s) t (lines-plain s))

-- ---- it is short

pub commented-few : (r : List ℕ) → length r ≤ 1000 → length (commented r) ≤ 1003
unfolding commented
commented-few [] h = omega arith
commented-few (b ∷ r) h = omega arith

pub reference-short : (l : List ℕ) → length (commented (reference_of l)) ≤ 1003
reference-short l = commented-few (reference_of l) (reference_few l)

-- ---- it is no part of the call

-- A printed call has no comment.
pub printed-bare : (r : Request) (zs : List ℤ) → uncommented (printed r zs) ≡ printed r zs
unfolding printed
printed-bare r zs = uncommented-line (joined (call_words r zs)) (joined_line (call_words r zs) (call-words r zs))

parsed-behind : (room : ℕ) (p t : List ℕ) → uncommented p ≡ p → parsed room (p ++ (32 ∷ 35 ∷ t)) ≡ parsed room p
unfolding parsed
parsed-behind room p t e =
    ap (λ (l : List ℕ). cond (some control l) (plain (Request.Error Reason.ControlByte)) (words_of room (words l))) (uncommented-then p t e)
    ∙ ap (λ (z : Bool). cond z (plain (Request.Error Reason.ControlByte)) (words_of room (words (p ++ (32 ∷ []))))) (control-then p)
    ∙ ap (λ (ws : List (List ℕ)). cond (some control p) (plain (Request.Error Reason.ControlByte)) (words_of room ws)) (words-then p)
    ∙ ap (λ (l : List ℕ). cond (some control l) (plain (Request.Error Reason.ControlByte)) (words_of room (words l))) (sym e)

pub parsed-commented : (room : ℕ) (p r : List ℕ) → uncommented p ≡ p → parsed room (p ++ commented r) ≡ parsed room p
unfolding commented
parsed-commented room p [] e = ap (parsed room) (append-nil p)
parsed-commented room p (b ∷ r) e = parsed-behind room p (32 ∷ b ∷ r) e

-- ---- no byte order mark

-- The first byte, if any, is that of a name or the blank before a reference.
commented-first : (c : List ℕ) → eqb (get_or (commented c) 0 0) 239 ≡ false
unfolding commented
commented-first [] = refl
commented-first (b ∷ c) = refl

first-kept : (p c : List ℕ) → eqb (get_or p 0 0) 239 ≡ false → eqb (get_or (p ++ commented c) 0 0) 239 ≡ false
first-kept [] c e = commented-first c
first-kept (b ∷ p) c e = e

pub behind-text : (before : ℕ) (r : Request) (zs : List ℤ) (c : List ℕ) → text_of before (printed r zs ++ commented c) ≡ printed r zs ++ commented c
behind-text before r zs c = unmarked before (printed r zs ++ commented c) (first-kept (printed r zs) c (first_byte r zs))

-- ---- it means nothing to the book

ask-same : (way : Way) (room : ℕ) (p : Place) (x y : List ℕ) → parsed room (text_of p.line x) ≡ parsed room (text_of p.line y)
    → asks way room p x ≡ asks way room p y
unfolding asks request_of line_request
ask-same way room p x y e =
    ap (λ (z : Parsed). asked (held_back way (cond p.long (Request.Error Reason.TooLong) (fresh_first p.kept z.request))) z.numbers) e

-- The kept line with a reference asks the same as the call's numeric form alone, in every way and at every place.
pub asks-alone : (way : Way) (room : ℕ) (p : Place) (before : ℕ) (l : List ℕ)
    → asks way room p (kept_text room before l) ≡ asks way room p (numeric room before l)
unfolding kept_text numeric
asks-alone way room p before l =
    let text = text_of before l in
    let r = (parsed room text).request in
    let zs = (parsed room text).numbers in
    ask-same way room p (printed r zs ++ commented (reference_of text)) (printed r zs)
    (ap (parsed room) (behind-text p.line r zs (reference_of text))
    ∙ parsed-commented room (printed r zs) (reference_of text) (printed-bare r zs)
    ∙ sym (ap (parsed room) (printed-text p.line r zs)))

-- Its own reference is the line's.
pub own-reference : (room before : ℕ) (l : List ℕ) → reference_of (kept_text room before l) ≡ reference_of (text_of before l)
unfolding kept_text numeric
own-reference room before l =
    let text = text_of before l in
    reference-again (printed (parsed room text).request (parsed room text).numbers) text
    (printed-bare (parsed room text).request (parsed room text).numbers)
