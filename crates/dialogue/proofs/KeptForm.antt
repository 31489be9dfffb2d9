-- The numeric form of a call: it has no newline and no byte order mark.
-- Assumes nothing.
use Rattle.std.proofs.Common.{◌≡◌, ℕ, true, false, eqb, List, [], ◌∷◌, get_or, ℤ, refl, eqb-true}
use mathlib.Core.Bool.{and-false}
use Rattle.laws.specs.Cases.{split, clash, and_left, and_right}
use Rattle.words.specs.Bytes.{each, control, blank}
use Rattle.journal.specs.declared.Request.{Request}
use Rattle.printing.specs.Decimals.{joined}
use Rattle.printing.specs.Lines.{call_words, printed}
use Rattle.printing.proofs.PlainWords.{line_byte, joined_line}
use Rattle.printing.proofs.RoundTrip.{call-words}
use Rattle.dialogue.specs.Asks.{mark_length, text_of}
use Rattle.dialogue.proofs.CompleteLines.{Plain}

-- ---- no newline

line-byte : (b : ℕ) → line_byte b ≡ true → eqb b 10 ≡ false
unfolding line_byte control blank
line-byte b h = split (eqb b 10) (λ t. let e : b ≡ 10 = eqb-true b 10 t in clash (rw e at h) refl) (λ t. t)

plain-line : (l : List ℕ) → each line_byte l ≡ true → Plain l
unfolding each
plain-line [] h = tt
plain-line (b ∷ l) h = (line-byte b (and_left (line_byte b) (each line_byte l) h), plain-line l (and_right (line_byte b) (each line_byte l) h))

pub printed-plain : (r : Request) (zs : List ℤ) → Plain (printed r zs)
unfolding printed
printed-plain r zs = plain-line (joined (call_words r zs)) (joined_line (call_words r zs) (call-words r zs))

-- ---- no byte order mark

-- Its first byte, if any, is that of a name.
pub first_byte : (r : Request) (zs : List ℤ) → eqb (get_or (printed r zs) 0 0) 239 ≡ false
unfolding printed joined call_words
first_byte Request.Nothing zs = refl
first_byte r zs = refl

pub unmarked : (before : ℕ) (l : List ℕ) → eqb (get_or l 0 0) 239 ≡ false → text_of before l ≡ l
unfolding text_of mark_length
unmarked before l e = rw (e, and-false (eqb before 0)) refl

pub printed-text : (before : ℕ) (r : Request) (zs : List ℤ) → text_of before (printed r zs) ≡ printed r zs
printed-text before r zs = unmarked before (printed r zs) (first_byte r zs)
