-- Words that a line can hold: the words of such words in a row are those words.
-- Assumes nothing.
use Prim.Native.Nat.{ℕ, ◌<◌}
use mathlib.Core.Path.{◌≡◌, refl, ap, ◌∙◌}
use mathlib.Core.Bool.{Bool, true, false, not, ◌&&◌}
use mathlib.Core.List.{List, [], ◌∷◌, ◌++◌}
use borrow.Author.Tests.{not-true}
use lib.Dec.{eqb}
use lib.ListN.{length}
use Rattle.laws.specs.Cases.{and_left, and_right}
use Rattle.laws.specs.Every.{every-nil, every-cons, every-head, every-tail}
use Rattle.laws.specs.Lists.{All}
use Rattle.words.specs.Bytes.{blank, control, some, each, uncommented}
use Rattle.words.specs.Words.{apart, words}
use Rattle.words.proofs.WordLaws.{solid, whole_word, words-blank, words-none}
use Rattle.printing.specs.Decimals.{spaced, joined}

-- a byte of a word: no blank, no control byte, and not the one that begins a comment
unfoldable pub word_byte : ℕ → Bool
word_byte b = solid b && (not (control b) && not (eqb b 35))

-- a word
pub record IsWord (w : List ℕ) : Type 0 where
  pub some_byte : 0 < length w
  pub bytes : each word_byte w ≡ true

-- a byte of a line
unfoldable pub line_byte : ℕ → Bool
line_byte b = not (control b) && not (eqb b 35)

-- where a test follows from another, so it does for each byte
pub each-weaker : (p q : ℕ → Bool) → ((b : ℕ) → p b ≡ true → q b ≡ true) → (l : List ℕ) → each p l ≡ true → each q l ≡ true
each-weaker p q f [] e = every-nil q
each-weaker p q f (b ∷ l) e = every-cons q b l (f b (every-head p b l e)) (each-weaker p q f l (every-tail p b l e))

word_line : (w : List ℕ) → each word_byte w ≡ true → each line_byte w ≡ true
unfolding word_byte line_byte
word_line = each-weaker word_byte line_byte (λ b. and_right (solid b) (line_byte b))

word-solid : (w : List ℕ) → each word_byte w ≡ true → each solid w ≡ true
unfolding word_byte line_byte
word-solid = each-weaker word_byte solid (λ b. and_left (solid b) (line_byte b))

pub each_append : (test : ℕ → Bool) (a b : List ℕ) → each test a ≡ true → each test b ≡ true → each test (a ++ b) ≡ true
unfolding each
each_append test [] b e f = f
each_append test (x ∷ a) b e f =
    rw (and_left (test x) (each test a) e) (each_append test a b (and_right (test x) (each test a) e) f)

-- a line of such bytes has no comment and no control byte
pub uncommented-line : (l : List ℕ) → each line_byte l ≡ true → uncommented l ≡ l
unfolding each uncommented line_byte
uncommented-line [] e = refl
uncommented-line (b ∷ l) e =
    let a = and_right (not (control b)) (not (eqb b 35)) (and_left (line_byte b) (each line_byte l) e) in
    rw (not-true (eqb b 35) a) (ap (◌∷◌ b) (uncommented-line l (and_right (line_byte b) (each line_byte l) e)))

pub no-control : (l : List ℕ) → each line_byte l ≡ true → some control l ≡ false
unfolding each some line_byte
no-control [] e = refl
no-control (b ∷ l) e =
    let a = and_left (not (control b)) (not (eqb b 35)) (and_left (line_byte b) (each line_byte l) e) in
    rw (not-true (control b) a) (no-control l (and_right (line_byte b) (each line_byte l) e))

-- words in a row
blank-line : each line_byte (32 ∷ []) ≡ true
unfolding each line_byte control blank
blank-line = refl

blank-blank : blank 32 ≡ true
unfolding blank
blank-blank = refl

spaced-line : (ws : List (List ℕ)) → All IsWord ws → each line_byte (spaced ws) ≡ true
unfolding spaced each
spaced-line [] a = refl
spaced-line (w ∷ ws) a =
    each_append line_byte (32 ∷ w) (spaced ws) (each_append line_byte (32 ∷ []) w blank-line (word_line w a.0.bytes)) (spaced-line ws a.1)

pub joined_line : (ws : List (List ℕ)) → All IsWord ws → each line_byte (joined ws) ≡ true
unfolding joined each
joined_line [] a = refl
joined_line (w ∷ ws) a = each_append line_byte w (spaced ws) (word_line w a.0.bytes) (spaced-line ws a.1)

spaced-apart : (ws : List (List ℕ)) → apart (spaced ws) ≡ true
unfolding spaced apart
spaced-apart [] = refl
spaced-apart (w ∷ ws) = blank-blank

spaced-words : (ws : List (List ℕ)) → All IsWord ws → words (spaced ws) ≡ ws
unfolding spaced
spaced-words [] a = words-none
spaced-words (w ∷ ws) a =
    words-blank 32 (w ++ spaced ws) blank-blank
    ∙ whole_word w (spaced ws) a.0.some_byte (word-solid w a.0.bytes) (spaced-apart ws)
    ∙ ap (◌∷◌ w) (spaced-words ws a.1)

pub joined_words : (ws : List (List ℕ)) → All IsWord ws → words (joined ws) ≡ ws
unfolding joined
joined_words [] a = words-none
joined_words (w ∷ ws) a =
    whole_word w (spaced ws) a.0.some_byte (word-solid w a.0.bytes) (spaced-apart ws) ∙ ap (◌∷◌ w) (spaced-words ws a.1)
