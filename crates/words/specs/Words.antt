-- The words of a journal's line. 'The journal': "words and numbers separated by blanks".
-- Assumes nothing.
use Rattle.std.specs.Prelude.{ℕ, zero, suc, Bool, true, cond, List, [], ◌∷◌, ltb, length, Option, Some, None}
use Rattle.words.specs.Bytes.{blank, same}
use Rattle.words.specs.declared.line.Words.{Words}

-- Whether no word goes on here: the text ends, or a blank stands first.
unfoldable pub apart : List ℕ → Bool
apart [] = true
apart (b ∷ l) = blank b

-- A byte before the first of some words.
unfoldable pub onto : ℕ → List (List ℕ) → List (List ℕ)
onto b [] = (b ∷ []) ∷ []
onto b (w ∷ ws) = (b ∷ w) ∷ ws

-- The words of a text: a byte that is no blank is a word of its own where no word goes on behind it, and else the first byte of the
-- word that stands behind it.
unfoldable pub words : List ℕ → List (List ℕ)
words [] = []
words (b ∷ l) = cond (blank b) (words l) (cond (apart l) ((b ∷ []) ∷ words l) (onto b (words l)))

-- How many blanks a text begins with.
unfoldable pub blanks_in : List ℕ → ℕ
blanks_in [] = zero
blanks_in (b ∷ l) = cond (blank b) (suc (blanks_in l)) zero

-- How many bytes before its first blank a text has.
unfoldable pub solid_in : List ℕ → ℕ
solid_in [] = zero
solid_in (b ∷ l) = cond (blank b) zero (suc (solid_in l))

-- The words that are left of a text.
abbrev pub left : Words → List (List ℕ)
left s = words s.text.now

-- The place of a word in a list of names, from 0; the number of names where it is none of them.
unfoldable pub place_in : List ℕ → List (List ℕ) → ℕ
place_in w [] = zero
place_in w (n ∷ ns) = cond (same w n) zero (suc (place_in w ns))

-- The same, where it is one of them.
abbrev pub place_of : List ℕ → List (List ℕ) → Option ℕ
place_of w ns = cond (ltb (place_in w ns) (length ns)) (Some (place_in w ns)) None
