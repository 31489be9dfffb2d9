-- The word of a line that is wrong.
-- Assumes nothing.
use Rattle.std.specs.Prelude.{ℕ, zero, suc, ◌+◌, Bool, cond, ◌&&◌, List, [], ◌∷◌, length, take, drop, eqb, leb}
use Rattle.words.specs.Bytes.{uncommented}
use Rattle.words.specs.Words.{apart, words}
use Rattle.journal.specs.Grammar.{parsed}
use Rattle.journal.specs.declared.Reason.{Reason}
use Rattle.journal.specs.declared.Request.{Request}

-- The reasons that are about one word, by numbers of their own; 0 for the others: too few words, a line too long, a control byte, and what a
-- kept journal says of a call that is none by itself.
abbrev pub word_reason : Reason → ℕ
word_reason Reason.NoCall = 1
word_reason Reason.TooManyWords = 2
word_reason Reason.NotNumber = 3
word_reason Reason.NotDay = 4
word_reason Reason.NotMonth = 5
word_reason Reason.NotRole = 6
word_reason Reason.NotCashOrLetter = 7
word_reason Reason.NotHex = 8
word_reason e = 0

-- The same of what a line is, where it is an error.
abbrev pub word_fault : Request → ℕ
word_fault (Request.Error e) = word_reason e
word_fault r = 0

-- Whether the first n bytes of a text end where no word goes on, and what they say, with room for 512 numbers, is an error with the reason of
-- this number.
unfoldable pub goes_wrong : ℕ → List ℕ → ℕ → Bool
goes_wrong why t n = apart (drop n t) && eqb (word_fault (parsed 512 (take n t)).request) why

-- The shortest beginning of a text that is such an error, of those with more than i bytes, as many as are left to try; none where there is none.
unfoldable pub wrong_from : ℕ → List ℕ → ℕ → ℕ → List ℕ
wrong_from why t zero i = []
wrong_from why t (suc left) i = cond (goes_wrong why t (i + 1)) (take (i + 1) t) (wrong_from why t left (i + 1))

-- The last of some words, behind one that stands before them.
unfoldable pub last_from : List ℕ → List (List ℕ) → List ℕ
last_from w [] = w
last_from w (x ∷ ws) = last_from x ws

-- "The word that is wrong": the last word of the shortest beginning of the line's words whose parse is an error with this same reason; none
-- where no beginning has it.
unfoldable pub wrong_in : ℕ → List ℕ → List ℕ
wrong_in why t = last_from [] (words (wrong_from why t (length t) 0))

-- Of a line and a reason: only where the reason is about one word and the line has at most 4,096 bytes, so that no line costs long. A comment has
-- no words; a byte order mark is a part of the first word.
unfoldable pub wrong_word : Reason → List ℕ → List ℕ
wrong_word e line =
    cond (eqb (word_reason e) 0) [] (cond (leb (length line) 4096) (wrong_in (word_reason e) (uncommented line)) [])
