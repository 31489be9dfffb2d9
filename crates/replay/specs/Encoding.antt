-- A list of calls as words in a lent slice, six to a call, and a list of answers as numbers: what `replay` reads and writes. Papers 01 and 02
-- have the calls and the answers; how they are spelled as words and numbers is this crate's own choice.
-- Assumes nothing.
use Rattle.std.specs.Prelude.{ℕ, zero, suc, ◌+◌, ◌-◌, ◌*◌, ◌≤◌, min, Bool, cond, List, [], ◌∷◌, ◌++◌, eqb, ltb, get_or, take, drop, ℤ, pos}
use Rattle.file.specs.declared.Position.{Position}
use Rattle.file.specs.declared.Position.TheVariants.{Cash, Letter}
use Rattle.file.specs.Answer.{Answer, refused, done, called, covered, recorded, annual, days_opened, stated, counted, batched, refused_pair, deletion}
use Rattle.layout.specs.Parts.{flag_word}
use Rattle.book.specs.Call.{admit, lodge, release, settle, annual_run, delete, Call, on, advance, statement, calls_made, batch}
use Rattle.book.specs.Rule.{Rule, old_rule, new_rule, MadeCall, history}
use Rattle.book.specs.Reading.Decisions.{decision, events_of}

-- A day or month number in a word: one too large for the type counts as the type's largest.
abbrev pub number : ℕ → ℕ
number w = min w 4294967295

-- A letter, from its amount, its first and its last day.
abbrev pub letter_of_numbers : ℕ → ℕ → ℕ → Position
letter_of_numbers amount first last = Letter amount (record { 0 = number first }) (record { 0 = number last })

-- The call in six words: its kind and its arguments. A settlement's figures are the d from place c on of the lent figures, and the file of a
-- batch is the b bytes from place a on of the lent files, or as many of these as there are. A kind above 9 is the question for the count.
unfoldable pub call_of_six : List ℤ → List ℕ → ℕ → ℕ → ℕ → ℕ → ℕ → ℕ → Call
call_of_six figures files kind a b c d e =
    cond (eqb kind 0) (on a (admit b))
    (cond (eqb kind 1) (on a (lodge b (Cash c)))
    (cond (eqb kind 2) (on a (lodge b (letter_of_numbers c d e)))
    (cond (eqb kind 3) (on a (release b c))
    (cond (eqb kind 4) (on a (settle (number b) (take d (drop c figures))))
    (cond (eqb kind 5) (on a annual_run)
    (cond (eqb kind 6) (advance (number a) b)
    (cond (eqb kind 7) (statement a)
    (cond (eqb kind 8) (batch (take b (drop a files)))
    (cond (eqb kind 9) (on a delete) calls_made)))))))))

-- The call at place n of a list of calls.
unfoldable pub call_at : List ℕ → List ℤ → List ℕ → ℕ → Call
call_at calls figures files n =
    call_of_six figures files
    (get_or calls (6 * n) 0)
    (get_or calls (6 * n + 1) 0)
    (get_or calls (6 * n + 2) 0)
    (get_or calls (6 * n + 3) 0)
    (get_or calls (6 * n + 4) 0)
    (get_or calls (6 * n + 5) 0)

-- The n calls from a place on, the newest first.
unfoldable pub calls_from : (place : ℕ) → List ℕ → List ℤ → List ℕ → (n : ℕ) → List Call
calls_from place calls figures files zero = []
calls_from place calls figures files (suc n) = call_at calls figures files (place + n) ∷ calls_from place calls figures files n

-- Paper 02, Ask 3: "a history from a fresh book may still have a first stretch of calls made under the old admission rule". It is the first
-- `first` calls of a list, all of them where there are fewer. Of the first n calls of the list these are the calls of that stretch ..
abbrev pub first_calls : (first : ℕ) → List ℕ → List ℤ → List ℕ → (n : ℕ) → List Call
first_calls first calls figures files n = calls_from 0 calls figures files (min first n)

-- .. and these the calls since, made under the new rule: none where n is at most `first`.
abbrev pub since_calls : (first : ℕ) → List ℕ → List ℤ → List ℕ → (n : ℕ) → List Call
since_calls first calls figures files n = calls_from first calls figures files (n - first)

-- The history that the first n calls of the list make.
unfoldable pub history_up_to : (first : ℕ) → List ℕ → List ℤ → List ℕ → (n : ℕ) → List MadeCall
history_up_to first calls figures files n = history (first_calls first calls figures files n) (since_calls first calls figures files n)

-- The rule of a call, by whether it is one of the first stretch ..
abbrev pub rule_of : Bool → Rule
rule_of old = cond old old_rule new_rule

-- .. and of the call at place n: one of the first stretch where n, counted from 0, is below that stretch's length. The history, too, has it so
-- (`history-next`).
abbrev pub rule_of_place : (first n : ℕ) → Rule
rule_of_place first n = rule_of (ltb n first)

-- Seven numbers, the first of them natural.
abbrev pub seven : ℕ → ℤ → ℤ → ℤ → ℤ → ℤ → ℤ → List ℤ
seven kind a b c d e f = pos kind ∷ a ∷ b ∷ c ∷ d ∷ e ∷ f ∷ []

-- An answer as seven numbers: which it is, then its values, then zeros.
abbrev pub seven_numbers : Answer → List ℤ
seven_numbers (refused n) = seven 0 (pos n) (pos 0) (pos 0) (pos 0) (pos 0) (pos 0)
seven_numbers done = seven 1 (pos 0) (pos 0) (pos 0) (pos 0) (pos 0) (pos 0)
seven_numbers (called e asked last) = seven 2 (pos e) (pos asked) (pos last) (pos 0) (pos 0) (pos 0)
seven_numbers (covered e) = seven 3 e (pos 0) (pos 0) (pos 0) (pos 0) (pos 0)
seven_numbers (recorded e) = seven 4 e (pos 0) (pos 0) (pos 0) (pos 0) (pos 0)
seven_numbers (annual a n) = seven 5 (pos a) (pos n) (pos 0) (pos 0) (pos 0) (pos 0)
seven_numbers (days_opened n) = seven 6 (pos n) (pos 0) (pos 0) (pos 0) (pos 0) (pos 0)
seven_numbers (stated f c s d a m) = seven 7 (pos f) (pos c) (pos s) (pos d) (pos a) (pos m)
seven_numbers (counted n) = seven 8 (pos n) (pos 0) (pos 0) (pos 0) (pos 0) (pos 0)
seven_numbers (batched n) = seven 9 (pos n) (pos 0) (pos 0) (pos 0) (pos 0) (pos 0)
seven_numbers (refused_pair n i) = seven 10 (pos n) (pos i) (pos 0) (pos 0) (pos 0) (pos 0)
seven_numbers (deletion a calls) = seven 11 (pos a) (pos (flag_word calls)) (pos 0) (pos 0) (pos 0) (pos 0)

-- The largest number of a signed word of 64 bits.
abbrev pub largest_signed : ℕ
largest_signed = 9223372036854775807

-- The amounts and counts of an answer, which the book keeps in unsigned words of 64 bits, are within a signed one.
abbrev pub WithinSigned : Answer → Type 0
WithinSigned (refused n) = Unit {0}
WithinSigned done = Unit {0}
WithinSigned (called e asked last) = (e ≤ largest_signed) × (asked ≤ largest_signed)
WithinSigned (covered e) = Unit {0}
WithinSigned (recorded e) = Unit {0}
WithinSigned (annual a n) = (a ≤ largest_signed) × (n ≤ largest_signed)
WithinSigned (days_opened n) = Unit {0}
WithinSigned (stated f c s d a m) =
    (f ≤ largest_signed)
    × (c ≤ largest_signed)
    × (s ≤ largest_signed)
    × (d ≤ largest_signed)
    × (a ≤ largest_signed)
    × (m ≤ largest_signed)
WithinSigned (counted n) = n ≤ largest_signed
WithinSigned (batched n) = Unit {0}
WithinSigned (refused_pair n i) = Unit {0}
WithinSigned (deletion a calls) = a ≤ largest_signed

-- The numbers of the reading's decisions on the first n calls from a fresh book on day s, in the calls' order, each made under its place's rule.
unfoldable pub decided : (s first : ℕ) → List ℕ → List ℤ → List ℕ → (n : ℕ) → List ℤ
decided s first calls figures files zero = []
decided s first calls figures files (suc n) =
    decided s first calls figures files n
    ++ seven_numbers
    (decision (rule_of_place first n) s (events_of s (history_up_to first calls figures files n)) (call_at calls figures files n))
