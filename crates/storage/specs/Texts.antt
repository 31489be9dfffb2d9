-- Texts as lists of bytes: made paths, shown, and read as numbers.
-- Assumes nothing.
use Rattle.std.specs.Prelude.{◌≡◌, ℕ, ◌+◌, ◌-◌, ◌*◌, ◌<◌, false, not, cond, ◌&&◌, List, [], ◌∷◌, length, ◌==◌, nat_le, Option, Some, None}
use Rattle.std.specs.List.{list_any}
use Rattle.std.specs.Str.{IsUtf8}
use Rattle.std.specs.Bool.{then_some}

-- What the name of a journal's lock has behind the journal's: `.lock`.
abbrev pub lock_ending : List ℕ
lock_ending = 46 ∷ 108 ∷ 111 ∷ 99 ∷ 107 ∷ []

-- A name as the system takes it: the whole name, of fewer than 4,096 bytes and none of them 0.
abbrev pub IsPathOf : List ℕ → List ℕ → Type 0
IsPathOf name path = (path ≡ name) × (length name < 4096) × (list_any (λ b. b == 0) name ≡ false)

-- What a name must be to be handed to the system: fewer than 4,096 bytes, none of them 0, and text in UTF-8.
abbrev pub CanBePath : List ℕ → Type 0
CanBePath name = (length name < 4096) × (list_any (λ b. b == 0) name ≡ false) × IsUtf8 name

-- A byte as it is shown: `?` stands for one that is below 32 or above 126.
unfoldable pub shown_byte : ℕ → ℕ
shown_byte b = cond (nat_le 32 b && nat_le b 126) b 63

-- A number with one more digit behind it; none where the byte is no digit, or the number has too many digits for a process.
unfoldable pub digit_more : ℕ → ℕ → Option ℕ
digit_more n b = cond (nat_le n 214748363 && (nat_le 48 b && nat_le b 57)) (Some (n * 10 + (b - 48))) None

-- The process number that stands before the first newline of a text, with n for the digits before the text; none where there is no newline, and 0 is none.
unfoldable pub process_from : ℕ → List ℕ → Option ℕ
process_from n [] = None
process_from n (b ∷ s) = cond (b == 10) (then_some (not (n == 0)) n) (elim (digit_more n b) [ Some m ↦ process_from m s | None ↦ None ])

-- The process number that stands before the first newline of a text.
abbrev pub process_in : List ℕ → Option ℕ
process_in s = process_from 0 s
