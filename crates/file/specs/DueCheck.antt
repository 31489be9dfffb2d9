-- What a settlement answers of which only cause 13 is left, where a check is due. The functions that decide a settlement cite it.
-- Assumes nothing.
use Rattle.std.specs.Prelude.{ℕ, ◌+◌, Bool, cond, ◌&&◌, leb, length, ℤ}
use Rattle.manual.specs.Check.{call_is_made, checked}
use Rattle.file.specs.declared.File.{File}
use Rattle.file.specs.Answer.{Answer, refused}
use Rattle.file.specs.Fields.{open_calls, open_amounts}
use Rattle.file.specs.Settle.{deposited, check_says}

-- Cause 13: "the call would be a fifth open one", for the total e on day t.
abbrev pub is_fifth : File → ℕ → ℤ → Bool
is_fifth f t e = call_is_made e (deposited f t) f.firm (open_amounts f) && leb 4 (length (open_calls f))

-- The refusal, or what the check says.
unfoldable pub check_answer : File → ℕ → ℤ → Answer
check_answer f t e =
    cond (is_fifth f t e) (refused 13) (check_says e (t + 10) (checked e (deposited f t) f.firm (open_amounts f)))
