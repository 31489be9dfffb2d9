-- The file that a call on it leaves.
-- Assumes nothing.
use Rattle.std.specs.Prelude.{ℕ, cond}
use Rattle.file.specs.declared.File.{File}
use Rattle.file.specs.Answer.{accepted}
use Rattle.book.specs.Call.{Act}
use Rattle.book.specs.Account.{file_answer, file_after}

-- The file that a call on day t leaves: a refused one leaves it as it was.
unfoldable pub file_left : File → ℕ → Act → File
file_left f t a = cond (accepted (file_answer f t a)) (file_after f t a) f
