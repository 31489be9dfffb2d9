-- A kept journal, and what appending to it makes of it.
-- Assumes nothing.
use Rattle.std.specs.Prelude.{◌≡◌, ℕ, ◌+◌, ◌%◌, ◌^◌, Result, Some, option_map}
use Rattle.std.specs.Result.{result_ok}
use Rattle.storage.specs.declared.kept.Journal.{Journal}
use Rattle.storage.specs.declared.kept.Opened.{Opened}
use Rattle.storage.specs.declared.known.Facts.{Facts}
use Rattle.storage.specs.declared.known.Identity.{Identity}

-- One that was opened: the numbers of its file are those in the facts of it, where these could be had, and those of its lock are the lock's.
abbrev pub opened_journal : {E : Type 0} → Result Facts E → Identity → Opened
opened_journal facts lock = record { file = option_map (λ f. f.identity) (result_ok facts); lock = lock }

-- The journal with n bytes more.
abbrev pub grown_by : Journal → ℕ → Journal
grown_by j n = record { file = j.file; lock = j.lock; end = (j.end + n) % 2 ^ 64 }

-- What an opened journal is that was continued behind its first bytes, which end here: what the system knows its file by was had when it was opened, and
-- it is that file with that lock, ready to be appended to.
pub record Continued (opened : Opened) (end : ℕ) (r : Journal) : Type 0 where
  pub file : opened.file ≡ Some r.file
  pub lock : r.lock ≡ opened.lock
  pub ready : r.end ≡ end
