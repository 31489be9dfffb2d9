-- The itemised statement of a whole history: what is kept and written as its days are opened, and what it is in the end.
-- Assumes nothing.
use Rattle.std.specs.Prelude.{ℕ, ◌≡◌, List, [], ◌++◌}
use Rattle.laws.specs.Lists.{All}
use Rattle.file.specs.declared.File.{File}
use Rattle.book.specs.Rule.{MadeCall}
use Rattle.book.specs.Account.{file_at, run}
use Rattle.book.specs.Reading.Events.{mine}
use Rattle.book.specs.Reading.Decisions.{events_of}
use Rattle.items.specs.declared.Run.{Run}
use Rattle.items.specs.declared.Items.{Items}
use Rattle.items.specs.declared.Form.{Form}
use Rattle.items.specs.Items.{items_in, charge_of}
use Rattle.items.specs.ByBook.{over_calls}
use Rattle.items.specs.State.{in_word, state_of, all_days, all_mills, state_after}
use Rattle.items.specs.Lines.{lines, last_line, text_after}

-- What is kept of the items, and the lines that are written.
pub record Going : Type 0 where
  pub kept : Items
  pub written : List ℕ

-- .. after one more opened day, as `opened` leaves them.
unfoldable pub going_on : Form → File → ℕ → Going → Going
going_on form f d g = record { kept = state_after f d g.kept; written = g.written ++ text_after form f d g.kept }

-- .. and after a list of calls from a fresh book on day s, "every advance taken day by day".
unfoldable pub going_by_book : Form → (p s : ℕ) → List MadeCall → Going
going_by_book form p s calls = over_calls (going_on form) p s calls (record { kept = state_of []; written = [] })

-- What `finish` leaves written are the lines of the reading's items, each once, the oldest first; and the sums behind them are the figures of the
-- statement that stands beside them, with no number above what a word holds.
pub record PrintedByBook (form : Form) (p s : ℕ) (calls : List MadeCall) : Type 0 where
  pub kept : (going_by_book form p s calls).kept ≡ state_of (items_in (mine p (events_of s calls)))
  pub written : (going_by_book form p s calls).written ++ last_line form (going_by_book form p s calls).kept
      ≡ lines form (items_in (mine p (events_of s calls)))
  pub days : all_days (going_by_book form p s calls).kept ≡ (file_at (run s calls) p).charged
  pub charges : all_mills (going_by_book form p s calls).kept ≡ (file_at (run s calls) p).accrued
  pub exact : All (λ (r : Run). in_word (charge_of r) ≡ charge_of r) (items_in (mine p (events_of s calls)))
