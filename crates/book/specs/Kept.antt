-- The book that the readings of a history make up: each field of each file is a reading of that participant's own calls and the days opened.
-- Assumes nothing.
use Rattle.std.specs.Prelude.{ℕ, ◌%◌, cond, List, [], ◌∷◌, eqb, length}
use Rattle.laws.specs.Lists.{table}
use Rattle.manual.specs.Figures.{sum_of}
use Rattle.file.specs.declared.File.{File}
use Rattle.file.specs.declared.MonthTotal.{MonthTotal}
use Rattle.file.specs.Position.{slot_of}
use Rattle.file.specs.Calls.{in_places}
use Rattle.file.specs.Totals.{no_total, total_of}
use Rattle.layout.specs.Book.{Book}
use Rattle.book.specs.Call.{admit, lodge, release, settle, annual_run, delete}
use Rattle.book.specs.Reading.Events.{Event, Own, day_opened, act, mine, today_of, admitted_in, leaving_in, role_in}
use Rattle.book.specs.Reading.Holdings.{position_in}
use Rattle.book.specs.Reading.Months.{next_in}
use Rattle.book.specs.Reading.Calls.{firm_in, open_in, made_in}
use Rattle.book.specs.Reading.Charges.{charged_in, accrued_in}

-- What the ring of month totals keeps at place k: the last settlement of a month with that place.
unfoldable pub ring_in : List Own → ℕ → MonthTotal
ring_in [] k = no_total
ring_in (day_opened d ∷ own) k = ring_in own k
ring_in (act d (admit role) ∷ own) k = ring_in own k
ring_in (act d (lodge j h) ∷ own) k = ring_in own k
ring_in (act d (release j a) ∷ own) k = ring_in own k
ring_in (act d (settle m figures) ∷ own) k = cond (eqb (m % 16) k) (total_of m (sum_of figures)) (ring_in own k)
ring_in (act d annual_run ∷ own) k = ring_in own k
ring_in (act d delete ∷ own) k = ring_in own k

-- A participant's file by the readings, on day t.
unfoldable pub file_in : ℕ → List Own → File
file_in t own =
    record {
      admitted = admitted_in own;
      leaving = leaving_in own;
      role = role_in own;
      firm = firm_in t own;
      slots = table 8 (λ k. slot_of (position_in t k own));
      calls = in_places (open_in t own);
      count = length (open_in t own);
      next = next_in own;
      totals = table 16 (ring_in own);
      charged = charged_in own;
      accrued = accrued_in own;
      made = made_in own;
    }

-- The book by the readings.
unfoldable pub book_in : ℕ → List Event → Book
book_in s events =
    record {
      files = table 64 (λ p. file_in (today_of s events) (mine p events));
      today = record { 0 = today_of s events };
    }
