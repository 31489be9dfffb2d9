-- The most that may be released, worked out by hand: each fact is computed from the definitions.
-- Assumes nothing.
use Rattle.std.specs.Prelude.{refl}
use Rattle.laws.specs.Causes.{decide}
use Rattle.file.specs.Calls.{largest, in_places}
use Rattle.file.specs.Fields.{open_calls}
use Rattle.file.specs.Position.{counts_through, cover_through, cover_on, outside_amounts}
use Rattle.file.specs.Release.{release_floor, slots_left, release_answer}
use Rattle.book.specs.Account.{file_at}
use Rattle.inquiry.specs.Releasable.{greatest, releasable_at, releasable_in}
use Rattle.inquiry.specs.Examples.{Examples}

pub examples : Examples
unfolding decide largest in_places open_calls counts_through cover_through cover_on outside_amounts release_floor slots_left release_answer file_at greatest releasable_at releasable_in
examples =
    record {
      cash-above = refl;
      cash-one-above = refl;
      cash-at = refl;
      cash-below = refl;
      cash-whole = refl;
      cash-first = refl;
      cash-second = refl;
      cash-largest = refl;
      at-it = refl;
      above-it = refl;
      letter-may = refl;
      letter-may-not = refl;
      letter-first-day = refl;
      letter-last-day = refl;
      cash-by-letter = refl;
      letter-later = refl;
      letter-later-below = refl;
      cash-by-later = refl;
      by-call = refl;
      by-second-call = refl;
      by-next = refl;
      by-largest = refl;
      empty = refl;
      asked = refl;
      last-position = refl;
      no-position = refl;
      not-admitted = refl;
      no-participant = refl;
    }
