-- The bytes of a month's file at their bounds: each fact is computed from the definitions.
-- Assumes nothing.
use mathlib.Core.Path.{refl}
use Rattle.laws.specs.Least.{least}
use Rattle.batch.specs.Bytes.{number_at, signed_of}
use Rattle.batch.specs.Batch.{month_in, count_in, offset_at, length_at, end_at, begins_at, participant_at, rows_at, figures_behind, figures_at, too_short}
use Rattle.batch.specs.Batch.{misplaced, first_misplaced, not_following, is_before, wrong_length, wrong_part, first_wrong, refused_if, form_of}
use Rattle.book.specs.Call.{first_refused, batch_says}
use Rattle.figures.specs.Files.{Files}

pub files : Files
unfolding least number_at signed_of month_in count_in offset_at length_at end_at begins_at participant_at rows_at figures_behind figures_at too_short misplaced
    first_misplaced not_following is_before wrong_length wrong_part first_wrong refused_if form_of first_refused batch_says
files =
    record {
      two_bytes = refl;
      low_byte = refl;
      high_byte = refl;
      from-a-place = refl;
      four_bytes = refl;
      eight-bytes = refl;
      month = refl;
      count = refl;
      first-offset = refl;
      first-length = refl;
      second-offset = refl;
      second-length = refl;
      first-end = refl;
      cents-0 = refl;
      cents-1 = refl;
      cents-255 = refl;
      cents-256 = refl;
      cents-largest = refl;
      cents-least = refl;
      cents-minus-256 = refl;
      cents-minus-1 = refl;
      month-of-two = refl;
      count-of-two = refl;
      participant-of-first = refl;
      participant-of-second = refl;
      rows-of-first = refl;
      rows-of-second = refl;
      figures-of-first = refl;
      figures-of-second = refl;
      first-begins = refl;
      second-begins = refl;
      one-is-batch = refl;
      two-is-batch = refl;
      one_written = refl;
      two-written = refl;
      no_bytes = refl;
      three-bytes = refl;
      count-0 = refl;
      count-1 = refl;
      count-257 = refl;
      no-64-pairs = refl;
      no-65-pairs = refl;
      no-pair = refl;
      pair-too-short = refl;
      pair-just-there = refl;
      second-pair-too-short = refl;
      second-pair-just-there = refl;
      first-before = refl;
      first-behind = refl;
      follow = refl;
      second-before = refl;
      second-behind = refl;
      first-of-two = refl;
      both-offsets = refl;
      one-byte-less = refl;
      one-byte-more = refl;
      two-byte-less = refl;
      two-byte-more = refl;
      middle-past-the-end = refl;
      offset-past-2-32 = refl;
      end-past-2-32 = refl;
      length-1 = refl;
      length-3 = refl;
      length-9 = refl;
      length-10 = refl;
      length-11 = refl;
      length-of-2 = refl;
      length-of-255 = refl;
      second-length-1 = refl;
      second-length-3 = refl;
      twice = refl;
      twice-other-rows = refl;
      third-is-first = refl;
      third-is-second = refl;
      second-is-first = refl;
      all-the-same = refl;
      three-others = refl;
      length-then-twice = refl;
      twice-then-length = refl;
      any-participant = refl;
      form-21-before-22 = refl;
      end-before-22 = refl;
      least_first = refl;
      least-last = refl;
      least-of-two = refl;
      least-none = refl;
      first-refused = refl;
      none-refused = refl;
      number-of-refusal = refl;
      says-refused-file = refl;
      says-refused-pair = refl;
      says-last-pair = refl;
      says-accepted = refl;
      says-n = refl;
      count-64 = refl;
      count-64-too-short = refl;
      count-65 = refl;
      parts-64 = refl;
      parts-65 = refl;
    }
