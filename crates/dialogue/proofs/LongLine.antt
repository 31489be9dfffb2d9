-- A line that is too long: it is an error whatever its bytes, also with a byte order mark, so that the state behind it is the same.
-- Assumes nothing.
use Rattle.std.proofs.Common.{◌≡◌, ℕ, Bool, true, false, ◌&&◌, List, refl, ap}
use Rattle.journal.specs.Grammar.{parsed}
use Rattle.journal.specs.declared.Reason.{Reason}
use Rattle.journal.specs.declared.Request.{Request}
use Rattle.answering.specs.Asked.{answer_to, book_after}
use Rattle.answering.specs.Kept.{takes, refuses}
use Rattle.answering.specs.Lines.{line_request}
use Rattle.dialogue.specs.declared.Way.{Way}
use Rattle.dialogue.specs.Asks.{text_of, held_back, request_of, asks, rule_at}
use Rattle.dialogue.specs.Turns.{State, next, ends_stretch, ends_at, further, answer_of, is_kept, after}
use Rattle.dialogue.specs.Whole.{known_place}
use Rattle.dialogue.proofs.AskLaws.{held_asks}

-- The state in which a line is known to be too long, or not.
abbrev pub knowing : Bool → State → State
knowing long s = record { book = s.book; place = known_place long s.place }

-- The next line is not known to be too long.
pub after-begins : (way : Way) (room : ℕ) (s : State) (l : List ℕ) → (after way room s l).place.long ≡ false
unfolding after
after-begins way room s l = refl

module _ (way : Way) (room : ℕ) (s : State) where
  long-asks : (l m : List ℕ) → asks way room (known_place true s.place) l ≡ asks way room (known_place true s.place) m
  unfolding asks request_of line_request
  long-asks l m =
      held_asks way (Request.Error Reason.TooLong) (parsed room (text_of s.place.line l)).numbers
      (parsed room (text_of s.place.line m)).numbers refl

  long-answer : (l m : List ℕ) → answer_of way room (knowing true s) l ≡ answer_of way room (knowing true s) m
  unfolding answer_of
  long-answer l m = ap (answer_to (rule_at way s.place) s.book (next s.place.line)) (long-asks l m)

  -- The state behind it does not depend on its bytes.
  pub long_after : (l m : List ℕ) → after way room (knowing true s) l ≡ after way room (knowing true s) m
  unfolding after is_kept ends_at request_of line_request
  long_after l m =
      λ i. record {
        book = book_after (rule_at way s.place) s.book (long-asks l m i);
        place =
            further (known_place true s.place) (way.keeps && takes (long-answer l m i)) (refuses (long-answer l m i))
            (ends_stretch way (known_place true s.place) (held_back way (Request.Error Reason.TooLong)) (way.keeps && takes (long-answer l m i)));
      }
