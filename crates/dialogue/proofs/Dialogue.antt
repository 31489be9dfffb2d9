-- The claim about the bytes of a whole input.
-- Assumes nothing.
use Rattle.std.proofs.Common.{◌≡◌, ℕ, ◌≤◌, Bool, false, cond, ◌&&◌, List, ◌∷◌, sym, ap}
use Rattle.book.specs.Rule.{old_rule, new_rule}
use Rattle.book.proofs.History.Retired.{nobody-then}
use Rattle.answering.specs.Asked.{Asked, role_retired}
use Rattle.answering.specs.Session.{rule_behind, book_of}
use Rattle.answering.proofs.Session.{session}
use Rattle.dialogue.specs.declared.Way.{Way}
use Rattle.dialogue.specs.Split.{lines_in, rest_in}
use Rattle.dialogue.specs.Turns.{State}
use Rattle.dialogue.specs.Whole.{stream_after, stream_asks, last_line, last_way}
use Rattle.dialogue.specs.Decided.{Led}
use Rattle.dialogue.specs.Dialogue.{Dialogue}
use Rattle.dialogue.proofs.DecidedWhole.{stream-led, decided-whole}
use Rattle.dialogue.proofs.Journal.{journal-whole, replayed}
use Rattle.dialogue.proofs.References.{lines-plain, asks-alone}
use Rattle.dialogue.proofs.RetiredRole.{stream-rule, stream-nobody}
use Rattle.dialogue.proofs.LastLine.{last-journal, last-book}
use Rattle.dialogue.proofs.Streams.{cut-anywhere}

-- For every input in every way, from every state that lines led to: a buffer of 20,480 bytes has room for every kept line, and the room for numbers
-- is of 64 bits.
pub dialogue : (most : ℕ) (way : Way) (room : ℕ) (s : State) (seen : List Asked) (input : List ℕ) → 20480 ≤ most → room ≤ 18446744073709551615
    → Led way s seen → Dialogue most way room s seen input
dialogue most way room s seen input enough small e =
    record {
      answers = decided-whole most way room s seen input e;
      session = session (stream_asks most way room s seen (lines_in input));
      book = (stream-led most way room s (lines_in input) seen e).book;
      whole = journal-whole most way room s (lines_in input) (lines-plain input);
      replayed = λ keeps t b. replayed most way room enough small keeps s t (lines_in input) (lines-plain input) b;
      comments = λ p before l. asks-alone way room p before l;
      last = last-journal most way room (stream_after most way room s (lines_in input)) (rest_in input);
      left = λ keeps. last-book most way room (stream_after most way room s (lines_in input)) (rest_in input) keeps;
      retired = λ rule. stream-nobody most way room s (lines_in input) rule;
      retired_last = λ rule.
          let t = stream_after most way room s (lines_in input) in
          nobody-then s.book t.book (stream_after most (last_way way) room t (last_line (rest_in input))).book
          (stream-nobody most way room s (lines_in input) rule)
          (stream-nobody most (last_way way) room t (last_line (rest_in input)) (stream-rule most way room s (lines_in input) rule));
      cut = λ a b same. cut-anywhere most way room s a b;
    }

-- What is typed, as a filter or behind a journal, whatever lines led to the book: its lines stand behind the end of the first stretch.
pub typed : (most : ℕ) (way : Way) (room : ℕ) (s : State) (seen : List Asked) (input : List ℕ) → 20480 ≤ most → room ≤ 18446744073709551615
    → way.replays ≡ false → book_of seen ≡ s.book → Dialogue most way room s (role_retired ∷ seen) input
unfolding rule_behind book_of
typed most way room s seen input enough small new e =
    dialogue most way room s (role_retired ∷ seen) input enough small
    (record { book = e; rule = sym (ap (λ (t : Bool). cond (t && s.place.early) old_rule new_rule) new) })
