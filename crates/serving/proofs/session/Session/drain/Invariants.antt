-- `serving::session::Session::drain` meets its contract: each turn takes the lines of more bytes; one that takes none is the last.
-- Assumes nothing.
use Rattle.std.proofs.Common.{◌≡◌, ◌-◌, true, length, take}
use Rattle.std.specs.Result.{is_ok}
use Rattle.dialogue.specs.Split.{lines_in}
use Rattle.dialogue.specs.Turns.{all_journal}
use Rattle.dialogue.specs.Answers.{state_of}
use Rattle.serving.specs.Delivery.{Grown, left}
use Rattle.serving.proofs.PartLaws.{Draining}
use Rattle.serving.proofs.session.Session.drain.Given as goal

abbrev pub invariant-loop-used : goal.invariant-loop-used
invariant-loop-used l = record {
  taken : Draining l.self.way (length l.initial.desk.numbers) (state_of l.initial.desk.book l.initial.desk.place) l.input l.start (state_of l.desk.book l.desk.place);
  grown : Grown l.self.way.replays (left l.initial.desk.journal)
      (length (all_journal l.self.way (length l.initial.desk.numbers) (state_of l.initial.desk.book l.initial.desk.place) (lines_in (take l.start l.input)))) (left l.desk.journal);
  well : is_ok l.desk.journal ≡ true → is_ok l.initial.desk.journal ≡ true;
  bytes : l.desk.bytes ≡ l.initial.desk.bytes;
}

abbrev pub decreases-loop-used : goal.decreases-loop-used
decreases-loop-used l = length l.input - l.start
