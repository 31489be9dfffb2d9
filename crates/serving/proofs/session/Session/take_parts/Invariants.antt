-- `serving::session::Session::take_parts` meets its contract: each turn takes one part more of the bytes read.
-- Assumes nothing.
use Rattle.std.proofs.Common.{◌≡◌, true, false, length}
use Rattle.std.specs.Result.{is_ok}
use Rattle.dialogue.specs.Answers.{state_of}
use Rattle.serving.specs.Input.{InputCounted}
use Rattle.serving.proofs.session.Session.take_parts.Given as goal

abbrev pub invariant-loop : goal.invariant-loop
invariant-loop l = record {
  counted : l.fn.desk.place.long ≡ false
      → InputCounted l.self.way (length l.fn.desk.numbers) (state_of l.fn.desk.book l.fn.desk.place) (length l.fn.buffer.bytes) (state_of l.desk.book l.desk.place)
      l.buffer.filled l.buffer.bytes l.fn.desk.bytes l.desk.bytes;
  begun : is_ok l.fn.desk.journal ≡ true;
  well : is_ok l.desk.journal ≡ true;
  on : l.fn.desk.place.refused ≡ 0 → l.self.way.replays ≡ true → l.desk.place.refused ≡ 0;
}
