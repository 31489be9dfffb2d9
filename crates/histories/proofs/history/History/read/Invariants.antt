-- Six words are kept of each call that is read.
use Rattle.std.proofs.Common.{◌≡◌, ◌*◌}
use Rattle.arrayvec.specs.ArrayVec.{array_vec_len}
use Rattle.histories.proofs.history.History.read.Given as goal

abbrev pub invariant-loop : goal.invariant-loop
invariant-loop l = array_vec_len l.history.words ≡ 6 * l.counter
