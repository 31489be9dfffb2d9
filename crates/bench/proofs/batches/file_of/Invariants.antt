-- Behind the four bytes of the head stand eight for each pair that is put, 512 in all, and then 130 for each part.
use Rattle.std.proofs.Common.{◌≡◌, ◌+◌, ◌*◌}
use Rattle.arrayvec.specs.ArrayVec.{array_vec_len}
use Rattle.bench.proofs.batches.file_of.Given as goal

abbrev pub invariant-loop-participant : goal.invariant-loop-participant
invariant-loop-participant l = array_vec_len l.file ≡ 4 + 8 * l.participant

abbrev pub invariant-loop-participant-2 : goal.invariant-loop-participant-2
invariant-loop-participant-2 l = array_vec_len l.file ≡ 516 + 130 * l.participant
