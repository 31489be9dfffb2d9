-- As many bytes as eight for each figure that is put stand behind those of the head.
use Rattle.std.proofs.Common.{◌≡◌, ◌+◌, ◌*◌}
use Rattle.arrayvec.specs.ArrayVec.{array_vec_len}
use Rattle.bench.proofs.batches.put_part.Given as goal

abbrev pub invariant-loop-figure : goal.invariant-loop-figure
invariant-loop-figure l = array_vec_len l.file ≡ array_vec_len l.initial.file + 8 * l.figure-index
