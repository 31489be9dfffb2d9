-- `extract::figures::put_figures`: the figures before this one are written.
-- Assumes nothing.
use Rattle.std.proofs.Common.{◌≡◌, map}
use Rattle.batch.specs.Batch.{figures_behind}
use Rattle.printing.specs.Decimals.{integer, spaced}
use Rattle.printing.specs.Written.{followed}
use Rattle.extract.proofs.figures.put_figures.Given as goal

abbrev pub invariant-loop-k : goal.invariant-loop-k
invariant-loop-k l = l.out ≡ followed l.initial.out (spaced (map integer (figures_behind l.file l.part.offset l.k)))
