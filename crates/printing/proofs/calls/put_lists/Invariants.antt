-- `printing::calls::put_lists`: the lists that are left, written behind what is there, give all lists.
-- Assumes nothing.
use Rattle.std.proofs.Common.{◌≡◌, drop}
use Rattle.printing.specs.Decimals.{spaced}
use Rattle.printing.specs.Lines.{cut, list_words}
use Rattle.printing.specs.Written.{followed}
use Rattle.printing.proofs.calls.put_lists.Given as goal

abbrev pub invariant-loop-n : goal.invariant-loop-n
invariant-loop-n l =
    followed l.out (spaced (list_words (cut (drop l.n-index l.lengths) l.rest))) ≡ followed l.initial.out (spaced (list_words (cut l.lengths l.numbers)))
