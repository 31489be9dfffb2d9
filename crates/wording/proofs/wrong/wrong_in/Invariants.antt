-- `wording::wrong::wrong_in`: the beginnings that are left to try give what all of them give.
-- Assumes nothing.
use Rattle.std.proofs.Common.{◌≡◌, ◌-◌, length}
use Rattle.wording.specs.WrongWord.{wrong_from}
use Rattle.wording.proofs.wrong.wrong_in.Given as goal

abbrev pub invariant-loop-i : goal.invariant-loop-i
invariant-loop-i l = wrong_from l.why l.text (length l.text - l.i) l.i ≡ wrong_from l.why l.text (length l.text) 0
