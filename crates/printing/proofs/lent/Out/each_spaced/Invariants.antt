-- `printing::lent::Out::each_spaced`: what is left of the list, written behind what is there, gives the whole list.
-- Assumes nothing.
use Rattle.std.proofs.Common.{◌≡◌, map, drop}
use Rattle.printing.specs.Decimals.{spaced}
use Rattle.printing.specs.Written.{followed}
use Rattle.printing.proofs.lent.Out.each_spaced.Given as goal

abbrev pub invariant-loop-x : goal.invariant-loop-x
invariant-loop-x g l =
    followed l.self (spaced (map g.T.Puts.text (drop l.x-index l.list))) ≡ followed l.initial.self (spaced (map g.T.Puts.text l.list))
