-- `printing::calls::put_list` meets its contract: the length and then the numbers.
-- Assumes nothing.
use Rattle.std.proofs.Common.{[], ◌∷◌, length}
use Rattle.printing.specs.Decimals.{decimal}
use Rattle.printing.specs.WrittenLaws.{spaced_more}
use Rattle.printing.proofs.calls.put_list.Goals as goal

pub returns : goal.returns
returns c = spaced_more _ _ _ (decimal (length c.args.list.now) ∷ []) _ c.spaced.ensures c.each_spaced.ensures
