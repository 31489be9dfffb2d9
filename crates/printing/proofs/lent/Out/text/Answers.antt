-- `printing::lent::Out::text` meets its contract: as many bytes as there is room for stand behind those that were written.
-- Assumes nothing.
use Rattle.std.proofs.Common.{◌+◌, ◌-◌, arith}
use borrow.Author.Rules.{rules}
use Rattle.printing.proofs.OutLaws.{text_put}
use Rattle.printing.proofs.lent.Out.text.Goals as goal

pub returns : goal.returns
returns c =
    text_put c.args.self.now c.args.text.now c.copy_from_slice.new.self c.min-end.result c.min-n.result
    (c.min-end.result + c.min-n.result - c.min-end.result) c.min-end.ensures (rw c.room.ensures at c.min-n.ensures) (omega arith) (search rules)
