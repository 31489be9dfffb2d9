-- `printing::hex::Hex::put_in` meets its contract: each turn takes the first of the bytes that are left.
-- Assumes nothing.
use borrow.Author.Rules.{rules}
use Rattle.printing.specs.WrittenLaws.{followed_part, followed_all}
use Rattle.printing.proofs.HexLaws.{hex_first, hex_done}
use Rattle.printing.proofs.hex.HexPuts.put_in.Goals as goal

pub loop-z-preserved : goal.loop-z-preserved
loop-z-preserved c = followed_part _ _ _ _ _ _ c.loop-z.invariant (hex_first _ _ _ c.loop-z-test.true (search rules)) c.put_hex.ensures

pub returns : goal.returns
returns c = followed_all _ _ _ c.loop-z.invariant (hex_done _ _ c.loop-z-test.false)
