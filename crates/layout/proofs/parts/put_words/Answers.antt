-- `layout::parts::put_words` meets its contract: the part that is written over holds the other words.
-- Assumes nothing.
use native.Mathlib.Omega.{arith}
use Rattle.layout.proofs.Written.{part-written}
use Rattle.layout.proofs.parts.put_words.Goals as goal

pub returns : goal.returns
returns c = part-written c.args.words.now c.args.new.now _ c.args.at _ c.requires (omega arith) c.copy_from_slice.ensures.after
