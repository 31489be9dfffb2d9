-- `words::hex::write_bytes` meets its contract. The loop's invariant: the bytes that are left, written from place i on, give what all of them
-- give.
-- Assumes nothing.
use Rattle.std.proofs.Common.{rules}
use Rattle.words.proofs.HexLaws.{bytes_goes, bytes_ended}
use Rattle.words.proofs.hex.write_bytes.Goals as goal

pub loop-i-preserved : goal.loop-i-preserved
loop-i-preserved c = record { long = search rules; rest = search (bytes_goes, rules) }

pub returns : goal.returns
returns c = search (bytes_ended, rules)
