-- `printing::hex::Hex::put_in`: the bytes that are left, written behind what is there, give all bytes.
-- Assumes nothing.
use Rattle.std.proofs.Common.{◌≡◌, drop}
use Rattle.printing.specs.Hex.{hex_bytes}
use Rattle.printing.specs.Written.{followed}
use Rattle.printing.proofs.hex.HexPuts.put_in.Given as goal

abbrev pub invariant-loop-z : goal.invariant-loop-z
invariant-loop-z l = followed l.out (hex_bytes (drop l.z-index l.self.bytes.now)) ≡ followed l.initial.out (hex_bytes l.self.bytes.now)
