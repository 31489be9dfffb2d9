-- `words::hex::write_bytes` meets its contract. The loop's invariant: the bytes that are left, written from place i on, give what all of them
-- give.
-- Assumes nothing.
use Rattle.std.proofs.Common.{◌≡◌, ◌*◌, length, drop}
use Rattle.std.proofs.lemmas.List.Edits.{sets}
use Rattle.words.specs.Hex.{bytes_of_hex}
use Rattle.words.proofs.hex.write_bytes.Given as goal

abbrev pub invariant-loop-i : goal.invariant-loop-i
invariant-loop-i l = record {
  long : length l.numbers ≡ length l.initial.numbers;
  rest : sets l.numbers l.i (bytes_of_hex (drop (2 * l.i) l.w)) ≡ sets l.initial.numbers 0 (bytes_of_hex l.w);
}
