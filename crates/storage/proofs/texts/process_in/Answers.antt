-- `storage::texts::process_in` meets its contract: what is left of the text gives, behind the digits taken, what the whole text gives.
-- Assumes nothing.
use Rattle.std.proofs.Common.{rules}
use Rattle.storage.proofs.Numbers.{number-later, number-bad, number-here, number-none}
use Rattle.storage.proofs.texts.process_in.Goals as goal

pub returns-then-byte-eq10 : goal.returns-then-byte-eq10
returns-then-byte-eq10 c = search (number-here, rules)

pub returns-in_err-number : goal.returns-in_err-number
returns-in_err-number c = search (number-bad, rules)

pub loop-byte-preserved : goal.loop-byte-preserved
loop-byte-preserved c = search (number-later, rules)

pub returns : goal.returns
returns c = search (number-none, rules)
