-- `journal::fields::take` meets its contract: the next word as what is due.
-- Assumes nothing.
use Rattle.std.proofs.Common.{refl}
use Rattle.journal.proofs.FieldLaws.{field_is}
use Rattle.journal.proofs.fields.take.Goals as goal

pub returns : goal.returns
returns c = rw (c.ok_or.ensures.value, c.why_not.ensures) (field_is c.args.kind _ _ _ _ c.take_word.new.words c.in_ok-word.ensures refl c.read.ensures)
