-- `is_formed` meets its contract: canonical words are a file where they are zeros or sound.
-- Assumes nothing.
use mathlib.Core.Path.{sym, ap, ◌∙◌}
use Rattle.layout.specs.Parts.{admitted_of}
use Rattle.formed.proofs.FileChecks.{blank-formed, sound-formed}
use Rattle.formed.proofs.files.FileWords.is_formed.Goals as goal

pub returns-then-is_admitted : goal.returns-then-is_admitted
returns-then-is_admitted c =
    let s = c.args.self in
    sound-formed s.today s.words.now s.at _ _ c.is_canonical.ensures c.if-is_canonical.true
    (ap admitted_of (sym c.word.ensures) ∙ sym c.is_admitted.ensures ∙ c.if-is_admitted.true) c.is_sound.ensures

pub returns-else-is_admitted : goal.returns-else-is_admitted
returns-else-is_admitted c =
    let s = c.args.self in
    blank-formed s.today s.words.now s.at _ _ s.day c.is_canonical.ensures c.if-is_canonical.true
    (ap admitted_of (sym c.word.ensures) ∙ sym c.is_admitted.ensures ∙ c.if-is_admitted.false) c.is_blank.ensures
