-- `extract::lines::participant_in` meets its contract: the number behind the mark, where the title begins with it.
-- Assumes nothing.
use mathlib.Core.Path.{◌∙◌}
use Rattle.extract.proofs.TitleLaws.{titled_number, untitled}
use Rattle.extract.proofs.lines.participant_in.Goals as goal

pub returns-in_default : goal.returns-in_default
returns-in_default c = untitled c.args.title.now c.in_default.ensures.cases

pub returns : goal.returns
returns c = c.natural_of.ensures ∙ titled_number c.args.title.now _ c.in-Some.ensures.cases.0 c.in-Some.ensures.cases.1
