-- `book::days::open_file` meets its contract: what is put back is the file with the day opened, and where nothing changes but the charges they alone.
-- Assumes nothing.
use mathlib.Core.Path.{sym, ◌∙◌}
use Rattle.book.proofs.Functions.DaysOpened.{not-opened, file-put, charges-stored}
use Rattle.book.proofs.days.open_file.Goals as goal

pub returns-then-not-is_admitted : goal.returns-then-not-is_admitted
returns-then-not-is_admitted c =
    not-opened c.args.words.now c.args.participant c.requires.0 c.args.day.0 c.requires.1 (sym c.is_admitted.ensures ∙ c.if-not-is_admitted.true)

pub returns-then-changes_on : goal.returns-then-changes_on
returns-then-changes_on c =
    file-put c.args.words.now c.args.participant c.requires.0 c.args.day.0 c.requires.1 _ _ _ _
    (sym c.is_admitted.ensures ∙ c.if-not-is_admitted.false) c.file.ensures c.opened-opened.ensures c.place.ensures c.put_file.ensures

pub returns-else-changes_on : goal.returns-else-changes_on
returns-else-changes_on c =
    charges-stored c.args.words.now c.args.participant c.requires.0 c.args.day.0 c.requires.1 _ _ _
    (sym c.is_admitted.ensures ∙ c.if-not-is_admitted.false) (sym c.changes_on.ensures ∙ c.if-changes_on.false)
    c.charges_after-charges.ensures c.place-else-changes_on.ensures c.put_charges.ensures
