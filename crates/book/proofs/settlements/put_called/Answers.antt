-- `book::settlements::put_called` meets its contract: the total, the call and the count are what a settlement that called leaves, whatever it asked.
-- Assumes nothing.
use mathlib.Core.Path.{◌∙◌}
use borrow.Author.Rules.{rules}
use mir.Facts.{to_z-of_z}
use mir.Syntax.{w64}
use Rattle.book.proofs.Functions.SettlementsPut.{few-open, made-room, called-long, given-open}
use Rattle.book.proofs.settlements.put_called.Goals as goal

pub overflow_add-made-2 : goal.overflow_add-made-2
overflow_add-made-2 c = record { fits = rw c.place-at.ensures (made-room _ _ c.requires.0 c.requires.1) }

pub put_open_call-requires : goal.put_open_call-requires
put_open_call-requires c = (search rules, search (few-open, rules))

pub shape_of-words : goal.shape_of-words
shape_of-words c = called-long _ _ _ _ _ _ _ _ _ _ _ (rw c.place-at.ensures at c.put_month.ensures) (rw c.place-at.ensures at c.put_open_call.ensures)

pub returns : goal.returns
returns c = λ asked figures b.
    rw c.place-at.ensures
    (given-open _ _ c.requires.0 c.requires.1 _ figures _ _ _ asked _ _ (to_z-of_z {w = w64} (search rules) ∙ c.cast_signed.ensures) (rw c.place-at.ensures at c.put_month.ensures)
    (rw c.place-at.ensures at c.put_open_call.ensures) b)
