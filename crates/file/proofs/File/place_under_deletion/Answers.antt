-- `file::File::place_under_deletion` meets its contract, by where it ends: refused with 24, refused with 13, or placed, with a call behind the open
-- ones or without.
-- Assumes nothing.
use mathlib.Core.Path.{◌∙◌, sym}
use Rattle.file.proofs.Deletions.{deletion-outside, deletion-again, deletion-fifth, deletion-uncalled, deletion-called}
use Rattle.file.proofs.File.place_under_deletion.Goals as goal
use Rattle.file.proofs.File.place_under_deletion.Goals.{then-not-in_deletion_months-via-then-not-in_deletion_months, then-not-in_deletion_months-via-else-not-in_deletion_months+then-self}
use Rattle.file.proofs.File.place_under_deletion.Goals.{then-called+else-self-ge4, else-called}

pub returns-then-not-in_deletion_months : goal.returns-then-not-in_deletion_months
returns-then-not-in_deletion_months c =
    let f = c.args.self.now in
    let t = c.args.today.0 in
    elim c.then-not-in_deletion_months.branch [
      | then-not-in_deletion_months-via-then-not-in_deletion_months w ↦
          deletion-outside f t (sym c.in_deletion_months.ensures ∙ w.if-not-in_deletion_months.true)
      | then-not-in_deletion_months-via-else-not-in_deletion_months+then-self w ↦
          deletion-again f t (sym c.in_deletion_months.ensures ∙ w.if-not-in_deletion_months.false) w.if-self.true
    ]

pub returns-then-self-ge4 : goal.returns-then-self-ge4
returns-then-self-ge4 c =
    deletion-fifth c.args.self.now c.args.today.0 (sym c.in_deletion_months.ensures ∙ c.if-not-in_deletion_months.false) c.if-self.false c.requires
    c.amount_of_deletion-amount.result c.is_exceeded_by-called.result c.amount_of_deletion-amount.ensures c.is_exceeded_by-called.ensures c.if-called.true
    c.if-self-ge4.true

pub returns : goal.returns
returns c =
    let f = c.args.self.now in
    let t = c.args.today.0 in
    let inside = sym c.in_deletion_months.ensures ∙ c.if-not-in_deletion_months.false in
    let a = c.amount_of_deletion-amount in
    let x = c.is_exceeded_by-called in
    elim c.if-called.branch [
      | then-called+else-self-ge4 w ↦
          deletion-called f t inside c.if-self.false c.requires a.result x.result a.ensures x.ensures w.if-called.true w.if-self-ge4.false c.if-called.self w.self-is
      | else-called w ↦
          deletion-uncalled f t inside c.if-self.false c.requires a.result x.result a.ensures x.ensures w.if-called.false c.if-called.self w.self-is
    ]
