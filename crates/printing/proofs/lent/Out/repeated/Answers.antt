-- `printing::lent::Out::repeated` meets its contract: as many of the bytes as there is room for stand behind those that were written.
-- Assumes nothing.
use Rattle.std.proofs.Common.{◌≡◌, ◌+◌, ◌-◌, ◌≤◌, take, replicate, sym, ap, ◌∙◌, arith}
use Rattle.std.proofs.lemmas.List.{length-replicate, take-replicate}
use borrow.Author.Rules.{rules}
use Rattle.printing.proofs.OutLaws.{text_put}
use Rattle.printing.proofs.lent.Out.repeated.Goals as goal

pub returns : goal.returns
returns c =
    let n = c.min-n.result in
    let all = replicate c.args.count c.args.byte in
    let fits : n ≤ c.args.count = omega (arith, c.min-n.ensures) in
    let equal : c.fill.new.self ≡ replicate n c.args.byte = search rules in
    let filled : c.fill.new.self ≡ take n all = equal ∙ sym (take-replicate n c.args.count c.args.byte fits) in
    text_put c.args.self.now all c.fill.new.self c.min-end.result n
    (c.min-end.result + n - c.min-end.result) c.min-end.ensures (rw (length-replicate c.args.count c.args.byte, ← c.room.ensures) c.min-n.ensures) (omega arith) filled
