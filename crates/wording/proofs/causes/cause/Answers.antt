-- `wording::causes::cause` meets its contract: what is no cause's number is 0 or above 25.
-- Assumes nothing.
use Rattle.std.proofs.Common.{◌≡◌, ◌≤◌, ◌<◌, leb, leb-true, leb-false, sym, arith}
use Rattle.laws.specs.Cases.{split}
use Rattle.wording.proofs.WordingLaws.{no_cause, cause_zero}
use Rattle.wording.proofs.causes.cause.Goals as goal

pub returns-in_default : goal.returns-in_default
returns-in_default c =
    split (leb c.args.n 25)
    (λ t.
    let small : c.args.n ≤ 25 = leb-true c.args.n 25 t in
    let none : c.args.n ≡ 0 = omega arith in cause_zero c.args.n none)
    (λ t.
    let large : 25 < c.args.n = leb-false c.args.n 25 t in sym (no_cause c.args.n (omega arith)))
