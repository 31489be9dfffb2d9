-- `words::numbers::digits` meets its contract: digits read one by one, each number held to the largest.
-- Assumes nothing.
use Rattle.std.proofs.Common.{rules, ◌≡◌, ◌∙◌, ◌+◌, ◌-◌, ◌*◌, min, fold}
use Rattle.words.proofs.NumberLaws.{digits_folded}
use Rattle.words.proofs.numbers.digits.Goals as goal

pub returns : goal.returns
returns c =
    let e : c.fold.result ≡ fold (λ n b. min (10 * n + (b - 48)) 18446744073709551615) 0 c.args.w.now = search rules in
    e ∙ digits_folded c.args.w.now
