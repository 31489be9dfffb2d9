-- `words::numbers::unsigned_of` meets its contract: the natural number, held to the largest of its type.
-- Assumes nothing.
use Rattle.std.proofs.Common.{rules, ◌≡◌, ◌∙◌, ap, option_map, pos, min}
use Rattle.words.proofs.NumberLaws.{mapped}
use Rattle.words.proofs.numbers.unsigned_of.Goals as goal

pub returns : goal.returns
returns c =
    let e : c.map.result ≡ option_map (λ n. pos (min n 9223372036854775807)) c.natural_of.result = search rules in
    e ∙ ap (option_map (λ n. pos (min n 9223372036854775807))) c.natural_of.ensures ∙ mapped c.args.w.now
