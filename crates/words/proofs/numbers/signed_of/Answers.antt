-- `words::numbers::signed_of` meets its contract: a minus stands before a negative number, which is held to the least of its type.
-- Assumes nothing.
use Rattle.std.proofs.Common.{rules, ◌≡◌, ◌∙◌, ap, option_map, pos, neg_ℤ, min}
use Rattle.words.proofs.NumberLaws.{negated, signed_empty, signed_minus, signed_plain}
use Rattle.words.proofs.numbers.signed_of.Goals.{in_default-via-then-w-lt1, in_default-via-else-w-lt1+in_default-1}
use Rattle.words.proofs.numbers.signed_of.Goals as goal

pub returns-in-45 : goal.returns-in-45
returns-in-45 c =
    let e : c.map.result ≡ option_map (λ n. neg_ℤ (pos (min n 9223372036854775808))) c.natural_of.result = search rules in
    signed_minus _ _ (search rules) (search rules)
    (e ∙ ap (option_map (λ n. neg_ℤ (pos (min n 9223372036854775808)))) c.natural_of.ensures ∙ negated _)

pub returns-in_default : goal.returns-in_default
returns-in_default c = elim c.in_default.branch [ in_default-via-then-w-lt1 w ↦ search (signed_empty, rules) | in_default-via-else-w-lt1+in_default-1 w ↦ search (signed_plain, rules) ]
