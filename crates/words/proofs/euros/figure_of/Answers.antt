-- `words::euros::figure_of` meets its contract: a minus stands before an amount's negative, which is held to the least of its type.
-- Assumes nothing.
use Rattle.std.proofs.Common.{rules, ◌≡◌, ◌∙◌, ap, option_map, pos, neg_ℤ, min}
use Rattle.words.proofs.EuroLaws.{held_mapped, negated_mapped, figure_empty, figure_minus, figure_plain}
use Rattle.words.proofs.euros.figure_of.Goals.{in_default-via-then-w-lt1, in_default-via-else-w-lt1+in_default-1}
use Rattle.words.proofs.euros.figure_of.Goals as goal

pub returns-in-45 : goal.returns-in-45
returns-in-45 c =
    let e : c.map.result ≡ option_map (λ n. neg_ℤ (pos (min n 9223372036854775808))) c.amount_of.result = search rules in
    figure_minus _ _ (search rules) (search rules)
    (e ∙ ap (option_map (λ n. neg_ℤ (pos (min n 9223372036854775808)))) c.amount_of.ensures ∙ negated_mapped _)

pub returns-in_default : goal.returns-in_default
returns-in_default c =
    let e : c.map-in_default.result ≡ option_map (λ n. pos (min n 9223372036854775807)) c.amount_of-in_default.result = search rules in
    let f = e ∙ ap (option_map (λ n. pos (min n 9223372036854775807))) c.amount_of-in_default.ensures ∙ held_mapped _ in
    elim c.in_default.branch [ in_default-via-then-w-lt1 w ↦ figure_empty _ _ (search rules) f | in_default-via-else-w-lt1+in_default-1 w ↦ figure_plain _ _ (search rules) f ]
