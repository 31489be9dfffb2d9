-- `special::special_guarantee` meets its contract: each answer stands where the causes before it do not hold, and what they leave is what
-- the calls ask.
-- Assumes nothing.
use borrow.Author.Rules.{rules}
use mathlib.Core.Path.{◌≡◌, sym, ap, ◌∙◌}
use mathlib.Core.Bool.{not}
use Rattle.std.specs.Prelude.{Err}
use Rattle.special.proofs.Decided.{passed, refused-19, refused-11, few-medium, few-low, bounded, accepted}
use Rattle.special.proofs.Decided.{medium-in-range, low-in-range, amounts}
use Rattle.special.proofs.special_guarantee.Goals as goal

pub returns-then-wrong_lengths : goal.returns-then-wrong_lengths
returns-then-wrong_lengths c = refused-19 _ _ _ _ _ _ _ (sym c.wrong_lengths.ensures ∙ c.if-wrong_lengths.true)

pub returns-then-not-in_range : goal.returns-then-not-in_range
returns-then-not-in_range c = refused-11 _ _ _ _ _ _ _ (sym c.wrong_lengths.ensures ∙ c.if-wrong_lengths.false)
    (sym c.in_range.ensures ∙ ap not c.if-not-in_range.true)

pub ratio-requires : goal.ratio-requires
ratio-requires c = medium-in-range (passed _ _ _ _ _ _ _ _ _ c.in_range.ensures c.if-not-in_range.false c.wrong_lengths.ensures c.if-wrong_lengths.false)

pub returns-in_err-medium : goal.returns-in_err-medium
returns-in_err-medium c =
    let passed_on : c.from_residual.result ≡ Err c.in_err-medium.field-0.0 = search rules in
    passed_on ∙ few-medium (passed _ _ _ _ _ _ _ _ _ c.in_range.ensures c.if-not-in_range.false c.wrong_lengths.ensures c.if-wrong_lengths.false)
    c.ratio.result c.ratio.ensures c.in_err-medium.field-0.0 c.in_err-medium.was

pub ratio-requires-2 : goal.ratio-requires-2
ratio-requires-2 c = low-in-range (passed _ _ _ _ _ _ _ _ _ c.in_range.ensures c.if-not-in_range.false c.wrong_lengths.ensures c.if-wrong_lengths.false)

pub returns-in_err-low : goal.returns-in_err-low
returns-in_err-low c =
    let passed_on : c.from_residual-in_err-low.result ≡ Err c.in_err-low.field-0.0 = search rules in
    passed_on ∙ few-low (passed _ _ _ _ _ _ _ _ _ c.in_range.ensures c.if-not-in_range.false c.wrong_lengths.ensures c.if-wrong_lengths.false)
    c.ratio.result c.ratio.ensures c.ratio-2.result c.ratio-2.ensures c.in_err-low.field-0.0 c.in_err-low.was

pub guarantee_of-requires-clause-bounded : goal.guarantee_of-requires-clause-bounded
guarantee_of-requires-clause-bounded c =
    bounded (passed _ _ _ _ _ _ _ _ _ c.in_range.ensures c.if-not-in_range.false c.wrong_lengths.ensures c.if-wrong_lengths.false)
    c.ratio.result c.ratio.ensures c.ratio-2.result c.ratio-2.ensures c.in_ok-medium.medium c.in_ok-low.low c.in_ok-medium.was c.in_ok-low.was

pub guarantee_of-requires-clause-amounts : goal.guarantee_of-requires-clause-amounts
guarantee_of-requires-clause-amounts c = amounts (passed _ _ _ _ _ _ _ _ _ c.in_range.ensures c.if-not-in_range.false c.wrong_lengths.ensures c.if-wrong_lengths.false)

pub returns : goal.returns
returns c =
    accepted (passed _ _ _ _ _ _ _ _ _ c.in_range.ensures c.if-not-in_range.false c.wrong_lengths.ensures c.if-wrong_lengths.false)
    c.ratio.result c.ratio.ensures c.ratio-2.result c.ratio-2.ensures c.in_ok-medium.medium c.in_ok-low.low c.in_ok-medium.was c.in_ok-low.was
    c.guarantee_of.result c.guarantee_of.ensures
