-- `manual::figures::sum_of_figures` meets its contract: the list is that of the figures once all are asked.
-- Assumes nothing.
use borrow.Author.Rules.{rules}
use native.Mathlib.Omega.{arith}
use mathlib.Core.Path.{◌≡◌, refl, ◌∙◌, ap}
use lib.IntN.{pos}
use lib.ListN.{get_or}
use Rattle.manual.specs.Figures.{summed}
use Rattle.manual.proofs.Sums.{wrong-number, at-most-sixteen}
use Rattle.manual.proofs.Listed.{listed-next, all-listed}
use Rattle.manual.proofs.figures.sum_of_figures.Goals as goal

pub returns-then-wrong_count : goal.returns-then-wrong_count
returns-then-wrong_count g c = search (wrong-number, rules)

pub loop-at-init : goal.loop-at-init
loop-at-init g c = (search (at-most-sixteen, rules), refl, λ k h. absurd (omega arith))

pub loop-at-preserved : goal.loop-at-preserved
loop-at-preserved g c =
    let given : c.figure.result ≡ get_or g.figures c.loop-at.at (pos 0) = c.requires.1.1.1 _ _ (omega arith) c.figure.ensures in
    (c.loop-at.invariant.0, search rules, search (listed-next, rules))

pub returns : goal.returns
returns g c = c.sum_figures.ensures ∙ ap summed (all-listed _ _ _ c.requires.1.0 (search rules) (λ k s. c.loop-at.invariant.2 k (omega arith)))
