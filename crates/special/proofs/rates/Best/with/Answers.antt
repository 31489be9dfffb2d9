-- `special::rates::Best::with` meets its contract: the tests that lead to each arm say where `insert` puts the rate.
-- Assumes nothing.
use borrow.Author.Rules.{rules}
use mathlib.Core.Path.{refl}
use Rattle.special.proofs.Kept.{above-first, above-second, above-third, above-none}
use Rattle.special.proofs.rates.Best.with.Goals as goal

pub returns-then-self-rate : goal.returns-then-self-rate
returns-then-self-rate c = (search (above-first, rules), refl)

pub returns-then-self-rate-2 : goal.returns-then-self-rate-2
returns-then-self-rate-2 c = (search (above-second, rules), refl)

pub returns-then-self-rate-3 : goal.returns-then-self-rate-3
returns-then-self-rate-3 c = (search (above-third, rules), refl)

pub returns-else-self-rate-3 : goal.returns-else-self-rate-3
returns-else-self-rate-3 c = (search (above-none, rules), refl)
