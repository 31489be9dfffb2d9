-- `special::rates::best_of` meets its contract. The loop's invariant: `best` holds the three largest of the usable rates from `i` on.
-- Assumes nothing.
use mathlib.Core.Path.{refl}
use borrow.Author.Rules.{rules}
use Rattle.special.proofs.Usable.{from-none, from-fits, from-marked, from-unmarked}
use Rattle.special.proofs.rates.best_of.Goals as goal

pub loop-i-init : goal.loop-i-init
loop-i-init c = from-none c.args.rates.now c.args.marks.now _ refl refl

pub with-best-requires : goal.with-best-requires
with-best-requires c = search (from-fits, rules)

pub loop-i-preserved-then-mark_at-eq0 : goal.loop-i-preserved-then-mark_at-eq0
loop-i-preserved-then-mark_at-eq0 c = search (from-unmarked, rules)

pub loop-i-preserved : goal.loop-i-preserved
loop-i-preserved c = search (from-marked, rules)
