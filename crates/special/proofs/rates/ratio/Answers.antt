-- `special::rates::ratio` meets its contract: the three largest are kept, and are all in range.
-- Assumes nothing.
use borrow.Author.Rules.{rules}
use Rattle.laws.specs.Read.{read_of}
use Rattle.special.proofs.Decided.{too_few_kept, kept-in-range, kept_ratio}
use Rattle.special.proofs.rates.ratio.Goals as goal

pub returns-then-best-lt3 : goal.returns-then-best-lt3
returns-then-best-lt3 c = search (too_few_kept, rules)

pub mean-requires : goal.mean-requires
mean-requires c = search (kept-in-range, rules)

pub returns : goal.returns
returns c = kept_ratio _ _ _ c.best_of-best.ensures c.if-best-lt3.false (read_of _ _ c.mean.type_inv c.mean.ensures)
