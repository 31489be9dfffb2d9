-- `layout::parts::signed` meets its contract: half the word, or what is left of it below 0.
-- Assumes nothing.
use borrow.Author.Rules.{rules}
use Rattle.layout.proofs.Zigzag.{fits-odd, even_is, odd_is}
use Rattle.layout.proofs.parts.signed.Goals as goal

pub overflow_sub-result : goal.overflow_sub-result
overflow_sub-result c = search (fits-odd, rules)

pub returns-then-word-eq0 : goal.returns-then-word-eq0
returns-then-word-eq0 c = search (even_is, rules)

pub returns-else-word-eq0 : goal.returns-else-word-eq0
returns-else-word-eq0 c = search (odd_is, rules)
