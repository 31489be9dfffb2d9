-- `book::begin::fresh` meets its contract: behind the head all words are zeros, which are files that hold nothing.
-- Assumes nothing.
use Rattle.book.proofs.Functions.OnWords.{fresh-late, fresh-done}
use Rattle.book.proofs.begin.fresh.Goals as goal

pub returns-then-day-gt-LAST_DAY : goal.returns-then-day-gt-LAST_DAY
returns-then-day-gt-LAST_DAY c = fresh-late _ _ _ c.requires (c.fill.ensures.after (λ y e. e)) c.if-day-gt-LAST_DAY.true

pub returns : goal.returns
returns c = fresh-done _ _ _ c.requires (c.fill.ensures.after (λ y e. e)) c.if-day-gt-LAST_DAY.false
