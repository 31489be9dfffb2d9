-- `layout::parts::zigzag` meets its contract: twice the number from 0 on, and twice what is left of it and one below.
-- Assumes nothing.
use Rattle.layout.proofs.Zigzag.{negative-is, natural-is}
use Rattle.layout.proofs.parts.zigzag.Goals as goal

pub returns-then-x-lt0 : goal.returns-then-x-lt0
returns-then-x-lt0 c = negative-is _ c.ranges.x c.if-x-lt0.true

pub returns-else-x-lt0 : goal.returns-else-x-lt0
returns-else-x-lt0 c = natural-is _ c.ranges.x c.if-x-lt0.false
