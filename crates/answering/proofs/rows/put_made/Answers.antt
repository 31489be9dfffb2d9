-- `answering::rows::put_made` meets its contract: what is made of the values that are left, put from place i on, gives what all of them give.
-- Assumes nothing.
use Rattle.std.proofs.Common.{rules}
use Rattle.answering.proofs.RowLaws.{made_more, made_all, made_front}
use Rattle.answering.proofs.rows.put_made.Goals as goal

pub loop-i-preserved : goal.loop-i-preserved
loop-i-preserved g c = (
  search rules,
  λ rule gives.
      made_more rule c.args.row.now c.args.made.now c.loop-i.made c.loop-i.i (c.loop-i.invariant.1 rule gives) c.index-row-i.result
      c.index-row-i.result c.rule.result c.loop-i-test.true c.index-row-i.is (gives c.index-row-i.result c.rule.result c.rule.ensures),
)

pub returns-clause-front : goal.returns-clause-front
returns-clause-front g c = λ rule gives.
    made_front rule c.args.row.now c.args.made.now c.loop-i.made c.requires.0
    (made_all rule c.args.row.now c.args.made.now c.loop-i.made c.loop-i.i (c.loop-i.invariant.1 rule gives) c.loop-i-test.false)

pub returns-clause-whole : goal.returns-clause-whole
returns-clause-whole g c = λ rule gives.
    made_all rule c.args.row.now c.args.made.now c.loop-i.made c.loop-i.i (c.loop-i.invariant.1 rule gives) c.loop-i-test.false
