-- `layout::rows::put_rows` meets its contract: a row that is put follows those before it.
-- Assumes nothing.
use Prim.Native.Nat.{◌+◌, ◌*◌}
use native.Mathlib.Omega.{arith}
use mathlib.Core.Path.{refl, ◌∙◌}
use Rattle.layout.proofs.Flat.{rows-first, rows-next, rows-all}
use Rattle.layout.proofs.rows.put_rows.Goals as goal

pub loop-k-init : goal.loop-k-init
loop-k-init g c =
    record { long = refl; rows = rows-first g.R.Row.row_words g.R.Row.WORDS g.met.R.Row.long g.R.Row.Back c.args.words.now _ c.args.rows.now }

pub loop-k-preserved : goal.loop-k-preserved
loop-k-preserved g c =
    let r = g.R.Row in
    record {
      long = c.put.auto.words ∙ c.loop-k.invariant.long;
      rows =
          rows-next r.row_words r.WORDS g.met.R.Row.long r.Back _ _ _ _ _ (c.args.at + c.WORDS.result * c.loop-k.k) _ _
          c.loop-k-test.true c.loop-k.invariant.rows c.index-rows-k.is (rw c.WORDS.ensures (omega arith)) c.put.ensures.0 c.put.ensures.1;
    }

pub returns : goal.returns
returns g c =
    rows-all g.R.Row.row_words g.R.Row.WORDS g.met.R.Row.long g.R.Row.Back _ _ _ _ _ _ c.requires.1 c.loop-k-test.false c.loop-k.invariant.rows
