-- `layout::rows::put_rows` meets its contract. The invariant: the rows that were passed are written.
-- Assumes nothing.
use mathlib.Core.Path.{◌≡◌}
use lib.ListN.{length}
use Rattle.layout.specs.Files.{SoFar}
use Rattle.layout.proofs.rows.put_rows.Given as goal

abbrev pub invariant-loop-k : goal.invariant-loop-k
invariant-loop-k g l = record {
  long : length l.words ≡ length l.fn.words;
  rows : SoFar g.R.Row.row_words g.R.Row.Back l.rows l.fn.words l.at l.k l.words;
}
