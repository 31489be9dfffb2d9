-- `layout::files::cover_at` meets its contract. The invariant: the sum so far is that of the positions that were passed.
-- Assumes nothing.
use mathlib.Core.Path.{◌≡◌}
use Rattle.layout.proofs.CoverLaws.{cover_to}
use Rattle.layout.proofs.files.cover_at.Given as goal

abbrev pub invariant-loop-k : goal.invariant-loop-k
invariant-loop-k l = l.sum ≡ cover_to l.words l.at l.from.0 l.through.0 l.k
