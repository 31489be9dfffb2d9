-- `manual::largest::largest_at_least` meets its contract: the fold raises the amount by each total in turn. Assumes nothing.
use borrow.Author.Rules.{rules}
use mathlib.Core.Path.{◌≡◌, ◌∙◌}
use Rattle.std.specs.List.{fold}
use Rattle.manual.proofs.Totals.{raise, raised_by_each}
use Rattle.manual.proofs.largest.largest_at_least.Goals as goal

pub returns : goal.returns
returns c =
    let folded : c.fold.result ≡ fold raise c.args.least c.args.totals.now = search rules in
    folded ∙ raised_by_each c.args.least c.args.totals.now
