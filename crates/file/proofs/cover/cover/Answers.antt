-- `file::cover::cover` meets its contract: the chain's sum is that of what each position counts for. Each position is sound, so it is at most
-- 8 * 10^12 cents and fits.
-- Assumes nothing.
use Prim.Native.Nat.{◌<◌}
use mathlib.Core.Path.{◌≡◌, ◌∙◌}
use Rattle.std.proofs.Common.{rules}
use Rattle.std.proofs.iter.runs.Made.{chains}
use Rattle.std.specs.List.{sum_by}
use Rattle.file.specs.declared.Slot.{Slot}
use Rattle.file.specs.Position.{counts_through}
use Rattle.file.proofs.Sums.{cover_sum_on, sum-fits}
use Rattle.file.proofs.cover.cover.Goals as goal

pub sum-requires-clause-fits : goal.sum-requires-clause-fits
sum-requires-clause-fits c =
    let d = c.args.day.0 in
    let slots = c.args.slots.now in
    let fits : sum_by (λ (s : Slot). counts_through d d s.position) slots < 18446744073709551616 = sum-fits d d slots (search rules) c.requires in
    search (rules, chains)

pub returns : goal.returns
returns c =
    let e : c.sum.result ≡ sum_by (λ (s : Slot). counts_through c.args.day.0 c.args.day.0 s.position) c.args.slots.now = search (rules, chains) in
    e ∙ cover_sum_on c.args.day.0 c.args.slots.now
