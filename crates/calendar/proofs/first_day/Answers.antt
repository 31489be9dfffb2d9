-- `calendar::first_day` meets its contract: the year's first day and the lengths of the months before the month in it, which stay small.
-- Assumes nothing.
use Prim.Native.Nat.{ℕ, ◌+◌, ◌/◌, ◌%◌}
use mathlib.Core.Path.{◌≡◌}
use native.Mathlib.Omega.{arith}
use borrow.Author.Rules.{rules}
use Rattle.std.proofs.lemmas.Iterator.{YieldsList-from_map, YieldsList-from_range}
use Rattle.std.proofs.lemmas.Iterator.Consumers.{sum_by_from_yields_List, fits_by_from_yields_list}
use Rattle.std.specs.List.{sum_by, range_with_len}
use Rattle.calendar.specs.Civil.{length_in}
use Rattle.calendar.proofs.Lengths.{first_day_of-none, lengths-small, lengths-end}
use Rattle.calendar.proofs.first_day.Goals as goal

pub returns-then-m-ge-MONTHS : goal.returns-then-m-ge-MONTHS
returns-then-m-ge-MONTHS c = search (first_day_of-none, rules)

pub sum-before-requires-clause-fits : goal.sum-before-requires-clause-fits
sum-before-requires-clause-fits c =
    let m = c.args.month.0 in
    let g = λ (i : ℕ). length_in (2020 + m / 12) i in
    fits_by_from_yields_list g (range_with_len 0 (m % 12)) _ _
    (YieldsList-from_map _ g (YieldsList-from_range 0 (m % 12) (m % 12) c.map.ensures.source (omega arith)) c.map.ensures.closure (λ x r q k. search rules))
    (omega (arith, lengths-small m (omega arith)))

pub overflow_add-result-4 : goal.overflow_add-result-4
overflow_add-result-4 c =
    let m = c.args.month.0 in
    let g = λ (i : ℕ). length_in (2020 + m / 12) i in
    let sum : c.sum-before.result ≡ sum_by g (range_with_len 0 (m % 12)) =
    sum_by_from_yields_List g (range_with_len 0 (m % 12)) _ _ c.sum-before.ensures.ran
    (YieldsList-from_map _ g (YieldsList-from_range 0 (m % 12) (m % 12) c.map.ensures.source (omega arith)) c.map.ensures.closure (λ x r q k. search rules)) in
    omega (arith, lengths-small m (omega arith))

pub returns : goal.returns
returns c =
    let m = c.args.month.0 in
    let g = λ (i : ℕ). length_in (2020 + m / 12) i in
    let sum : c.sum-before.result ≡ sum_by g (range_with_len 0 (m % 12)) =
    sum_by_from_yields_List g (range_with_len 0 (m % 12)) _ _ c.sum-before.ensures.ran
    (YieldsList-from_map _ g (YieldsList-from_range 0 (m % 12) (m % 12) c.map.ensures.source (omega arith)) c.map.ensures.closure (λ x r q k. search rules)) in
    lengths-end m _ (omega arith) sum
