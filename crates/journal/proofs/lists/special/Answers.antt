-- `journal::lists::special` meets its contract. The loop's invariant: the lists that are left, and their lengths, give what all of them give.
-- Assumes nothing.
use Rattle.std.proofs.Common.{rules, arith, refl}
use Rattle.journal.proofs.ListLaws.{listing_goes, listing_fault, listing_ends, list_within, special_is, special_fault, parsed_err}
use Rattle.journal.proofs.lists.special.Goals as goal

pub returns-in_err-length : goal.returns-in_err-length
returns-in_err-length c =
    parsed_err _ _ c.from_residual.result _ _ c.from_residual.ensures.1
    (special_fault _ _ _ _ (listing_fault _ _ _ _ _ _ _ _ _ c.loop-i-test.true c.loop-i.invariant _ c.list.new.words c.in_err-length.ensures.filled))

pub overflow_add-end : goal.overflow_add-end
overflow_add-end c =
    let n = list_within _ _ _ _ c.list.new.numbers _ _ _ _ c.loop-i-test.true c.loop-i.invariant c.in_ok-length.length c.in_ok-length.ensures.whole in
    search rules

pub loop-i-preserved : goal.loop-i-preserved
loop-i-preserved c =
    listing_goes _ _ _ _ _ _ _ _ _ c.loop-i-test.true c.loop-i.invariant c.in_ok-length.length c.list.new.words c.in_ok-length.ensures.filled c.in_ok-length.ensures.whole

pub returns : goal.returns
returns c =
    special_is _ _ _ _ _ _ (listing_ends _ _ _ _ _ _ _ _ _ c.loop-i-test.false (omega arith) refl c.loop-i.invariant)
    (rw c.from.ensures at c.closed.ensures.whole)
