-- `entries::entry::put_call` meets its contract: the amount, the last free day and where the call came from, one behind the other.
-- Assumes nothing.
use Rattle.entries.specs.Entries.{called_text}
use Rattle.entries.proofs.EntryLaws.{call_put}
use Rattle.entries.proofs.entry.put_call.Goals as goal

pub returns : goal.returns
unfolding called_text
returns c =
    call_put _ _ _ _ _ _ _ _ _ _ _ (rw c.as_slice.ensures at c.put_amount.ensures) c.text.ensures c.put.ensures c.text-2.ensures c.put-2.ensures
