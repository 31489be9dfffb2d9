-- `book::settlements::put_open_call` meets its contract: the call's words behind the open ones, and their number.
-- Assumes nothing.
use Rattle.book.proofs.Functions.SettlementsPut.{call-behind}
use Rattle.book.proofs.settlements.put_open_call.Goals as goal

pub returns : goal.returns
returns c = call-behind _ _ _ _ _ _ c.put.ensures
