-- `replay::apply::apply` meets its contract: a question's numbers are within, the words being well formed.
-- Assumes nothing.
use Rattle.replay.proofs.Numbers.{asked-within}
use Rattle.replay.proofs.apply.apply.Goals as goal

pub numbers-requires-in-CallsMade : goal.numbers-requires-in-CallsMade
numbers-requires-in-CallsMade c = asked-within _ _ _ c.requires c.calls_made.ensures
