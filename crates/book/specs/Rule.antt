-- The admission rule that a call is made under (paper 02, Ask 3), and a history with its first stretch.
-- Assumes nothing.
use Rattle.std.specs.Prelude.{List, map, ◌++◌}
use Rattle.book.specs.Call.{Call}

-- "The regulator no longer registers Self-Supplied Customers. .. Only admission changes": the rule of before, and today's.
pub data Rule : Type 0 where
  old_rule : Rule
  new_rule : Rule

-- A call that was made, with the rule that it was made under.
pub record MadeCall : Type 0 where
  pub rule : Rule
  pub call : Call

abbrev pub under : Rule → Call → MadeCall
under rule c = record { rule = rule; call = c }

-- "a history from a fresh book may still have a first stretch of calls made under the old admission rule": the calls of the first stretch and
-- those since, each list the newest first, as one list, the newest first. The two are told apart by their place in it, not by a day.
abbrev pub history : (first since : List Call) → List MadeCall
history first since = map (under new_rule) since ++ map (under old_rule) first
