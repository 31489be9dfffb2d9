-- `entries::entry::EntryPuts::put_in` meets its contract: each kind has its text. The two with the longest labels are answered here.
-- Assumes nothing.
use Rattle.entries.specs.Entries.{entry_text, released_text, leaving_text}
use Rattle.entries.proofs.entry.EntryPuts.put_in.Goals as goal

pub returns-in-Released : goal.returns-in-Released
unfolding entry_text released_text
returns-in-Released c = rw c.in-Released.is c.put_placed.ensures

pub returns-in-Leaving : goal.returns-in-Leaving
unfolding entry_text leaving_text
returns-in-Leaving c = rw c.in-Leaving.is c.text.ensures
