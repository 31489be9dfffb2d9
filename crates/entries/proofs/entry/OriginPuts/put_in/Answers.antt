-- `entries::entry::OriginPuts::put_in` meets its contract: the month of a settlement stands behind two words.
-- Assumes nothing.
use Rattle.printing.specs.WrittenLaws.{followed_twice}
use Rattle.entries.specs.Entries.{origin_text}
use Rattle.entries.proofs.entry.OriginPuts.put_in.Goals as goal

pub returns-in-Settlement : goal.returns-in-Settlement
unfolding origin_text
returns-in-Settlement c = rw (c.in-Settlement.is, c.put.ensures, c.text-in-Settlement.ensures) (followed_twice _ _ _)
