-- What a lodging or a release writes.
-- Assumes nothing.
use Rattle.std.specs.Prelude.{ℕ, ◌+◌, ◌*◌, ◌≡◌, List}
use Rattle.file.specs.declared.Position.{Position}
use Rattle.file.specs.Position.{slot_of}
use Rattle.layout.specs.Parts.{slot_words, SlotBack, written}
use Rattle.layout.specs.Words.{place}

-- Of the words l, what is put at position k of participant p leaves m: the words of the holding, which lead back to it.
pub record PutsPosition (l : List ℕ) (p k : ℕ) (holding : Position) (m : List ℕ) : Type 0 where
  pub stored : m ≡ written l (place p + (10 + 4 * k)) (slot_words (slot_of holding))
  pub back : SlotBack (slot_of holding)
