-- Paper 01, 'Release'. Causes in their order: 5, 7, 8, 15, 16.
-- Assumes nothing.
use Rattle.std.specs.Prelude.{ℕ, cond, not, List, [], ◌∷◌, ltb, set}
use Rattle.file.specs.declared.File.{File}
use Rattle.file.specs.declared.Slot.{Slot}
use Rattle.file.specs.Answer.{Answer, refused, done, decide, accepted}
use Rattle.file.specs.Position.{cover_on, filled, less_released, not_releasable, outside_amounts, slot_of, position_at}
use Rattle.file.specs.Calls.{largest}
use Rattle.file.specs.Fields.{open_amounts, with_slots}

-- "the largest of the firm amount, all open calls and the next amount".
unfoldable pub release_floor : File → ℕ
release_floor f = largest f.next.amount (f.firm ∷ open_amounts f)

-- The positions after a release.
unfoldable pub slots_left : File → ℕ → ℕ → List Slot
slots_left f k a = set f.slots k (slot_of (less_released a (position_at f.slots k)))

-- What a release of amount a on day t at place k answers: "the cover left today must be at least" the floor.
unfoldable pub release_answer : File → ℕ → ℕ → ℕ → Answer
release_answer f t k a =
    decide refused
    (record { number = 5; holds = ltb 7 k }
    ∷ record { number = 7; holds = not (filled (position_at f.slots k)) }
    ∷ record { number = 8; holds = outside_amounts a }
    ∷ record { number = 15; holds = not_releasable a (position_at f.slots k) }
    ∷ record { number = 16; holds = ltb (cover_on t (slots_left f k a)) (release_floor f) }
    ∷ [])
    done

-- The file after it.
unfoldable pub released_file : File → ℕ → ℕ → ℕ → File
released_file f t k a = cond (accepted (release_answer f t k a)) (with_slots f (slots_left f k a)) f
