-- Paper 01, 'Lodge'. Causes in their order: 5, 6, 8, 9.
-- Assumes nothing.
use Rattle.std.specs.Prelude.{ℕ, cond, [], ◌∷◌, ltb, set}
use Rattle.file.specs.declared.File.{File}
use Rattle.file.specs.declared.Position.{Position}
use Rattle.file.specs.Answer.{Answer, refused, done, decide, accepted}
use Rattle.file.specs.Position.{amount_of, filled, outside_amounts, against_days, slot_of, position_at}
use Rattle.file.specs.Fields.{with_slots}

-- What a lodging on day t at place k answers.
unfoldable pub lodge_answer : File → ℕ → ℕ → Position → Answer
lodge_answer f t k p =
    decide refused
    (record { number = 5; holds = ltb 7 k }
    ∷ record { number = 6; holds = filled (position_at f.slots k) }
    ∷ record { number = 8; holds = outside_amounts (amount_of p) }
    ∷ record { number = 9; holds = against_days t p }
    ∷ [])
    done

-- The file after it: "It counts from now on, as its dates allow."
unfoldable pub lodged_file : File → ℕ → ℕ → Position → File
lodged_file f t k p = cond (accepted (lodge_answer f t k p)) (with_slots f (set f.slots k (slot_of p))) f
