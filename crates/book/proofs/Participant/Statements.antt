-- The statement of the file of the readings is the reading's statement.
-- Assumes nothing.
use Prim.Native.Nat.{ℕ, ◌-◌}
use native.Mathlib.Nat.{le_refl}
use mathlib.Core.Path.{◌≡◌, ap}
use mathlib.Core.List.{List}
use Rattle.file.specs.Answer.{stated, statement_says}
use Rattle.file.specs.Fields.{cover_of, shortfall_of}
use Rattle.file.specs.Statement.{file_statement}
use Rattle.book.specs.Reading.Events.{Own}
use Rattle.book.specs.Reading.Holdings.{cover_in}
use Rattle.book.specs.Reading.Calls.{firm_in, made_in}
use Rattle.book.specs.Reading.Charges.{charged_in, accrued_in}
use Rattle.book.specs.Reading.Decisions.{own_statement}
use Rattle.book.specs.Kept.{file_in}
use Rattle.book.proofs.Participant.Lawful.{today_in, Lawful}
use Rattle.book.proofs.Participant.Cover.{cover-is}

-- The cover today of the file of the readings.
pub cover-of-file : (s : ℕ) (own : List Own) → Lawful s own
    → cover_of (file_in (today_in s own) own) (today_in s own) ≡ cover_in (today_in s own) own
unfolding cover_of file_in
cover-of-file s own lw = cover-is s (today_in s own) own lw (le_refl (today_in s own))

-- The firm amount and the charges are read off, and the shortfall follows from the cover.
pub statement-is : (s : ℕ) (own : List Own) → Lawful s own
    → statement_says (file_statement (file_in (today_in s own) own) (today_in s own)) ≡ own_statement (today_in s own) own
unfolding file_statement shortfall_of file_in own_statement
statement-is s own lw =
    let t = today_in s own in
    ap (λ (cover : ℕ). stated (firm_in t own) cover (firm_in t own - cover) (charged_in own) (accrued_in own) (made_in own)) (cover-of-file s own lw)
