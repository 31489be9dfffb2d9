-- What stands in the text of a lock.
-- Assumes nothing.
use Rattle.std.specs.Prelude.{ℕ, ◌==◌, List, [], ◌∷◌, ◌++◌, Some, None}
use Rattle.std.specs.List.{before_first}
use Rattle.storage.specs.Texts.{process_in}
use Rattle.storage.specs.declared.locks.Holder.{Holder}
use Rattle.storage.specs.declared.locks.Holder.TheVariants.{Nobody, Process, Foreign}

-- Nothing stands in an empty text; in another stands the number of a process before the first newline, or something else.
abbrev pub holder_in : List ℕ → Holder
holder_in [] = Nobody
holder_in (b ∷ s) = elim (process_in (b ∷ s)) [ Some n ↦ Process n | None ↦ Foreign ]

-- The line that signs a lock: what stands before the first blank of a text, all of it where there is none, and a newline.
abbrev pub number_line : List ℕ → List ℕ
number_line s = before_first (λ b. b == 32) s ++ 10 ∷ []
