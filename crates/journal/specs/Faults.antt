-- Whether a call is none but a fault.
-- Assumes nothing.
use Rattle.std.specs.Prelude.{Bool, true, false}
use Rattle.journal.specs.declared.Request.{Request}

abbrev pub is_error : Request → Bool
is_error (Request.Error e) = true
is_error r = false
