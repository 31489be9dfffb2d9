-- Paper 01, 'Admit': "Firm amount 0. A minimum above 0 becomes an open call with last free day t + 10".
-- Assumes nothing.
use Rattle.std.specs.Prelude.{ℕ, ◌+◌, true, false, cond, List, [], ◌∷◌, ltb, length, replicate}
use Rattle.file.specs.declared.File.{File}
use Rattle.file.specs.declared.Position.TheVariants.{Empty}
use Rattle.file.specs.declared.OpenCall.{OpenCall}
use Rattle.file.specs.Position.{slot_of}
use Rattle.file.specs.Calls.{call_of, in_places}
use Rattle.file.specs.Totals.{no_total}
use Rattle.file.specs.Fields.{unset}
use Rattle.manual.specs.Minimum.{minimum_of}

-- The call that an admission on day t makes, if any.
unfoldable pub calls_of_admission : ℕ → ℕ → List OpenCall
calls_of_admission t role = cond (ltb 0 (minimum_of role)) (call_of (minimum_of role) (t + 10) ∷ []) []

-- The file of a participant that isn't admitted: nothing in it.
abbrev pub no_file : File
no_file =
    record {
      admitted = false;
      leaving = false;
      role = 0;
      firm = 0;
      slots = replicate 8 (slot_of Empty);
      calls = replicate 4 (call_of 0 0);
      count = 0;
      next = unset;
      totals = replicate 16 no_total;
      charged = 0;
      accrued = 0;
      made = 0;
    }

-- The file of a participant admitted on day t. Paper 02, Ask 6, of its count of calls made: "its admission's .. included".
unfoldable pub admitted_file : ℕ → ℕ → File
admitted_file t role =
    record {
      admitted = true;
      leaving = false;
      role = role;
      firm = 0;
      slots = replicate 8 (slot_of Empty);
      calls = in_places (calls_of_admission t role);
      count = length (calls_of_admission t role);
      next = unset;
      totals = replicate 16 no_total;
      charged = 0;
      accrued = 0;
      made = length (calls_of_admission t role);
    }
