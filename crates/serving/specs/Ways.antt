-- The ways to take the lines of an input, and the place before its first line.
-- Assumes nothing.
use Rattle.std.specs.Prelude.{ℕ, Bool, true, false, not}
use Rattle.dialogue.specs.declared.Way.{Way}
use Rattle.dialogue.specs.declared.Place.{Place}
use Rattle.serving.specs.declared.options.Options.{Options}

-- Before the first line, where so many calls are kept and the first stretch of the journal lasts, or not.
abbrev pub at_start : (kept : ℕ) (early : Bool) → Place
at_start kept early = record { line = 0; refused = 0; kept = kept; long = false; early = early }

-- As a filter nothing is kept, and no journal is replayed, so that the old admission rule is not used.
abbrev pub filter_way : (bails : Bool) → Way
filter_way bails = record { keeps = false; reads = false; torn = false; bails = bails; gathers = true; replays = false; words = false; csv = false }

-- Behind a replay the journal is kept, or only read; what is typed there is under the new admission rule too.
abbrev pub behind_replay : (reads bails gathers : Bool) → Way
behind_replay reads bails gathers =
    record { keeps = not reads; reads = reads; torn = false; bails = bails; gathers = gathers; replays = false; words = false; csv = false }

-- A way with words beside numbers and with tables for spreadsheets, where they are asked for.
abbrev pub shown : Options → Way → Way
shown o way = record way { words = o.words; csv = o.csv }
