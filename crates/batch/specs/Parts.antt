-- One part of a file as a record, and what the functions on it leave. Paper 02, Ask 1.
-- Assumes nothing.
use Rattle.std.specs.Prelude.{ℕ, ◌≤◌, ◌<◌, ◌≡◌, List}
use Rattle.batch.specs.Batch.{offset_at, participant_at, rows_at}
use Rattle.batch.specs.declared.parts.Part.{Part}

-- "Each part holds a participant (1 byte), a row count r (1 byte)": the part of pair i.
unfoldable pub part_of : List ℕ → ℕ → Part
part_of file i = record { participant = participant_at file i; rows = rows_at file i; offset = offset_at file i }

-- A part is that of pair i. What follows of its fields is said beside it: a row count is one byte, an offset four.
pub record PartIs (file : List ℕ) (i : ℕ) (part : Part) : Type 0 where
  pub same : part ≡ part_of file i
  pub participant : part.participant ≡ participant_at file i
  pub rows : part.rows ≡ rows_at file i
  pub offset : part.offset ≡ offset_at file i
  pub few : part.rows ≤ 255
  pub low : part.offset < 4294967296
