-- What the system knows of a file, and what is taken from it.
-- Assumes nothing.
use Rattle.std.specs.Prelude.{ℕ, ◌/◌, ◌%◌, ◌==◌, Bool, ◌&&◌}
use Rattle.std.specs.Fs.{metadata_len, metadata_mode}
use Rattle.std.specs.declared.fs.attrs.Metadata.{Metadata}
use Rattle.storage.specs.declared.known.Facts.{Facts}
use Rattle.storage.specs.declared.known.Identity.{Identity}

-- What is known once a call answered, with the numbers of the device and of the file there. The kind of a file stands in bits 12 to 15 of its mode,
-- and that of a regular file is 8.
abbrev pub facts_in : Metadata → ℕ → ℕ → Facts
facts_in found device inode =
    record {
      regular = (metadata_mode found / 4096 % 16 == 8);
      size = metadata_len found;
      identity = record { device = device; inode = inode };
    }

-- Whether facts are those of a file: its device's number and its own there are the same.
abbrev pub is_of : Facts → Identity → Bool
is_of facts file = (facts.identity.device == file.device && facts.identity.inode == file.inode)
