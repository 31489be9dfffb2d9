-- Paper 01, 'Statement': "firm amount, cover, shortfall, days charged, accrued charge". Paper 02, Ask 6: "a count in each file, shown in its statement".
-- Assumes nothing.
use Rattle.std.specs.Prelude.{ℕ}
use Rattle.file.specs.declared.File.{File}
use Rattle.file.specs.declared.Statement.{Statement}
use Rattle.file.specs.Fields.{cover_of, shortfall_of}

-- The statement of a file on day t.
unfoldable pub file_statement : File → ℕ → Statement
file_statement f t =
    record {
      firm = f.firm;
      cover = cover_of f t;
      shortfall = shortfall_of f t;
      charged = f.charged;
      accrued = f.accrued;
      made = f.made;
    }
