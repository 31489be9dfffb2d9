-- Paper 02, Ask 3: who has the retired role.
-- Assumes nothing.
use Rattle.std.specs.Prelude.{ℕ, ◌≡◌, false, eqb}
use Rattle.layout.specs.Book.{Book}
use Rattle.book.specs.Account.{file_at}

-- "The regulator no longer registers Self-Supplied Customers": nobody has role 1 in the book `after` who hadn't it in the book `before`.
pub record NoneGetsIt (before after : Book) : Type 0 where
  pub none : (p : ℕ) → eqb (file_at before p).role 1 ≡ false → eqb (file_at after p).role 1 ≡ false
