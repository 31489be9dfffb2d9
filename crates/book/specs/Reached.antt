-- What a call of the book gives, by the book's account and by the reading of every history that leads to it.
-- Assumes nothing.
use Rattle.std.specs.Prelude.{ℕ, ◌≤◌, ◌≡◌, List, [], ◌∷◌}
use Rattle.file.specs.Answer.{Answer}
use Rattle.layout.specs.Book.{Book}
use Rattle.book.specs.Call.{Call}
use Rattle.book.specs.Rule.{Rule, old_rule, new_rule, history}
use Rattle.book.specs.Account.{fresh_answer, fresh_book_beside, answer, step, run}
use Rattle.book.specs.Reading.Decisions.{decision, events_of}
use Rattle.book.specs.Kept.{book_in}

-- "a book being any that a fresh book and the calls lead to", those of a first stretch, made under the old admission rule, and those since.
pub record Reached (b : Book) : Type 0 where
  pub start : ℕ
  pub within : start ≤ 29219
  pub first : List Call
  pub since : List Call
  pub leads : run start (history first since) ≡ b

-- .. and one that the calls of a first stretch alone lead to.
pub record ReachedFirst (b : Book) : Type 0 where
  pub start : ℕ
  pub within : start ≤ 29219
  pub first : List Call
  pub leads : run start (history first []) ≡ b

-- The books that a call made under a rule may find: under the old one those of a first stretch alone.
abbrev pub ReachedUnder : Rule → Book → Type 0
ReachedUnder old_rule b = ReachedFirst b
ReachedUnder new_rule b = Reached b

-- What call c on book b gives: its answer x and the book b' that it leaves.
pub record Given (b : Book) (c : Call) (x : Answer) (b' : Book) : Type 0 where
  -- the equations, for every input
  pub answered : x ≡ answer new_rule b c
  pub left : b' ≡ step new_rule b c
  -- a reached book stays one
  pub reached : Reached b → Reached b'
  -- for every history that leads to b: the answer is the reading's decision, and the book left is that of the history with this call
  pub decided : (s : ℕ) (first since : List Call) → s ≤ 29219 → run s (history first since) ≡ b
      → x ≡ decision new_rule s (events_of s (history first since)) c
  pub reads : (s : ℕ) (first since : List Call) → s ≤ 29219 → run s (history first since) ≡ b
      → b' ≡ book_in s (events_of s (history first (c ∷ since)))

-- Paper 02, Ask 3: the same of a call of a first stretch, made under the old admission rule.
pub record GivenFirst (b : Book) (c : Call) (x : Answer) (b' : Book) : Type 0 where
  pub answered : x ≡ answer old_rule b c
  pub left : b' ≡ step old_rule b c
  pub reached : ReachedFirst b → ReachedFirst b'
  pub decided : (s : ℕ) (first : List Call) → s ≤ 29219 → run s (history first []) ≡ b → x ≡ decision old_rule s (events_of s (history first [])) c
  pub reads : (s : ℕ) (first : List Call) → s ≤ 29219 → run s (history first []) ≡ b → b' ≡ book_in s (events_of s (history (c ∷ first) []))

-- What asking for a fresh book on day d gives.
pub record Begun (d : ℕ) (x : Answer) (b : Book) : Type 0 where
  pub answered : x ≡ fresh_answer d
  pub left : b ≡ fresh_book_beside d
  pub reached : Reached b
  -- a first stretch may begin
  pub first : ReachedFirst b
