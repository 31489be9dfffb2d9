-- Lines taken in turn: what each asks and is answered, the state that it leaves, the bytes that it adds to the answers and to the journal.
-- Assumes nothing.
use Rattle.std.specs.Prelude.{ℕ, ◌+◌, ◌%◌, ◌^◌, Bool, false, cond, not, ◌&&◌, List, [], ◌∷◌, ◌++◌, nat_lt}
use Rattle.layout.specs.Book.{Book}
use Rattle.words.specs.Comments.{reference_of, commented}
use Rattle.journal.specs.Grammar.{parsed}
use Rattle.journal.specs.declared.Request.{Request}
use Rattle.printing.specs.declared.Answer.{Answer}
use Rattle.printing.specs.Lines.{printed}
use Rattle.answering.specs.Asked.{answer_to, book_after}
use Rattle.answering.specs.Kept.{takes, refuses, is_role_retired, retired_line}
use Rattle.dialogue.specs.declared.Way.{Way}
use Rattle.dialogue.specs.declared.Place.{Place}
use Rattle.dialogue.specs.Asks.{text_of, request_of, asks, rule_at}
use Rattle.dialogue.specs.Said.{said, tabled}

-- The book beside how far an input is taken.
pub record State : Type 0 where
  pub book : Book
  pub place : Place

-- The number behind a number, of 64 bits.
unfoldable pub next : ℕ → ℕ
next n = (n + 1) % 2 ^ 64

-- A count, and one more where something holds.
abbrev pub counted : Bool → ℕ → ℕ
counted t n = cond t (next n) n

-- What a line is answered, with room for so many numbers.
unfoldable pub answer_of : Way → ℕ → State → List ℕ → Answer
answer_of way room s l = answer_to (rule_at way s.place) s.book (next s.place.line) (asks way room s.place l)

-- "each accepted call is appended", but for the questions: whether a line is kept.
unfoldable pub is_kept : Way → ℕ → State → List ℕ → Bool
is_kept way room s l = way.keeps && takes (answer_of way room s l)

-- Paper 02, Ask 3: whether a line ends the first stretch of a journal that has no line yet that ends it: in a replay that line, `role-retired`; else the
-- first one that is kept, before which `role-retired` is written.
abbrev pub ends_stretch : Way → Place → Request → (kept : Bool) → Bool
ends_stretch way p r kept = cond way.replays (p.early && is_role_retired r) (p.early && kept)

-- .. of a line as it is taken.
unfoldable pub ends_at : Way → ℕ → State → List ℕ → Bool
ends_at way room s l = ends_stretch way s.place (request_of way room s.place l) (is_kept way room s l)

-- Where the next line begins, behind one that is kept or not, refused or not, and ends the first stretch or not.
abbrev pub further : Place → (kept refused ends : Bool) → Place
further p kept refused ends =
    record {
      line = next p.line;
      refused = counted refused p.refused;
      kept = counted kept p.kept;
      long = false;
      early = p.early && not ends;
    }

-- The state that a line leaves.
unfoldable pub after : Way → ℕ → State → List ℕ → State
after way room s l =
    record {
      book = book_after (rule_at way s.place) s.book (asks way room s.place l);
      place = further s.place (is_kept way room s l) (refuses (answer_of way room s l)) (ends_at way room s l);
    }

-- The bytes that it adds to the answers: "an answer line, a report, nothing for an empty line", nor for `role-retired`.
unfoldable pub bytes_of : Way → ℕ → State → List ℕ → List ℕ
bytes_of way room s l =
    said way.words (answer_of way room s l) (text_of s.place.line l)
    ++ tabled way.csv (request_of way room s.place l) (book_after (rule_at way s.place) s.book (asks way room s.place l))

-- The call of a line in its numeric form.
unfoldable pub numeric : ℕ → ℕ → List ℕ → List ℕ
numeric room before l = printed (parsed room (text_of before l)).request (parsed room (text_of before l)).numbers

-- What is kept of a line, without its newline: "a comment behind an accepted call is kept in the journal behind the call's numeric form".
unfoldable pub kept_text : ℕ → ℕ → List ℕ → List ℕ
kept_text room before l = numeric room before l ++ commented (reference_of (text_of before l))

-- The bytes that it adds to the journal: `role-retired` where it ends the first stretch, and its line where it is kept.
unfoldable pub journal_of : Way → ℕ → State → List ℕ → List ℕ
journal_of way room s l =
    cond (way.keeps && ends_at way room s l) retired_line [] ++ cond (is_kept way room s l) (kept_text room s.place.line l ++ (10 ∷ [])) []

-- Whether the lines have ended before their end: behind the first refusal or error, where that is the last.
unfoldable pub ended : Way → Place → Bool
ended way p = way.bails && nat_lt 0 p.refused

-- The same of lines one after the other, as long as they have not ended.
unfoldable pub after_all : Way → ℕ → State → List (List ℕ) → State
after_all way room s [] = s
after_all way room s (l ∷ ls) = cond (ended way s.place) s (after_all way room (after way room s l) ls)

unfoldable pub all_bytes : Way → ℕ → State → List (List ℕ) → List ℕ
all_bytes way room s [] = []
all_bytes way room s (l ∷ ls) = cond (ended way s.place) [] (bytes_of way room s l ++ all_bytes way room (after way room s l) ls)

unfoldable pub all_journal : Way → ℕ → State → List (List ℕ) → List ℕ
all_journal way room s [] = []
all_journal way room s (l ∷ ls) = cond (ended way s.place) [] (journal_of way room s l ++ all_journal way room (after way room s l) ls)
