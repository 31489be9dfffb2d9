-- The answers that the reading of the history decides, with no book but that of the readings.
-- Assumes nothing.
use Rattle.std.specs.Prelude.{◌≡◌, ℕ, cond, ◌&&◌, List, [], ◌∷◌, ◌++◌}
use Rattle.layout.specs.Book.{Book}
use Rattle.book.specs.Account.{fresh_answer}
use Rattle.book.specs.Call.{statement}
use Rattle.book.specs.Kept.{book_in}
use Rattle.book.specs.Reading.Decisions.{decision}
use Rattle.inquiry.specs.Releasable.{releasable_in}
use Rattle.printing.specs.declared.Answer.{Answer}
use Rattle.answering.specs.Asked.{Asked, call, fresh, guarantee, nothing, role_retired, file_asked, releasable_asked, today_asked, fault}
use Rattle.answering.specs.Kept.{takes, refuses}
use Rattle.answering.specs.Session.{rule_behind, book_of, since, events_since}
use Rattle.answering.specs.Shown.{shown, file_shown, releasable_shown, guarantee_shown}
use Rattle.dialogue.specs.declared.Way.{Way}
use Rattle.dialogue.specs.declared.Place.{Place}
use Rattle.dialogue.specs.Asks.{text_of, request_of, asks, rule_at}
use Rattle.dialogue.specs.Said.{said, tabled}
use Rattle.dialogue.specs.Turns.{State, next, ends_stretch, further, ended}

-- Lines led to a state in which others are taken in a way: to its book, and to the rule that the next call is made under.
pub record Led (way : Way) (s : State) (seen : List Asked) : Type 0 where
  pub book : book_of seen ≡ s.book
  pub rule : rule_behind seen ≡ rule_at way s.place

-- The book of the readings.
abbrev pub read_book : List Asked → Book
read_book lines = book_in (since lines).start (events_since lines)

-- The answer that the reading decides to line number n, where the lines before, the newest first, asked these: a call's is the reading's
-- decision on the calls since the latest fresh book; a participant's file is refused as its statement is; what may be released, and today, are those
-- of the book of the readings.
abbrev pub decided_answer : List Asked → ℕ → Asked → Answer
decided_answer seen n (call c) = shown (decision (rule_behind seen) (since seen).start (events_since seen) c)
decided_answer seen n (fresh d) = shown (fresh_answer d)
decided_answer seen n (guarantee x) = guarantee_shown x
decided_answer seen n nothing = Answer.Nothing
decided_answer seen n role_retired = Answer.Nothing
decided_answer seen n (file_asked p) = file_shown (shown (decision (rule_behind seen) (since seen).start (events_since seen) (statement p)))
decided_answer seen n (releasable_asked p k) = releasable_shown (releasable_in (read_book seen) p k)
decided_answer seen n today_asked = Answer.Today (read_book seen).today
decided_answer seen n (fault e) = Answer.Error n e

-- The answer to a line at a place, its bytes with the table of the readings where it asks for it, and the place behind it.
unfoldable pub decided_to : Way → ℕ → Place → List Asked → List ℕ → Answer
decided_to way room p seen l = decided_answer seen (next p.line) (asks way room p l)

unfoldable pub decided_of : Way → ℕ → Place → List Asked → List ℕ → List ℕ
decided_of way room p seen l =
    said way.words (decided_to way room p seen l) (text_of p.line l)
    ++ tabled way.csv (request_of way room p l) (read_book (asks way room p l ∷ seen))

unfoldable pub decided_place : Way → ℕ → Place → List Asked → List ℕ → Place
decided_place way room p seen l =
    let kept = way.keeps && takes (decided_to way room p seen l) in
    further p kept (refuses (decided_to way room p seen l)) (ends_stretch way p (request_of way room p l) kept)

-- The bytes of lines one after the other, as long as they have not ended.
unfoldable pub decided_bytes : Way → ℕ → Place → List Asked → List (List ℕ) → List ℕ
decided_bytes way room p seen [] = []
decided_bytes way room p seen (l ∷ ls) =
    cond (ended way p) []
    (decided_of way room p seen l ++ decided_bytes way room (decided_place way room p seen l) (asks way room p l ∷ seen) ls)
