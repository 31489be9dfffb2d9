-- The bytes of lines are those that the reading of the history decides: line by line, by the claim about a whole session.
-- Assumes nothing.
use Rattle.std.proofs.Common.{◌≡◌, ℕ, Bool, true, false, cond, not, ◌&&◌, List, [], ◌∷◌, ◌++◌, ℤ, sym, refl, ap, ◌∙◌}
use Rattle.layout.specs.Book.{Book}
use Rattle.book.specs.Rule.{Rule, old_rule, new_rule}
use Rattle.book.specs.Call.{statement}
use Rattle.inquiry.specs.Releasable.{releasable_in}
use Rattle.journal.specs.Grammar.{parsed}
use Rattle.journal.specs.declared.Request.{Request}
use Rattle.printing.specs.declared.Answer.{Answer}
use Rattle.answering.specs.Asked.{Asked, call, fresh, guarantee, nothing, role_retired, file_asked, releasable_asked, today_asked, fault, asked, answer_to, book_after}
use Rattle.answering.specs.Kept.{takes, refuses, is_role_retired}
use Rattle.answering.specs.Shown.{file_shown, releasable_shown}
use Rattle.answering.specs.Session.{rule_behind, book_of, events_since}
use Rattle.answering.proofs.Session.{session}
use Rattle.dialogue.specs.declared.Way.{Way}
use Rattle.dialogue.specs.declared.Place.{Place}
use Rattle.dialogue.specs.Asks.{text_of, request_of, asks, rule_at}
use Rattle.dialogue.specs.Said.{said, tabled}
use Rattle.dialogue.specs.Turns.{State, next, ends_stretch, ends_at, further, answer_of, is_kept, after, bytes_of, ended, all_bytes}
use Rattle.dialogue.specs.Decided.{Led, decided_answer, read_book, decided_to, decided_of, decided_place, decided_bytes}

-- The book is that of the readings.
decided-book : (lines : List Asked) → book_of lines ≡ read_book lines
unfolding events_since
decided-book lines = (session lines).book ∙ (session lines).life.kept

-- An answer is the decided one.
decided-answer : (seen : List Asked) (n : ℕ) (a : Asked) → answer_to (rule_behind seen) (book_of seen) n a ≡ decided_answer seen n a
decided-answer seen n (call c) = (session seen).answered n c
decided-answer seen n (fresh d) = refl
decided-answer seen n (guarantee x) = refl
decided-answer seen n nothing = refl
decided-answer seen n role_retired = refl
decided-answer seen n (file_asked p) = ap file_shown ((session seen).answered n (statement p))
decided-answer seen n (releasable_asked p k) = ap (λ (b : Book). releasable_shown (releasable_in b p k)) (decided-book seen)
decided-answer seen n today_asked = ap (λ (b : Book). Answer.Today b.today) (decided-book seen)
decided-answer seen n (fault e) = refl

book-more : (seen : List Asked) (a : Asked) → book_of (a ∷ seen) ≡ book_after (rule_behind seen) (book_of seen) a
unfolding book_of
book-more seen a = refl

-- The rule behind a line: the new one behind the mark, and behind any other line what it was.
rule-more : (seen : List Asked) (r : Request) (zs : List ℤ) → rule_behind (asked r zs ∷ seen) ≡ cond (is_role_retired r) new_rule (rule_behind seen)
unfolding rule_behind
rule-more seen Request.RoleRetired zs = refl
rule-more seen r zs = refl

-- .. as the place has it: where a journal is replayed the mark ends the first stretch, and elsewhere the rule is the new one.
rule-behind : (replays early mark kept : Bool)
    → cond mark new_rule (cond (replays && early) old_rule new_rule)
    ≡ cond (replays && (early && not (cond replays (early && mark) (early && kept)))) old_rule new_rule
rule-behind false early true kept = refl
rule-behind false early false kept = refl
rule-behind true false true kept = refl
rule-behind true false false kept = refl
rule-behind true true true kept = refl
rule-behind true true false kept = refl

-- ---- one line, whatever lines led to the book

module _ (way : Way) (room : ℕ) (s : State) (l : List ℕ) (seen : List Asked) (e : Led way s seen) where
  pub decided-to : answer_of way room s l ≡ decided_to way room s.place seen l
  unfolding answer_of decided_to
  decided-to =
      let n = next s.place.line in
      let a = asks way room s.place l in
      ap (λ (rule : Rule). answer_to rule s.book n a) (sym e.rule)
      ∙ ap (λ (b : Book). answer_to (rule_behind seen) b n a) (sym e.book)
      ∙ decided-answer seen n a

  after-book : book_of (asks way room s.place l ∷ seen) ≡ (after way room s l).book
  unfolding after
  after-book =
      let a = asks way room s.place l in
      book-more seen a
      ∙ ap (λ (b : Book). book_after (rule_behind seen) b a) e.book
      ∙ ap (λ (rule : Rule). book_after rule s.book a) e.rule

  after-rule : rule_behind (asks way room s.place l ∷ seen) ≡ rule_at way (after way room s l).place
  unfolding after asks ends_at
  after-rule =
      let r = request_of way room s.place l in
      rule-more seen r (parsed room (text_of s.place.line l)).numbers
      ∙ ap (cond (is_role_retired r) new_rule) e.rule
      ∙ rule-behind way.replays s.place.early (is_role_retired r) (is_kept way room s l)

  pub decided-seen : Led way (after way room s l) (asks way room s.place l ∷ seen)
  decided-seen = record { book = after-book; rule = after-rule }

  pub decided-of : bytes_of way room s l ≡ decided_of way room s.place seen l
  unfolding bytes_of decided_of after
  decided-of =
      let r = request_of way room s.place l in
      let a = asks way room s.place l in
      ap (λ (z : Answer). said way.words z (text_of s.place.line l) ++ tabled way.csv r (book_after (rule_at way s.place) s.book a)) decided-to
      ∙ ap (λ (b : Book). said way.words (decided_to way room s.place seen l) (text_of s.place.line l) ++ tabled way.csv r b) (sym after-book ∙ decided-book (a ∷ seen))

  pub decided-place : (after way room s l).place ≡ decided_place way room s.place seen l
  unfolding after is_kept ends_at decided_place
  decided-place =
      ap
      (λ (z : Answer).
      further s.place (way.keeps && takes z) (refuses z)
      (ends_stretch way s.place (request_of way room s.place l) (way.keeps && takes z)))
      decided-to

-- ---- lines one after the other

pub decided-bytes : (way : Way) (room : ℕ) (s : State) (ls : List (List ℕ)) (seen : List Asked) → Led way s seen
    → all_bytes way room s ls ≡ decided_bytes way room s.place seen ls
unfolding all_bytes decided_bytes
decided-bytes way room s [] seen e = refl
decided-bytes way room s (l ∷ ls) seen e =
    let a = asks way room s.place l in
    let t = after way room s l in
    ap (cond (ended way s.place) [])
    (ap (λ (z : List ℕ). z ++ all_bytes way room t ls) (decided-of way room s l seen e)
    ∙ ap (λ (z : List ℕ). decided_of way room s.place seen l ++ z) (decided-bytes way room t ls (a ∷ seen) (decided-seen way room s l seen e))
    ∙ ap (λ (p : Place). decided_of way room s.place seen l ++ decided_bytes way room p (a ∷ seen) ls) (decided-place way room s l seen e))
