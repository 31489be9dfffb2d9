-- What a request gives, from what the book's call gives.
-- Assumes nothing.
use Prim.Native.Nat.{ℕ, ◌≤◌, ◌<◌}
use mathlib.Core.Path.{◌≡◌, refl, sym, ap, subst, ◌∙◌}
use mathlib.Core.Bool.{Bool, true, false}
use borrow.Author.Tests.{lt-ltb, le-ltb, ltb-false}
use lib.Dec.{ltb}
use lib.IntN.{ℤ}
use mathlib.Core.List.{List, [], ◌∷◌}
use Rattle.laws.specs.Cases.{clash, by-test}
use Rattle.std.specs.Prelude.{Result}
use Rattle.refusal.specs.declared.Refusal.{Refusal}
use Rattle.file.specs.Answer as Said
use Rattle.file.specs.Answer.{outcome_says, decide, accepted}
use Rattle.file.specs.DecideLaws.{none-holds}
use Rattle.layout.specs.Book.{Book}
use Rattle.layout.specs.Words.{book_of_words, book_words}
use Rattle.layout.specs.WellFormed.{WellFormed}
use Rattle.book.specs.Call.{Call}
use Rattle.book.specs.Rule.{Rule, old_rule, new_rule}
use Rattle.book.specs.Account.{fresh_answer, fresh_book, fresh_book_beside, answer, step, run}
use Rattle.book.specs.Reached.{Given, ReachedUnder}
use Rattle.book.specs.InWords.{GivenWords, BegunWords}
use Rattle.book.proofs.History.Life.{given, given-first}
use Rattle.journal.specs.declared.Request.{Request}
use Rattle.printing.specs.declared.Answer.{Answer}
use Rattle.answering.specs.Shown.{shown}
use Rattle.answering.specs.Asked.{Asked, call, fresh, guarantee, nothing, role_retired, file_asked, releasable_asked, today_asked, fault}
use Rattle.answering.specs.Asked.{asked, answer_to, book_after}
use Rattle.answering.specs.Kept.{takes}
use Rattle.answering.specs.InWords.{AnsweredWords}
use Rattle.answering.proofs.Session.{not_taken}

-- ---- from the book to its words

fresh-within : (d : ℕ) → accepted (fresh_answer d) ≡ true → d ≤ 29219
unfolding fresh_answer
fresh-within d e = ltb-false 29219 d (none-holds (record { number = 17; holds = ltb 29219 d } ∷ []) Said.done e).0

-- A reached book stays one, whatever a line asks.
reached-call : (rule : Rule) (b : Book) (c : Call) → ReachedUnder rule b → ReachedUnder rule (step rule b c)
reached-call old_rule b c r = (given-first b c (answer old_rule b c) (step old_rule b c) refl refl).reached r
reached-call new_rule b c r = (given b c (answer new_rule b c) (step new_rule b c) refl refl).reached r

reached-fresh : (rule : Rule) (d : ℕ) → d ≤ 29219 → ReachedUnder rule (fresh_book d)
unfolding run
reached-fresh old_rule d h = record { start = d; within = h; first = []; leads = refl }
reached-fresh new_rule d h = record { start = d; within = h; first = []; since = []; leads = refl }

reached-after : (rule : Rule) (b : Book) (a : Asked) → ReachedUnder rule b → ReachedUnder rule (book_after rule b a)
reached-after rule b (call c) r = reached-call rule b c r
reached-after rule b (fresh d) r =
    by-test (accepted (fresh_answer d)) (fresh_book d) b (ReachedUnder rule) (λ e. reached-fresh rule d (fresh-within d e)) (λ e. r)
reached-after rule b (guarantee x) r = r
reached-after rule b nothing r = r
reached-after rule b role_retired r = r
reached-after rule b (file_asked p) r = r
reached-after rule b (releasable_asked p k) r = r
reached-after rule b today_asked r = r
reached-after rule b (fault e) r = r

-- A line that leaves well-formed words.
in_words : (rule : Rule) (l m : List ℕ) (n : ℕ) (a : Asked) (x : Answer) → WellFormed l → WellFormed m → x ≡ answer_to rule (book_of_words l) n a
    → book_of_words m ≡ book_after rule (book_of_words l) a → AnsweredWords rule l n a x m
in_words rule l m n a x w v h k =
    let same : book_after rule (book_of_words l) a ≡ book_of_words l → m ≡ l = λ e.
    v.canonical ∙ ap book_words (k ∙ e) ∙ sym w.canonical in
    record {
      given =
          record {
            answered = h;
            left = k;
            reached = λ r. subst (ReachedUnder rule) (sym k) (reached-after rule (book_of_words l) a r);
          };
      formed = v;
      unchanged = same;
      refused = λ t. same (not_taken rule (book_of_words l) n a (ap takes (sym h) ∙ t));
    }

-- A line that wrote nothing.
beside : (l : List ℕ) (n : ℕ) (a : Asked) (x : Answer) → WellFormed l → x ≡ answer_to new_rule (book_of_words l) n a
    → book_of_words l ≡ book_after new_rule (book_of_words l) a → AnsweredWords new_rule l n a x l
beside l n a x w h k = in_words new_rule l l n a x w w h k

-- ---- a call of the book

gave : (l m : List ℕ) (n : ℕ) (c : Call) (x : Said.Answer) (y : Answer) → WellFormed l → GivenWords l c x m → y ≡ shown x
    → AnsweredWords new_rule l n (call c) y m
gave l m n c x y w g h = in_words new_rule l m n (call c) y w g.formed (h ∙ ap shown g.given.answered) g.given.left

-- A question, which leaves the book.
asks : (l : List ℕ) (n : ℕ) (c : Call) (x : Said.Answer) (y : Answer) → WellFormed l → Given (book_of_words l) c x (book_of_words l) → y ≡ shown x
    → AnsweredWords new_rule l n (call c) y l
asks l n c x y w g h = in_words new_rule l l n (call c) y w w (h ∙ ap shown g.answered) g.left

-- ---- a fresh book

fresh-late : (d : ℕ) → 29219 < d → fresh_answer d ≡ Said.refused 17
unfolding fresh_answer decide
fresh-late d h = rw (lt-ltb 29219 d h)

fresh-in-time : (d : ℕ) → d ≤ 29219 → fresh_answer d ≡ Said.done
unfolding fresh_answer decide
fresh-in-time d h = rw (le-ltb 29219 d h)

pub begun_refused : (l : List ℕ) (d : ℕ) (y : Answer) → WellFormed l → 29219 < d → y ≡ shown (Said.refused 17) → AnsweredWords new_rule l 0 (fresh d) y l
begun_refused l d y w h e =
    let f : fresh_answer d ≡ Said.refused 17 = fresh-late d h in
    beside l 0 (fresh d) y w (e ∙ ap shown (sym f)) (rw f refl)

pub begun_done : (l m : List ℕ) (d : ℕ) (x : Result Unit Refusal) (y : Answer) → WellFormed l → d ≤ 29219 → BegunWords d (outcome_says x) m
    → y ≡ shown (outcome_says x) → AnsweredWords new_rule l 0 (fresh d) y m
unfolding fresh_book_beside
begun_done l m d x y w h g e =
    let f : fresh_answer d ≡ Said.done = fresh-in-time d h in
    let k : book_of_words m ≡ fresh_book_beside d = g.begun.left in
    in_words new_rule l m 0 (fresh d) y w g.formed (e ∙ ap shown g.begun.answered)
    (let j : book_of_words m ≡ fresh_book d = rw f at k in rw f j)

-- ---- a line of a first stretch

-- Whether a request is for an admission.
abbrev is_admission : Request → Bool
is_admission (Request.Admit p r) = true
is_admission r = false

-- "Only admission changes": any other request is answered, and leaves the book, alike under both rules.
alike-answer : (b : Book) (n : ℕ) (r : Request) (zs : List ℤ) → is_admission r ≡ false
    → answer_to new_rule b n (asked r zs) ≡ answer_to old_rule b n (asked r zs)
unfolding answer
alike-answer b n (Request.Admit p r) zs h = clash {t = true} refl h
alike-answer b n r zs h = refl

alike-book : (b : Book) (r : Request) (zs : List ℤ) → is_admission r ≡ false → book_after new_rule b (asked r zs) ≡ book_after old_rule b (asked r zs)
unfolding answer step
alike-book b (Request.Admit p r) zs h = clash {t = true} refl h
alike-book b r zs h = refl

-- So what it gives under the new rule it gives under the old one.
alike : (l m : List ℕ) (n : ℕ) (r : Request) (zs : List ℤ) (x : Answer) → is_admission r ≡ false → WellFormed l
    → AnsweredWords new_rule l n (asked r zs) x m → AnsweredWords old_rule l n (asked r zs) x m
alike l m n r zs x h w g =
    in_words old_rule l m n (asked r zs) x w g.formed (g.given.answered ∙ alike-answer (book_of_words l) n r zs h)
    (g.given.left ∙ alike-book (book_of_words l) r zs h)

-- A request that is not `admit` is for no admission.
not-admission : (r : Request) → ((p role : ℕ) → r ≡ Request.Admit p role → ⊥) → is_admission r ≡ false
not-admission (Request.Admit p r) not = absurd (not p r refl)
not-admission r not = refl

pub alike_otherwise : (l m : List ℕ) (n : ℕ) (r : Request) (zs : List ℤ) (x : Answer) → ((p role : ℕ) → r ≡ Request.Admit p role → ⊥) → WellFormed l
    → AnsweredWords new_rule l n (asked r zs) x m → AnsweredWords old_rule l n (asked r zs) x m
alike_otherwise l m n r zs x not w g = alike l m n r zs x (not-admission r not) w g
