-- A call given as words gives what the call gives, and the calls of a list, in turn, give what the list does.
-- Assumes nothing.
use Prim.Native.Nat.{ℕ, zero, suc, ◌+◌, ◌*◌, ◌/◌, ◌≤◌, ◌<◌, min}
use native.Mathlib.Omega.{arith}
use native.Mathlib.Numerals.{add-one}
use mathlib.Core.Path.{◌≡◌, refl, sym, ap, ap₂, subst, ◌∙◌}
use mathlib.Core.Bool.{Bool, true, false, cond}
use mathlib.Core.List.{List, ◌++◌}
use borrow.Author.Tests.{lt-ltb, le-ltb, ltb-true, ltb-false}
use Rattle.laws.specs.Cases.{split, clash}
use Rattle.file.specs.DecideLaws.{none-holds}
use lib.IntN.{ℤ}
use lib.Dec.{ltb}
use lib.ListN.{length, take, drop, length-append, length-drop}
use lib.Seq.{take_at, drop_at, drop-drop}
use Rattle.file.specs.Answer.{Answer, refused, done, called, covered, recorded, annual, days_opened, stated, counted, batched, refused_pair, deletion}
use Rattle.file.specs.Answer.{decide, accepted}
use Rattle.layout.specs.Book.{Book}
use Rattle.layout.specs.Words.{book_length, book_of_words}
use Rattle.layout.specs.WellFormed.{WellFormed}
use Rattle.book.specs.Call.{Call}
use Rattle.book.specs.Rule.{old_rule, new_rule}
use Rattle.book.specs.Account.{fresh_book, fresh_answer, fresh_book_beside, applied, answer, step, run}
use Rattle.book.specs.Reading.Decisions.{decision, events_of}
use Rattle.book.specs.Reached.{Reached, Begun}
use Rattle.book.specs.InWords.{BegunWords}
use Rattle.replay.specs.Encoding.{call_at, first_calls, since_calls, history_up_to}
use Rattle.replay.specs.Encoding.{rule_of, rule_of_place, seven_numbers, decided}
use Rattle.replay.specs.Replayed.{GivenNumbers, call_count, Replayed, ReplayedFrom}
use Rattle.book.proofs.History.Life.{life}
use Rattle.book.proofs.History.Lift as Lift
use Rattle.replay.proofs.Stretches.{admits, alike, history-none, history-next}

-- ---- the rule that a call is made under

-- What a call that is no admission gives under the new rule it gives under the old one.
given-alike : (l m : List ℕ) (c : Call) (z : List ℤ) → admits c ≡ false → GivenNumbers new_rule l c z m → GivenNumbers old_rule l c z m
unfolding step
given-alike l m c z n g =
    let x = alike c n (book_of_words l) in
    record {
      answered = g.answered ∙ ap seven_numbers (sym x);
      left = g.left ∙ ap (λ (y : Answer). cond (accepted y) (applied (book_of_words l) c) (book_of_words l)) (sym x);
      formed = g.formed;
    }

-- A call of the first stretch that is no admission, and one since.
pub under-either : (old : Bool) (l m : List ℕ) (c : Call) (z : List ℤ) → (old ≡ true → admits c ≡ false) → GivenNumbers new_rule l c z m
    → GivenNumbers (rule_of old) l c z m
under-either true l m c z other g = given-alike l m c z (other refl) g
under-either false l m c z other g = g

-- ---- the calls in turn

-- An answer's numbers are seven.
numbers-long : (x : Answer) → length (seven_numbers x) ≡ 7
numbers-long (refused n) = refl
numbers-long done = refl
numbers-long (called e asked last) = refl
numbers-long (covered e) = refl
numbers-long (recorded e) = refl
numbers-long (annual a n) = refl
numbers-long (days_opened n) = refl
numbers-long (stated f c s d a m) = refl
numbers-long (counted n) = refl
numbers-long (batched n) = refl
numbers-long (refused_pair n i) = refl
numbers-long (deletion a calls) = refl

decided-long : (s first : ℕ) (calls : List ℕ) (figures : List ℤ) (files : List ℕ) (n : ℕ) → length (decided s first calls figures files n) ≡ 7 * n
unfolding decided
decided-long s first calls figures files zero = refl
decided-long s first calls figures files (suc n) =
    let x = seven_numbers (decision (rule_of_place first n) s (events_of s (history_up_to first calls figures files n)) (call_at calls figures files n)) in
    let seven = numbers-long (decision (rule_of_place first n) s (events_of s (history_up_to first calls figures files n)) (call_at calls figures files n)) in
    omega (arith, length-append (decided s first calls figures files n) x, decided-long s first calls figures files n)

-- After i calls of `count` from a fresh book on day s: what was written and the book in the words m are those of the first i calls.
pub record Turn (calls : List ℕ) (figures : List ℤ) (files : List ℕ) (out₀ : List ℤ) (s first count i : ℕ) (out : List ℤ) (m : List ℕ) : Type 0 where
  pub day : s ≤ 29219
  pub all : count ≡ call_count calls out₀
  pub made : i ≤ count
  pub long : length out ≡ length out₀
  pub written : out ≡ decided s first calls figures files i ++ drop (7 * i) out₀
  pub left : book_of_words m ≡ run s (history_up_to first calls figures files i)
  pub formed : WellFormed m

-- A fresh book on a day of the calendar, and on a later one.
begun-on : (d : ℕ) (x : Answer) (b : Book) → d ≤ 29219 → Begun d x b → b ≡ fresh_book d
unfolding fresh_book_beside fresh_answer decide
begun-on d x b h g = g.left ∙ simp (le-ltb 29219 d h)

begun-late : (d : ℕ) (x : Answer) (b : Book) → 29219 < d → Begun d x b → b ≡ fresh_book 0
unfolding fresh_book_beside fresh_answer decide
begun-late d x b h g = g.left ∙ simp (lt-ltb 29219 d h)

begun-today : (d : ℕ) (x : Answer) (b : Book) → d ≤ 29219 → Begun d x b → b.today.0 ≡ d
unfolding fresh_book
begun-today d x b h g = ap (λ (z : Book). z.today.0) (begun-on d x b h g)

-- A fresh book is refused on a later day alone.
begun-within : (d : ℕ) → done ≡ fresh_answer d → d ≤ 29219
unfolding fresh_answer
begun-within d e = ltb-false 29219 d (none-holds _ done (ap accepted (sym e))).0

begun-above : (d n : ℕ) → refused n ≡ fresh_answer d → 29219 < d
unfolding fresh_answer decide
begun-above d n e = split (ltb 29219 d) (λ t. ltb-true 29219 d t) (λ f. clash {t = true} refl (ap accepted (sym (rw f at e))))

-- A refusal.
pub turn-none : (calls : List ℕ) (figures : List ℤ) (files : List ℕ) (out : List ℤ) (d first n : ℕ) (m : List ℕ) → BegunWords d (refused n) m
    → ReplayedFrom d first calls figures files out out (refused n) m
turn-none calls figures files out d first n m g =
    let h = begun-above d n g.begun.answered in
    record {
      answered = g.begun.answered;
      replayed = λ k. absurd (omega arith);
      late = λ k. (refl, begun-late d (refused n) (book_of_words m) h g.begun);
      formed = g.formed;
    }

-- A fresh book has as many words as were lent.
pub begun-long : (d : ℕ) (x : Answer) (l m : List ℕ) → length l ≡ book_length → BegunWords d x m → length m ≡ length l
begun-long d x l m h g = g.formed.long ∙ sym h

-- The day of the fresh book, as its words have it.
abbrev pub first_day : List ℕ → ℕ
first_day m = (book_of_words m).today.0

-- No call yet.
pub turn-first : (calls : List ℕ) (figures : List ℤ) (files : List ℕ) (out : List ℤ) (d first count : ℕ) (m : List ℕ) → BegunWords d done m
    → count ≡ min (length calls / 6) (length out / 7) → Turn calls figures files out (first_day m) first count 0 out m
unfolding decided run
turn-first calls figures files out d first count m g e =
    let h = begun-within d g.begun.answered in
    let t = begun-today d done (book_of_words m) h g.begun in
    record {
      day = omega arith;
      all = e;
      made = omega arith;
      long = refl;
      written = refl;
      left =
          begun-on d done (book_of_words m) h g.begun
          ∙ ap fresh_book (sym t)
          ∙ ap (run (first_day m)) (sym (history-none first calls figures files));
      formed = g.formed;
    }

module _ (calls : List ℕ) (figures : List ℤ) (files : List ℕ) (out₀ : List ℤ) (s first count i : ℕ) (out : List ℤ) (m : List ℕ)
    (t : Turn calls figures files out₀ s first count i out m) where
  -- A call may be made on the words.
  pub turn-formed : WellFormed m
  turn-formed = t.formed

  pub turn-long : (l : List ℕ) → length l ≡ book_length → length m ≡ length l
  turn-long l h = t.formed.long ∙ sym h

  -- The next call has its words, and room for its numbers.
  pub turn-words : i < count → 6 * i + 6 ≤ length calls
  turn-words h = omega (arith, t.all)

  pub turn-room : i < count → 7 * i + 7 ≤ length out
  turn-room h = omega (arith, t.all, t.long)

  -- Its answer is the reading's decision.
  turn-decided : answer (rule_of_place first i) (book_of_words m) (call_at calls figures files i)
      ≡ decision (rule_of_place first i) s (events_of s (history_up_to first calls figures files i)) (call_at calls figures files i)
  turn-decided =
      ap (λ (b : Book). answer (rule_of_place first i) b (call_at calls figures files i)) t.left
      ∙ Lift.decided s (history_up_to first calls figures files i) t.day (rule_of_place first i) (call_at calls figures files i)

  -- What was written stays, and what is behind the next seven numbers.
  turn-before : take (7 * i) out ≡ decided s first calls figures files i
  turn-before =
      ap (take (7 * i)) t.written
      ∙ take_at (decided s first calls figures files i) (drop (7 * i) out₀) (7 * i) (decided-long s first calls figures files i)

  turn-behind : drop (7 * i + 7) out ≡ drop (7 * i + 7) out₀
  turn-behind =
      sym (drop-drop 7 (7 * i) out)
      ∙ ap (λ (l : List ℤ). drop 7 (drop (7 * i) l)) t.written
      ∙ ap (drop 7) (drop_at (decided s first calls figures files i) (drop (7 * i) out₀) (7 * i) (decided-long s first calls figures files i))
      ∙ drop-drop 7 (7 * i) out₀

  -- What is written after the next call.
  turn-written : (l out' : List ℤ) (m' : List ℕ) → GivenNumbers (rule_of_place first i) m (call_at calls figures files i) l m'
      → out' ≡ take (7 * i) out ++ l ++ drop (7 * i + 7) out → out' ≡ decided s first calls figures files (i + 1) ++ drop (7 * (i + 1)) out₀
  unfolding decided
  turn-written l out' m' g e =
      let n : 7 * i + 7 ≡ 7 * (i + 1) = omega arith in
      e
      ∙ ap₂ (λ (x y : List ℤ). x ++ l ++ y) turn-before turn-behind
      ∙ ap (λ (x : List ℤ). decided s first calls figures files i ++ x ++ drop (7 * i + 7) out₀) (g.answered ∙ ap seven_numbers turn-decided)
      ∙ ap₂ (λ (j k : ℕ). decided s first calls figures files j ++ drop k out₀) (sym (add-one i)) n

  -- One call more.
  pub turn-next : (l out' : List ℤ) (m' : List ℕ) → i < count → GivenNumbers (rule_of_place first i) m (call_at calls figures files i) l m'
      → out' ≡ take (7 * i) out ++ l ++ drop (7 * i + 7) out → Turn calls figures files out₀ s first count (i + 1) out' m'
  unfolding run
  turn-next l out' m' h g e =
      let w = turn-written l out' m' g e in
      record {
        day = t.day;
        all = t.all;
        made = omega arith;
        long =
            ap length w
            ∙ length-append (decided s first calls figures files (i + 1)) (drop (7 * (i + 1)) out₀)
            ∙ omega (arith, decided-long s first calls figures files (i + 1), length-drop (7 * (i + 1)) out₀, t.all);
        written = w;
        left =
            g.left
            ∙ ap (λ (z : Book). step (rule_of_place first i) z (call_at calls figures files i)) t.left
            ∙ ap (run s) (sym (history-next first calls figures files i))
            ∙ ap (λ (n : ℕ). run s (history_up_to first calls figures files n)) (sym (add-one i));
        formed = g.formed;
      }

-- The book is one that the two lists of calls lead to.
turn-reached : (calls : List ℕ) (figures : List ℤ) (files : List ℕ) (out₀ : List ℤ) (s first count i : ℕ) (out : List ℤ) (m : List ℕ)
    → Turn calls figures files out₀ s first count i out m → Reached (book_of_words m)
unfolding history_up_to
turn-reached calls figures files out₀ s first count i out m t =
    record {
      start = s;
      within = t.day;
      first = first_calls first calls figures files i;
      since = since_calls first calls figures files i;
      leads = sym t.left;
    }

-- All calls.
turn-all : (calls : List ℕ) (figures : List ℤ) (files : List ℕ) (out₀ : List ℤ) (s first count i : ℕ) (out : List ℤ) (m : List ℕ)
    → Turn calls figures files out₀ s first count i out m → count ≤ i
    → Replayed s first (call_count calls out₀) calls figures files out₀ out (book_of_words m)
turn-all calls figures files out₀ s first count i out m t h =
    let made = t.made in
    let n : i ≡ count = omega arith in
    subst (λ (k : ℕ). Replayed s first k calls figures files out₀ out (book_of_words m)) (n ∙ t.all)
    (record {
      written = t.written;
      kept = t.left ∙ (life s (history_up_to first calls figures files i) t.day).kept;
      left = t.left;
      life = life s (history_up_to first calls figures files i) t.day;
      reached = turn-reached calls figures files out₀ s first count i out m t;
    })

pub turn_last : (calls : List ℕ) (figures : List ℤ) (files : List ℕ) (out₀ out : List ℤ) (d first count i : ℕ) (m₀ m : List ℕ)
    → BegunWords d done m₀ → Turn calls figures files out₀ (first_day m₀) first count i out m → count ≤ i
    → ReplayedFrom d first calls figures files out₀ out done m
turn_last calls figures files out₀ out d first count i m₀ m g t k =
    let h = begun-within d g.begun.answered in
    record {
      answered = g.begun.answered;
      replayed = λ low.
          subst (λ (s : ℕ). Replayed s first (call_count calls out₀) calls figures files out₀ out (book_of_words m))
          (begun-today d done (book_of_words m₀) h g.begun)
          (turn-all calls figures files out₀ (first_day m₀) first count i out m t k);
      late = λ high. absurd (omega arith);
      formed = t.formed;
    }

pub ruleset turns = (begun-long, turn-formed, turn-long, turn-words, turn-room)
