-- The lines of an extract make the extract of the history that the lines of the journal make.
-- Assumes nothing.
use Prim.Native.Nat.{ℕ}
use mathlib.Core.Path.{◌≡◌, refl, sym, ap, ◌∙◌}
use mathlib.Core.Bool.{Bool, true, false, cond, not}
use mathlib.Core.List.{List, [], ◌∷◌, ◌++◌, map}
use lib.Dec.{ltb}
use Rattle.laws.specs.Cases.{split, clash, cond-true, cond-false}
use Rattle.file.specs.Answer.{Answer, refused, refused_pair, accepted, decide}
use Rattle.layout.specs.Book.{Book}
use Rattle.book.specs.Call.{Call, on, statement}
use Rattle.book.specs.Rule.{Rule, old_rule, new_rule, MadeCall, under}
use Rattle.book.specs.Account.{fresh_answer, file_at, answer, run}
use Rattle.book.specs.Reading.Decisions.{decision, events_of}
use Rattle.book.proofs.History.Lift.{decided}
use Rattle.answering.specs.Asked.{Asked, call, fresh, guarantee, nothing, file_asked, releasable_asked, today_asked, role_retired, fault, answer_to}
use Rattle.answering.specs.Shown.{shown, guarantee_shown}
use Rattle.answering.specs.Kept.{refuses}
use Rattle.answering.specs.Session.{rule_behind, book_of, Since, history_of, since_with, since}
use Rattle.answering.proofs.Session.{session}
use Rattle.extract.specs.Extract.{own_calls, extract_of, Extracted}
use Rattle.extract.specs.Asks.{own_asks, accepts, own_session, SessionOf}
use Rattle.extract.proofs.Extract.{extracted}

-- ---- a history call by call

-- While the first stretch lasts there are no calls behind it.
abbrev Lasts : Rule → Since → Type 0
Lasts rule s = rule ≡ old_rule → s.calls ≡ []

not-old : new_rule ≡ old_rule → ⊥
not-old e = clash {t = true} refl (ap is_new e)
  where
    is_new : Rule → Bool
    is_new old_rule = false
    is_new new_rule = true

lasts-with : (rule : Rule) (c : Call) (s : Since) → Lasts rule s → Lasts rule (since_with rule c s)
lasts-with old_rule c s l = l
lasts-with new_rule c s l = λ e. absurd (not-old e)

lasts : (lines : List Asked) → Lasts (rule_behind lines) (since lines)
unfolding rule_behind since
lasts [] = λ e. refl
lasts (call c ∷ before) = lasts-with (rule_behind before) c (since before) (lasts before)
lasts (fresh d ∷ before) =
    split (ltb 29219 d)
    (λ t. rw t (lasts before))
    (λ t. rw t (λ e. refl))
lasts (role_retired ∷ before) = λ e. absurd (not-old e)
lasts (guarantee x ∷ before) = lasts before
lasts (nothing ∷ before) = lasts before
lasts (file_asked q ∷ before) = lasts before
lasts (releasable_asked q k ∷ before) = lasts before
lasts (today_asked ∷ before) = lasts before
lasts (fault e ∷ before) = lasts before

-- So one more call stands before the others.
history-with : (rule : Rule) (c : Call) (s : Since) → Lasts rule s → history_of (since_with rule c s) ≡ under rule c ∷ history_of s
history-with old_rule c s l = rw (l refl) refl
history-with new_rule c s l = refl

start-with : (rule : Rule) (c : Call) (s : Since) → (since_with rule c s).start ≡ s.start
start-with old_rule c s = refl
start-with new_rule c s = refl

-- ---- calls before others

-- The calls of an extract, asked one before the other.
behind-calls : (cs : List Call) (before : List Asked) → rule_behind (map call cs ++ before) ≡ rule_behind before
unfolding rule_behind
behind-calls [] before = refl
behind-calls (c ∷ cs) before = behind-calls cs before

start-calls : (cs : List Call) (before : List Asked) → (since (map call cs ++ before)).start ≡ (since before).start
unfolding since
start-calls [] before = refl
start-calls (c ∷ cs) before =
    start-with (rule_behind (map call cs ++ before)) c (since (map call cs ++ before)) ∙ start-calls cs before

history-calls : (rule : Rule) (cs : List Call) (before : List Asked) → rule_behind before ≡ rule
    → history_of (since (map call cs ++ before)) ≡ map (under rule) cs ++ history_of (since before)
unfolding since
history-calls rule [] before e = refl
history-calls rule (c ∷ cs) before e =
    let last = map call cs ++ before in
    history-with (rule_behind last) c (since last) (lasts last)
    ∙ ap (λ (k : Rule). under k c ∷ history_of (since last)) (behind-calls cs before ∙ e)
    ∙ ap (λ (l : List MadeCall). under rule c ∷ l) (history-calls rule cs before e)

-- ---- the session of an extract

-- What holds of lines that make the extract of a history.
record Makes (p : ℕ) (own lines : List Asked) : Type 0 where
  rule : rule_behind own ≡ rule_behind lines
  start : (since own).start ≡ (since lines).start
  calls : history_of (since own) ≡ extract_of p (since lines).start (history_of (since lines))

-- A fresh book is refused for a day behind the calendar alone.
fresh-accepted : (d : ℕ) → accepted (fresh_answer d) ≡ cond (ltb 29219 d) false true
unfolding fresh_answer decide
fresh-accepted d = split (ltb 29219 d) (λ e. rw e) (λ e. rw e)

module _ (p : ℕ) (own before : List Asked) (m : Makes p own before) where
  abbrev rule : Rule
  rule = rule_behind before

  abbrev start : ℕ
  start = (since before).start

  abbrev calls : List MadeCall
  calls = history_of (since before)

  -- The extract of the history with one more call.
  extract-with : (c : Call) → extract_of p (since (call c ∷ before)).start (history_of (since (call c ∷ before)))
      ≡ cond (accepted (decision rule start (events_of start calls) c)) (map (under rule) (own_calls p c) ++ extract_of p start calls)
      (extract_of p start calls)
  unfolding since extract_of
  extract-with c =
      ap (λ (k : ℕ). extract_of p k (history_of (since (call c ∷ before)))) (start-with rule c (since before))
      ∙ ap (extract_of p start) (history-with rule c (since before) (lasts before))

  -- What the account accepts the reading does.
  same-test : (c : Call) → accepted (answer rule (book_of before) c) ≡ accepted (decision rule start (events_of start calls) c)
  same-test c =
      ap (λ (b : Book). accepted (answer rule b c)) (session before).book ∙ ap accepted (decided start calls (session before).within rule c)

  call-accepted : (c : Call) → accepted (answer rule (book_of before) c) ≡ true → Makes p (map call (own_calls p c) ++ own) (call c ∷ before)
  unfolding rule_behind since
  call-accepted c e =
      record {
        rule = behind-calls (own_calls p c) own ∙ m.rule;
        start = start-calls (own_calls p c) own ∙ m.start ∙ sym (start-with rule c (since before));
        calls = history-calls rule (own_calls p c) own m.rule
            ∙ ap (λ (l : List MadeCall). map (under rule) (own_calls p c) ++ l) m.calls
            ∙ sym (extract-with c ∙ cond-true _ _ _ (sym (same-test c) ∙ e));
      }

  call-refused : (c : Call) → accepted (answer rule (book_of before) c) ≡ false → Makes p own (call c ∷ before)
  unfolding rule_behind since
  call-refused c e =
      record {
        rule = m.rule;
        start = m.start ∙ sym (start-with rule c (since before));
        calls = m.calls ∙ sym (extract-with c ∙ cond-false _ _ _ (sym (same-test c) ∙ e));
      }

  fresh-made : (d : ℕ) → Makes p (cond (accepted (fresh_answer d)) (fresh d ∷ own) own) (fresh d ∷ before)
  unfolding rule_behind since extract_of
  fresh-made d =
      split (ltb 29219 d)
      (λ t. rw (fresh-accepted d, t) (record { rule = m.rule; start = rw t m.start; calls = rw t m.calls }))
      (λ t. rw (fresh-accepted d, t) (record { rule = m.rule; start = rw t refl; calls = rw t refl }))

makes : (p : ℕ) (lines : List Asked) → Makes p (own_session p lines) lines
unfolding own_session own_asks rule_behind since extract_of
makes p [] = record { rule = refl; start = refl; calls = refl }
makes p (call c ∷ before) =
    let own = own_session p before in
    let m = makes p before in
    split (accepted (answer (rule_behind before) (book_of before) c))
    (λ t. rw t (call-accepted p own before m c t))
    (λ t. rw t (call-refused p own before m c t))
makes p (fresh d ∷ before) = fresh-made p (own_session p before) before (makes p before) d
makes p (role_retired ∷ before) = let m = makes p before in record { rule = refl; start = m.start; calls = m.calls }
makes p (guarantee x ∷ before) = let m = makes p before in record { rule = m.rule; start = m.start; calls = m.calls }
makes p (nothing ∷ before) = let m = makes p before in record { rule = m.rule; start = m.start; calls = m.calls }
makes p (file_asked q ∷ before) = let m = makes p before in record { rule = m.rule; start = m.start; calls = m.calls }
makes p (releasable_asked q k ∷ before) = let m = makes p before in record { rule = m.rule; start = m.start; calls = m.calls }
makes p (today_asked ∷ before) = let m = makes p before in record { rule = m.rule; start = m.start; calls = m.calls }
makes p (fault e ∷ before) = let m = makes p before in record { rule = m.rule; start = m.start; calls = m.calls }

-- ---- which lines are accepted

-- What is answered to a call is a refusal where the book refused it.
refuses-shown : (x : Answer) → refuses (shown x) ≡ not (accepted x)
refuses-shown (refused n) = refl
refuses-shown (refused_pair n i) = refl
refuses-shown x = refl

other-way : (t : Bool) (l : List Asked) → cond (not t) [] l ≡ cond t l []
other-way true l = refl
other-way false l = refl

none-there : (t : Bool) → cond {A = List Asked} t [] [] ≡ []
none-there true = refl
none-there false = refl

next : (p : ℕ) (before : List Asked) (n : ℕ) (a : Asked)
    → cond (refuses (answer_to (rule_behind before) (book_of before) n a)) [] (own_asks p a) ≡ cond (accepts before a) (own_asks p a) []
unfolding own_asks
next p before n (call c) =
    let x = answer (rule_behind before) (book_of before) c in
    ap (λ (t : Bool). cond t [] (map call (own_calls p c))) (refuses-shown x) ∙ other-way (accepted x) (map call (own_calls p c))
next p before n (fresh d) =
    ap (λ (t : Bool). cond t [] (fresh d ∷ [])) (refuses-shown (fresh_answer d)) ∙ other-way (accepted (fresh_answer d)) (fresh d ∷ [])
next p before n (guarantee x) = none-there (refuses (guarantee_shown x))
next p before n (file_asked q) = none-there (refuses (answer_to (rule_behind before) (book_of before) n (file_asked q)))
next p before n (releasable_asked q k) = none-there (refuses (answer_to (rule_behind before) (book_of before) n (releasable_asked q k)))
next p before n a = refl

-- ---- what it tells

module _ (p : ℕ) (lines : List Asked) where
  abbrev own : List Asked
  own = own_session p lines

  abbrev day : ℕ
  day = (since lines).start

  abbrev made : List MadeCall
  made = history_of (since lines)

  all : Extracted day p made
  all = extracted day p made (session lines).within

  -- The book of the extract's lines is that of the extract.
  own-book : book_of own ≡ run day (extract_of p day made)
  own-book =
      let m = makes p lines in
      (session own).book ∙ (λ i. run (m.start i) (m.calls i))

  -- What the one book answers as the other.
  told : (n : ℕ) (c : Call) → answer (rule_behind lines) (run day made) c ≡ answer (rule_behind lines) (run day (extract_of p day made)) c
      → answer_to (rule_behind lines) (book_of own) n (call c) ≡ answer_to (rule_behind lines) (book_of lines) n (call c)
  told n c same =
      ap shown
      (ap (λ (b : Book). answer (rule_behind lines) b c) own-book
      ∙ sym same
      ∙ sym (ap (λ (b : Book). answer (rule_behind lines) b c) (session lines).book))

  pub session-of : SessionOf p lines
  session-of =
      let m = makes p lines in
      record {
        rule = m.rule;
        start = m.start;
        calls = m.calls;
        next = next p lines;
        statement = λ n. told n (statement p) (all.tells.statement (rule_behind lines));
        answers = λ n a. told n (on p a) (all.tells.calls (rule_behind lines) a);
        file = λ h.
            ap (λ (b : Book). file_at b p) own-book
            ∙ sym (all.file h)
            ∙ sym (ap (λ (b : Book). file_at b p) (session lines).book);
        today = ap (λ (b : Book). b.today.0) own-book ∙ sym all.today ∙ sym (ap (λ (b : Book). b.today.0) (session lines).book);
      }
