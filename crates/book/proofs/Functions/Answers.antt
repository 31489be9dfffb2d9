-- What each public call gives, from what it did: the call's answer, and the participant's file put back into the book.
-- Assumes nothing.
use Prim.Native.Nat.{ℕ, ◌≤◌, ◌<◌}
use mathlib.Core.Path.{◌≡◌, refl, sym, ap, ◌∙◌}
use mathlib.Core.Bool.{true, false}
use mathlib.Core.List.{List, [], ◌∷◌}
use borrow.Author.Tests.{lt-ltb, le-ltb}
use lib.Dec.{ltb}
use Rattle.laws.specs.Cases.{split}
use Rattle.file.specs.declared.File.{File}
use Rattle.file.specs.declared.Statement.{Statement}
use Rattle.file.specs.Answer.{Answer, Cause, refused, done, counted, decide, accepted, statement_says}
use Rattle.file.specs.Admit.{admitted_file}
use Rattle.file.specs.Statement.{file_statement}
use Rattle.layout.specs.Book.{Book}
use Rattle.book.specs.Call.{Act, admit, Call, on, statement, calls_made}
use Rattle.book.specs.Rule.{Rule, old_rule, new_rule}
use Rattle.book.specs.Account.{file_at, with_file, sum_of_counts, if_numbered, if_admitted, admits_retired, file_answer, answer, applied, step}
use Rattle.book.specs.Left.{file_left}
use Rattle.book.specs.Reached.{Given}
use Rattle.book.proofs.Participant.Decide.{decide_true, decide-false, decide-accepted}
use Rattle.book.proofs.Functions.OnFile.{refused-left, known-first, known-answer, is-admitted}
use Rattle.book.proofs.Functions.OnFile.{admitted-left, left-stored}
use Rattle.book.proofs.History.Life.{given}

-- A refused call: its number, and the book as it was.
refusal : (b : Book) (c : Call) (n : ℕ) → refused n ≡ answer new_rule b c → Given b c (refused n) b
refusal b c n e = given b c (refused n) b e (refused-left b c n e)

-- The calls on a participant's file.
module _ (b : Book) (p : ℕ) (low : p ≤ 63) where
  abbrev f : File
  f = file_at b p

  abbrev t : ℕ
  t = b.today.0

  numbered : ltb 63 p ≡ false
  numbered = le-ltb 63 p low

  -- What the call on the file answered, and the book with the file that it left.
  pub left-given : (a : Act) (x : Answer) (g : File) → admits_retired a ≡ false
      → x ≡ file_answer (file_at b p) b.today.0 a → g ≡ file_left (file_at b p) b.today.0 a → Given b (on p a) x (with_file b p g)
  left-given a x g other answered file =
      given b (on p a) x (with_file b p g) (known-answer b p a x numbered other answered)
      (ap (with_file b p) file ∙ left-stored b p a numbered other)

  -- Admissions, by the causes that both rules have.
  pub first-already : (role : ℕ) → (file_at b p).admitted ≡ true → refused 3 ≡ answer old_rule b (on p (admit role))
  unfolding file_answer
  first-already role e =
      known-first b p (admit role) (refused 3) numbered (sym (decide_true (record { number = 3; holds = f.admitted }) _ done e))

  pub first-no-role : (role : ℕ) → (file_at b p).admitted ≡ false → 5 < role → refused 4 ≡ answer old_rule b (on p (admit role))
  unfolding file_answer
  first-no-role role e h =
      known-first b p (admit role) (refused 4) numbered
      (sym (decide-false (record { number = 3; holds = f.admitted }) (record { number = 4; holds = ltb 5 role } ∷ []) done e
      ∙ decide_true (record { number = 4; holds = ltb 5 role }) [] done (lt-ltb 5 role h)))

  pub first_done : (role : ℕ) → (file_at b p).admitted ≡ false → role ≤ 5 → done ≡ answer old_rule b (on p (admit role))
  unfolding file_answer decide
  first_done role e h =
      known-first b p (admit role) done numbered
      (sym (decide-false (record { number = 3; holds = f.admitted }) (record { number = 4; holds = ltb 5 role } ∷ []) done e
      ∙ decide-false (record { number = 4; holds = ltb 5 role }) [] done (le-ltb 5 role h)))

  -- The statement.
  stated-by : (x : Answer) → x ≡ if_admitted f (statement_says (file_statement f t)) → x ≡ answer new_rule b (statement p)
  unfolding answer if_numbered decide
  stated-by x e = e ∙ sym (decide-false (record { number = 1; holds = ltb 63 p }) [] _ numbered)

  same-book : b ≡ step new_rule b (statement p)
  unfolding step applied
  same-book = split (accepted (answer new_rule b (statement p))) (λ e. rw e) (λ e. rw e)

  pub gave-statement : (st : Statement) → (file_at b p).admitted ≡ true → st ≡ file_statement (file_at b p) b.today.0
      → Given b (statement p) (statement_says st) b
  gave-statement st e h =
      given b (statement p) (statement_says st) b
      (stated-by (statement_says st) (is-admitted f _ (statement_says st) e (ap statement_says h)))
      same-book

-- An accepted admission is answered by `done`.
pub accepted-done : (b : Book) (p role : ℕ) → accepted (answer old_rule b (on p (admit role))) ≡ true → done ≡ answer old_rule b (on p (admit role))
unfolding answer if_numbered file_answer
accepted-done b p role e =
    let causes : List Cause = record { number = 3; holds = (file_at b p).admitted } ∷ record { number = 4; holds = ltb 5 role } ∷ [] in
    let first = decide-accepted (record { number = 1; holds = ltb 63 p } ∷ []) (decide refused causes done) e in
    sym (first ∙ decide-accepted causes done (ap accepted (sym first) ∙ e))

-- An accepted admission, under either rule: the file of an admission is put back.
pub left-admit : (rule : Rule) (b : Book) (p role : ℕ) (g : File) → accepted (answer rule b (on p (admit role))) ≡ true
    → g ≡ admitted_file b.today.0 role → with_file b p g ≡ step rule b (on p (admit role))
left-admit rule b p role g e file = ap (with_file b p) file ∙ admitted-left rule b p role e

-- A statement that is refused.
pub refused-statement : (b : Book) (p n : ℕ) → refused n ≡ answer new_rule b (statement p) → Given b (statement p) (refused n) b
refused-statement b p n e = refusal b (statement p) n e

-- The count of calls made to all.
pub gave_count : (b : Book) (n : ℕ) → n ≡ sum_of_counts b → Given b calls_made (counted n) b
unfolding answer step applied
gave_count b n e = given b calls_made (counted n) b (ap counted e) refl
