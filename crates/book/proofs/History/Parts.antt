-- The parts of a batch, each of another participant: by the account and by the reading each is answered as if it stood alone.
-- Assumes nothing.
use Prim.Native.Nat.{ℕ, zero, suc, ◌<◌}
use native.Mathlib.Omega.{arith}
use mathlib.Core.Path.{◌≡◌, refl, sym, ap, ◌∙◌}
use mathlib.Core.Bool.{Bool, true, false, not}
use mathlib.Core.List.{List}
use borrow.Author.Tests.{ltb-true, ltb-false}
use lib.Dec.{ltb}
use lib.Seq.{get_or-set_other}
use Rattle.laws.specs.Cases.{split, clash, cond-true, cond-false}
use Rattle.laws.specs.Least.{least, least-agree, none_below}
use Rattle.std.specs.Prelude.{Result, Ok, Err}
use Rattle.batch.specs.declared.Misfit.{Misfit}
use Rattle.batch.specs.Batch.{count_in, participant_at, form_of}
use Rattle.batch.specs.FormLaws.{is_batch, Whole, whole, participants-differ}
use Rattle.file.specs.Admit.{no_file}
use Rattle.file.specs.Answer.{Answer, refused_pair, batched, accepted}
use Rattle.layout.specs.Book.{Book}
use Rattle.book.specs.Call.{Act, part_act, refusal_of, first_refused, batch_says}
use Rattle.book.specs.Rule.{Rule, new_rule}
use Rattle.book.specs.Account.{file_at, with_file, if_numbered, unless_retired, file_answer, answer_on, after_parts, part_answer}

-- ---- what a batch answers

-- How many parts a form has.
abbrev pub parts_in : Result ℕ Misfit → ℕ
parts_in (Ok n) = n
parts_in (Err m) = 0

-- An accepted batch is of a file with parts.
accepted-form : (form : Result ℕ Misfit) (x : ℕ → Answer) → accepted (batch_says form x) ≡ true → is_batch form ≡ true
unfolding batch_says
accepted-form (Ok n) x e = refl
accepted-form (Err m) x e = e

-- A test that does not hold, from its negation.
not-false : (t : Bool) → not t ≡ false → t ≡ true
not-false true e = refl
not-false false e = sym e

-- An accepted batch has no settlement that is refused.
accepted-each : (n : ℕ) (x : ℕ → Answer) → accepted (batch_says (Ok n) x) ≡ true → (k : ℕ) → k < n → accepted (x k) ≡ true
unfolding batch_says first_refused
accepted-each n x e k h =
    let refuses : ℕ → Bool = λ j. not (accepted (x j)) in
    let first = least refuses n in
    split (ltb first n)
    (λ t. clash {t = false} (ap accepted (sym (cond-true (ltb first n) (refused_pair (refusal_of (x first)) first) (batched n) t)) ∙ e) refl)
    (λ f. not-false (accepted (x k)) (none_below refuses n (ltb-false first n f) k h))

-- So the file of an accepted batch is one, and each of its settlements is accepted.
pub record Accepted (file : List ℕ) (x : ℕ → Answer) : Type 0 where
  pub whole : Whole file
  pub each : (k : ℕ) → k < count_in file → accepted (x k) ≡ true

pub batch-accepted : (file : List ℕ) (x : ℕ → Answer) → accepted (batch_says (form_of file) x) ≡ true → Accepted file x
batch-accepted file x e =
    let w = whole file (accepted-form (form_of file) x e) in
    record { whole = w; each = accepted-each (count_in file) x (ap (λ (f : Result ℕ Misfit). accepted (batch_says f x)) (sym w.form) ∙ e) }

-- Settlements that answer alike below the count of parts make one answer.
says-agree : (n : ℕ) (x y : ℕ → Answer) → ((k : ℕ) → k < n → x k ≡ y k) → batch_says (Ok n) x ≡ batch_says (Ok n) y
unfolding batch_says first_refused
says-agree n x y same =
    let first = least (λ k. not (accepted (x k))) n in
    let other = least (λ k. not (accepted (y k))) n in
    let e : first ≡ other =
    least-agree (λ k. not (accepted (x k))) (λ k. not (accepted (y k))) n (λ k h. ap (λ (z : Answer). not (accepted z)) (same k h)) in
    split (ltb first n)
    (λ t.
    cond-true (ltb first n) (refused_pair (refusal_of (x first)) first) (batched n) t
    ∙ ap (λ (z : Answer). refused_pair (refusal_of z) first) (same first (ltb-true first n t))
    ∙ ap (λ (k : ℕ). refused_pair (refusal_of (y k)) k) e
    ∙ sym (cond-true (ltb other n) (refused_pair (refusal_of (y other)) other) (batched n) (ap (λ (k : ℕ). ltb k n) (sym e) ∙ t)))
    (λ f.
    cond-false (ltb first n) (refused_pair (refusal_of (x first)) first) (batched n) f
    ∙ sym (cond-false (ltb other n) (refused_pair (refusal_of (y other)) other) (batched n) (ap (λ (k : ℕ). ltb k n) (sym e) ∙ f)))

pub batch-agree : (file : List ℕ) (x y : ℕ → Answer) → (Whole file → (k : ℕ) → k < count_in file → x k ≡ y k)
    → batch_says (form_of file) x ≡ batch_says (form_of file) y
unfolding batch_says
batch-agree file x y same =
    split (is_batch (form_of file))
    (λ t.
    let w = whole file t in
    ap (λ (f : Result ℕ Misfit). batch_says f x) w.form
    ∙ says-agree (count_in file) x y (same w)
    ∙ ap (λ (f : Result ℕ Misfit). batch_says f y) (sym w.form))
    (λ f. no-batch (form_of file) f)
  where
    no-batch : (form : Result ℕ Misfit) → is_batch form ≡ false → batch_says form x ≡ batch_says form y
    no-batch (Ok n) e = clash {t = true} refl e
    no-batch (Err m) e = refl

-- ---- the account

-- A participant that none of the first k parts has.
abbrev pub NotAmong : List ℕ → ℕ → ℕ → Type 0
NotAmong file k p = (j : ℕ) → j < k → participant_at file j ≡ p → ⊥

-- "a participant twice" is refused, so a part's participant is none of the parts before.
pub not-among : (file : List ℕ) → Whole file → (k : ℕ) → k < count_in file → NotAmong file k (participant_at file k)
not-among file w k h j l = participants-differ file w j k l h

-- The settlements of the first k parts leave today, and the file of a participant that is none of theirs.
pub today-after : (b : Book) (file : List ℕ) (k : ℕ) → (after_parts b file k).today ≡ b.today
unfolding after_parts with_file
today-after b file zero = refl
today-after b file (suc k) = today-after b file k

pub file-after : (b : Book) (file : List ℕ) (k p : ℕ) → NotAmong file k p → file_at (after_parts b file k) p ≡ file_at b p
unfolding after_parts file_at with_file
file-after b file zero p other = refl
file-after b file (suc k) p other =
    get_or-set_other (after_parts b file k).files (participant_at file k) p _ no_file (λ e. other k (omega arith) (sym e))
    ∙ file-after b file k p (λ j h. other j (omega arith))

-- So what the book answers such a participant is what it answered before.
pub answer-after : (rule : Rule) (b : Book) (file : List ℕ) (k p : ℕ) (a : Act) → NotAmong file k p
    → answer_on rule (after_parts b file k) p a ≡ answer_on rule b p a
answer-after rule b file k p a other =
    λ i. if_numbered p (unless_retired rule a (file_answer (file-after b file k p other i) (today-after b file k i).0 a))

-- A law of the batch: to judge each part by the book before the batch is to judge it where the parts before it are settled.
pub part-alone : (b : Book) (file : List ℕ) → Whole file → (k : ℕ) → k < count_in file
    → part_answer b file k ≡ answer_on new_rule b (participant_at file k) (part_act file k)
unfolding part_answer
part-alone b file w k h = answer-after new_rule b file k (participant_at file k) (part_act file k) (not-among file w k h)
