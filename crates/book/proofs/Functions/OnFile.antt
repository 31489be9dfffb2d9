-- A call that names a participant of the book, by what it does to that participant's file: the file is stored whether the call was accepted
-- or not, since a refused call leaves it as it was.
-- Assumes nothing.
use Prim.Native.Nat.{ℕ}
use mathlib.Core.Path.{◌≡◌, refl, sym, ap, ◌∙◌}
use mathlib.Core.Bool.{Bool, true, false, cond, not, ◌&&◌}
use mathlib.Core.List.{[]}
use lib.Dec.{ltb, eqb}
use lib.Seq.{set-get_or}
use Rattle.laws.specs.Cases.{split, clash, cond-true, cond-false}
use Rattle.file.specs.declared.File.{File}
use Rattle.file.specs.Answer.{Answer, refused}
use Rattle.file.specs.Answer.{decide, accepted}
use Rattle.file.specs.Admit.{no_file, admitted_file}
use Rattle.layout.specs.Book.{Book}
use Rattle.book.specs.Call.{Act, admit, Call, on}
use Rattle.book.specs.Rule.{Rule, old_rule, new_rule}
use Rattle.book.specs.Account.{file_at, with_file, if_numbered, if_admitted, file_answer, file_after}
use Rattle.book.specs.Account.{admits_retired, unless_retired, answer, applied, step}
use Rattle.book.specs.Left.{file_left}
use Rattle.book.proofs.Participant.Decide.{decide_true, decide-false}

-- A participant above 63: refused with 1, and the book as it was.
pub above-answer : (rule : Rule) (b : Book) (p : ℕ) (a : Act) → ltb 63 p ≡ true → refused 1 ≡ answer rule b (on p a)
unfolding answer if_numbered
above-answer rule b p a e =
    sym (decide_true (record { number = 1; holds = ltb 63 p }) [] (unless_retired rule a (file_answer (file_at b p) b.today.0 a)) e)

-- A refused call leaves the book.
pub refused-left : (b : Book) (c : Call) (n : ℕ) → refused n ≡ answer new_rule b c → b ≡ step new_rule b c
unfolding step
refused-left b c n e = sym (ap (λ (x : Answer). cond (accepted x) (applied b c) b) (sym e))

-- A known participant's answer is that of the call on its file under the old rule ..
pub known-first : (b : Book) (p : ℕ) (a : Act) (x : Answer) → ltb 63 p ≡ false → x ≡ file_answer (file_at b p) b.today.0 a
    → x ≡ answer old_rule b (on p a)
unfolding answer if_numbered decide
known-first b p a x e h = h ∙ sym (decide-false (record { number = 1; holds = ltb 63 p }) [] (file_answer (file_at b p) b.today.0 a) e)

-- .. and under the new one, where it doesn't admit the retired role.
pub unretired : (a : Act) (x : Answer) → admits_retired a ≡ false → x ≡ unless_retired new_rule a x
unretired a x e = rw e refl

pub known-answer : (b : Book) (p : ℕ) (a : Act) (x : Answer) → ltb 63 p ≡ false → admits_retired a ≡ false
    → x ≡ file_answer (file_at b p) b.today.0 a → x ≡ answer new_rule b (on p a)
unfolding answer if_numbered decide
known-answer b p a x e other h =
    h ∙ unretired a (file_answer (file_at b p) b.today.0 a) other
    ∙ sym (decide-false (record { number = 1; holds = ltb 63 p }) [] (unless_retired new_rule a (file_answer (file_at b p) b.today.0 a)) e)

-- What the old rule refuses, the new one refuses alike; what it accepts of another role, the new one accepts; and role 1 is refused with 23.
refused-both : (t : Bool) (x : Answer) → accepted x ≡ false → x ≡ cond (t && accepted x) (refused 23) x
refused-both true x e = rw e refl
refused-both false x e = refl

pub refused-first : (b : Book) (p : ℕ) (a : Act) (x : Answer) → x ≡ answer old_rule b (on p a) → accepted x ≡ false → x ≡ answer new_rule b (on p a)
unfolding answer if_numbered decide
refused-first b p a x e bad =
    split (ltb 63 p)
    (λ h. e ∙ rw h refl)
    (λ h.
    let same : x ≡ file_answer (file_at b p) b.today.0 a = e ∙ rw h refl in
    same ∙ refused-both (admits_retired a) (file_answer (file_at b p) b.today.0 a) (ap accepted (sym same) ∙ bad) ∙ rw h refl)

pub accepted-first : (b : Book) (p role : ℕ) → accepted (answer old_rule b (on p (admit role))) ≡ true → eqb role 1 ≡ false
    → answer new_rule b (on p (admit role)) ≡ answer old_rule b (on p (admit role))
unfolding answer
accepted-first b p role e other = rw other refl

pub retired-first : (b : Book) (p role : ℕ) → accepted (answer old_rule b (on p (admit role))) ≡ true → eqb role 1 ≡ true
    → refused 23 ≡ answer new_rule b (on p (admit role))
unfolding answer if_numbered decide
retired-first b p role e one =
    let x = file_answer (file_at b p) b.today.0 (admit role) in
    split (ltb 63 p)
    (λ h. clash {t = false} (ap (λ (t : Bool). accepted (cond t (refused 1) x)) (sym h) ∙ e) refl)
    (λ h.
    rw (h, one) (sym (cond-true (accepted x) (refused 23) x (ap (λ (t : Bool). accepted (cond t (refused 1) x)) (sym h) ∙ e))))

-- One that isn't admitted is refused with 2.
pub not-admitted : (f : File) (x : Answer) → f.admitted ≡ false → refused 2 ≡ if_admitted f x
unfolding if_admitted
not-admitted f x e = sym (decide_true (record { number = 2; holds = not f.admitted }) [] x (ap not e))

pub is-admitted : (f : File) (x y : Answer) → f.admitted ≡ true → y ≡ x → y ≡ if_admitted f x
unfolding if_admitted decide
is-admitted f x y e h = h ∙ sym (decide-false (record { number = 2; holds = not f.admitted }) [] x (ap not e))

-- Storing a participant's own file changes nothing.
stored_same : (b : Book) (p : ℕ) → with_file b p (file_at b p) ≡ b
unfolding with_file file_at
stored_same b p = λ i. record { files = set-get_or b.files p no_file i; today = b.today }

-- An accepted admission.
pub admitted-left : (rule : Rule) (b : Book) (p role : ℕ) → accepted (answer rule b (on p (admit role))) ≡ true
    → with_file b p (admitted_file b.today.0 role) ≡ step rule b (on p (admit role))
unfolding step applied file_after
admitted-left rule b p role e = sym (cond-true (accepted (answer rule b (on p (admit role)))) (applied b (on p (admit role))) b e)

-- The book with the file that a call leaves: where the call was refused it is as before.
pub left-stored : (b : Book) (p : ℕ) (a : Act) → ltb 63 p ≡ false → admits_retired a ≡ false
    → with_file b p (file_left (file_at b p) b.today.0 a) ≡ step new_rule b (on p a)
unfolding file_left step applied
left-stored b p a numbered other =
    let f = file_at b p in
    let x = file_answer f b.today.0 a in
    let after = file_after f b.today.0 a in
    let same : accepted x ≡ accepted (answer new_rule b (on p a)) = ap accepted (known-answer b p a x numbered other refl) in
    split (accepted x)
    (λ e.
    ap (with_file b p) (cond-true (accepted x) after f e) ∙ sym (cond-true (accepted (answer new_rule b (on p a))) (with_file b p after) b (sym same ∙ e)))
    (λ e.
    ap (with_file b p) (cond-false (accepted x) after f e)
    ∙ stored_same b p
    ∙ sym (cond-false (accepted (answer new_rule b (on p a))) (with_file b p after) b (sym same ∙ e)))
