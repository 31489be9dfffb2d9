-- No call gives anybody the retired role: an admission with it is refused, and every other call leaves the roles as they are.
-- Assumes nothing.
use Prim.Native.Nat.{ℕ, zero, suc}
use mathlib.Core.Path.{◌≡◌, refl, sym, ap, subst, ◌∙◌}
use mathlib.Core.Bool.{Bool, true, false, cond, ◌&&◌}
use mathlib.Core.List.{List, [], ◌∷◌}
use borrow.Author.Tests.{eqb-true, eqb-false}
use lib.Dec.{ltb, eqb}
use lib.ListN.{get_or, set, replicate}
use lib.Seq.{get_or-set_other}
use Rattle.laws.specs.Cases.{split, by-test}
use Rattle.file.specs.declared.File.{File}
use Rattle.file.specs.Answer.{Answer, refused, accepted}
use Rattle.file.specs.Admit.{no_file, admitted_file}
use Rattle.file.specs.Lodge.{lodge_answer, lodged_file}
use Rattle.file.specs.Release.{release_answer, released_file}
use Rattle.file.specs.Settle.{settle_answer, settled_file}
use Rattle.file.specs.Annual.{annual_answer, annual_file}
use Rattle.file.specs.Deletion.{deletion_answer, deleted_file}
use Rattle.file.specs.Opening.{opened_file}
use Rattle.batch.specs.Batch.{count_in, participant_at}
use Rattle.layout.specs.Book.{Book}
use Rattle.book.specs.Call.{Act, admit, lodge, release, settle, annual_run, delete, Call, on, advance, statement, calls_made, batch, part_act}
use Rattle.book.specs.Rule.{new_rule}
use Rattle.book.specs.Account.{fresh_book, file_at, with_file, if_numbered, file_answer, file_after, admits_retired, opened_if_admitted}
use Rattle.book.specs.Account.{answer_on, applied_on, after_parts, days_to_open, open_day, open_days, answer, applied, step}
use Rattle.book.specs.Reading.Decisions.{cause}
use Rattle.book.specs.Retired.{NoneGetsIt}
use Rattle.book.proofs.Participant.Decide.{decide-accepted}
use Rattle.book.proofs.History.Openings.{file-opened}

-- A file with another role.
abbrev Other : File → Type 0
Other f = eqb f.role 1 ≡ false

-- ---- one file

-- An act that is accepted under the new rule admits nobody with role 1.
not-retired : (t : Bool) (x : Answer) → accepted (cond (t && accepted x) (refused 23) x) ≡ true → t ≡ false
not-retired false x e = refl
not-retired true x e =
    split (accepted x)
    (λ h. sym (ap (λ (y : Bool). accepted (cond y (refused 23) x)) (sym h) ∙ e))
    (λ h. sym (sym h ∙ ap (λ (y : Bool). accepted (cond y (refused 23) x)) (sym h) ∙ e))

registered : (b : Book) (p : ℕ) (a : Act) → accepted (answer_on new_rule b p a) ≡ true → admits_retired a ≡ false
unfolding if_numbered
registered b p a e =
    let x = file_answer (file_at b p) b.today.0 a in
    let y = cond (admits_retired a && accepted x) (refused 23) x in
    not-retired (admits_retired a) x (ap accepted (sym (decide-accepted (cause 1 (ltb 63 p) ∷ []) y e)) ∙ e)

file-other : (f : File) (t : ℕ) (a : Act) → admits_retired a ≡ false → Other f → Other (file_after f t a)
unfolding file_after admitted_file lodged_file released_file settled_file annual_file deleted_file
file-other f t (admit role) e h = e
file-other f t (lodge k x) e h = by-test (accepted (lodge_answer f t k x)) _ f Other (λ y. h) (λ n. h)
file-other f t (release k n) e h = by-test (accepted (release_answer f t k n)) _ f Other (λ y. h) (λ n. h)
file-other f t (settle m figures) e h = by-test (accepted (settle_answer f t m figures)) _ f Other (λ y. h) (λ n. h)
file-other f t annual_run e h = by-test (accepted (annual_answer f t)) _ f Other (λ y. h) (λ n. h)
file-other f t delete e h = by-test (accepted (deletion_answer f t)) _ f Other (λ y. h) (λ n. h)

opened-other : (d : ℕ) (f : File) → Other f → Other (opened_if_admitted d f)
unfolding opened_if_admitted opened_file
opened-other d f h = by-test f.admitted (opened_file f d) f Other (λ e. h) (λ e. h)

-- ---- a book

pub nobody : (b : Book) → NoneGetsIt b b
nobody b = record { none = λ p h. h }

pub nobody-then : (a b c : Book) → NoneGetsIt a b → NoneGetsIt b c → NoneGetsIt a c
nobody-then a b c x y = record { none = λ p h. y.none p (x.none p h) }

-- Another file at a place, or as it was where there is no such place.
set-either : (l : List File) (p : ℕ) (g d : File) → Other (get_or l p d) → Other g → Other (get_or (set l p g) p d)
set-either [] p g d h k = h
set-either (f ∷ l) zero g d h k = k
set-either (f ∷ l) (suc p) g d h k = set-either l p g d h k

named : (b : Book) (p : ℕ) (a : Act) → admits_retired a ≡ false → NoneGetsIt b (applied_on b p a)
unfolding with_file file_at
named b p a e =
    record {
      none = λ q h.
          let g = file_after (file_at b p) b.today.0 a in
          split (eqb q p)
          (λ same.
          let is : q ≡ p = eqb-true q p same in
          subst (λ (k : ℕ). Other (get_or (set b.files p g) k no_file)) (sym is)
          (let here : Other (get_or b.files p no_file) = subst (λ (k : ℕ). Other (get_or b.files k no_file)) is h in
          set-either b.files p g no_file here (file-other (file_at b p) b.today.0 a e here)))
          (λ other. subst Other (sym (get_or-set_other b.files p q g no_file (eqb-false q p other))) h);
    }

parts : (b : Book) (file : List ℕ) (k : ℕ) → NoneGetsIt b (after_parts b file k)
unfolding after_parts
parts b file zero = nobody b
parts b file (suc k) =
    nobody-then b (after_parts b file k) (applied_on (after_parts b file k) (participant_at file k) (part_act file k)) (parts b file k)
    (named (after_parts b file k) (participant_at file k) (part_act file k) refl)

day : (b : Book) → NoneGetsIt b (open_day b)
day b =
    record { none = λ p h. subst Other (sym (file-opened b p)) (opened-other (suc b.today.0) (file_at b p) h) }

days : (n : ℕ) (b : Book) → NoneGetsIt b (open_days n b)
unfolding open_days
days zero b = nobody b
days (suc n) b = nobody-then b (open_day b) (open_days n (open_day b)) (day b) (days n (open_day b))

accepted-call : (b : Book) (c : Call) → accepted (answer new_rule b c) ≡ true → NoneGetsIt b (applied b c)
unfolding answer applied
accepted-call b (on p a) e = named b p a (registered b p a e)
accepted-call b (advance t budget) e = days (days_to_open b t budget) b
accepted-call b (statement p) e = nobody b
accepted-call b calls_made e = nobody b
accepted-call b (batch file) e = parts b file (count_in file)

-- No call under the new rule gives anybody the role, on whatever book ..
pub none-gets-it : (b : Book) (c : Call) → NoneGetsIt b (step new_rule b c)
unfolding step
none-gets-it b c =
    by-test (accepted (answer new_rule b c)) (applied b c) b (NoneGetsIt b) (λ e. accepted-call b c e) (λ e. nobody b)

-- .. and a fresh book has nobody.
replicated : (n p : ℕ) → get_or (replicate n no_file) p no_file ≡ no_file
replicated zero p = refl
replicated (suc n) zero = refl
replicated (suc n) (suc p) = replicated n p

pub fresh-nobody : (b : Book) (d : ℕ) → NoneGetsIt b (fresh_book d)
unfolding fresh_book file_at
fresh-nobody b d = record { none = λ p h. subst Other (sym (replicated 64 p)) refl }
