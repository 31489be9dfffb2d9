-- A sound book stays sound under every call, and a fresh one is sound: so every book that a fresh book and calls lead to is.
-- Assumes nothing.
use Prim.Native.Nat.{ℕ, zero, suc, ◌+◌, ◌-◌, ◌≤◌, ◌<◌, min}
use native.Mathlib.Omega.{arith}
use mathlib.Core.Path.{◌≡◌, refl, sym, ap, subst, ◌∙◌}
use mathlib.Core.Bool.{Bool, true, false, cond, not, ◌&&◌, ◌||◌}
use mathlib.Core.List.{List, [], ◌∷◌}
use borrow.Author.Tests.{ltb-false, not-false}
use lib.Dec.{ltb}
use lib.ListN.{set, length-set, length-map, length-replicate}
use Rattle.laws.specs.Lists.{all-default, all_set, all_replicate, all_map}
use Rattle.laws.specs.Cases.{split, clash, by-test}
use Rattle.file.specs.declared.File.{File}
use Rattle.file.specs.Answer.{Answer, refused, days_opened, Cause, decide, accepted}
use Rattle.file.specs.Admit.{no_file, admitted_file}
use Rattle.file.specs.Fields.{with_slots, with_totals, with_next, with_deletion, set_to}
use Rattle.file.specs.Position.{slot_of}
use Rattle.file.specs.Lodge.{lodge_answer, lodged_file}
use Rattle.file.specs.Release.{slots_left, release_answer, released_file}
use Rattle.file.specs.Settle.{settle_answer, settled_file, calls_settled}
use Rattle.file.specs.Annual.{annual_amount_of, annual_answer, annual_file}
use Rattle.file.specs.Deletion.{deletion_answer, calls_deleted, deleted_file}
use Rattle.file.specs.Opening.{opened_file}
use Rattle.file.specs.Sound.{Sound}
use Rattle.file.specs.DecideLaws.{none-holds}
use Rattle.file.specs.KeepsPositions.{none-sound, admitted-sound, lodged-sound, released-sound}
use Rattle.file.specs.KeepsCalls.{opened-sound, settled-sound, annual-sound, deleted-sound}
use Rattle.layout.specs.Book.{Book}
use Rattle.layout.specs.WellFormed.{BlankUnlessAdmitted, SoundBook}
use Rattle.batch.specs.Batch.{count_in, participant_at}
use Rattle.book.specs.Call.{Act, admit, lodge, release, settle, annual_run, delete, Call, on, advance, statement, calls_made, batch, part_act}
use Rattle.book.specs.Account.{fresh_book, file_at, with_file, if_numbered, if_admitted, file_answer, file_after, opened_if_admitted}
use Rattle.book.specs.Rule.{Rule, old_rule, new_rule, MadeCall, history}
use Rattle.book.specs.Account.{admits_retired, unless_retired, answer_on, applied_on, after_parts, part_answer, open_day, open_days, answer, applied, step, run}
use Rattle.book.specs.Reading.Decisions.{cause}
use Rattle.book.specs.Reached.{Reached}
use Rattle.book.proofs.Participant.Decide.{decide-accepted}
use Rattle.book.proofs.History.Advances.{days-fit}
use Rattle.book.proofs.History.Parts.{batch-accepted}

-- A participant's file in it.
pub sound-file : (b : Book) (p : ℕ) → SoundBook b → Sound b.today.0 (file_at b p)
unfolding file_at
sound-file b p s = all-default (Sound b.today.0) b.files p no_file (none-sound b.today.0 s.day) s.files

-- A sound file is sound on the next day too.
pub sound-later : (t : ℕ) (f : File) → suc t ≤ 29219 → Sound t f → Sound (suc t) f
sound-later t f h s =
    record {
      day = h;
      slots = s.slots;
      calls = s.calls;
      count = s.count;
      places = s.places;
      firm = s.firm;
      next = s.next;
      totals = s.totals;
      charged = let c = s.charged in omega arith;
      accrued = s.accrued;
      counted = s.counted;
      made = let m = s.made in omega arith;
    }

-- The count of calls made has room for another call: a sound file's is at most 4 for each day that there is, and 4 more.
pub made-bound : (t : ℕ) (f : File) → Sound t f → f.made ≤ 116880
made-bound t f s = omega (arith, s.made, s.count, s.day)

-- A file at the opening of the next day.
sound-opened : (t : ℕ) (f : File) → suc t ≤ 29219 → Sound t f → Sound (suc t) (opened_if_admitted (suc t) f)
unfolding opened_if_admitted
sound-opened t f h s =
    by-test f.admitted (opened_file f (suc t)) f (Sound (suc t)) (λ e. opened-sound f t s h) (λ e. sound-later t f h s)

-- ---- a fresh book

pub fresh-sound : (d : ℕ) → d ≤ 29219 → SoundBook (fresh_book d)
unfolding fresh_book
fresh-sound d h =
    record {
      day = h;
      many = length-replicate 64 no_file;
      files = all_replicate (Sound d) 64 no_file (none-sound d h);
      blank = all_replicate BlankUnlessAdmitted 64 no_file (λ e. refl);
    }

-- ---- a call on a file

-- An accepted call's answer is the one that stands behind its causes.
through : (causes : List Cause) (x : Answer) → accepted (decide refused causes x) ≡ true → accepted x ≡ true
through causes x e = ap accepted (sym (decide-accepted causes x e)) ∙ e

-- .. so its participant is numbered, and admitted where it asks that.
pub numbered : (p : ℕ) (x : Answer) → accepted (if_numbered p x) ≡ true → p ≤ 63
unfolding if_numbered
numbered p x e = ltb-false 63 p (none-holds (cause 1 (ltb 63 p) ∷ []) x e).0

behind-number : (p : ℕ) (x : Answer) → accepted (if_numbered p x) ≡ true → accepted x ≡ true
unfolding if_numbered
behind-number p x e = through (cause 1 (ltb 63 p) ∷ []) x e

-- .. and what is accepted under either rule is under the old one.
behind-rule : (rule : Rule) (a : Act) (x : Answer) → accepted (unless_retired rule a x) ≡ true → accepted x ≡ true
behind-rule old_rule a x e = e
behind-rule new_rule a x e =
    split (admits_retired a && accepted x)
    (λ h. clash {t = false} (ap (λ (t : Bool). accepted (cond t (refused 23) x)) (sym h) ∙ e) refl)
    (λ h. ap (λ (t : Bool). accepted (cond t (refused 23) x)) (sym h) ∙ e)

is-admitted : (f : File) (x : Answer) → accepted (if_admitted f x) ≡ true → f.admitted ≡ true
unfolding if_admitted
is-admitted f x e = not-false f.admitted (none-holds (cause 2 (not f.admitted) ∷ []) x e).0

pub behind-admitted : (f : File) (x : Answer) → accepted (if_admitted f x) ≡ true → accepted x ≡ true
unfolding if_admitted
behind-admitted f x e = through (cause 2 (not f.admitted) ∷ []) x e

-- .. and it is what stands behind cause 2.
pub accepted-behind : (f : File) (x : Answer) → accepted (if_admitted f x) ≡ true → (f.admitted ≡ true) × (if_admitted f x ≡ x)
unfolding if_admitted
accepted-behind f x e = (is-admitted f x e, decide-accepted (cause 2 (not f.admitted) ∷ []) x e)

-- The file that an accepted call leaves is admitted.
module _ (f : File) (t : ℕ) where
  kept : (c : Bool) (g : File) → f.admitted ≡ true → g.admitted ≡ f.admitted → (cond c g f).admitted ≡ true
  kept c g known e = by-test c g f (λ (h : File). h.admitted ≡ true) (λ yes. e ∙ known) (λ no. known)

  left-admitted : (a : Act) → accepted (file_answer f t a) ≡ true → (file_after f t a).admitted ≡ true
  unfolding file_answer file_after admitted_file lodged_file released_file annual_file settled_file deleted_file
  left-admitted (admit role) e = refl
  left-admitted (lodge k h) e =
      kept (accepted (lodge_answer f t k h)) (with_slots f (set f.slots k (slot_of h))) (is-admitted f (lodge_answer f t k h) e) refl
  left-admitted (release k a) e =
      kept (accepted (release_answer f t k a)) (with_slots f (slots_left f k a)) (is-admitted f (release_answer f t k a) e) refl
  left-admitted (settle m figures) e =
      kept (accepted (settle_answer f t m figures)) (with_totals f _ (calls_settled f t m figures) _) (is-admitted f (settle_answer f t m figures) e) refl
  left-admitted annual_run e =
      kept (accepted (annual_answer f t)) (with_next f (set_to (annual_amount_of f t))) (is-admitted f (annual_answer f t) e) refl
  left-admitted delete e =
      kept (accepted (deletion_answer f t)) (with_deletion f (calls_deleted f t) _) (is-admitted f (deletion_answer f t) e) refl

-- The file that a call leaves.
after-sound : (f : File) (t : ℕ) (a : Act) → t ≤ 29219 → Sound t f → Sound t (file_after f t a)
unfolding file_after
after-sound f t (admit role) h s = admitted-sound t role h
after-sound f t (lodge k p) h s = lodged-sound f t k p s
after-sound f t (release k a) h s = released-sound f t k a s
after-sound f t (settle m figures) h s = settled-sound f t m figures s
after-sound f t annual_run h s = annual-sound f t s
after-sound f t delete h s = deleted-sound f t s

-- The book after n days were opened.
blank-opened : (d : ℕ) (f : File) → BlankUnlessAdmitted f → BlankUnlessAdmitted (opened_if_admitted d f)
unfolding opened_if_admitted opened_file
blank-opened d f blank =
    by-test f.admitted (opened_file f d) f BlankUnlessAdmitted (λ e n. clash e n) (λ e. blank)

pub day-sound : (b : Book) → suc b.today.0 ≤ 29219 → SoundBook b → SoundBook (open_day b)
unfolding open_day
day-sound b h s =
    record {
      day = h;
      many = length-map b.files (opened_if_admitted (suc b.today.0)) ∙ s.many;
      files = all_map (Sound b.today.0) (Sound (suc b.today.0)) (opened_if_admitted (suc b.today.0)) b.files
          (λ f k. sound-opened b.today.0 f h k)
          s.files;
      blank = all_map BlankUnlessAdmitted BlankUnlessAdmitted (opened_if_admitted (suc b.today.0)) b.files
          (λ f k. blank-opened (suc b.today.0) f k)
          s.blank;
    }

days-sound : (n : ℕ) (b : Book) → b.today.0 + n ≤ 29219 → SoundBook b → SoundBook (open_days n b)
unfolding open_days open_day
days-sound zero b h s = s
days-sound (suc n) b h s = days-sound n (open_day b) (omega arith) (day-sound b (omega arith) s)

-- The days that an accepted advance opens.
within : (rule : Rule) (b : Book) (day budget : ℕ) → accepted (answer rule b (advance day budget)) ≡ true
    → b.today.0 + min budget (day - b.today.0) ≤ 29219
unfolding answer
within rule b day budget e =
    let t = b.today.0 in
    days-fit day t budget (none-holds (cause 17 (ltb 29219 day || ltb day t) ∷ []) (days_opened (min budget (day - t))) e).0

-- The book after an accepted call that names a participant.
named-sound : (rule : Rule) (b : Book) (p : ℕ) (a : Act) → accepted (answer_on rule b p a) ≡ true → SoundBook b → SoundBook (applied_on b p a)
unfolding with_file file_at
named-sound rule b p a e s =
    let f = file_at b p in
    let t = b.today.0 in
    let low = numbered p (unless_retired rule a (file_answer f t a)) e in
    let known = left-admitted f t a
    (behind-rule rule a (file_answer f t a) (behind-number p (unless_retired rule a (file_answer f t a)) e)) in
    record {
      day = s.day;
      many = length-set b.files p (file_after f t a) ∙ s.many;
      files = all_set (Sound t) b.files p (file_after f t a) (after-sound f t a s.day (sound-file b p s)) s.files;
      blank = all_set BlankUnlessAdmitted b.files p (file_after f t a) (λ n. clash known n) s.blank;
    }

-- The book after the settlements of a batch.
parts-sound : (b : Book) (file : List ℕ) (k : ℕ) → ((j : ℕ) → j < k → accepted (part_answer b file j) ≡ true) → SoundBook b
    → SoundBook (after_parts b file k)
unfolding after_parts part_answer
parts-sound b file zero each s = s
parts-sound b file (suc k) each s =
    named-sound new_rule (after_parts b file k) (participant_at file k) (part_act file k) (each k (omega arith))
    (parts-sound b file k (λ j h. each j (omega arith)) s)

-- The book after any accepted call.
applied-sound : (rule : Rule) (b : Book) (c : Call) → accepted (answer rule b c) ≡ true → SoundBook b → SoundBook (applied b c)
unfolding answer applied
applied-sound rule b (on p a) e s = named-sound rule b p a e s
applied-sound rule b (advance day budget) e s =
    days-sound (min budget (day - b.today.0)) b (within rule b day budget e) s
applied-sound rule b (statement p) e s = s
applied-sound rule b calls_made e s = s
applied-sound rule b (batch file) e s =
    parts-sound b file (count_in file) (batch-accepted file (part_answer b file) e).each s

pub step-sound : (rule : Rule) (b : Book) (c : Call) → SoundBook b → SoundBook (step rule b c)
unfolding step
step-sound rule b c s =
    by-test (accepted (answer rule b c)) (applied b c) b SoundBook (λ e. applied-sound rule b c e s) (λ e. s)

run_sound : (s : ℕ) (calls : List MadeCall) → s ≤ 29219 → SoundBook (run s calls)
unfolding run
run_sound s [] h = fresh-sound s h
run_sound s (e ∷ before) h = step-sound e.rule (run s before) e.call (run_sound s before h)

-- A reached book is sound.
pub reached-sound : (b : Book) → Reached b → SoundBook b
reached-sound b r = subst SoundBook r.leads (run_sound r.start (history r.first r.since) r.within)
