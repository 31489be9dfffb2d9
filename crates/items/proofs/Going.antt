-- What is kept and written as days are opened is a function of the items so far, so that in the end the lines of all items are written, each once.
-- Assumes nothing.
use Prim.Native.Nat.{ℕ, zero, suc, ◌+◌, ◌≤◌, ◌<◌}
use native.Mathlib.Omega.{arith}
use mathlib.Core.Path.{◌≡◌, refl, sym, ap, ◌∙◌}
use mathlib.Core.Bool.{Bool, true, false, cond}
use mathlib.Core.List.{List, [], ◌∷◌, ◌++◌, append-nil}
use Rattle.std.specs.Prelude.{Some, None}
use Rattle.laws.specs.Cases.{by-test, cond-true, cond-false}
use Rattle.laws.specs.Lists.{All}
use Rattle.file.specs.declared.File.{File}
use Rattle.file.specs.Answer.{accepted}
use Rattle.file.specs.Sound.{Sound}
use Rattle.layout.specs.Book.{Book}
use Rattle.layout.specs.WellFormed.{SoundBook}
use Rattle.book.specs.Call.{Call, on, advance, statement, calls_made, batch}
use Rattle.book.specs.Rule.{MadeCall}
use Rattle.book.specs.Account.{file_at, open_day, open_days, days_to_open, answer, run}
use Rattle.book.specs.Reading.Events.{mine}
use Rattle.book.specs.Reading.Decisions.{events_of}
use Rattle.book.proofs.Functions.SoundBook.{sound-file, fresh-sound, step-sound}
use Rattle.items.specs.declared.Charged.{Charged}
use Rattle.items.specs.declared.Run.{Run}
use Rattle.items.specs.declared.Form.{Form}
use Rattle.items.specs.Items.{begun, extends, ending, with_charged, items_in, days_of, charge_of, sum_of_days, sum_of_charges}
use Rattle.items.specs.ByBook.{day_by, charged_by, with_day, over_days, over_call, over_calls, items_by_book}
use Rattle.items.specs.State.{in_word, state_of, charged_on, all_days, all_mills, begun_behind, state_with, state_if, state_after}
use Rattle.items.specs.Lines.{line, lines, ended_lines, last_line, line_ended, text_if, text_after}
use Rattle.items.specs.Printed.{Going, going_on, going_by_book, PrintedByBook}
use Rattle.items.proofs.Collecting.{itemised-by-book}

-- ---- what is collected by two rules, one of which is an image of the other

module _ {A B : Type 0} (image : A → B) (one : File → ℕ → A → A) (other : File → ℕ → B → B)
    (steps : (f : File) (d : ℕ) (a : A) → image (one f d a) ≡ other f d (image a)) (p : ℕ) where
  days-image : (b : Book) (n : ℕ) (a : A) → image (over_days one p b n a) ≡ over_days other p b n (image a)
  unfolding over_days
  days-image b zero a = refl
  days-image b (suc n) a =
      steps (file_at (open_days (suc n) b) p) (open_days (suc n) b).today.0 (over_days one p b n a)
      ∙ ap (other (file_at (open_days (suc n) b) p) (open_days (suc n) b).today.0) (days-image b n a)

  call-image : (b : Book) (c : Call) (a : A) → image (over_call one p b c a) ≡ over_call other p b c (image a)
  unfolding over_call
  call-image b (on q x) a = refl
  call-image b (advance day budget) a = days-image b (days_to_open b day budget) a
  call-image b (statement q) a = refl
  call-image b calls_made a = refl
  call-image b (batch file) a = refl

  calls-image : (s : ℕ) (calls : List MadeCall) (a : A) → image (over_calls one p s calls a) ≡ over_calls other p s calls (image a)
  unfolding over_calls
  calls-image s [] a = refl
  calls-image s (e ∷ before) a =
      let yes = accepted (answer e.rule (run s before) e.call) in
      let old = over_calls one p s before a in
      by-test yes (over_call one p (run s before) e.call old) old
      (λ x. image x ≡ cond yes (over_call other p (run s before) e.call (over_calls other p s before (image a))) (over_calls other p s before (image a)))
      (λ t.
      call-image (run s before) e.call old
      ∙ ap (over_call other p (run s before) e.call) (calls-image s before a)
      ∙ sym (cond-true yes _ (over_calls other p s before (image a)) t))
      (λ t. calls-image s before a ∙ sym (cond-false yes _ (over_calls other p s before (image a)) t))

-- ---- the sums in words

word-sum : (a b : ℕ) → in_word (in_word a + b) ≡ in_word (b + a)
unfolding in_word
word-sum a b = omega arith

pub days-kept : (items : List Run) → all_days (state_of items) ≡ in_word (sum_of_days items)
unfolding all_days state_of sum_of_days
days-kept [] = unfold in_word in omega arith
days-kept (r ∷ items) = word-sum (sum_of_days items) (days_of r)

pub charges-kept : (items : List Run) → all_mills (state_of items) ≡ in_word (sum_of_charges items)
unfolding all_mills state_of sum_of_charges
charges-kept [] = unfold in_word in omega arith
charges-kept (r ∷ items) = word-sum (sum_of_charges items) (charge_of r)

-- ---- one opened day

-- The items behind which a day begins one.
state-begun : (c : Charged) (items : List Run) → state_of (begun c ∷ items) ≡ begun_behind c (state_of items)
unfolding state_of begun_behind
state-begun c items =
    λ i. record { run = Some (begun c); days = sym (days-kept items) i; mills = sym (charges-kept items) i }

state-steps : (c : Charged) (items : List Run) → state_of (with_charged c items) ≡ state_with c (state_of items)
unfolding with_charged state_with state_of begun_behind
state-steps c [] = state-begun c []
state-steps c (r ∷ items) =
    by-test (extends c r) (ending c r ∷ items) (begun c ∷ r ∷ items) (λ (l : List Run). state_of l ≡ state_with c (state_of (r ∷ items)))
    (λ e. sym (cond-true (extends c r) _ (begun_behind c (state_of (r ∷ items))) e))
    (λ e. state-begun c (r ∷ items) ∙ sym (cond-false (extends c r) _ (begun_behind c (state_of (r ∷ items))) e))

text-steps : (form : Form) (c : Charged) (items : List Run)
    → ended_lines form (with_charged c items) ≡ ended_lines form items ++ line_ended form c (state_of items).run
unfolding with_charged ended_lines lines state_of
text-steps form c [] = refl
text-steps form c (r ∷ items) =
    by-test (extends c r) (ending c r ∷ items) (begun c ∷ r ∷ items)
    (λ (l : List Run). ended_lines form l ≡ lines form items ++ cond (extends c r) [] (line form r))
    (λ e. sym (append-nil (lines form items)) ∙ ap (λ (t : List ℕ). lines form items ++ t) (sym (cond-true (extends c r) [] (line form r) e)))
    (λ e. ap (λ (t : List ℕ). lines form items ++ t) (sym (cond-false (extends c r) [] (line form r) e)))

-- What is kept and written of items.
unfoldable pub going_of : Form → List Run → Going
going_of form items = record { kept = state_of items; written = ended_lines form items }

-- By whether the day charged.
going-if : (form : Form) (b : Bool) (c : Charged) (items : List Run)
    → going_of form (cond b (with_charged c items) items)
    ≡ record { kept = state_if (cond b (Some c) None) (state_of items); written = ended_lines form items ++ text_if form (cond b (Some c) None) (state_of items) }
unfolding going_of
going-if form true c items = λ i. record { kept = state-steps c items i; written = text-steps form c items i }
going-if form false c items = λ i. record { kept = state_of items; written = sym (append-nil (ended_lines form items)) i }

-- So a day does to them what `opened` does.
pub going-steps : (form : Form) (f : File) (d : ℕ) (items : List Run)
    → going_of form (with_day f d items) ≡ going_on form f d (going_of form items)
unfolding with_day going_on state_after text_after charged_on
going-steps form f d items = unfold going_of in going-if form (charged_by f d) (day_by f d) items

-- ---- in the end

pub lines-all : (form : Form) (items : List Run) → ended_lines form items ++ last_line form (state_of items) ≡ lines form items
unfolding ended_lines last_line state_of lines
lines-all form [] = refl
lines-all form (r ∷ items) = refl

-- The book's own charges are within a word.
run-sound : (s : ℕ) (calls : List MadeCall) → s ≤ 29219 → SoundBook (run s calls)
unfolding run
run-sound s [] h = fresh-sound s h
run-sound s (e ∷ before) h = step-sound e.rule (run s before) e.call (run-sound s before h)

fits : (s p : ℕ) (calls : List MadeCall) → s ≤ 29219
    → ((file_at (run s calls) p).charged ≤ 18446744073709551615) × ((file_at (run s calls) p).accrued ≤ 18446744073709551615)
fits s p calls h =
    let f : Sound (run s calls).today.0 (file_at (run s calls) p) = sound-file (run s calls) p (run-sound s calls h) in
    (omega (arith, f.charged, f.day), omega (arith, f.accrued, f.charged, f.day))

within-word : (n : ℕ) → n ≤ 18446744073709551615 → in_word n ≡ n
unfolding in_word
within-word n h = omega arith

each-within : (items : List Run) → sum_of_charges items ≤ 18446744073709551615 → All (λ (r : Run). in_word (charge_of r) ≡ charge_of r) items
unfolding sum_of_charges
each-within [] h = tt
each-within (r ∷ items) h = (within-word (charge_of r) (omega arith), each-within items (omega arith))

-- After every list of calls.
pub going-is : (form : Form) (p s : ℕ) (calls : List MadeCall) → s ≤ 29219 → p < 64
    → going_by_book form p s calls ≡ going_of form (items_in (mine p (events_of s calls)))
unfolding going_by_book items_by_book
going-is form p s calls h low =
    unfold going_of ended_lines in sym (calls-image (going_of form) with_day (going_on form) (going-steps form) p s calls [])
    ∙ ap (going_of form) (itemised-by-book s p calls h low).items

pub printed-by-book : (form : Form) (p s : ℕ) (calls : List MadeCall) → s ≤ 29219 → p < 64 → PrintedByBook form p s calls
unfolding going_of
printed-by-book form p s calls h low =
    let items = items_in (mine p (events_of s calls)) in
    let is : going_by_book form p s calls ≡ record { kept = state_of items; written = ended_lines form items } = going-is form p s calls h low in
    let book = itemised-by-book s p calls h low in
    let days : sum_of_days items ≡ (file_at (run s calls) p).charged = ap sum_of_days (sym book.items) ∙ book.days in
    let charges : sum_of_charges items ≡ (file_at (run s calls) p).accrued = ap sum_of_charges (sym book.items) ∙ book.charges in
    let kept : (going_by_book form p s calls).kept ≡ state_of items = ap (λ (g : Going). g.kept) is in
    record {
      kept = kept;
      written = ap (λ (g : Going). g.written ++ last_line form g.kept) is ∙ lines-all form items;
      days = ap all_days kept ∙ days-kept items ∙ ap in_word days ∙ within-word (file_at (run s calls) p).charged (fits s p calls h).0;
      charges = ap all_mills kept ∙ charges-kept items ∙ ap in_word charges ∙ within-word (file_at (run s calls) p).accrued (fits s p calls h).1;
      exact = each-within items (omega (arith, charges, (fits s p calls h).1));
    }

-- The days after today, the first of them first, as they are opened one by one.
pub days-first : {A : Type 0} (collect : File → ℕ → A → A) (p : ℕ) (b : Book) (n : ℕ) (a : A)
    → over_days collect p b (suc n) a ≡ over_days collect p (open_day b) n (collect (file_at (open_day b) p) (open_day b).today.0 a)
unfolding over_days open_days
days-first collect p b zero a = refl
days-first collect p b (suc n) a =
    ap (collect (file_at (open_days n (open_day (open_day b))) p) (open_days n (open_day (open_day b))).today.0) (days-first collect p b n a)
