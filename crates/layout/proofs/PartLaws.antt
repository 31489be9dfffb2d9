-- A part of a file put back by its own words alone: a position, a month's total, an open call, the number of them, the next amount, the charges, the
-- count of calls made.
-- Assumes nothing.
use Prim.Native.Nat.{ℕ, zero, suc, ◌+◌, ◌*◌, ◌≤◌, ◌<◌}
use mathlib.Core.Path.{◌≡◌, refl, sym, ap, ◌∙◌}
use mathlib.Core.List.{List, [], ◌∷◌, ◌++◌}
use native.Mathlib.Nat.{mul-suc, mul-le-mul, le_refl}
use native.Mathlib.Omega.{arith}
use lib.Dec.{eqb}
use lib.ListN.{length, set, length-append, length-set}
use Rattle.laws.specs.Cases.{split}
use Rattle.laws.specs.Tabulated.{all-table}
use Rattle.laws.specs.Lists.{All, all_set}
use Rattle.file.specs.declared.File.{File}
use Rattle.file.specs.declared.Charges.{Charges}
use Rattle.file.specs.declared.Slot.{Slot}
use Rattle.file.specs.declared.OpenCall.{OpenCall}
use Rattle.file.specs.declared.MonthTotal.{MonthTotal}
use Rattle.file.specs.Fields.{with_slots, with_next, with_charges, set_to}
use Rattle.layout.specs.Parts.{number_of, flag_of, signed_of_word, slot_of_words, open_call_of_words, total_of_words, slot_words, open_call_words, total_words}
use Rattle.layout.specs.Parts.{SlotBack, CallBack, TotalBack, written}
use Rattle.layout.specs.Files.{file_of_words, slots_of_words, calls_of_words, totals_of_words, words_at, flat, own_words, file_words, Put}
use Rattle.layout.specs.Words.{book_length, place, file_in_words, book_of_words, book_words}
use Rattle.layout.proofs.Backs.{flag-back}
use Rattle.layout.proofs.Zigzag.{signed_back}
use Rattle.layout.proofs.Written.{written-first, written-later, written-left, written-within, written_over}
use Rattle.layout.proofs.Flat.{flat-length}
use Rattle.layout.proofs.FileLaws.{put_of, slots-long, calls-long, totals-long}
use Rattle.layout.proofs.BookLaws.{read-long, words-stand}

-- ---- what is read leads back to itself

again : (n : ℕ) → number_of (number_of n) ≡ number_of n
again n = omega arith

slot_read : (k a f l : ℕ) → SlotBack (slot_of_words k a f l)
unfolding slot_of_words
slot_read k a f l =
    split (eqb k 0) (λ e. rw e) (λ e. split (eqb k 1) (λ h. rw (e, h)) (λ h. rw (e, h) (simp (again f, again l))))

call-read : (a l : ℕ) → CallBack (open_call_of_words a l)
unfolding open_call_of_words
call-read a l = simp (again l)

total-read : (r m t : ℕ) → TotalBack (total_of_words r m t)
unfolding total_of_words
total-read r m t = simp (again m, flag-back (flag_of r), signed_back (signed_of_word t))

module _ (w : ℕ → ℕ) where
  slots_read : All SlotBack (slots_of_words w)
  unfolding slots_of_words
  slots_read = all-table SlotBack 8 (λ k. slot_of_words (w (10 + 4 * k)) (w (11 + 4 * k)) (w (12 + 4 * k)) (w (13 + 4 * k)))
      (λ k h. slot_read (w (10 + 4 * k)) (w (11 + 4 * k)) (w (12 + 4 * k)) (w (13 + 4 * k)))

  calls-read : All CallBack (calls_of_words w)
  unfolding calls_of_words
  calls-read = all-table CallBack 4 (λ k. open_call_of_words (w (42 + 2 * k)) (w (43 + 2 * k))) (λ k h. call-read (w (42 + 2 * k)) (w (43 + 2 * k)))

  totals-read : All TotalBack (totals_of_words w)
  unfolding totals_of_words
  totals-read = all-table TotalBack 16 (λ k. total_of_words (w (50 + 3 * k)) (w (51 + 3 * k)) (w (52 + 3 * k)))
      (λ k h. total-read (w (50 + 3 * k)) (w (51 + 3 * k)) (w (52 + 3 * k)))

-- ---- one part among others in a row is replaced

module _ {A : Type 0} (enc : A → List ℕ) (n : ℕ) (size : (x : A) → length (enc x) ≡ n) (Back : A → Type 0) where
  pub row-replaced : (xs : List A) (k : ℕ) (x : A) → k < length xs → flat enc (set xs k x) ≡ written (flat enc xs) (n * k) (enc x)
  unfolding flat
  row-replaced [] k x h = absurd (omega arith)
  row-replaced (y ∷ xs) zero x h =
      let e : 0 ≡ n * 0 = omega arith in
      sym (written-first (enc y) (enc x) (flat enc xs) (size y ∙ sym (size x))) ∙ ap (λ (j : ℕ). written (enc y ++ flat enc xs) j (enc x)) e
  row-replaced (y ∷ xs) (suc k) x h =
      let at : length (enc y) + n * k ≡ n * suc k = omega (arith, size y, mul-suc n k) in
      let room = flat-length enc n size Back xs in
      let more = within n k (length xs) (omega arith) in
      ap (λ (z : List ℕ). enc y ++ z) (row-replaced xs k x (omega arith))
      ∙ sym (written-later (enc y) (enc x) (flat enc xs) (n * k) (omega (arith, size x)))
      ∙ ap (λ (j : ℕ). written (enc y ++ flat enc xs) j (enc x)) at
    where
      within : (n k m : ℕ) → suc k ≤ m → n * k + n ≤ n * m
      within n k m h = omega (arith, mul-suc n k, mul-le-mul (le_refl n) h)

-- ---- the parts of a file

-- The file with other month totals.
abbrev pub with_months : File → List MonthTotal → File
with_months f totals =
    record {
      admitted = f.admitted;
      leaving = f.leaving;
      role = f.role;
      firm = f.firm;
      slots = f.slots;
      calls = f.calls;
      count = f.count;
      next = f.next;
      totals = totals;
      charged = f.charged;
      accrued = f.accrued;
      made = f.made;
    }

-- The file with other calls in its places, and another number of them.
abbrev pub with_places : File → List OpenCall → ℕ → File
with_places f calls count =
    record {
      admitted = f.admitted;
      leaving = f.leaving;
      role = f.role;
      firm = f.firm;
      slots = f.slots;
      calls = calls;
      count = count;
      next = f.next;
      totals = f.totals;
      charged = f.charged;
      accrued = f.accrued;
      made = f.made;
    }

-- The file with another count of calls made.
abbrev pub with_made : File → ℕ → File
with_made f made =
    record {
      admitted = f.admitted;
      leaving = f.leaving;
      role = f.role;
      firm = f.firm;
      slots = f.slots;
      calls = f.calls;
      count = f.count;
      next = f.next;
      totals = f.totals;
      charged = f.charged;
      accrued = f.accrued;
      made = made;
    }

module _ (f : File) where
  abbrev S : List ℕ
  S = flat slot_words f.slots

  abbrev C : List ℕ
  C = flat open_call_words f.calls

  abbrev O : List ℕ
  O = flat total_words f.totals

  slot-words : (k : ℕ) (s : Slot) → k < 8 → length f.slots ≡ 8
      → file_words (with_slots f (set f.slots k s)) ≡ written (file_words f) (9 + 4 * k) (slot_words s)
  unfolding file_words
  slot-words k s h many =
      let room = flat-length slot_words 4 (λ x. refl) SlotBack f.slots in
      ap (λ (z : List ℕ). own_words f ++ (z ++ (C ++ O))) (row-replaced slot_words 4 (λ x. refl) SlotBack f.slots k s (omega arith))
      ∙ ap (λ (z : List ℕ). own_words f ++ z) (sym (written-left S (slot_words s) (C ++ O) (4 * k) (omega arith)))
      ∙ sym (written-later (own_words f) (slot_words s) (S ++ (C ++ O)) (4 * k) (omega (arith, length-append S (C ++ O))))

  total-words : (k : ℕ) (t : MonthTotal) → k < 16 → length f.slots ≡ 8 → length f.calls ≡ 4 → length f.totals ≡ 16
      → file_words (with_months f (set f.totals k t)) ≡ written (file_words f) (49 + 3 * k) (total_words t)
  unfolding file_words
  total-words k t h eight four sixteen =
      let ls = flat-length slot_words 4 (λ x. refl) SlotBack f.slots in
      let lc = flat-length open_call_words 2 (λ x. refl) CallBack f.calls in
      let lo = flat-length total_words 3 (λ x. refl) TotalBack f.totals in
      let at : 9 + (length S + (length C + 3 * k)) ≡ 49 + 3 * k = omega arith in
      ap (λ (z : List ℕ). own_words f ++ (S ++ (C ++ z))) (row-replaced total_words 3 (λ x. refl) TotalBack f.totals k t (omega arith))
      ∙ ap (λ (z : List ℕ). own_words f ++ (S ++ z)) (sym (written-later C (total_words t) O (3 * k) (omega arith)))
      ∙ ap (λ (z : List ℕ). own_words f ++ z) (sym (written-later S (total_words t) (C ++ O) (length C + 3 * k) (omega (arith, length-append C O))))
      ∙ sym (written-later (own_words f) (total_words t) (S ++ (C ++ O)) (length S + (length C + 3 * k))
      (omega (arith, length-append S (C ++ O), length-append C O)))
      ∙ ap (λ (j : ℕ). written (own_words f ++ (S ++ (C ++ O))) j (total_words t)) at

  call-words : (k : ℕ) (c : OpenCall) → k < 4 → length f.slots ≡ 8 → length f.calls ≡ 4
      → file_words (with_places f (set f.calls k c) f.count) ≡ written (file_words f) (41 + 2 * k) (open_call_words c)
  unfolding file_words
  call-words k c h eight four =
      let ls = flat-length slot_words 4 (λ x. refl) SlotBack f.slots in
      let lc = flat-length open_call_words 2 (λ x. refl) CallBack f.calls in
      let at : 9 + (length S + 2 * k) ≡ 41 + 2 * k = omega arith in
      ap (λ (z : List ℕ). own_words f ++ (S ++ (z ++ O))) (row-replaced open_call_words 2 (λ x. refl) CallBack f.calls k c (omega arith))
      ∙ ap (λ (z : List ℕ). own_words f ++ (S ++ z)) (sym (written-left C (open_call_words c) O (2 * k) (omega arith)))
      ∙ ap (λ (z : List ℕ). own_words f ++ z) (sym (written-later S (open_call_words c) (C ++ O) (2 * k) (omega (arith, length-append C O))))
      ∙ sym (written-later (own_words f) (open_call_words c) (S ++ (C ++ O)) (length S + 2 * k)
      (omega (arith, length-append S (C ++ O), length-append C O)))
      ∙ ap (λ (j : ℕ). written (own_words f ++ (S ++ (C ++ O))) j (open_call_words c)) at

  count-words : (n : ℕ) → file_words (with_places f f.calls n) ≡ written (file_words f) 3 (n ∷ [])
  unfolding file_words written
  count-words n = refl

  next-words : (a : ℕ) → file_words (with_next f (set_to a)) ≡ written (file_words f) 4 (1 ∷ a ∷ [])
  unfolding file_words written
  next-words a = refl

  charges-words : (c : Charges) → file_words (with_charges f c) ≡ written (file_words f) 6 (c.charged ∷ c.accrued ∷ [])
  unfolding file_words written
  charges-words c = refl

  made-words : (n : ℕ) → file_words (with_made f n) ≡ written (file_words f) 8 (n ∷ [])
  unfolding file_words written
  made-words n = refl

module _ (l m : List ℕ) (p : ℕ) (same : l ≡ book_words (book_of_words l)) (long : length l ≡ book_length) (low : p ≤ 63) where
  abbrev f : File
  f = file_in_words l p

  -- a part of its words is written
  stored : (g : File) (j : ℕ) (vs : List ℕ) → file_words g ≡ written (file_words f) j vs → j + length vs ≤ 97 → m ≡ written l (place p + 1 + j) vs
      → m ≡ written l (place p + 1) (file_words g)
  stored g j vs e h q =
      q
      ∙ sym (written-within l (file_words f) vs (place p + 1) j
      (omega (arith, read-long (words_at l (place p))))
      (omega (arith, read-long (words_at l (place p))))
      (words-stand l p same low))
      ∙ ap (written l (place p + 1)) (sym e)

  abbrev w : ℕ → ℕ
  w = words_at l (place p)

  -- what was read, and what the place has room for
  put : (g : File) → length g.slots ≡ 8 → length g.calls ≡ 4 → length g.totals ≡ 16 → All SlotBack g.slots → All CallBack g.calls
      → All TotalBack g.totals → m ≡ written l (place p + 1) (file_words g) → Put l (place p) g m
  put g eight four sixteen bs bc bt e = put_of g l m (place p) eight four sixteen bs bc bt (omega arith) e

  -- nothing
  pub same-put : m ≡ l → Put l (place p) f m
  unfolding file_of_words
  same-put e =
      put f (slots-long w) (calls-long w) (totals-long w) (slots_read w) (calls-read w) (totals-read w)
      (e ∙ words-stand l p same low)

  -- a position
  pub slot-put : (k : ℕ) (s : Slot) → k < 8 → SlotBack s → m ≡ written l (place p + (10 + 4 * k)) (slot_words s)
      → Put l (place p) (with_slots f (set f.slots k s)) m
  unfolding file_of_words
  slot-put k s h back e =
      let at : place p + (10 + 4 * k) ≡ place p + 1 + (9 + 4 * k) = omega arith in
      put (with_slots f (set f.slots k s)) (length-set (slots_of_words w) k s ∙ slots-long w) (calls-long w) (totals-long w)
      (all_set SlotBack (slots_of_words w) k s back (slots_read w)) (calls-read w) (totals-read w)
      (stored (with_slots f (set f.slots k s)) (9 + 4 * k) (slot_words s) (slot-words f k s h (slots-long w)) (omega arith)
      (e ∙ ap (λ (j : ℕ). written l j (slot_words s)) at))

  -- a month's total
  pub total-put : (k : ℕ) (t : MonthTotal) → k < 16 → TotalBack t → m ≡ written l (place p + (50 + 3 * k)) (total_words t)
      → Put l (place p) (with_months f (set f.totals k t)) m
  unfolding file_of_words
  total-put k t h back e =
      let at : place p + (50 + 3 * k) ≡ place p + 1 + (49 + 3 * k) = omega arith in
      put (with_months f (set f.totals k t)) (slots-long w) (calls-long w) (length-set (totals_of_words w) k t ∙ totals-long w)
      (slots_read w) (calls-read w) (all_set TotalBack (totals_of_words w) k t back (totals-read w))
      (stored (with_months f (set f.totals k t)) (49 + 3 * k) (total_words t) (total-words f k t h (slots-long w) (calls-long w) (totals-long w))
      (omega arith)
      (e ∙ ap (λ (j : ℕ). written l j (total_words t)) at))

  -- an open call
  pub call-put : (k : ℕ) (c : OpenCall) → k < 4 → CallBack c → m ≡ written l (place p + (42 + 2 * k)) (open_call_words c)
      → Put l (place p) (with_places f (set f.calls k c) f.count) m
  unfolding file_of_words
  call-put k c h back e =
      let at : place p + (42 + 2 * k) ≡ place p + 1 + (41 + 2 * k) = omega arith in
      put (with_places f (set f.calls k c) f.count) (slots-long w) (length-set (calls_of_words w) k c ∙ calls-long w) (totals-long w)
      (slots_read w) (all_set CallBack (calls_of_words w) k c back (calls-read w)) (totals-read w)
      (stored (with_places f (set f.calls k c) f.count) (41 + 2 * k) (open_call_words c) (call-words f k c h (slots-long w) (calls-long w))
      (omega arith)
      (e ∙ ap (λ (j : ℕ). written l j (open_call_words c)) at))

  -- the number of open calls
  pub count-put : (n : ℕ) → m ≡ set l (place p + 4) n → Put l (place p) (with_places f f.calls n) m
  unfolding file_of_words written
  count-put n e =
      let at : place p + 4 ≡ place p + 1 + 3 = omega arith in
      put (with_places f f.calls n) (slots-long w) (calls-long w) (totals-long w) (slots_read w) (calls-read w) (totals-read w)
      (stored (with_places f f.calls n) 3 (n ∷ []) (count-words f n) (omega arith) (e ∙ ap (λ (j : ℕ). set l j n) at))

  -- the next amount
  pub next-put : (a : ℕ) → m ≡ written l (place p + 5) (1 ∷ a ∷ []) → Put l (place p) (with_next f (set_to a)) m
  unfolding file_of_words
  next-put a e =
      let at : place p + 5 ≡ place p + 1 + 4 = omega arith in
      put (with_next f (set_to a)) (slots-long w) (calls-long w) (totals-long w) (slots_read w) (calls-read w) (totals-read w)
      (stored (with_next f (set_to a)) 4 (1 ∷ a ∷ []) (next-words f a) (omega arith) (e ∙ ap (λ (j : ℕ). written l j (1 ∷ a ∷ [])) at))

  -- the charges
  pub charges-put : (c : Charges) → m ≡ written l (place p + 7) (c.charged ∷ c.accrued ∷ []) → Put l (place p) (with_charges f c) m
  unfolding file_of_words
  charges-put c e =
      let vs = c.charged ∷ c.accrued ∷ [] in
      let at : place p + 7 ≡ place p + 1 + 6 = omega arith in
      put (with_charges f c) (slots-long w) (calls-long w) (totals-long w) (slots_read w) (calls-read w) (totals-read w)
      (stored (with_charges f c) 6 vs (charges-words f c) (omega arith) (e ∙ ap (λ (j : ℕ). written l j vs) at))

  -- the count of calls made
  pub made-put : (n : ℕ) → m ≡ set l (place p + 9) n → Put l (place p) (with_made f n) m
  unfolding file_of_words written
  made-put n e =
      let at : place p + 9 ≡ place p + 1 + 8 = omega arith in
      put (with_made f n) (slots-long w) (calls-long w) (totals-long w) (slots_read w) (calls-read w) (totals-read w)
      (stored (with_made f n) 8 (n ∷ []) (made-words f n) (omega arith) (e ∙ ap (λ (j : ℕ). set l j n) at))

-- One part put after another: the file that was put last stands there.
pub put-again : (l m n : List ℕ) (at : ℕ) (g h : File) → at + 98 ≤ length l → Put l at g m → Put m at h n → Put l at h n
put-again l m n at g h room one two =
    record {
      stored =
          two.stored
          ∙ ap (λ (z : List ℕ). written z (at + 1) (file_words h)) one.stored
          ∙ written_over l (at + 1) (file_words g) (file_words h) (one.long ∙ sym two.long) (omega (arith, one.long));
      long = two.long;
      back = two.back;
    }
