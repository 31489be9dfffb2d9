-- A file's words lead back to it, and a file is read from its own words alone.
-- Assumes nothing.
use Prim.Native.Nat.{ℕ, zero, suc, ◌+◌, ◌*◌, ◌≤◌, ◌<◌}
use mathlib.Core.Path.{◌≡◌, refl, sym, ap, ◌∙◌}
use mathlib.Core.List.{List, [], ◌∷◌, ◌++◌, append_assoc, append-nil}
use native.Mathlib.Omega.{arith}
use lib.ListN.{length, get_or, length-append}
use lib.Seq.{get_or-append-add}
use Rattle.laws.specs.Lists.{All, all-at, table}
use Rattle.laws.specs.Tabulated.{get_d-table, table-ext}
use Rattle.file.specs.declared.File.{File}
use Rattle.file.specs.declared.Slot.{Slot}
use Rattle.file.specs.declared.OpenCall.{OpenCall}
use Rattle.file.specs.declared.MonthTotal.{MonthTotal}
use Rattle.file.specs.declared.Position.TheVariants.{Empty}
use Rattle.file.specs.Position.{slot_of}
use Rattle.file.specs.Calls.{call_of}
use Rattle.file.specs.Totals.{no_total}
use Rattle.layout.specs.Parts.{flag_of, admitted_of, leaving_of}
use Rattle.layout.specs.Parts.{slot_of_words, open_call_of_words, total_of_words, slot_words, open_call_words, total_words, written, SlotBack}
use Rattle.layout.specs.Parts.{CallBack, TotalBack}
use Rattle.layout.specs.Files.{slot_in, call_in, slots_of_words, calls_of_words, totals_of_words, file_of_words, words_at, flat, own_words}
use Rattle.layout.specs.Files.{file_words, Put, PutRows}
use Rattle.layout.specs.RowLaws.{slots-table, calls-table}
use Rattle.layout.proofs.Backs.{flag-back, admitted-back, leaving-back}
use Rattle.layout.proofs.Written.{written_next, written_in}
use Rattle.layout.proofs.Flat.{flat-length, flat-at}

-- ---- the arrays as they are read

-- Which slot stands where.
pub slot-there : (l : List ℕ) (at k : ℕ) (d : Slot) → k < 8 → get_or (slots_of_words (words_at l at)) k d ≡ slot_in l (at + (10 + 4 * k))
slot-there l at k d h =
    ap (λ (slots : List Slot). get_or slots k d) (slots-table l at) ∙ get_d-table 8 (λ (j : ℕ). slot_in l (at + (10 + 4 * j))) k d h

-- Which open call stands where.
pub call-there : (l : List ℕ) (at k : ℕ) (d : OpenCall) → k < 4 → get_or (calls_of_words (words_at l at)) k d ≡ call_in l (at + (42 + 2 * k))
call-there l at k d h =
    ap (λ (calls : List OpenCall). get_or calls k d) (calls-table l at) ∙ get_d-table 4 (λ (j : ℕ). call_in l (at + (42 + 2 * j))) k d h

-- There are as many as a file has.
pub slots-long : (w : ℕ → ℕ) → length (slots_of_words w) ≡ 8
unfolding slots_of_words
slots-long w = refl

pub calls-long : (w : ℕ → ℕ) → length (calls_of_words w) ≡ 4
unfolding calls_of_words
calls-long w = refl

pub totals-long : (w : ℕ → ℕ) → length (totals_of_words w) ≡ 16
unfolding totals_of_words
totals-long w = refl

-- ---- a file is read from its words 1 to 97

module _ (w v : ℕ → ℕ) (same : (k : ℕ) → 1 ≤ k → k ≤ 97 → w k ≡ v k) where
  slots-ext : slots_of_words w ≡ slots_of_words v
  unfolding slots_of_words
  slots-ext =
      table-ext 8 (λ k. slot_of_words (w (10 + 4 * k)) (w (11 + 4 * k)) (w (12 + 4 * k)) (w (13 + 4 * k)))
      (λ k. slot_of_words (v (10 + 4 * k)) (v (11 + 4 * k)) (v (12 + 4 * k)) (v (13 + 4 * k)))
      (λ k h i. slot_of_words
      (same (10 + 4 * k) (omega arith) (omega arith) i)
      (same (11 + 4 * k) (omega arith) (omega arith) i)
      (same (12 + 4 * k) (omega arith) (omega arith) i)
      (same (13 + 4 * k) (omega arith) (omega arith) i))

  calls-ext : calls_of_words w ≡ calls_of_words v
  unfolding calls_of_words
  calls-ext =
      table-ext 4 (λ k. open_call_of_words (w (42 + 2 * k)) (w (43 + 2 * k)))
      (λ k. open_call_of_words (v (42 + 2 * k)) (v (43 + 2 * k)))
      (λ k h i. open_call_of_words (same (42 + 2 * k) (omega arith) (omega arith) i) (same (43 + 2 * k) (omega arith) (omega arith) i))

  totals-ext : totals_of_words w ≡ totals_of_words v
  unfolding totals_of_words
  totals-ext =
      table-ext 16 (λ k. total_of_words (w (50 + 3 * k)) (w (51 + 3 * k)) (w (52 + 3 * k)))
      (λ k. total_of_words (v (50 + 3 * k)) (v (51 + 3 * k)) (v (52 + 3 * k)))
      (λ k h i. total_of_words
      (same (50 + 3 * k) (omega arith) (omega arith) i)
      (same (51 + 3 * k) (omega arith) (omega arith) i)
      (same (52 + 3 * k) (omega arith) (omega arith) i))

  pub file-ext : file_of_words w ≡ file_of_words v
  unfolding file_of_words
  file-ext =
      λ i. record {
        admitted = admitted_of (same 1 (omega arith) (omega arith) i);
        leaving = leaving_of (same 1 (omega arith) (omega arith) i);
        role = same 2 (omega arith) (omega arith) i;
        firm = same 3 (omega arith) (omega arith) i;
        slots = slots-ext i;
        calls = calls-ext i;
        count = same 4 (omega arith) (omega arith) i;
        next = record { set = flag_of (same 5 (omega arith) (omega arith) i); amount = same 6 (omega arith) (omega arith) i };
        totals = totals-ext i;
        charged = same 7 (omega arith) (omega arith) i;
        accrued = same 8 (omega arith) (omega arith) i;
        made = same 9 (omega arith) (omega arith) i;
      }

-- ---- a file's words lead back to it

listed : {A : Type 0} (n : ℕ) (l : List A) (d : A) → length l ≡ n → table n (λ k. get_or l k d) ≡ l
listed zero [] d h = refl
listed zero (x ∷ l) d h = absurd (omega arith)
listed (suc n) [] d h = absurd (omega arith)
listed {A = A} (suc n) (x ∷ l) d h = ap (λ (m : List A). x ∷ m) (listed n l d (omega arith))

slots-back : (w : ℕ → ℕ) (xs : List Slot) (d : Slot) → length xs ≡ 8 → All SlotBack xs
    → ((i j m : ℕ) → i < 8 → j < 4 → m ≡ 10 + (4 * i + j) → w m ≡ get_or (slot_words (get_or xs i d)) j 0) → slots_of_words w ≡ xs
unfolding slots_of_words
slots-back w xs d long all reads =
    table-ext 8 (λ k. slot_of_words (w (10 + 4 * k)) (w (11 + 4 * k)) (w (12 + 4 * k)) (w (13 + 4 * k))) (λ k. get_or xs k d)
    (λ k h. rw (
      reads k 0 (10 + 4 * k) h (omega arith) (omega arith),
      reads k 1 (11 + 4 * k) h (omega arith) (omega arith),
      reads k 2 (12 + 4 * k) h (omega arith) (omega arith),
      reads k 3 (13 + 4 * k) h (omega arith) (omega arith),
    )
    (all-at SlotBack xs k d (omega arith) all))
    ∙ listed 8 xs d long

calls_back : (w : ℕ → ℕ) (xs : List OpenCall) (d : OpenCall) → length xs ≡ 4 → All CallBack xs
    → ((i j m : ℕ) → i < 4 → j < 2 → m ≡ 42 + (2 * i + j) → w m ≡ get_or (open_call_words (get_or xs i d)) j 0) → calls_of_words w ≡ xs
unfolding calls_of_words
calls_back w xs d long all reads =
    table-ext 4 (λ k. open_call_of_words (w (42 + 2 * k)) (w (43 + 2 * k))) (λ k. get_or xs k d)
    (λ k h. rw (
      reads k 0 (42 + 2 * k) h (omega arith) (omega arith),
      reads k 1 (43 + 2 * k) h (omega arith) (omega arith),
    )
    (all-at CallBack xs k d (omega arith) all))
    ∙ listed 4 xs d long

totals-back : (w : ℕ → ℕ) (xs : List MonthTotal) (d : MonthTotal) → length xs ≡ 16 → All TotalBack xs
    → ((i j m : ℕ) → i < 16 → j < 3 → m ≡ 50 + (3 * i + j) → w m ≡ get_or (total_words (get_or xs i d)) j 0) → totals_of_words w ≡ xs
unfolding totals_of_words
totals-back w xs d long all reads =
    table-ext 16 (λ k. total_of_words (w (50 + 3 * k)) (w (51 + 3 * k)) (w (52 + 3 * k))) (λ k. get_or xs k d)
    (λ k h. rw (
      reads k 0 (50 + 3 * k) h (omega arith) (omega arith),
      reads k 1 (51 + 3 * k) h (omega arith) (omega arith),
      reads k 2 (52 + 3 * k) h (omega arith) (omega arith),
    )
    (all-at TotalBack xs k d (omega arith) all))
    ∙ listed 16 xs d long

-- behind other words
behind : (pre rest : List ℕ) (m n : ℕ) → m ≡ length pre + n → get_or (pre ++ rest) m 0 ≡ get_or rest n 0
behind pre rest m n e = rw e (get_or-append-add pre rest n 0)

module _ (f : File) (eight : length f.slots ≡ 8) (four : length f.calls ≡ 4) (sixteen : length f.totals ≡ 16)
    (bs : All SlotBack f.slots) (bc : All CallBack f.calls) (bt : All TotalBack f.totals) where
  abbrev S : List ℕ
  S = flat slot_words f.slots

  abbrev C : List ℕ
  C = flat open_call_words f.calls

  abbrev O : List ℕ
  O = flat total_words f.totals

  length-slots : length S ≡ 32
  length-slots = flat-length slot_words 4 (λ x. refl) SlotBack f.slots ∙ omega arith

  length-calls : length C ≡ 8
  length-calls = flat-length open_call_words 2 (λ x. refl) CallBack f.calls ∙ omega arith

  length-totals : length O ≡ 48
  length-totals = flat-length total_words 3 (λ x. refl) TotalBack f.totals ∙ omega arith

  file-long : length (file_words f) ≡ 97
  unfolding file_words
  file-long =
      simp (length-append) (omega (arith, length-slots, length-calls, length-totals))

  abbrev word : ℕ → ℕ
  word k = get_or (0 ∷ file_words f) k 0

  own : (m n : ℕ) → m ≡ 10 + n → word m ≡ get_or (S ++ (C ++ O)) n 0
  unfolding file_words
  own m n e = behind (0 ∷ own_words f) (S ++ (C ++ O)) m n e

  slot-words : (i j m : ℕ) → i < 8 → j < 4 → m ≡ 10 + (4 * i + j) → word m ≡ get_or (slot_words (get_or f.slots i (slot_of Empty))) j 0
  slot-words i j m h k e =
      own m (4 * i + j) e ∙ flat-at slot_words 4 (λ x. refl) SlotBack f.slots (C ++ O) i j (slot_of Empty) (omega arith) k

  call-words : (i j m : ℕ) → i < 4 → j < 2 → m ≡ 42 + (2 * i + j) → word m ≡ get_or (open_call_words (get_or f.calls i (call_of 0 0))) j 0
  call-words i j m h k e =
      own m (32 + (2 * i + j)) (omega arith)
      ∙ behind S (C ++ O) (32 + (2 * i + j)) (2 * i + j) (omega (arith, length-slots))
      ∙ flat-at open_call_words 2 (λ x. refl) CallBack f.calls O i j (call_of 0 0) (omega arith) k

  total-words : (i j m : ℕ) → i < 16 → j < 3 → m ≡ 50 + (3 * i + j) → word m ≡ get_or (total_words (get_or f.totals i no_total)) j 0
  total-words i j m h k e =
      own m (40 + (3 * i + j)) (omega arith)
      ∙ behind S (C ++ O) (40 + (3 * i + j)) (8 + (3 * i + j)) (omega (arith, length-slots))
      ∙ behind C O (8 + (3 * i + j)) (3 * i + j) (omega (arith, length-calls))
      ∙ ap (λ (l : List ℕ). get_or l (3 * i + j) 0) (sym (append-nil O))
      ∙ flat-at total_words 3 (λ x. refl) TotalBack f.totals [] i j no_total (omega arith) k

  file-back : file_of_words word ≡ f
  unfolding file_of_words file_words
  file-back =
      λ i. record {
        admitted = admitted-back f.admitted f.leaving i;
        leaving = leaving-back f.admitted f.leaving i;
        role = f.role;
        firm = f.firm;
        slots = slots-back word f.slots (slot_of Empty) eight bs slot-words i;
        calls = calls_back word f.calls (call_of 0 0) four bc call-words i;
        count = f.count;
        next = record { set = flag-back f.next.set i; amount = f.next.amount };
        totals = totals-back word f.totals no_total sixteen bt total-words i;
        charged = f.charged;
        accrued = f.accrued;
        made = f.made;
      }

  placed : (l : List ℕ) (at k : ℕ) → at + 98 ≤ length l → 1 ≤ k → k ≤ 97 → get_or (written l (at + 1) (file_words f)) (at + k) 0 ≡ word k
  placed l at zero h a b = absurd (omega arith)
  placed l at (suc k) h a b =
      written_in l (at + 1) (file_words f) (at + suc k) k (omega arith) (omega (arith, file-long)) (omega (arith, file-long))

-- ---- a file is put

-- Words with a file's written behind a place: the file is read there.
pub put_of : (f : File) (l m : List ℕ) (at : ℕ) → length f.slots ≡ 8 → length f.calls ≡ 4 → length f.totals ≡ 16
    → All SlotBack f.slots → All CallBack f.calls → All TotalBack f.totals → at + 98 ≤ length l
    → m ≡ written l (at + 1) (file_words f) → Put l at f m
put_of f l m at ls lc lt bs bc bt h e =
    record {
      stored = e;
      long = file-long f ls lc lt bs bc bt;
      back =
          ap (λ (z : List ℕ). file_of_words (words_at z at)) e
          ∙ file-ext (words_at (written l (at + 1) (file_words f)) at) (λ k. get_or (0 ∷ file_words f) k 0)
          (λ k a b. placed f ls lc lt bs bc bt l at k h a b)
          ∙ file-back f ls lc lt bs bc bt;
    }

pub put_is : (f : File) (l m n o p : List ℕ) (at : ℕ) → at + 98 ≤ length l → m ≡ written l (at + 1) (own_words f)
    → PutRows slot_words SlotBack 8 f.slots m (at + 10) n
    → PutRows open_call_words CallBack 4 f.calls n (at + 42) o
    → PutRows total_words TotalBack 16 f.totals o (at + 50) p
    → Put l at f p
unfolding file_words
put_is f l m n o p at h first s c t =
    let ls = length-slots f s.long c.long t.long s.backs c.backs t.backs in
    let lc = length-calls f s.long c.long t.long s.backs c.backs t.backs in
    let S = flat slot_words f.slots in
    let C = flat open_call_words f.calls in
    let O = flat total_words f.totals in
    put_of f l p at s.long c.long t.long s.backs c.backs t.backs h
    (t.stored
    ∙ ap (λ (z : List ℕ). written z (at + 50) O) (c.stored ∙ ap (λ (z : List ℕ). written z (at + 42) C) s.stored)
    ∙ ap (λ (z : List ℕ). written z (at + 50) O) (written_next m (at + 10) (at + 42) S C (omega arith))
    ∙ written_next m (at + 10) (at + 50) (S ++ C) O (omega (arith, length-append S C))
    ∙ ap (λ (z : List ℕ). written m (at + 10) z) (append_assoc S C O)
    ∙ ap (λ (z : List ℕ). written z (at + 10) (S ++ (C ++ O))) first
    ∙ written_next l (at + 1) (at + 10) (own_words f) (S ++ (C ++ O)) (omega arith))
