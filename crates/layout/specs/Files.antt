-- A file in 97 words: nine of its own, eight positions of four, four open calls of two, sixteen month totals of three.
-- Assumes nothing.
use Rattle.std.specs.Prelude.{ℕ, ◌+◌, ◌*◌, ◌≡◌, List, [], ◌∷◌, ◌++◌, length, get_or, take}
use Rattle.laws.specs.Lists.{All, table}
use Rattle.file.specs.declared.File.{File}
use Rattle.file.specs.declared.Slot.{Slot}
use Rattle.file.specs.declared.OpenCall.{OpenCall}
use Rattle.file.specs.declared.MonthTotal.{MonthTotal}
use Rattle.layout.specs.Parts.{flag_of, flag_word, admitted_of, leaving_of, status_word}
use Rattle.layout.specs.Parts.{slot_of_words, open_call_of_words, total_of_words, slot_words, open_call_words, total_words, written}

-- A position, an open call and a month's total whose words begin at a place.
abbrev pub slot_in : List ℕ → ℕ → Slot
slot_in l at = slot_of_words (get_or l at 0) (get_or l (at + 1) 0) (get_or l (at + 2) 0) (get_or l (at + 3) 0)

abbrev pub call_in : List ℕ → ℕ → OpenCall
call_in l at = open_call_of_words (get_or l at 0) (get_or l (at + 1) 0)

abbrev pub month_total_in : List ℕ → ℕ → MonthTotal
month_total_in l at = total_of_words (get_or l at 0) (get_or l (at + 1) 0) (get_or l (at + 2) 0)

-- The eight positions, the four open calls and the sixteen month totals of a file, from its words 1 to 97.
unfoldable pub slots_of_words : (ℕ → ℕ) → List Slot
slots_of_words w = table 8 (λ k. slot_of_words (w (10 + 4 * k)) (w (11 + 4 * k)) (w (12 + 4 * k)) (w (13 + 4 * k)))

unfoldable pub calls_of_words : (ℕ → ℕ) → List OpenCall
calls_of_words w = table 4 (λ k. open_call_of_words (w (42 + 2 * k)) (w (43 + 2 * k)))

unfoldable pub totals_of_words : (ℕ → ℕ) → List MonthTotal
totals_of_words w = table 16 (λ k. total_of_words (w (50 + 3 * k)) (w (51 + 3 * k)) (w (52 + 3 * k)))

-- The file: its words 1 to 9 are its status, its role, the firm amount, the number of open calls, whether a next amount is set, the next amount, the
-- days charged, the accrued charge and the count of calls made.
unfoldable pub file_of_words : (ℕ → ℕ) → File
file_of_words w =
    record {
      admitted = admitted_of (w 1);
      leaving = leaving_of (w 1);
      role = w 2;
      firm = w 3;
      slots = slots_of_words w;
      calls = calls_of_words w;
      count = w 4;
      next = record { set = flag_of (w 5); amount = w 6 };
      totals = totals_of_words w;
      charged = w 7;
      accrued = w 8;
      made = w 9;
    }

-- The words behind a place.
abbrev pub words_at : List ℕ → ℕ → ℕ → ℕ
words_at l at k = get_or l (at + k) 0

-- The words of parts one after another.
unfoldable pub flat : {A : Type 0} → (A → List ℕ) → List A → List ℕ
flat enc [] = []
flat enc (x ∷ l) = enc x ++ flat enc l

-- The first nine words of a file.
abbrev pub own_words : File → List ℕ
own_words f =
    status_word f.admitted f.leaving ∷ f.role ∷ f.firm ∷ f.count ∷ flag_word f.next.set ∷ f.next.amount ∷ f.charged ∷ f.accrued ∷ f.made ∷ []

-- The 97 words of a file.
unfoldable pub file_words : File → List ℕ
file_words f = own_words f ++ (flat slot_words f.slots ++ (flat open_call_words f.calls ++ flat total_words f.totals))

-- What a file that is put at a place leaves: its words, and it is the file read there.
pub record Put (l : List ℕ) (at : ℕ) (f : File) (m : List ℕ) : Type 0 where
  pub stored : m ≡ written l (at + 1) (file_words f)
  pub long : length (file_words f) ≡ 97
  pub back : file_of_words (words_at m at) ≡ f

-- What parts that are put from a place on leave.
pub record PutRows {A : Type 0} (enc : A → List ℕ) (Back : A → Type 0) (n : ℕ) (xs : List A) (l : List ℕ) (at : ℕ) (m : List ℕ) : Type 0 where
  pub stored : m ≡ written l at (flat enc xs)
  pub backs : All Back xs
  pub long : length xs ≡ n

-- The first i of the parts are put from a place on.
pub record SoFar {A : Type 0} (enc : A → List ℕ) (Back : A → Type 0) (xs : List A) (l : List ℕ) (at i : ℕ) (m : List ℕ) : Type 0 where
  pub stored : m ≡ written l at (flat enc (take i xs))
  pub backs : All Back (take i xs)
