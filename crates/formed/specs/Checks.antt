-- What is asked of the words of a book, one after another: of each part of a file, of a file, and of all the files; and which words a book of the
-- layout before was saved in.
-- Assumes nothing.
use Rattle.std.specs.Prelude.{ℕ, ◌+◌, ◌*◌, ◌≤◌, ◌≡◌, Bool, false, List, length, get_or}
use Rattle.file.specs.declared.OpenCall.{OpenCall}
use Rattle.file.specs.Sound.{Sound, SoundPosition, total_bound}
use Rattle.layout.specs.Parts.{number_of, position_of}
use Rattle.layout.specs.Files.{file_of_words, words_at, file_words}
use Rattle.layout.specs.WellFormed.{BlankUnlessAdmitted}
use Rattle.formed.specs.Decides.{Below}

-- The words of a slot are a sound position.
unfoldable pub SoundSlot : ℕ → ℕ → ℕ → ℕ → Type 0
SoundSlot kind amount first last = SoundPosition (position_of kind amount first last)

-- The words a and d at place k of the calls, of which n are open: a sound call, and zeros behind the open ones.
pub record SoundPlace (n k a d : ℕ) : Type 0 where
  pub amount : a ≤ total_bound
  pub last : number_of d ≤ 29229
  pub behind : n ≤ k → (a ≡ 0) × (number_of d ≡ 0)

-- The same of a call itself, which is open or not.
pub record SoundPlaced (c : OpenCall) (is_open : Bool) : Type 0 where
  pub amount : c.amount ≤ total_bound
  pub last : c.last.0 ≤ 29229
  pub behind : is_open ≡ false → (c.amount ≡ 0) × (c.last.0 ≡ 0)

-- A file's own words on day t: the number of open calls, firm amount, next amount, days charged, accrued charge and the count of calls made.
pub record SoundAmounts (t n a b c d m : ℕ) : Type 0 where
  pub count : n ≤ 4
  pub firm : a ≤ total_bound
  pub next : b ≤ total_bound
  pub charged : c ≤ t
  pub accrued : d ≤ c * total_bound
  pub counted : n ≤ m
  pub made : m ≤ 4 * t + n

-- Slot k of the file behind a place is sound.
abbrev pub SlotAt : List ℕ → ℕ → ℕ → Type 0
SlotAt l at k =
    SoundSlot (get_or l (at + (10 + 4 * k)) 0) (get_or l (at + (11 + 4 * k)) 0) (get_or l (at + (12 + 4 * k)) 0) (get_or l (at + (13 + 4 * k)) 0)

-- Place k of its calls is sound.
abbrev pub CallAt : List ℕ → ℕ → ℕ → Type 0
CallAt l at k = SoundPlace (get_or l (at + 4) 0) k (get_or l (at + (42 + 2 * k)) 0) (get_or l (at + (43 + 2 * k)) 0)

-- Month total k is within plus or minus 16 * 10^12: such a number has a word of at most twice that.
abbrev pub TotalAt : List ℕ → ℕ → ℕ → Type 0
TotalAt l at k = get_or l (at + (52 + 3 * k)) 0 ≤ 32000000000000

-- The file behind a place is sound on day t.
unfoldable pub SoundAt : ℕ → List ℕ → ℕ → Type 0
SoundAt t l at = Sound t (file_of_words (words_at l at))

-- The words behind a place are those of the file that is read there.
unfoldable pub Canonical : List ℕ → ℕ → Type 0
Canonical l at = Below 97 (λ k. get_or l (at + (k + 1)) 0 ≡ get_or (file_words (file_of_words (words_at l at))) k 0)

-- The words behind a place are zeros.
unfoldable pub Blank : List ℕ → ℕ → Type 0
Blank l at = Below 97 (λ k. get_or l (at + (k + 1)) 0 ≡ 0)

-- The words behind a place are a file within its bounds on day t, and zeros where nobody is admitted.
pub record FormedFile (t : ℕ) (l : List ℕ) (at : ℕ) : Type 0 where
  pub canonical : Canonical l at
  pub sound : SoundAt t l at
  pub blank : BlankUnlessAdmitted (file_of_words (words_at l at))

-- The words of participant p's file are well formed on day t.
abbrev pub FileAt : ℕ → List ℕ → ℕ → Type 0
FileAt t l p = FormedFile t l (1 + 97 * p)

-- Words that a book of the layout before was saved in: 6,147, of which the first is the number of that layout, 1 (before paper 02's Ask 6). Nothing
-- more is asked of them.
pub record EarlierLayout (l : List ℕ) : Type 0 where
  pub long : length l ≡ 6147
  pub layout : get_or l 0 0 ≡ 1
