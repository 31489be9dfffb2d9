-- The lines that are printed: calls in their numeric form, and answers.
-- Assumes nothing.
use Rattle.std.specs.Prelude.{ℕ, ◌≤◌, ◌<◌, ◌≡◌, Bool, true, false, List, [], ◌∷◌, ◌++◌, map, length, take, drop, ℤ, pos, negsuc}
use Rattle.std.specs.Int.Signed.{mag}
use Rattle.laws.specs.Lists.{All}
use Rattle.words.specs.Text.{text}
use Rattle.journal.specs.Grammar.{are_marks, length_list, total}
use Rattle.journal.specs.declared.Request.{Request}
use Rattle.printing.specs.Decimals.{decimal, integer, joined}
use Rattle.printing.specs.Hex.{hex_words}

-- Numbers cut into lists of given lengths.
unfoldable pub cut : List ℕ → List ℤ → List (List ℤ)
cut [] zs = []
cut (k ∷ ks) zs = take k zs ∷ cut ks (drop k zs)

-- "each LIST is its length and then its numbers".
unfoldable pub list_words : List (List ℤ) → List (List ℕ)
list_words [] = []
list_words (zs ∷ rest) = decimal (length zs) ∷ (map integer zs ++ list_words rest)

-- 'The journal': the words of a call, its numbers as numbers, with the numbers of its lists in a row, or the bytes of its file; paper 02,
-- Ask 3: the line that ends the first stretch of a journal is its one word. What is no call has none.
unfoldable pub call_words : Request → List ℤ → List (List ℕ)
call_words Request.Nothing zs = []
call_words (Request.Fresh d) zs = text "fresh" ∷ decimal d.0 ∷ []
call_words (Request.Admit p r) zs = text "admit" ∷ decimal p ∷ decimal r ∷ []
call_words (Request.LodgeCash p q a) zs = text "lodge" ∷ decimal p ∷ decimal q ∷ text "cash" ∷ decimal a ∷ []
call_words (Request.LodgeLetter p q a f l) zs =
    text "lodge" ∷ decimal p ∷ decimal q ∷ text "letter" ∷ decimal a ∷ decimal f.0 ∷ decimal l.0 ∷ []
call_words (Request.Release p q a) zs = text "release" ∷ decimal p ∷ decimal q ∷ decimal a ∷ []
call_words (Request.Settle p m n) zs = text "settle" ∷ decimal p ∷ decimal m.0 ∷ map integer zs
call_words (Request.Annual p) zs = text "annual" ∷ decimal p ∷ []
call_words (Request.Advance t b) zs = text "advance" ∷ decimal t.0 ∷ decimal b ∷ []
call_words (Request.Statement p) zs = text "statement" ∷ decimal p ∷ []
call_words Request.Calls zs = text "calls" ∷ []
call_words (Request.Special n) zs = text "special" ∷ list_words (cut (length_list n) zs)
call_words (Request.Batch n) zs = text "batch" ∷ hex_words (take n zs)
call_words Request.RoleRetired zs = text "role-retired" ∷ []
call_words (Request.Delete p) zs = text "delete" ∷ decimal p ∷ []
call_words Request.Report zs = text "report" ∷ []
call_words (Request.File p) zs = text "file" ∷ decimal p ∷ []
call_words (Request.Releasable p q) zs = text "releasable" ∷ decimal p ∷ decimal q ∷ []
call_words Request.Today zs = text "today" ∷ []
call_words (Request.Error e) zs = []

-- A call as a line.
unfoldable pub printed : Request → List ℤ → List ℕ
printed r zs = joined (call_words r zs)

-- The largest natural numbers of 64 and of 32 bits.
abbrev pub Natural64 : ℕ → Type 0
Natural64 n = n ≤ 18446744073709551615

abbrev pub Natural32 : ℕ → Type 0
Natural32 n = n ≤ 4294967295

-- A number of a list fits a signed number of 64 bits; a mark (true) is besides no negative one.
abbrev pub Holds : Bool → ℤ → Type 0
Holds false z = mag z < 9223372036854775808
Holds true (pos n) = n < 9223372036854775808
Holds true (negsuc n) = ⊥

-- A number that is a byte.
abbrev pub IsByte : ℤ → Type 0
IsByte (pos n) = n < 256
IsByte (negsuc n) = ⊥

-- The numbers of each list fit.
abbrev pub Hold : List Bool → List (List ℤ) → Type 0
Hold [] [] = Unit {0}
Hold [] (zs ∷ rest) = ⊥
Hold (m ∷ ms) [] = ⊥
Hold (m ∷ ms) (zs ∷ rest) = All (Holds m) zs × Hold ms rest

-- A call whose numbers fit their types, and the numbers of its lists or its file: as many as it says, and none where it has neither.
abbrev pub Fitting : Request → List ℤ → Type 0
Fitting Request.Nothing zs = zs ≡ []
Fitting (Request.Fresh d) zs = Natural32 d.0 × (zs ≡ [])
Fitting (Request.Admit p r) zs = Natural64 p × Natural64 r × (zs ≡ [])
Fitting (Request.LodgeCash p q a) zs = Natural64 p × Natural64 q × Natural64 a × (zs ≡ [])
Fitting (Request.LodgeLetter p q a f l) zs =
    Natural64 p × Natural64 q × Natural64 a × Natural32 f.0 × Natural32 l.0 × (zs ≡ [])
Fitting (Request.Release p q a) zs = Natural64 p × Natural64 q × Natural64 a × (zs ≡ [])
Fitting (Request.Settle p m n) zs = Natural64 p × Natural32 m.0 × (n ≡ length zs) × All (Holds false) zs
Fitting (Request.Annual p) zs = Natural64 p × (zs ≡ [])
Fitting (Request.Advance t b) zs = Natural32 t.0 × Natural64 b × (zs ≡ [])
Fitting (Request.Statement p) zs = Natural64 p × (zs ≡ [])
Fitting Request.Calls zs = zs ≡ []
Fitting (Request.Special n) zs = Natural64 (length zs) × (total (length_list n) ≡ length zs) × Hold are_marks (cut (length_list n) zs)
Fitting (Request.Batch n) zs = (n ≡ length zs) × All IsByte zs
Fitting Request.RoleRetired zs = zs ≡ []
Fitting (Request.Delete p) zs = Natural64 p × (zs ≡ [])
Fitting Request.Report zs = zs ≡ []
Fitting (Request.File p) zs = Natural64 p × (zs ≡ [])
Fitting (Request.Releasable p q) zs = Natural64 p × Natural64 q × (zs ≡ [])
Fitting Request.Today zs = zs ≡ []
Fitting (Request.Error e) zs = ⊥
