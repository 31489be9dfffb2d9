-- Printing a call and parsing it again gives the call, for every call whose numbers fit their types.
-- Assumes nothing.
use Prim.Native.Nat.{ℕ, ◌≤◌}
use Prim.Native.String.{String}
use mathlib.Core.Path.{◌≡◌, refl, ap, ◌∙◌}
use mathlib.Core.Bool.{Bool, true, false}
use mathlib.Core.List.{List, [], ◌∷◌, map}
use native.Mathlib.Omega.{arith}
use borrow.Author.Tests.{le-leb}
use lib.Dec.{T, eqb, eqb→eq, ltb, lit<}
use lib.ListN.{length, take, get_or}
use lib.Seq.{take_all}
use lib.IntN.{ℤ}
use Rattle.laws.specs.Lists.{All, all_append}
use Rattle.laws.specs.Tables.{every, every-at}
use Rattle.calendar.specs.declared.Day.{Day}
use Rattle.calendar.specs.declared.Month.{Month}
use Rattle.words.specs.Text.{text}
use Rattle.words.specs.Bytes.{blank, control, each, same}
use Rattle.words.specs.Words.{place_in}
use Rattle.words.specs.Hex.{hexadecimal, bytes_of_hex}
use Rattle.journal.specs.Names.{call_names, lodged_names, lodged_in}
use Rattle.journal.specs.Fields.{more, closed, file_of, checked_file, ended}
use Rattle.journal.specs.Grammar.{plain, are_marks, fresh_of, admit_of, cash_of, letter_of, lodge_of, release_of, settle_of}
use Rattle.journal.specs.Grammar.{length_list, total, annual_of, advance_of, statement_of, delete_of, file_asked_of, releasable_of, special_of, filed, batch_of, calls_of, named_call}
use Rattle.journal.specs.Grammar.{words_of, parsed}
use Rattle.std.specs.Prelude.{Some}
use Rattle.journal.specs.declared.Request.{Request}
use Rattle.journal.specs.declared.Lengths.{Lengths}
use Rattle.words.proofs.WordLaws.{solid}
use Rattle.journal.proofs.Room.{◌&◌}
use Rattle.printing.specs.Decimals.{decimal, integer, joined}
use Rattle.printing.specs.Hex.{hex_bytes, hex_words}
use Rattle.printing.specs.Lines.{call_words, list_words, cut, printed, Natural64, Natural32, Fitting, Holds, Hold, IsByte}
use Rattle.printing.proofs.PlainWords.{word_byte, IsWord, uncommented-line, no-control, joined_line, joined_words}
use Rattle.printing.proofs.DecimalLaws.{decimal-word, integer-word}
use Rattle.printing.proofs.HexLaws.{file-words, hex-hexadecimal, bytes_back}
use Rattle.printing.proofs.FieldsBack.{lodged_back, natural-field, amount-field, budget-field, role-field, day-field, month-field, closed-back}
use Rattle.printing.proofs.FieldsBack.{same-day, same-month, figures-back, lists_back, cut-flat, cut-lengths}

-- A line of words that a line can hold is parsed by those words.

pub parsed-words : (room : ℕ) (ws : List (List ℕ)) → All IsWord ws → parsed room (joined ws) ≡ words_of room ws
unfolding parsed
parsed-words room ws a =
    rw (uncommented-line (joined ws) (joined_line ws a), no-control (joined ws) (joined_line ws a), joined_words ws a)

-- The words of a call are such words.

word : (s : String) → T (ltb 0 (length (text s))) → each word_byte (text s) ≡ true → IsWord (text s)
word s h e = record { some_byte = lit< h; bytes = e }

figures-words : (zs : List ℤ) → All IsWord (map integer zs)
figures-words [] = tt
figures-words (z ∷ zs) = (integer-word z, figures-words zs)

lists-words : (bs : List (List ℤ)) → All IsWord (list_words bs)
unfolding list_words
lists-words [] = tt
lists-words (b ∷ bs) = (decimal-word (length b), all_append IsWord (map integer b) (list_words bs) (figures-words b) (lists-words bs))

pub call-words : (r : Request) (zs : List ℤ) → All IsWord (call_words r zs)
unfolding call_words each word_byte solid control blank
call-words Request.Nothing zs = tt
call-words (Request.Fresh d) zs = word "fresh" tt refl & decimal-word d.0 & tt
call-words (Request.Admit p r) zs = word "admit" tt refl & decimal-word p & decimal-word r & tt
call-words (Request.LodgeCash p q a) zs = word "lodge" tt refl & decimal-word p & decimal-word q & word "cash" tt refl & decimal-word a & tt
call-words (Request.LodgeLetter p q a f l) zs =
    word "lodge" tt refl & decimal-word p & decimal-word q & word "letter" tt refl & decimal-word a & decimal-word f.0 & decimal-word l.0 & tt
call-words (Request.Release p q a) zs = word "release" tt refl & decimal-word p & decimal-word q & decimal-word a & tt
call-words (Request.Settle p m n) zs = word "settle" tt refl & decimal-word p & decimal-word m.0 & figures-words zs
call-words (Request.Annual p) zs = word "annual" tt refl & decimal-word p & tt
call-words (Request.Advance t b) zs = word "advance" tt refl & decimal-word t.0 & decimal-word b & tt
call-words (Request.Statement p) zs = word "statement" tt refl & decimal-word p & tt
call-words Request.Calls zs = word "calls" tt refl & tt
call-words (Request.Special n) zs = word "special" tt refl & lists-words (cut (length_list n) zs)
call-words (Request.Batch n) zs = word "batch" tt refl & file-words (take n zs)
call-words Request.RoleRetired zs = word "role-retired" tt refl & tt
call-words (Request.Delete p) zs = word "delete" tt refl & decimal-word p & tt
call-words Request.Report zs = word "report" tt refl & tt
call-words (Request.File p) zs = word "file" tt refl & decimal-word p & tt
call-words (Request.Releasable p q) zs = word "releasable" tt refl & decimal-word p & decimal-word q & tt
call-words Request.Today zs = word "today" tt refl & tt
call-words (Request.Error e) zs = tt

-- The first word of a line decides which call it is.

abbrev placed : ℕ → Bool
placed k = eqb (place_in (get_or call_names k []) call_names) k

-- one test over the list of names: each has its own place
place : (k : ℕ) → T (ltb k (length call_names)) → place_in (get_or call_names k []) call_names ≡ k
unfolding every place_in same call_names
place k h = eqb→eq (place_in (get_or call_names k []) call_names) k (every-at placed (length call_names) tt k (lit< h))

at_name : (room k : ℕ) → T (ltb k (length call_names)) → (ws : List (List ℕ))
    → words_of room (get_or call_names k [] ∷ ws) ≡ named_call room k (more ws)
unfolding words_of
at_name room k t ws = ap (λ (n : ℕ). named_call room n (more ws)) (place k t)

-- The arguments of each call.

lodged-cash : lodged_in (text "cash") ≡ Some 0
unfolding lodged_in place_in same lodged_names
lodged-cash = refl

lodged-letter : lodged_in (text "letter") ≡ Some 1
unfolding lodged_in place_in same lodged_names
lodged-letter = refl

fresh-back : (d : Day) → Natural32 d.0 → fresh_of (more (decimal d.0 ∷ [])) ≡ Request.Fresh d
unfolding fresh_of
fresh-back d h = rw (day-field d.0 [] h, same-day d h) (closed-back (Request.Fresh d))

admit-back : (p r : ℕ) → Natural64 p → Natural64 r → admit_of (more (decimal p ∷ decimal r ∷ [])) ≡ Request.Admit p r
unfolding admit_of
admit-back p r h g = rw (natural-field p (decimal r ∷ []) h, role-field r [] g) (closed-back (Request.Admit p r))

cash-back : (p q a : ℕ) → Natural64 a → cash_of p q (more (decimal a ∷ [])) ≡ Request.LodgeCash p q a
unfolding cash_of
cash-back p q a h = rw (amount-field a [] h) (closed-back (Request.LodgeCash p q a))

letter-back : (p q a : ℕ) (f l : Day) → Natural64 a → Natural32 f.0 → Natural32 l.0
    → letter_of p q (more (decimal a ∷ decimal f.0 ∷ decimal l.0 ∷ [])) ≡ Request.LodgeLetter p q a f l
unfolding letter_of
letter-back p q a f l h g k =
    rw (
      amount-field a (decimal f.0 ∷ decimal l.0 ∷ []) h,
      day-field f.0 (decimal l.0 ∷ []) g,
      day-field l.0 [] k,
      same-day f g,
      same-day l k,
    )
    (closed-back (Request.LodgeLetter p q a f l))

module _ (p q : ℕ) (h : Natural64 p) (g : Natural64 q) (ws : List (List ℕ)) where
  lodge-cash : lodge_of (more (decimal p ∷ decimal q ∷ text "cash" ∷ ws)) ≡ cash_of p q (more ws)
  unfolding lodge_of
  lodge-cash =
      rw (
        natural-field p (decimal q ∷ text "cash" ∷ ws) h,
        natural-field q (text "cash" ∷ ws) g,
        lodged_back (text "cash") ws 0 lodged-cash,
      )

  lodge-letter : lodge_of (more (decimal p ∷ decimal q ∷ text "letter" ∷ ws)) ≡ letter_of p q (more ws)
  unfolding lodge_of
  lodge-letter =
      rw (
        natural-field p (decimal q ∷ text "letter" ∷ ws) h,
        natural-field q (text "letter" ∷ ws) g,
        lodged_back (text "letter") ws 1 lodged-letter,
      )

release-back : (p q a : ℕ) → Natural64 p → Natural64 q → Natural64 a
    → release_of (more (decimal p ∷ decimal q ∷ decimal a ∷ [])) ≡ Request.Release p q a
unfolding release_of
release-back p q a h g k =
    rw (natural-field p (decimal q ∷ decimal a ∷ []) h, natural-field q (decimal a ∷ []) g, amount-field a [] k)
    (closed-back (Request.Release p q a))

delete-back : (p : ℕ) → Natural64 p → delete_of (more (decimal p ∷ [])) ≡ Request.Delete p
unfolding delete_of
delete-back p h = rw (natural-field p [] h) (closed-back (Request.Delete p))

annual-back : (p : ℕ) → Natural64 p → annual_of (more (decimal p ∷ [])) ≡ Request.Annual p
unfolding annual_of
annual-back p h = rw (natural-field p [] h) (closed-back (Request.Annual p))

advance-back : (t : Day) (b : ℕ) → Natural32 t.0 → Natural64 b → advance_of (more (decimal t.0 ∷ decimal b ∷ [])) ≡ Request.Advance t b
unfolding advance_of
advance-back t b h g =
    rw (day-field t.0 (decimal b ∷ []) h, budget-field b [] g, same-day t h) (closed-back (Request.Advance t b))

statement-back : (p : ℕ) → Natural64 p → statement_of (more (decimal p ∷ [])) ≡ Request.Statement p
unfolding statement_of
statement-back p h = rw (natural-field p [] h) (closed-back (Request.Statement p))

file-asked-back : (p : ℕ) → Natural64 p → file_asked_of (more (decimal p ∷ [])) ≡ Request.File p
unfolding file_asked_of
file-asked-back p h = rw (natural-field p [] h) (closed-back (Request.File p))

releasable-back : (p q : ℕ) → Natural64 p → Natural64 q → releasable_of (more (decimal p ∷ decimal q ∷ [])) ≡ Request.Releasable p q
unfolding releasable_of
releasable-back p q h g = rw (natural-field p (decimal q ∷ []) h, natural-field q [] g) (closed-back (Request.Releasable p q))

settle-back : (room p : ℕ) (m : Month) (n : ℕ) (zs : List ℤ) → Natural64 p → Natural32 m.0 → n ≡ length zs
    → All (Holds false) zs → length zs ≤ room
    → settle_of room (more (decimal p ∷ decimal m.0 ∷ map integer zs)) ≡ record { request = Request.Settle p m n; numbers = zs }
unfolding settle_of closed
settle-back room p m n zs h g e a b =
    rw (
      natural-field p (decimal m.0 ∷ map integer zs) h,
      month-field m.0 (map integer zs) g,
      figures-back room zs b a,
      same-month m g,
      ← e,
    )

special-back : (room : ℕ) (n : Lengths) (zs : List ℤ) → Natural64 (length zs) → total (length_list n) ≡ length zs
    → Hold are_marks (cut (length_list n) zs) → length zs ≤ room
    → special_of room (more (list_words (cut (length_list n) zs))) ≡ record { request = Request.Special n; numbers = zs }
unfolding special_of closed
special-back room n zs h e a b =
    let k = ap total (cut-lengths (length_list n) zs e) in
    rw (
      lists_back are_marks (cut (length_list n) zs) room a (omega (arith, k)) (omega (arith, k)),
      cut-lengths (length_list n) zs e,
      cut-flat (length_list n) zs e,
    )

-- a file's word is read as its bytes
file-back : (room : ℕ) (w : List ℕ) (zs : List ℤ) → hexadecimal w ≡ true → bytes_of_hex w ≡ zs → length zs ≤ room
    → batch_of room (more (w ∷ [])) ≡ record { request = Request.Batch (length zs); numbers = zs }
unfolding batch_of file_of checked_file ended filed
file-back room w zs h e b = rw (h, e, le-leb (length zs) room b)

no-file-back : (room : ℕ) → batch_of room (more []) ≡ record { request = Request.Batch 0; numbers = [] }
unfolding batch_of file_of checked_file ended filed hexadecimal bytes_of_hex each
no-file-back room = rw (le-leb 0 room (omega arith))

bytes_read : (room : ℕ) (zs : List ℤ) → All IsByte zs → length zs ≤ room
    → batch_of room (more (hex_words zs)) ≡ record { request = Request.Batch (length zs); numbers = zs }
unfolding hex_words
bytes_read room [] a b = no-file-back room
bytes_read room (z ∷ zs) a b =
    file-back room (hex_bytes (z ∷ zs)) (z ∷ zs) (hex-hexadecimal (z ∷ zs)) (bytes_back (z ∷ zs) a) b

batch-back : (room n : ℕ) (zs : List ℤ) → n ≡ length zs → All IsByte zs → length zs ≤ room
    → batch_of room (more (hex_words (take n zs))) ≡ record { request = Request.Batch n; numbers = zs }
batch-back room n zs e a b = rw (e, take_all (length zs) zs (omega arith)) (bytes_read room zs a b)

-- The words of a call give the call.

pub words_back : (room : ℕ) (r : Request) (zs : List ℤ) → Fitting r zs → length zs ≤ room
    → words_of room (call_words r zs) ≡ record { request = r; numbers = zs }
unfolding call_words words_of call_names named_call calls_of
words_back room Request.Nothing zs f h = rw f
words_back room (Request.Fresh d) zs f h = rw f.1 (at_name room 0 tt (decimal d.0 ∷ []) ∙ ap plain (fresh-back d f.0))
words_back room (Request.Admit p r) zs f h = rw f.2 (at_name room 1 tt (decimal p ∷ decimal r ∷ []) ∙ ap plain (admit-back p r f.0 f.1))
words_back room (Request.LodgeCash p q a) zs f h =
    rw f.3
    (at_name room 2 tt (decimal p ∷ decimal q ∷ text "cash" ∷ decimal a ∷ [])
    ∙ ap plain (lodge-cash p q f.0 f.1 (decimal a ∷ []) ∙ cash-back p q a f.2))
words_back room (Request.LodgeLetter p q a b l) zs f h =
    rw f.5
    (at_name room 2 tt (decimal p ∷ decimal q ∷ text "letter" ∷ decimal a ∷ decimal b.0 ∷ decimal l.0 ∷ [])
    ∙ ap plain (lodge-letter p q f.0 f.1 (decimal a ∷ decimal b.0 ∷ decimal l.0 ∷ []) ∙ letter-back p q a b l f.2 f.3 f.4))
words_back room (Request.Release p q a) zs f h =
    rw f.3 (at_name room 3 tt (decimal p ∷ decimal q ∷ decimal a ∷ []) ∙ ap plain (release-back p q a f.0 f.1 f.2))
words_back room (Request.Settle p m n) zs f h =
    at_name room 4 tt (decimal p ∷ decimal m.0 ∷ map integer zs) ∙ settle-back room p m n zs f.0 f.1 f.2 f.3 h
words_back room (Request.Annual p) zs f h = rw f.1 (at_name room 5 tt (decimal p ∷ []) ∙ ap plain (annual-back p f.0))
words_back room (Request.Advance t b) zs f h =
    rw f.2 (at_name room 6 tt (decimal t.0 ∷ decimal b ∷ []) ∙ ap plain (advance-back t b f.0 f.1))
words_back room (Request.Statement p) zs f h = rw f.1 (at_name room 7 tt (decimal p ∷ []) ∙ ap plain (statement-back p f.0))
words_back room Request.Calls zs f h = rw f (at_name room 8 tt [] ∙ ap plain (closed-back Request.Calls))
words_back room (Request.Special n) zs f h =
    at_name room 9 tt (list_words (cut (length_list n) zs)) ∙ special-back room n zs f.0 f.1 f.2 h
words_back room (Request.Batch n) zs f h = at_name room 11 tt (hex_words (take n zs)) ∙ batch-back room n zs f.0 f.1 h
words_back room Request.RoleRetired zs f h = rw f (at_name room 12 tt [] ∙ ap plain (closed-back Request.RoleRetired))
words_back room (Request.Delete p) zs f h = rw f.1 (at_name room 13 tt (decimal p ∷ []) ∙ ap plain (delete-back p f.0))
words_back room Request.Report zs f h = rw f (at_name room 10 tt [] ∙ ap plain (closed-back Request.Report))
words_back room (Request.File p) zs f h = rw f.1 (at_name room 14 tt (decimal p ∷ []) ∙ ap plain (file-asked-back p f.0))
words_back room (Request.Releasable p q) zs f h =
    rw f.2 (at_name room 15 tt (decimal p ∷ decimal q ∷ []) ∙ ap plain (releasable-back p q f.0 f.1))
words_back room Request.Today zs f h = rw f (at_name room 16 tt [] ∙ ap plain (closed-back Request.Today))
words_back room (Request.Error e) zs f h = absurd f

-- Printing a call and parsing it again gives the call.
pub round_trip : (room : ℕ) (r : Request) (zs : List ℤ) → Fitting r zs → length zs ≤ room
    → parsed room (printed r zs) ≡ record { request = r; numbers = zs }
unfolding printed
round_trip room r zs f h = parsed-words room (call_words r zs) (call-words r zs) ∙ words_back room r zs f h
