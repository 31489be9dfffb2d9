-- The text of an extract's line is parsed to what it says: its numbers fit their types, and what stands behind `#` is no part of it.
-- Assumes nothing.
use Prim.Native.Nat.{ℕ, suc, ◌+◌, ◌*◌, ◌<◌, ◌≤◌, min}
use native.Mathlib.Omega.{arith}
use mathlib.Core.Path.{◌≡◌, refl, sym, ap, subst, ◌∙◌}
use mathlib.Core.Bool.{true, false, cond, not, ◌&&◌}
use mathlib.Core.List.{List, [], ◌∷◌, ◌++◌, map, append-nil}
use borrow.Author.Tests.{ltb-true, ltb-false, not-true}
use lib.Dec.{eqb, ltb}
use lib.IntN.{ℤ, pos, negsuc}
use lib.ListN.{length, take, get_or, length-map, length-take}
use lib.Seq.{take_all}
use Rattle.std.specs.Prelude.{Option, Some, None, Result, Ok, Err}
use Rattle.std.proofs.Common.{append_assoc}
use Rattle.laws.specs.Cases.{split, clash, and_left, and_right}
use Rattle.laws.specs.Lists.{All, all-default}
use Rattle.laws.specs.Tabulated.{all-table}
use Rattle.words.specs.Bytes.{blank, control, each, uncommented}
use Rattle.words.specs.Words.{apart, words}
use Rattle.words.proofs.WordLaws.{solid, whole_word, words-blank, words-none}
use Rattle.batch.specs.Bytes.{number_at, signed_of}
use Rattle.batch.specs.Batch.{form_of, count_in, month_in, offset_at, rows_at, figures_at, figures_behind}
use Rattle.batch.specs.declared.Misfit.{Misfit}
use Rattle.batch.specs.FormLaws.{is_batch, whole, part-inside}
use Rattle.journal.proofs.Room.{parsed-fits}
use Rattle.batch.proofs.PartLaws.{many_figures}
use Rattle.journal.specs.Grammar.{Parsed, parsed, words_of}
use Rattle.journal.specs.declared.Request.{Request}
use Rattle.journal.proofs.Counts.{IsCall}
use Rattle.printing.specs.Decimals.{spaced, joined}
use Rattle.printing.specs.Lines.{printed, call_words, Natural64, Holds, Fitting}
use Rattle.printing.proofs.PlainWords.{IsWord, word_byte, line_byte, each_append, no-control, joined_line, each-weaker}
use Rattle.printing.proofs.RoundTrip.{parsed-words, call-words, round_trip}
use Rattle.printing.proofs.ParsedFits.{parsed-fitting}
use Rattle.book.specs.Call.{on, settle, batch}
use Rattle.answering.specs.Asked.{Asked, call, byte_of, batch_bytes}
use Rattle.answering.proofs.OwnNumbers.{own, asked-cut}
use Rattle.answering.proofs.ParsedLines.{parsed-own}
use Rattle.extract.specs.Extract.{part_in, own_part}
use Rattle.extract.specs.Lines.{stays, own_numbers, settle_line, part_line, own_line, commented}
use Rattle.extract.specs.Asks.{line_text, LineBack}
use Rattle.extract.proofs.Extracting.{Search, found, missing, own-search}
use Rattle.extract.proofs.LineLaws.{kept}

-- ---- the figures of a part fit

Bytes : List ℕ → Type 0
Bytes file = All (λ (b : ℕ). b < 256) file

bytes-of : (zs : List ℤ) → Bytes (map byte_of zs)
unfolding Bytes
bytes-of [] = tt
bytes-of (pos n ∷ zs) = (omega arith, bytes-of zs)
bytes-of (negsuc n ∷ zs) = (omega arith, bytes-of zs)

batch-bytes : (n : ℕ) (zs : List ℤ) → Bytes (batch_bytes n zs)
unfolding batch_bytes
batch-bytes n zs = bytes-of (take (min n 32768) zs)

module _ (file : List ℕ) (bytes : Bytes file) where
  byte-small : (at : ℕ) → get_or file at 0 < 256
  unfolding Bytes
  byte-small at = all-default (λ (b : ℕ). b < 256) file at 0 (omega arith) bytes

  two-small : (at : ℕ) → number_at file at 2 < 65536
  unfolding number_at
  two-small at = omega (arith, byte-small at, byte-small (suc at))

  eight-small : (at : ℕ) → number_at file at 8 < 18446744073709551616
  unfolding number_at
  eight-small at =
      omega (
        arith,
        byte-small at,
        byte-small (suc at),
        byte-small (suc (suc at)),
        byte-small (suc (suc (suc at))),
        byte-small (suc (suc (suc (suc at)))),
        byte-small (suc (suc (suc (suc (suc at))))),
        byte-small (suc (suc (suc (suc (suc (suc at)))))),
        byte-small (suc (suc (suc (suc (suc (suc (suc at))))))),
      )

  signed-holds : (w : ℕ) → w < 18446744073709551616 → Holds false (signed_of w)
  unfolding signed_of
  signed-holds w h =
      split (ltb w 9223372036854775808)
      (λ t. rw t (ltb-true w 9223372036854775808 t))
      (λ t. rw t (let least = ltb-false w 9223372036854775808 t in omega arith))

  figures-hold : (k : ℕ) → All (Holds false) (figures_at file k)
  unfolding figures_at figures_behind
  figures-hold k =
      all-table (Holds false) (rows_at file k) (λ j. signed_of (number_at file (offset_at file k + 2 + 8 * j) 8))
      (λ j h. signed-holds (number_at file (offset_at file k + 2 + 8 * j) 8) (eight-small (offset_at file k + 2 + 8 * j)))

  settle-fits : (p k : ℕ) → Natural64 p → Fitting (settle_line p file k).request (settle_line p file k).numbers
  unfolding month_in figures_at
  settle-fits p k h =
      (h, omega (arith, two-small 0), sym (many_figures file (offset_at file k) (rows_at file k)), figures-hold k)

-- As many figures as rows.
figures-many : (file : List ℕ) (k : ℕ) → length (figures_at file k) ≡ rows_at file k
unfolding figures_at
figures-many file k = many_figures file (offset_at file k) (rows_at file k)

-- ---- what stands behind `#`

blank-line : each line_byte (32 ∷ []) ≡ true
unfolding each line_byte control blank
blank-line = refl

blank-blank : blank 32 ≡ true
unfolding blank
blank-blank = refl

-- A line of a line's bytes, with a comment behind it.
uncommented-behind : (l t : List ℕ) → each line_byte l ≡ true → uncommented (l ++ (35 ∷ t)) ≡ l
unfolding each uncommented line_byte
uncommented-behind [] t e = refl
uncommented-behind (b ∷ l) t e =
    let a = and_right (not (control b)) (not (eqb b 35)) (and_left (line_byte b) (each line_byte l) e) in
    rw (not-true (eqb b 35) a) (ap (λ (m : List ℕ). b ∷ m) (uncommented-behind l t (and_right (line_byte b) (each line_byte l) e)))

-- Words with a blank behind them.
spaced-apart : (ws : List (List ℕ)) → apart (spaced ws ++ (32 ∷ [])) ≡ true
unfolding spaced apart
spaced-apart [] = blank-blank
spaced-apart (w ∷ ws) = blank-blank

word-solid : (w : List ℕ) → each word_byte w ≡ true → each solid w ≡ true
unfolding word_byte
word-solid = each-weaker word_byte solid (λ b. and_left (solid b) (not (control b) && not (eqb b 35)))

word-behind : (w : List ℕ) (ws : List (List ℕ)) → IsWord w → words ((w ++ spaced ws) ++ (32 ∷ [])) ≡ w ∷ words (spaced ws ++ (32 ∷ []))
word-behind w ws a =
    ap words (append_assoc w (spaced ws) (32 ∷ []))
    ∙ whole_word w (spaced ws ++ (32 ∷ [])) a.some_byte (word-solid w a.bytes) (spaced-apart ws)

spaced-words : (ws : List (List ℕ)) → All IsWord ws → words (spaced ws ++ (32 ∷ [])) ≡ ws
unfolding spaced
spaced-words [] a = words-blank 32 [] blank-blank ∙ words-none
spaced-words (w ∷ ws) a =
    words-blank 32 ((w ++ spaced ws) ++ (32 ∷ [])) blank-blank
    ∙ word-behind w ws a.0
    ∙ ap (λ (l : List (List ℕ)). w ∷ l) (spaced-words ws a.1)

joined-words : (ws : List (List ℕ)) → All IsWord ws → words (joined ws ++ (32 ∷ [])) ≡ ws
unfolding joined
joined-words [] a = words-blank 32 [] blank-blank ∙ words-none
joined-words (w ∷ ws) a = word-behind w ws a.0 ∙ ap (λ (l : List (List ℕ)). w ∷ l) (spaced-words ws a.1)

-- A line is parsed by its words with a comment too.
parsed-behind : (room : ℕ) (ws : List (List ℕ)) (t : List ℕ) → All IsWord ws → parsed room (joined ws ++ (32 ∷ 35 ∷ t)) ≡ words_of room ws
unfolding parsed
parsed-behind room ws t a =
    let line = joined ws ++ (32 ∷ []) in
    let good : each line_byte line ≡ true = each_append line_byte (joined ws) (32 ∷ []) (joined_line ws a) blank-line in
    let cut : uncommented (joined ws ++ (32 ∷ 35 ∷ t)) ≡ line =
    ap uncommented (sym (append_assoc (joined ws) (32 ∷ []) (35 ∷ t))) ∙ uncommented-behind line t good in
    rw (cut, no-control line good, joined-words ws a)

-- So a call is, whatever its reference.
pub reference-unread : (room : ℕ) (r : Request) (zs : List ℤ) (reference : List ℕ)
    → parsed room (printed r zs ++ commented reference) ≡ parsed room (printed r zs)
unfolding commented printed
reference-unread room r zs [] = ap (parsed room) (append-nil (joined (call_words r zs)))
reference-unread room r zs (b ∷ reference) =
    parsed-behind room (call_words r zs) (32 ∷ b ∷ reference) (call-words r zs) ∙ sym (parsed-words room (call_words r zs) (call-words r zs))

-- ---- a line that was parsed

-- The numbers of a call that stays are all those of its line.
numbers-all : (p : ℕ) (r : Request) (zs : List ℤ) → Fitting r zs → stays p r ≡ true → own_numbers r zs ≡ zs
numbers-all p (Request.Fresh d) zs f e = sym f.1
numbers-all p (Request.Advance t b) zs f e = sym f.2
numbers-all p Request.RoleRetired zs f e = sym f
numbers-all p (Request.Admit q role) zs f e = sym f.2
numbers-all p (Request.LodgeCash q k a) zs f e = sym f.3
numbers-all p (Request.LodgeLetter q k a b l) zs f e = sym f.5
numbers-all p (Request.Release q k a) zs f e = sym f.3
numbers-all p (Request.Settle q m n) zs f e = take_all n zs (omega (arith, f.2))
numbers-all p (Request.Annual q) zs f e = sym f.1
numbers-all p (Request.Delete q) zs f e = sym f.1
numbers-all p r zs f e = clash {t = false} e refl

-- An error is in no extract.
call-there : (p : ℕ) (r : Request) (zs : List ℤ) (c : Parsed) → own_line p r zs ≡ Some c → IsCall r
unfolding own_line
call-there p (Request.Error e) zs c k = clash {t = false} (kept false c c k).0 refl
call-there p r zs c k = tt

part-fits : (p : ℕ) (file : List ℕ) (part : Option ℕ) (c : Parsed) → Bytes file → Natural64 p → part_line p file part ≡ Some c
    → Fitting c.request c.numbers
part-fits p file (Some k) c bytes h e =
    subst (λ (x : Parsed). Fitting x.request x.numbers) (kept true (settle_line p file k) c e).1 (settle-fits file bytes p k h)
part-fits p file None c bytes h e = clash {t = true} refl (sym (kept false c c e).0)

line-fits : (p : ℕ) (r : Request) (zs : List ℤ) (c : Parsed) → Natural64 p → Fitting r zs → own_line p r zs ≡ Some c → Fitting c.request c.numbers
unfolding own_line
line-fits p (Request.Batch n) zs c h f e = part-fits p (batch_bytes n zs) (own_part p (batch_bytes n zs)) c (batch-bytes n zs) h e
line-fits p r zs c h f e =
    let k = kept (stays p r) (record { request = r; numbers = own_numbers r zs }) c e in
    subst (λ (x : Parsed). Fitting x.request x.numbers) k.1
    (subst (λ (ns : List ℤ). Fitting r ns) (sym (numbers-all p r zs f k.0)) f)

-- ---- how many numbers it has

-- A part is one of a batch, and lies in its file.
part-form : (p : ℕ) (file : List ℕ) (form : Result ℕ Misfit) (k : ℕ) → part_in p file form ≡ Some k → is_batch form ≡ true
part-form p file (Ok n) k e = refl
part-form p file (Err m) k e = absurd (none e)
  where
    none : None ≡ Some k → ⊥
    none e = cc

part-low : (p : ℕ) (file : List ℕ) (part : Option ℕ) (k : ℕ) → Search p file part → part ≡ Some k → k < count_in file
part-low p file (Some i) k (found j f) e = subst (λ (m : ℕ). m < count_in file) (some e) f.low
  where
    some : Some i ≡ Some k → i ≡ k
    some e = cc
part-low p file None k (missing n) e = absurd (none e)
  where
    none : None ≡ Some k → ⊥
    none e = cc

rows-few : (p : ℕ) (file : List ℕ) (k : ℕ) → own_part p file ≡ Some k → rows_at file k ≤ length file
unfolding own_part
rows-few p file k e =
    let w = whole file (part-form p file (form_of file) k e) in
    omega (arith, part-inside file w k (part-low p file (own_part p file) k (own-search p file w) e))

part-few : (p : ℕ) (file : List ℕ) (part : Option ℕ) (c : Parsed) → part ≡ own_part p file → part_line p file part ≡ Some c
    → length c.numbers ≤ length file
part-few p file (Some k) c is e =
    subst (λ (x : Parsed). length x.numbers ≤ length file) (kept true (settle_line p file k) c e).1
    (omega (arith, figures-many file k, rows-few p file k (sym is)))
part-few p file None c is e = clash {t = true} refl (sym (kept false c c e).0)

bytes-few : (n : ℕ) (zs : List ℤ) → length (batch_bytes n zs) ≤ length zs
unfolding batch_bytes
bytes-few n zs = omega (arith, length-map (take (min n 32768) zs) byte_of, length-take (min n 32768) zs)

numbers-few : (r : Request) (zs : List ℤ) → length (own_numbers r zs) ≤ length zs
numbers-few (Request.Settle q m n) zs = omega (arith, length-take n zs)
numbers-few r zs = omega arith

line-few : (p : ℕ) (r : Request) (zs : List ℤ) (c : Parsed) → own_line p r zs ≡ Some c → length c.numbers ≤ length zs
unfolding own_line
line-few p (Request.Batch n) zs c e =
    omega (arith, bytes-few n zs, part-few p (batch_bytes n zs) (own_part p (batch_bytes n zs)) c refl e)
line-few p r zs c e =
    let k = kept (stays p r) (record { request = r; numbers = own_numbers r zs }) c e in
    subst (λ (x : Parsed). length x.numbers ≤ length zs) k.1 (numbers-few r zs)

-- ---- the row that it was parsed to

-- The bytes of a batch, and the figures of a settlement, that a line asks.
bytes-in : Asked → List ℕ
bytes-in (call (batch file)) = file
bytes-in a = []

figures-in : Asked → List ℤ
figures-in (call (on p (settle m zs))) = zs
figures-in a = []

-- A line hangs on its own numbers alone.
row-cut : (p : ℕ) (r : Request) (zs : List ℤ) → own_line p r (own r zs) ≡ own_line p r zs
unfolding own_line bytes-in figures-in
row-cut p (Request.Batch n) zs =
    ap (λ (file : List ℕ). part_line p file (own_part p file)) (ap bytes-in (asked-cut (Request.Batch n) zs))
row-cut p (Request.Settle q m n) zs =
    ap (λ (ns : List ℤ). cond (eqb q p) (Some (record { request = Request.Settle q m n; numbers = ns })) None)
    (ap figures-in (asked-cut (Request.Settle q m n) zs))
row-cut p r zs = refl

-- An error has no line.
row-same : (p : ℕ) (r : Request) (zs f : List ℤ) → (IsCall r → own r f ≡ zs) → own_line p r f ≡ own_line p r zs
unfolding own_line
row-same p (Request.Error e) zs f h = refl
row-same p r zs f h = sym (row-cut p r f) ∙ ap (own_line p r) (h tt)

pub line-back : (p : ℕ) (e : List ℤ) (line : List ℕ) → Natural64 p → Natural64 (length e) → LineBack p e line
unfolding line_text
line-back p e line h n =
    let x = parsed (length e) line in
    let fits : (c : Parsed) → own_line p x.request x.numbers ≡ Some c → Fitting c.request c.numbers = λ c is.
    line-fits p x.request x.numbers c h (parsed-fitting (length e) line n (call-there p x.request x.numbers c is)) is in
    record {
      row = λ r f is. ap (λ (q : Request). own_line p q f) is.request ∙ row-same p x.request x.numbers f (parsed-own line e f r is);
      fits = fits;
      few = line-few p x.request x.numbers;
      back = λ c reference is.
          reference-unread (length e) c.request c.numbers reference
          ∙ round_trip (length e) c.request c.numbers (fits c is)
          (omega (arith, line-few p x.request x.numbers c is, parsed-fits (length e) line));
    }
