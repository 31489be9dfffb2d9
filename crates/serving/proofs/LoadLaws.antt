-- The line that a file's bytes make: the numbers written, its length, that it is one line, and what it asks of the book.
-- Assumes nothing.
use Rattle.std.specs.Prelude.{Option}
use Rattle.std.proofs.Common.{◌≡◌, ℕ, suc, ◌+◌, ◌*◌, ◌<◌, ◌≤◌, min, Bool, true, false, cond, ◌&&◌, List, [], ◌∷◌, ◌++◌, map, length, get_or, take, drop, ℤ, pos, sym, refl, ap, ◌∙◌, subst, append-nil, arith, length-append, take_all, w8, Fits}
use lib.ListN.{length-map}
use lib.Seq.{sets, sets-eq, length-sets, take-append_seam}
use Rattle.laws.specs.Lists.{All, all_map}
use Rattle.book.specs.Call.{batch}
use Rattle.book.specs.Rule.{Rule, old_rule, new_rule}
use Rattle.book.specs.Account.{answer}
use Rattle.journal.specs.Grammar.{Parsed, parsed}
use Rattle.journal.specs.declared.Request.{Request}
use Rattle.printing.specs.declared.Answer.{Answer}
use Rattle.printing.specs.Lines.{printed, IsByte}
use Rattle.std.specs.Borrow.{MutBor}
use Rattle.printing.specs.Written.{Sheet, written_on, room_on, lent, followed}
use Rattle.printing.specs.WrittenLaws.{written_fits}
use Rattle.printing.proofs.HexLaws.{batch-short}
use Rattle.printing.proofs.RoundTrip.{round_trip}
use Rattle.answering.specs.Asked.{call, byte_of, batch_bytes, asked, answer_to, book_after}
use Rattle.answering.specs.Kept.{takes, is_role_retired, fresh_first, kept_line, retired_line}
use Rattle.answering.specs.Lines.{line_request}
use Rattle.answering.specs.Shown.{shown}
use Rattle.dialogue.specs.declared.Way.{Way}
use Rattle.dialogue.specs.Split.{lines_in}
use Rattle.dialogue.specs.Asks.{text_of, held_back, request_of, asks, rule_at}
use Rattle.dialogue.specs.Said.{said, tabled}
use Rattle.words.specs.Comments.{reference_of, commented}
use Rattle.words.proofs.ReferenceLaws.{reference-none}
use Rattle.dialogue.proofs.References.{printed-bare}
use Rattle.dialogue.specs.Turns.{State, next, ends_at, answer_of, is_kept, after, bytes_of, numeric, kept_text, journal_of, after_all, all_bytes, all_journal}
use Rattle.dialogue.proofs.CompleteLines.{line_first}
use Rattle.dialogue.proofs.KeptForm.{printed-plain, printed-text}
use Rattle.storage.specs.declared.kept.Journal.{Journal}
use Rattle.serving.specs.Delivery.{Grown}
use Rattle.serving.specs.Parts.{Drained}
use Rattle.serving.specs.Load.{AreBytes, batch_text, batch_line, MayEnter, Loads, Entered}

-- ---- the bytes as numbers

-- A list all of whose places hold bytes is one of bytes.
all-bytes : (bytes : List ℕ) → ((i : ℕ) → Fits w8 (get_or bytes i 0)) → All (λ (b : ℕ). b < 256) bytes
all-bytes [] h = tt
all-bytes (b ∷ l) h = (omega (arith, h 0), all-bytes l (λ i. h (suc i)))

pub are-bytes : (bytes : List ℕ) → ((i : ℕ) → Fits w8 (get_or bytes i 0)) → AreBytes bytes
are-bytes bytes h = record { all = all-bytes bytes h }

-- Numbers written into a list leave its length.
pub same-room : (e f zs : List ℤ) → f ≡ sets e 0 zs → length f ≡ length e
same-room e f zs w = ap length w ∙ length-sets e 0 zs

-- ---- the line put together

-- The numbers at the front of a list into which they were written are the bytes, so that the kept line is that of the bytes.
module _ (bytes : List ℕ) (e f : List ℤ) (h : length bytes ≤ length e) (w : f ≡ sets e 0 (map pos bytes)) where
  long : length (map pos bytes) ≡ length bytes
  long = length-map bytes pos

  in-front : f ≡ map pos bytes ++ drop (0 + length (map pos bytes)) e
  in-front = w ∙ sets-eq (map pos bytes) e 0 (omega (arith, long))

  front-is : take (min (length bytes) (length f)) f ≡ map pos bytes
  front-is =
      let n : min (length bytes) (length f) ≡ length (map pos bytes) = omega (arith, long, same-room e f (map pos bytes) w) in
      ap (λ (k : ℕ). take k f) n
      ∙ ap (take (length (map pos bytes))) in-front
      ∙ take-append_seam (map pos bytes) (drop (0 + length (map pos bytes)) e)

  kept-is : kept_line (Request.Batch (length bytes)) f [] ≡ batch_line bytes
  unfolding kept_line batch_line batch_text commented
  kept-is =
      ap (λ (zs : List ℤ). printed (Request.Batch (length bytes)) zs ++ [] ++ (10 ∷ [])) front-is
      ∙ ap (λ (t : List ℕ). t ++ (10 ∷ [])) (append-nil (printed (Request.Batch (length bytes)) (map pos bytes)))

  pub line-put : (n : ℕ) (d g : Sheet) → n ≡ length bytes → g ≡ followed d (kept_line (Request.Batch n) f []) → g ≡ followed d (batch_line bytes)
  line-put n d g m x = x ∙ ap (followed d) (ap (λ (k : ℕ). kept_line (Request.Batch k) f []) m ∙ kept-is)

-- ---- its length, and that it is one line

line-length : (bytes : List ℕ) → length (batch_line bytes) ≤ 7 + 2 * length bytes
unfolding batch_line batch_text
line-length bytes =
    let text = printed (Request.Batch (length bytes)) (map pos bytes) in
    omega (arith, length-append text (10 ∷ []), batch-short (length bytes) (map pos bytes), length-map bytes pos)

no_lines : lines_in [] ≡ []
unfolding lines_in
no_lines = refl

line-one : (bytes : List ℕ) → lines_in (batch_line bytes) ≡ batch_text bytes ∷ []
unfolding batch_line batch_text
line-one bytes =
    let text = printed (Request.Batch (length bytes)) (map pos bytes) in
    line_first text [] (printed-plain (Request.Batch (length bytes)) (map pos bytes)) ∙ ap (λ (ls : List (List ℕ)). text ∷ ls) no_lines

-- ---- what it asks of the book

-- Bytes read from the numbers that they were written as.
byte-same : (bytes : List ℕ) → All (λ (b : ℕ). b < 256) bytes → map byte_of (map pos bytes) ≡ bytes
byte-same [] a = refl
byte-same (b ∷ l) a =
    let e : byte_of (pos b) ≡ b = omega (arith, a.0) in rw (e, byte-same l a.1)

file-same : (bytes : List ℕ) → AreBytes bytes → length bytes ≤ 32768 → batch_bytes (length bytes) (map pos bytes) ≡ bytes
unfolding batch_bytes
file-same bytes a h =
    ap (map byte_of) (take_all (min (length bytes) 32768) (map pos bytes) (omega (arith, length-map bytes pos))) ∙ byte-same bytes a.all

-- The mark stands before a kept line, where it wasn't there yet.
mark-first : (k u t : Bool) (mark line : List ℕ)
    → cond (k && (u && (k && t))) mark [] ++ cond (k && t) line [] ≡ cond (k && t) (cond u mark [] ++ line) []
mark-first true true true mark line = refl
mark-first true true false mark line = refl
mark-first true false true mark line = refl
mark-first true false false mark line = refl
mark-first false u t mark line = refl

-- The line is read as the batch of the bytes: by the round trip of printing and parsing, and as it begins with no byte order mark.
module _ (way : Way) (room : ℕ) (s : State) (bytes : List ℕ) (a : AreBytes bytes) (m : MayEnter way room s bytes) where
  abbrev line : List ℕ
  line = batch_text bytes

  abbrev read : Parsed
  read = record { request = Request.Batch (length bytes); numbers = map pos bytes }

  read_back : parsed room (text_of s.place.line line) ≡ read
  unfolding batch_text
  read_back =
      let r = Request.Batch (length bytes) in
      let zs = map pos bytes in
      ap (parsed room) (printed-text s.place.line r zs)
      ∙ round_trip room r zs (sym (length-map bytes pos), all_map (λ (b : ℕ). b < 256) IsByte pos bytes (λ b h. h) a.all)
      (omega (arith, length-map bytes pos, m.fits))

  request-is : request_of way room s.place line ≡ Request.Batch (length bytes)
  unfolding request_of held_back line_request fresh_first
  request-is = rw (m.whole, m.changes, m.short) (ap (λ (x : Parsed). fresh_first s.place.kept x.request) read_back)

  asks-batch : asks way room s.place line ≡ call (batch bytes)
  unfolding asks
  asks-batch =
      ap (λ (r : Request). asked r (parsed room (text_of s.place.line line)).numbers) request-is
      ∙ ap (λ (x : Parsed). asked (Request.Batch (length bytes)) x.numbers) read_back
      ∙ ap (λ (file : List ℕ). call (batch file)) (file-same bytes a m.most)

  abbrev reply : Answer
  reply = shown (answer new_rule s.book (batch bytes))

  -- it is typed, so under the new rule
  new-rule : rule_at way s.place ≡ new_rule
  new-rule = ap (λ (t : Bool). cond (t && s.place.early) old_rule new_rule) m.typed

  answer-is : answer_of way room s line ≡ reply
  unfolding answer_of
  answer-is =
      ap (λ (rule : Rule). answer_to rule s.book (next s.place.line) (asks way room s.place line)) new-rule
      ∙ ap (answer_to new_rule s.book (next s.place.line)) asks-batch

  text-is : text_of s.place.line line ≡ line
  unfolding batch_text
  text-is = printed-text s.place.line (Request.Batch (length bytes)) (map pos bytes)

  -- it has no comment
  no-reference : reference_of (text_of s.place.line line) ≡ []
  unfolding batch_text
  no-reference =
      ap reference_of text-is
      ∙ reference-none (printed (Request.Batch (length bytes)) (map pos bytes)) (printed-bare (Request.Batch (length bytes)) (map pos bytes))

  kept-text-is : kept_text room s.place.line line ≡ line
  unfolding kept_text numeric batch_text commented
  kept-text-is =
      ap (λ (x : Parsed). printed x.request x.numbers ++ commented (reference_of (text_of s.place.line line))) read_back
      ∙ ap (λ (r : List ℕ). line ++ commented r) no-reference
      ∙ append-nil line

  book-is : (after_all way room s (line ∷ [])).book ≡ book_after new_rule s.book (call (batch bytes))
  unfolding after_all after
  book-is =
      rw m.on
      (ap (λ (rule : Rule). book_after rule s.book (asks way room s.place line)) new-rule ∙ ap (book_after new_rule s.book) asks-batch)

  said-is : bytes_of way room s line ≡ said way.words reply line
  unfolding bytes_of tabled
  said-is =
      let b = book_after (rule_at way s.place) s.book (asks way room s.place line) in
      let text = text_of s.place.line line in
      ap (λ (r : Request). said way.words (answer_of way room s line) text ++ tabled way.csv r b) request-is
      ∙ append-nil (said way.words (answer_of way room s line) text)
      ∙ ap (λ (a : Answer). said way.words a text) answer-is
      ∙ ap (said way.words reply) text-is

  bytes-are : all_bytes way room s (line ∷ []) ≡ said way.words reply line
  unfolding all_bytes
  bytes-are = rw m.on (append-nil (bytes_of way room s line) ∙ said-is)

  kept-is-line : journal_of way room s line ≡ cond (way.keeps && takes reply) (cond s.place.early retired_line [] ++ (line ++ (10 ∷ []))) []
  unfolding journal_of is_kept ends_at
  kept-is-line =
      let u = s.place.early in
      let k = way.keeps in
      let taken = takes (answer_of way room s line) in
      ap (λ (l : List ℕ). cond (k && ends_at way room s line) retired_line [] ++ cond (k && taken) (l ++ (10 ∷ [])) []) kept-text-is
      ∙ ap
      (λ (t : Bool).
      cond (k && cond t (u && is_role_retired (request_of way room s.place line)) (u && (k && taken))) retired_line [] ++ cond (k && taken) (line ++ (10 ∷ [])) [])
      m.typed
      ∙ mark-first k u taken retired_line (line ++ (10 ∷ []))
      ∙ ap (λ (x : Answer). cond (k && takes x) (cond u retired_line [] ++ (line ++ (10 ∷ []))) []) answer-is

  journal-is : all_journal way room s (line ∷ [])
      ≡ cond (way.keeps && takes reply) (cond s.place.early retired_line [] ++ batch_line bytes) []
  unfolding all_journal batch_line
  journal-is = rw m.on (append-nil (journal_of way room s line) ∙ kept-is-line)

  -- so the book, the answer and the journal are those of that call
  pub loads : Loads way room s bytes
  loads = record { asked = asks-batch; book = book-is; answered = bytes-are; journal = journal-is }

-- ---- the line put together in lent bytes

pub is-line : (bytes l : List ℕ) (room : MutBor (List ℕ)) (d g : Sheet) → 7 + 2 * length bytes ≤ length room.now → d ≡ lent room
    → g ≡ followed d (batch_line bytes) → l ≡ written_on g → l ≡ batch_line bytes
unfolding lent
is-line bytes l room d g h e k x =
    let as-long : length room.now ≡ room_on d = rw e (omega arith) in
    let none : written_on d ≡ [] = rw e refl in
    let fits : length (batch_line bytes) ≤ room_on d = omega (arith, line-length bytes) in
    x ∙ ap written_on k ∙ written_fits d (batch_line bytes) fits ∙ ap (λ (t : List ℕ). t ++ batch_line bytes) none

-- ---- the line taken

module _ (way : Way) (room most : ℕ) (k : most ≡ room) (s : State) (bytes line : List ℕ) (is : line ≡ batch_line bytes) where
  taken-line : lines_in line ≡ batch_text bytes ∷ []
  taken-line = ap lines_in is ∙ line-one bytes

  pub entered : AreBytes bytes → (t : State) (used : ℕ) → Drained way most s line used t → Entered way room s bytes t
  entered a t used d =
      record {
        left = d.left ∙ ap (after_all way most s) taken-line ∙ ap (λ (n : ℕ). after_all way n s (batch_text bytes ∷ [])) k;
        loads = loads way room s bytes a;
      }

  pub entered-grown : (silent : Bool) (j l : Option Journal) → Grown silent j (length (all_journal way most s (lines_in line))) l
      → Grown silent j (length (all_journal way room s (batch_text bytes ∷ []))) l
  entered-grown silent j l g =
      subst (λ (n : ℕ). Grown silent j n l)
      (ap (λ (ls : List (List ℕ)). length (all_journal way most s ls)) taken-line
      ∙ ap (λ (n : ℕ). length (all_journal way n s (batch_text bytes ∷ []))) k)
      g
