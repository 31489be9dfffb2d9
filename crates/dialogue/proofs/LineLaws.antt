-- One line taken.
-- Assumes nothing.
use Rattle.std.proofs.Common.{◌≡◌, ℕ, ◌≤◌, Bool, true, false, cond, ◌&&◌, List, [], ◌∷◌, ◌++◌, length, ℤ, sym, refl, ap, ◌∙◌, subst, arith, length-append}
use Rattle.laws.specs.Cases.{split, clash, by-test, and_right}
use Rattle.layout.specs.Book.{Book}
use Rattle.layout.specs.Words.{book_of_words}
use Rattle.layout.specs.WellFormed.{WellFormed}
use Rattle.book.specs.Rule.{Rule}
use Rattle.journal.specs.Grammar.{parsed}
use Rattle.journal.specs.Steps.{ParsedIs}
use Rattle.journal.specs.declared.Request.{Request}
use Rattle.journal.proofs.Counts.{IsCall, parsed-counted}
use Rattle.printing.specs.declared.Answer.{Answer}
use Rattle.printing.specs.Decimals.{spaced, joined}
use Rattle.printing.specs.Lines.{call_words, printed}
use Rattle.printing.specs.Written.{Sheet, followed}
use Rattle.printing.specs.WrittenLaws.{followed_twice}
use Rattle.printing.proofs.ParsedFits.{parsed-fitting}
use Rattle.std.specs.Prelude.{Option, Some, None}
use Rattle.report.proofs.FileTextLength.{file-text-short}
use Rattle.answering.specs.Asked.{Asked, asked, answer_to, book_after}
use Rattle.answering.specs.InWords.{AnsweredWords}
use Rattle.answering.specs.Kept.{takes, refuses, kept_line, retired_line}
use Rattle.answering.specs.Lines.{line_request, LineIs}
use Rattle.answering.proofs.OwnNumbers.{own, asked-cut}
use Rattle.answering.proofs.ParsedLines.{parsed-own, call-is-parsed}
use Rattle.dialogue.specs.declared.Way.{Way}
use Rattle.dialogue.specs.declared.Place.{Place}
use Rattle.dialogue.specs.Asks.{text_of, held_back, request_of, asks, rule_at, LineAsked}
use Rattle.dialogue.specs.Said.{said, Said, wants_table, table_of, whose_file, file_for, tabled, Tabled, Added}
use Rattle.dialogue.specs.Turns.{next, ends_stretch, ends_at, further, answer_of, is_kept, after, bytes_of, numeric, kept_text, journal_of}
use Rattle.dialogue.specs.Answers.{state_of, Turned, LineTaken}
use Rattle.dialogue.proofs.AskLaws.{held-call}
use Rattle.dialogue.proofs.KeptLengths.{kept-short}
use Rattle.dialogue.proofs.ReportLength.{report-short}
use Rattle.dialogue.proofs.References.{reference-short}
use Rattle.report.proofs.CsvLength.{report-csv-short}
use Rattle.words.specs.Comments.{reference_of, commented}

-- The table is short.
table-short : (csv : Bool) (l : List ℕ) → WellFormed l → length (table_of csv (book_of_words l)) ≤ 15000
table-short true l w = report-csv-short l w
table-short false l w = report-short l w

-- A file is short.
file-short : (whose : Option ℕ) (l : List ℕ) → WellFormed l → length (file_for whose (book_of_words l)) ≤ 15000
file-short (Some p) l w = omega (arith, file-text-short l p w)
file-short None l w = omega arith

-- The table, a file, and nothing in their place, are short.
pub tabled_short : (csv : Bool) (request : Request) (l : List ℕ) → WellFormed l → length (tabled csv request (book_of_words l)) ≤ 15000
unfolding tabled
tabled_short csv request l w =
    by-test (wants_table request) (table_of csv (book_of_words l)) (file_for (whose_file request) (book_of_words l)) (λ (t : List ℕ). length t ≤ 15000)
    (λ e. table-short csv l w) (λ e. file-short (whose_file request) l w)

-- ---- the call that is kept

-- What is taken is a call.
pub is_call : (rule : Rule) (b : Book) (n : ℕ) (q : Request) (ys : List ℤ) → takes (answer_to rule b n (asked q ys)) ≡ true → IsCall q
is_call rule b n (Request.Error e) ys h = clash {t = false} h refl
is_call rule b n q ys h = tt

-- The request of a kept line is the one that was parsed, and its numbers are its own in the lent slice.
record KeptCall (l : List ℕ) (room : ℕ) (q : Request) (ys : List ℤ) : Type 0 where
  same : q ≡ (parsed room l).request
  call : IsCall (parsed room l).request
  mine : own (parsed room l).request ys ≡ (parsed room l).numbers

short-call : (kept : ℕ) (l : List ℕ) (zs ys : List ℤ) (q : Request) → IsCall q → LineIs false kept l zs q ys → KeptCall l (length zs) q ys
unfolding line_request
short-call kept l zs ys q c x =
    let r = (parsed (length zs) l).request in
    let g : q ≡ r = call-is-parsed kept r q x.request c in
    let p : ParsedIs (parsed (length zs) l) zs r ys = record { request = refl; numbers = x.numbers } in
    let d : IsCall r = subst IsCall g c in
    record { same = g; call = d; mine = parsed-own l zs ys r p d }

long-call : (kept : ℕ) (l : List ℕ) (zs ys : List ℤ) (q : Request) → IsCall q → LineIs true kept l zs q ys → KeptCall l (length zs) q ys
unfolding line_request
long-call kept l zs ys q c x = absurd (subst IsCall x.request c)

line-call : (long : Bool) (kept : ℕ) (l : List ℕ) (zs ys : List ℤ) (q : Request) → IsCall q → LineIs long kept l zs q ys → KeptCall l (length zs) q ys
line-call true kept l zs ys q c x = long-call kept l zs ys q c x
line-call false kept l zs ys q c x = short-call kept l zs ys q c x

-- What is printed of it is the line's numeric form, and a reference stands behind that.
kept-printed : (l : List ℕ) (room : ℕ) (q : Request) (ys : List ℤ) (r : List ℕ) → KeptCall l room q ys
    → kept_line q ys r ≡ printed (parsed room l).request (parsed room l).numbers ++ commented r ++ (10 ∷ [])
unfolding kept_line
kept-printed l room q ys r k =
    ap (λ (z : Request). printed z (own z ys) ++ commented r ++ (10 ∷ [])) k.same
    ∙ ap (λ (zs : List ℤ). printed (parsed room l).request zs ++ commented r ++ (10 ∷ [])) k.mine

-- It has room.
room-kept : (rule : Rule) (b : Book) (n : ℕ) (l : List ℕ) (room : ℕ) (q : Request) (ys : List ℤ) → room ≤ 18446744073709551615 → KeptCall l room q ys
    → takes (answer_to rule b n (asked q ys)) ≡ true → length (printed (parsed room l).request (parsed room l).numbers) ≤ 19000
room-kept rule b n l room q ys h k t =
    let r = (parsed room l).request in
    let zs = (parsed room l).numbers in
    let e : asked q ys ≡ asked r zs =
    ap (λ (z : Request). asked z ys) k.same ∙ sym (asked-cut r ys) ∙ ap (asked r) k.mine in
    let t2 : takes (answer_to rule b n (asked r zs)) ≡ true = subst (λ (a : Asked). takes (answer_to rule b n a) ≡ true) e t in
    kept-short rule b n r zs (parsed-fitting room l h k.call) (parsed-counted room l k.call) t2

-- A kept line's request was not held back.
held_kept : (way : Way) (p : Place) (l : List ℕ) (zs ys : List ℤ) (request : Request) → LineAsked way p l zs request ys → IsCall request
    → KeptCall (text_of p.line l) (length zs) request ys
unfolding request_of
held_kept way p l zs ys request x c =
    let text = text_of p.line l in
    let q = line_request p.long p.kept (length zs) text in
    let c2 : IsCall (held_back way q) = subst IsCall x.request c in
    let e : request ≡ q = x.request ∙ held-call way q c2 in
    subst (λ (z : Request). KeptCall text (length zs) z ys) (sym e)
    (line-call p.long p.kept text zs ys q (subst IsCall e c) x.line)

-- The mark has 13 bytes.
mark-few : (t : Bool) → length (cond t retired_line []) ≤ 13
unfolding printed call_words joined spaced
mark-few true = omega arith
mark-few false = omega arith

-- ---- the line

module _ (way : Way) (p : Place) (l : List ℕ) (zs ys : List ℤ) (request : Request) (answer : Answer) (words m : List ℕ) (number : ℕ)
    (is : LineAsked way p l zs request ys) (n : number ≡ next p.line) (given : AnsweredWords (rule_at way p) words number (asked request ys) answer m) where
  abbrev rule : Rule
  rule = rule_at way p

  room : ℕ
  room = length zs

  answered-line : answer ≡ answer_of way (length zs) (state_of words p) l
  unfolding answer_of
  answered-line =
      given.given.answered ∙ ap (λ (k : ℕ). answer_to rule (book_of_words words) k (asked request ys)) n
      ∙ ap (answer_to rule (book_of_words words) (next p.line)) is.same

  left-book : book_of_words m ≡ book_after (rule_at way p) (book_of_words words) (asks way (length zs) p l)
  left-book = given.given.left ∙ ap (book_after rule (book_of_words words)) is.same

  module _ (t : Bool) (kept : t ≡ (way.keeps && takes answer)) where
    kept_line_lem : is_kept way (length zs) (state_of words p) l ≡ t
    unfolding is_kept
    kept_line_lem = ap (λ (a : Answer). way.keeps && takes a) (sym answered-line) ∙ sym kept

    taken-call : t ≡ true → KeptCall (text_of p.line l) (length zs) request ys
    taken-call h =
        held_kept way p l zs ys request is
        (is_call rule (book_of_words words) number request ys
        (ap takes (sym given.given.answered) ∙ and_right way.keeps (takes answer) (sym kept ∙ h)))

    -- its own line
    own_line : cond t (kept_line request ys (reference_of (text_of p.line l))) []
        ≡ cond (is_kept way (length zs) (state_of words p) l) (kept_text (length zs) p.line l ++ (10 ∷ [])) []
    unfolding kept_text numeric
    own_line =
        split t
        (λ h. rw (kept_line_lem, h) (kept-printed (text_of p.line l) (length zs) request ys (reference_of (text_of p.line l)) (taken-call h)))
        (λ h. rw (kept_line_lem, h) refl)

    own-few : length zs ≤ 18446744073709551615 → length (cond t (kept_line request ys (reference_of (text_of p.line l))) []) ≤ 20004
    own-few long =
        split t
        (λ h.
        rw (h, kept-printed (text_of p.line l) (length zs) request ys (reference_of (text_of p.line l)) (taken-call h))
        (omega (
          arith,
          length-append
              (printed (parsed (length zs) (text_of p.line l)).request (parsed (length zs) (text_of p.line l)).numbers
              ++ commented (reference_of (text_of p.line l)))
              (10 ∷ []),
          length-append (printed (parsed (length zs) (text_of p.line l)).request (parsed (length zs) (text_of p.line l)).numbers)
              (commented (reference_of (text_of p.line l))),
          reference-short (text_of p.line l),
          room-kept rule (book_of_words words) number (text_of p.line l) (length zs) request ys long (taken-call h)
              (ap takes (sym given.given.answered) ∙ and_right way.keeps (takes answer) (sym kept ∙ h)),
        )))
        (λ h. rw h (omega arith))

    module _ (v : Bool) (ends : v ≡ ends_stretch way p request t) where
      marked-line : ends_at way (length zs) (state_of words p) l ≡ v
      unfolding ends_at
      marked-line =
          ap (λ (z : Bool). ends_stretch way p (request_of way (length zs) p l) z) kept_line_lem
          ∙ ap (λ (r : Request). ends_stretch way p r t) (sym is.request)
          ∙ sym ends

      left-state : (q : Place) (u : Bool) → u ≡ refuses answer → q ≡ further p t u v → state_of m q ≡ after way (length zs) (state_of words p) l
      unfolding after
      left-state q u r e =
          let f : q
          ≡ further p (is_kept way (length zs) (state_of words p) l) (refuses (answer_of way (length zs) (state_of words p) l))
          (ends_at way (length zs) (state_of words p) l) =
          e ∙ ap (λ (z : Bool). further p z u v) (sym kept_line_lem)
          ∙ ap (λ (z : Bool). further p (is_kept way (length zs) (state_of words p) l) z v) (r ∙ ap refuses answered-line)
          ∙ ap (further p (is_kept way (length zs) (state_of words p) l) (refuses (answer_of way (length zs) (state_of words p) l))) (sym marked-line) in
          λ i. record { book = left-book i; place = f i }

      journal-line : cond (way.keeps && v) retired_line [] ++ cond t (kept_line request ys (reference_of (text_of p.line l))) [] ≡ journal_of way (length zs) (state_of words p) l
      unfolding journal_of
      journal-line =
          ap (λ (z : Bool). cond (way.keeps && z) retired_line [] ++ cond t (kept_line request ys (reference_of (text_of p.line l))) []) (sym marked-line)
          ∙ ap (λ (z : List ℕ). cond (way.keeps && ends_at way (length zs) (state_of words p) l) retired_line [] ++ z) own_line

      journal-few : length zs ≤ 18446744073709551615 → length (journal_of way (length zs) (state_of words p) l) ≤ 20480
      journal-few long =
          rw (← journal-line)
          (omega (
            arith,
            length-append (cond (way.keeps && v) retired_line []) (cond t (kept_line request ys (reference_of (text_of p.line l))) []),
            own-few long,
            mark-few (way.keeps && v),
          ))

pub added : (way : Way) (line : List ℕ) (request : Request) (answer : Answer) (kept marked : Bool) (ys : List ℤ) (words : List ℕ) (j i k e f g : Sheet)
    → i ≡ followed j (cond marked retired_line []) → k ≡ followed i (cond kept (kept_line request ys (reference_of line)) []) → Said way.words answer line e f
    → Tabled way.csv request (book_of_words words) f g → Added way line request answer kept marked ys words j e k g
added way line request answer kept marked ys words j i k e f g v w c d =
    record {
      journal = w ∙ ap (λ (z : Sheet). followed z (cond kept (kept_line request ys (reference_of line)) [])) v
          ∙ followed_twice j (cond marked retired_line []) (cond kept (kept_line request ys (reference_of line)) []);
      bytes = d.put ∙ ap (λ (z : Sheet). followed z (tabled way.csv request (book_of_words words))) c.put
          ∙ followed_twice e (said way.words answer line) (tabled way.csv request (book_of_words words));
      most = omega (arith, length-append (said way.words answer line) (tabled way.csv request (book_of_words words)), c.most, d.most);
    }

-- What a line leaves, by the tests of the code.
pub turned : (way : Way) (p q : Place) (line : List ℕ) (request : Request) (answer : Answer) (ys : List ℤ) (words : List ℕ) (t t₁ u v : Bool) (j e k f : Sheet)
    → t₁ ≡ takes answer → t ≡ (way.keeps && t₁) → v ≡ ends_stretch way p request t
    → Added way line request answer t (way.keeps && v) ys words j e k f → u ≡ refuses answer → q ≡ further p t u v
    → Turned way p line request answer ys words j e q k f
turned way p q line request answer ys words t t₁ u v j e k f h₁ h ends c w d =
    record {
      kept = t;
      whether = h ∙ ap (λ (z : Bool). way.keeps && z) h₁;
      added = rw (← ends) c;
      place = d ∙ ap (λ (z : Bool). further p t z v) w ∙ ap (further p t (refuses answer)) ends;
    }

pub line_taken : (way : Way) (p q : Place) (l text : List ℕ) (zs ys : List ℤ) (request : Request) (answer : Answer) (words m : List ℕ)
    (number : ℕ) (j e k f : Sheet) → LineAsked way p l zs request ys → number ≡ next p.line
    → AnsweredWords (rule_at way p) words number (asked request ys) answer m → text ≡ text_of p.line l → Turned way p text request answer ys m j e q k f
    → length zs ≤ 18446744073709551615 → LineTaken way (length zs) words p l j e m q k f
unfolding bytes_of
line_taken way p q l text zs ys request answer words m number j e k f is n given same taken long =
    let turn : Turned way p (text_of p.line l) request answer ys m j e q k f =
    subst (λ (z : List ℕ). Turned way p z request answer ys m j e q k f) same taken in
    let t = turn.kept in
    let kept = turn.whether in
    let v = ends_stretch way p request t in
    let c = turn.added in
    let i = answered-line way p l zs ys request answer words m number is n given in
    let o = left-book way p l zs ys request answer words m number is n given in
    record {
      left = left-state way p l zs ys request answer words m number is n given t kept v refl q (refuses answer) refl turn.place;
      journal = c.journal ∙ ap (followed j) (journal-line way p l zs ys request answer words m number is n given t kept v refl);
      bytes = rw (← i, ← o, ← is.request) c.bytes;
      few_kept = journal-few way p l zs ys request answer words m number is n given t kept v refl long;
      few_said = rw (← i, ← o, ← is.request) c.most;
      formed = given.formed;
    }
