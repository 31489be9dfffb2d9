-- A kept line taken again in its numeric form, as a journal is replayed: it asks the same, is kept again and is not refused.
-- Assumes nothing.
use Rattle.std.proofs.Common.{◌≡◌, ℕ, ◌≤◌, Bool, true, false, cond, not, ◌&&◌, List, [], ◌∷◌, ◌++◌, length, ℤ, sym, refl, ap, ◌∙◌, subst, append-nil, arith, length-append}
use mathlib.Core.Bool.{and-true, and-false}
use Rattle.laws.specs.Cases.{and_right, cond-true}
use Rattle.layout.specs.Book.{Book}
use Rattle.book.specs.Rule.{Rule}
use Rattle.words.specs.Comments.{reference_of, commented}
use Rattle.words.proofs.ReferenceLaws.{reference-again}
use Rattle.journal.specs.Grammar.{Parsed, parsed}
use Rattle.journal.specs.declared.Reason.{Reason}
use Rattle.journal.specs.declared.Request.{Request}
use Rattle.journal.proofs.Counts.{IsCall, parsed-counted}
use Rattle.printing.specs.declared.Answer.{Answer}
use Rattle.printing.specs.Lines.{printed}
use Rattle.printing.proofs.ParsedFits.{parsed-fitting, parsed-again}
use Rattle.printing.proofs.RoundTrip.{round_trip}
use Rattle.answering.specs.Asked.{Asked, call, fresh, guarantee, nothing, role_retired, file_asked, releasable_asked, today_asked, fault, asked, answer_to, book_after}
use Rattle.answering.specs.Kept.{takes, refuses, is_role_retired, fresh_first, retired_line}
use Rattle.answering.specs.Lines.{line_request}
use Rattle.answering.proofs.ParsedLines.{call-is-parsed}
use Rattle.dialogue.specs.declared.Way.{Way}
use Rattle.dialogue.specs.declared.Place.{Place}
use Rattle.dialogue.specs.Asks.{text_of, held_back, request_of, asks, rule_at}
use Rattle.dialogue.specs.Turns.{State, next, counted, ends_at, answer_of, is_kept, after, numeric, kept_text, journal_of}
use Rattle.dialogue.specs.Dialogue.{replaying}
use Rattle.dialogue.proofs.AskLaws.{held-call}
use Rattle.dialogue.proofs.KeptForm.{printed-text}
use Rattle.dialogue.proofs.References.{reference-short, printed-bare, parsed-commented, behind-text}
use Rattle.dialogue.proofs.KeptLengths.{kept-short}
use Rattle.dialogue.proofs.LineLaws.{is_call}

-- ---- answers that are taken

-- Whether a line is taken does not hang on its number.
takes-any : (rule : Rule) (b : Book) (n m : ℕ) (a : Asked) → takes (answer_to rule b n a) ≡ takes (answer_to rule b m a)
takes-any rule b n m (call c) = refl
takes-any rule b n m (fresh d) = refl
takes-any rule b n m (guarantee x) = refl
takes-any rule b n m nothing = refl
takes-any rule b n m role_retired = refl
takes-any rule b n m (file_asked p) = refl
takes-any rule b n m (releasable_asked p k) = refl
takes-any rule b n m today_asked = refl
takes-any rule b n m (fault e) = refl

-- What is taken is not the mark.
no-mark : (rule : Rule) (b : Book) (n : ℕ) (r : Request) (zs : List ℤ) → takes (answer_to rule b n (asked r zs)) ≡ true → is_role_retired r ≡ false
no-mark rule b n Request.RoleRetired zs h = sym h
no-mark rule b n r zs h = refl

-- What is taken is not refused.
unrefused : (a : Answer) → takes a ≡ true → refuses a ≡ false
unrefused Answer.Nothing h = refl
unrefused Answer.Done h = refl
unrefused (Answer.Refused n) h = sym h
unrefused (Answer.Called e a d) h = refl
unrefused (Answer.Covered e) h = refl
unrefused (Answer.Recorded e) h = refl
unrefused (Answer.Annual a m) h = refl
unrefused (Answer.Opened d) h = refl
unrefused (Answer.Statement f c s d m n) h = refl
unrefused (Answer.Calls n) h = refl
unrefused (Answer.Special c) h = refl
unrefused (Answer.Releasable c) h = refl
unrefused (Answer.Today d) h = refl
unrefused (Answer.Batch n) h = refl
unrefused (Answer.RefusedPair n i) h = sym h
unrefused (Answer.Deletion a c) h = refl
unrefused (Answer.Error l e) h = sym h

-- ---- what a kept line asks

-- A line that is a call is not too long, and is the call that was parsed, which is no later `fresh`.
record CallIs (long : Bool) (kept room : ℕ) (text : List ℕ) : Type 0 where
  same : line_request long kept room text ≡ (parsed room text).request
  first : fresh_first kept (parsed room text).request ≡ (parsed room text).request

call-is : (long : Bool) (kept room : ℕ) (text : List ℕ) → IsCall (line_request long kept room text) → CallIs long kept room text
unfolding line_request
call-is true kept room text c = absurd c
call-is false kept room text c =
    let e = call-is-parsed kept (parsed room text).request (fresh_first kept (parsed room text).request) refl c in
    record { same = e; first = e }

-- A kept line: it was not held back, and asks what was parsed.
record KeptIs (way : Way) (room : ℕ) (s : State) (l text : List ℕ) : Type 0 where
  call : IsCall (parsed room text).request
  first : fresh_first s.place.kept (parsed room text).request ≡ (parsed room text).request
  same : asks way room s.place l ≡ asked (parsed room text).request (parsed room text).numbers
  request : request_of way room s.place l ≡ (parsed room text).request
  taken : takes (answer_to (rule_at way s.place) s.book (next s.place.line) (asked (parsed room text).request (parsed room text).numbers))
      ≡ true

kept-is : (way : Way) (room : ℕ) (s : State) (l : List ℕ) → is_kept way room s l ≡ true → KeptIs way room s l (text_of s.place.line l)
unfolding is_kept answer_of asks request_of
kept-is way room s l e =
    let text = text_of s.place.line l in
    let n = next s.place.line in
    let zs = (parsed room text).numbers in
    let q = line_request s.place.long s.place.kept room text in
    let rule = rule_at way s.place in
    let t : takes (answer_to rule s.book n (asked (held_back way q) zs)) ≡ true =
    and_right way.keeps (takes (answer_to rule s.book n (asked (held_back way q) zs))) e in
    let c = is_call rule s.book n (held_back way q) zs t in
    let h = held-call way q c in
    let d : IsCall q = subst IsCall h c in
    let f = call-is s.place.long s.place.kept room text d in
    let same : asked (held_back way q) zs ≡ asked (parsed room text).request zs = ap (λ (z : Request). asked z zs) (h ∙ f.same) in
    record {
      call = subst IsCall f.same d;
      first = f.first;
      same = same;
      request = h ∙ f.same;
      taken = ap (λ (a : Asked). takes (answer_to rule s.book n a)) (sym same) ∙ t;
    }

-- ---- the numeric form of a call

module _ (room : ℕ) (text : List ℕ) (h : room ≤ 18446744073709551615) (c : IsCall (parsed room text).request) where
  abbrev form : List ℕ
  form = printed (parsed room text).request (parsed room text).numbers ++ commented (reference_of text)

  read_again : (before : ℕ) → parsed room (text_of before form) ≡ parsed room text
  read_again before =
      ap (parsed room) (behind-text before (parsed room text).request (parsed room text).numbers (reference_of text))
      ∙ parsed-commented room (printed (parsed room text).request (parsed room text).numbers) (reference_of text)
      (printed-bare (parsed room text).request (parsed room text).numbers)
      ∙ parsed-again room text h c

  asks-again : (p : Place) → p.long ≡ false → fresh_first p.kept (parsed room text).request ≡ (parsed room text).request
      → asks replaying room p form ≡ asked (parsed room text).request (parsed room text).numbers
  unfolding asks request_of held_back line_request
  asks-again p short first =
      ap
      (λ (t : Bool).
      asked (cond t (Request.Error Reason.TooLong) (fresh_first p.kept (parsed room (text_of p.line form)).request))
      (parsed room (text_of p.line form)).numbers) short
      ∙ ap (λ (x : Parsed). asked (fresh_first p.kept x.request) x.numbers) (read_again p.line)
      ∙ ap (λ (z : Request). asked z (parsed room text).numbers) first

  request-again : (p : Place) → p.long ≡ false → fresh_first p.kept (parsed room text).request ≡ (parsed room text).request
      → request_of replaying room p form ≡ (parsed room text).request
  unfolding request_of held_back line_request
  request-again p short first =
      ap
      (λ (t : Bool). cond t (Request.Error Reason.TooLong) (fresh_first p.kept (parsed room (text_of p.line form)).request))
      short
      ∙ ap (λ (x : Parsed). fresh_first p.kept x.request) (read_again p.line)
      ∙ first

  reference-kept : (before : ℕ) → reference_of (text_of before form) ≡ reference_of text
  reference-kept before =
      ap reference_of (behind-text before (parsed room text).request (parsed room text).numbers (reference_of text))
      ∙ reference-again (printed (parsed room text).request (parsed room text).numbers) text
      (printed-bare (parsed room text).request (parsed room text).numbers)

  form-again : (before : ℕ) → kept_text room before form ≡ form
  unfolding kept_text numeric
  form-again before =
      ap (λ (x : Parsed). printed x.request x.numbers ++ commented (reference_of (text_of before form))) (read_again before)
      ∙ ap (λ (r : List ℕ). printed (parsed room text).request (parsed room text).numbers ++ commented r) (reference-kept before)

  form-short : (rule : Rule) (b : Book) (n : ℕ) → takes (answer_to rule b n (asked (parsed room text).request (parsed room text).numbers)) ≡ true
      → length form ≤ 20003
  form-short rule b n t =
      let r = (parsed room text).request in
      let zs = (parsed room text).numbers in
      omega (
        arith,
        length-append (printed r zs) (commented (reference_of text)),
        reference-short text,
        kept-short rule b n r zs (parsed-fitting room text h c) (parsed-counted room text c) t,
      )

-- ---- taken again

pub kept-text-short : (way : Way) (room : ℕ) (s : State) (l : List ℕ) → room ≤ 18446744073709551615 → is_kept way room s l ≡ true
    → length (kept_text room s.place.line l) ≤ 20003
unfolding kept_text numeric
kept-text-short way room s l h e =
    let k = kept-is way room s l e in
    form-short room (text_of s.place.line l) h k.call (rule_at way s.place) s.book (next s.place.line) k.taken

-- A kept line is not the mark.
pub kept-no-mark : (way : Way) (room : ℕ) (s : State) (l : List ℕ) → is_kept way room s l ≡ true → is_role_retired (request_of way room s.place l) ≡ false
kept-no-mark way room s l e =
    let k = kept-is way room s l e in
    let text = text_of s.place.line l in
    ap is_role_retired k.request
    ∙ no-mark (rule_at way s.place) s.book (next s.place.line) (parsed room text).request (parsed room text).numbers k.taken

module _ (way : Way) (room : ℕ) (s t : State) (l : List ℕ) (h : room ≤ 18446744073709551615) (kept : is_kept way room s l ≡ true)
    (same-book : t.book ≡ s.book) (same_kept : t.place.kept ≡ s.place.kept) (short : t.place.long ≡ false)
    (same-rule : rule_at replaying t.place ≡ rule_at way s.place) where
  abbrev line : List ℕ
  line = kept_text room s.place.line l

  same-asks : asks replaying room t.place line ≡ asks way room s.place l
  unfolding kept_text numeric
  same-asks =
      let text = text_of s.place.line l in
      let k = kept-is way room s l kept in
      asks-again room text h k.call t.place short
      (ap (λ (n : ℕ). fresh_first n (parsed room text).request) same_kept ∙ k.first)
      ∙ sym k.same

  taken-again : takes (answer_of replaying room t line) ≡ true
  unfolding answer_of is_kept
  taken-again =
      let n = next t.place.line in
      let m = next s.place.line in
      let a = asks way room s.place l in
      let rule = rule_at way s.place in
      ap (λ (z : Rule). takes (answer_to z t.book n (asks replaying room t.place line))) same-rule
      ∙ ap (λ (z : Asked). takes (answer_to rule t.book n z)) same-asks
      ∙ ap (λ (b : Book). takes (answer_to rule b n a)) same-book
      ∙ takes-any rule s.book n m a
      ∙ and_right way.keeps (takes (answer_to rule s.book m a)) kept

  kept_again : is_kept replaying room t line ≡ true
  unfolding is_kept
  kept_again = taken-again

  -- It is not the mark there either.
  unmarked-line : ends_at replaying room t line ≡ false
  unfolding ends_at kept_text numeric
  unmarked-line =
      let text = text_of s.place.line l in
      let k = kept-is way room s l kept in
      ap (λ (r : Request). t.place.early && is_role_retired r)
      (request-again room text h k.call t.place short
      (ap (λ (n : ℕ). fresh_first n (parsed room text).request) same_kept ∙ k.first))
      ∙ ap (λ (z : Bool). t.place.early && z) (ap is_role_retired (sym k.request) ∙ kept-no-mark way room s l kept)
      ∙ and-false t.place.early

  pub book-again : (after replaying room t line).book ≡ (after way room s l).book
  unfolding after
  book-again =
      let a = asks way room s.place l in
      ap (λ (z : Rule). book_after z t.book (asks replaying room t.place line)) same-rule
      ∙ ap (λ (z : Asked). book_after (rule_at way s.place) t.book z) same-asks
      ∙ ap (λ (b : Book). book_after (rule_at way s.place) b a) same-book

  pub count-again : (after replaying room t line).place.kept ≡ (after way room s l).place.kept
  unfolding after
  count-again =
      ap (λ (z : Bool). counted z t.place.kept) kept_again ∙ ap next same_kept ∙ sym (ap (λ (z : Bool). counted z s.place.kept) kept)

  pub none-refused : (after replaying room t line).place.refused ≡ t.place.refused
  unfolding after
  none-refused = ap (λ (z : Bool). counted z t.place.refused) (unrefused (answer_of replaying room t line) taken-again)

  pub mark-stays : (after replaying room t line).place.early ≡ t.place.early
  unfolding after
  mark-stays = ap (λ (z : Bool). t.place.early && not z) unmarked-line ∙ and-true t.place.early

  pub line-again : journal_of replaying room t line ≡ line ++ (10 ∷ [])
  unfolding journal_of kept_text numeric
  line-again =
      let k = cond (is_kept replaying room t line) (kept_text room t.place.line line ++ (10 ∷ [])) [] in
      ap (λ (z : Bool). cond z retired_line [] ++ k) unmarked-line
      ∙ cond-true (is_kept replaying room t line) (kept_text room t.place.line line ++ (10 ∷ [])) [] kept_again
      ∙ ap (λ (z : List ℕ). z ++ (10 ∷ [])) (form-again room (text_of s.place.line l) h (kept-is way room s l kept).call t.place.line)

-- ---- the mark taken again

-- The mark without its newline.
abbrev pub retired_text : List ℕ
retired_text = printed Request.RoleRetired []

module _ (room : ℕ) (t : State) (short : t.place.long ≡ false) where
  mark-parsed : parsed room (text_of t.place.line retired_text) ≡ record { request = Request.RoleRetired; numbers = [] }
  mark-parsed = ap (parsed room) (printed-text t.place.line Request.RoleRetired []) ∙ round_trip room Request.RoleRetired [] refl (omega arith)

  mark-request : request_of replaying room t.place retired_text ≡ Request.RoleRetired
  unfolding request_of held_back line_request fresh_first
  mark-request =
      ap
      (λ (z : Bool).
      cond z (Request.Error Reason.TooLong) (fresh_first t.place.kept (parsed room (text_of t.place.line retired_text)).request))
      short
      ∙ ap (λ (x : Parsed). fresh_first t.place.kept x.request) mark-parsed

  mark-asks : asks replaying room t.place retired_text ≡ role_retired
  unfolding asks
  mark-asks = ap (λ (r : Request). asked r (parsed room (text_of t.place.line retired_text)).numbers) mark-request

  mark-answer : answer_of replaying room t retired_text ≡ Answer.Nothing
  unfolding answer_of
  mark-answer = ap (answer_to (rule_at replaying t.place) t.book (next t.place.line)) mark-asks

  mark-unkept : is_kept replaying room t retired_text ≡ false
  unfolding is_kept
  mark-unkept = ap takes mark-answer

  mark-marks : ends_at replaying room t retired_text ≡ t.place.early
  unfolding ends_at
  mark-marks = ap (λ (r : Request). t.place.early && is_role_retired r) mark-request ∙ and-true t.place.early

  pub mark-book : (after replaying room t retired_text).book ≡ t.book
  unfolding after
  mark-book = ap (book_after (rule_at replaying t.place) t.book) mark-asks

  pub mark-kept : (after replaying room t retired_text).place.kept ≡ t.place.kept
  unfolding after
  mark-kept = ap (λ (z : Bool). counted z t.place.kept) mark-unkept

  pub mark-refused : (after replaying room t retired_text).place.refused ≡ t.place.refused
  unfolding after
  mark-refused = ap (λ (z : Answer). counted (refuses z) t.place.refused) mark-answer

  pub mark-ends : (after replaying room t retired_text).place.early ≡ false
  unfolding after
  mark-ends = ap (λ (z : Bool). t.place.early && not z) mark-marks ∙ never t.place.early
    where
      never : (u : Bool) → (u && not u) ≡ false
      never true = refl
      never false = refl

  pub mark-journal : t.place.early ≡ true → journal_of replaying room t retired_text ≡ retired_line
  unfolding journal_of
  mark-journal e =
      ap (λ (z : Bool). cond z retired_line [] ++ cond (is_kept replaying room t retired_text) (kept_text room t.place.line retired_text ++ (10 ∷ [])) [])
      (mark-marks ∙ e)
      ∙ ap (λ (z : Bool). retired_line ++ cond z (kept_text room t.place.line retired_text ++ (10 ∷ [])) []) mark-unkept
      ∙ append-nil retired_line
