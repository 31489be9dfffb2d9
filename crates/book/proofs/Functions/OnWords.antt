-- What each public call gives on words, from what it did: the participant's file taken out, its method's answer, and the file put back.
-- Assumes nothing.
use Prim.Native.Nat.{ℕ, suc, ◌+◌, ◌-◌, ◌≤◌, ◌<◌}
use native.Mathlib.Omega.{arith}
use mathlib.Core.Path.{◌≡◌, refl, sym, ap, subst, ◌∙◌}
use mathlib.Core.Bool.{Bool, true, false, cond}
use mathlib.Core.List.{List, [], ◌∷◌}
use borrow.Author.Tests.{lt-ltb, le-ltb, eq-eqb, ne_eqb}
use lib.ListN.{length, get_or, set, replicate, length-replicate, get_or-eq_default}
use Rattle.std.specs.List.{sum_by, range_with_len}
use Rattle.laws.specs.Cases.{cond-true, cond-false}
use Rattle.laws.specs.Sums.{sum-places, sum-table-bound}
use Rattle.file.specs.declared.File.{File}
use Rattle.refusal.specs.declared.Refusal.{Refusal}
use Rattle.refusal.specs.declared.Refusal.TheVariants.{NoSuchParticipant}
use Rattle.refusal.specs.Numbers.{number_of}
use Rattle.file.specs.declared.Statement.{Statement}
use Rattle.file.specs.Answer.{Answer, refused, done, called, covered, recorded, annual, days_opened, stated, counted, batched, refused_pair, deletion}
use Rattle.file.specs.Answer.{accepted}
use Rattle.file.specs.Admit.{no_file, admitted_file}
use Rattle.file.specs.Annual.{annual_amount_of, annual_answer, annual_file}
use Rattle.file.specs.declared.AnnualRun.{AnnualRun}
use Rattle.file.specs.Deletion.{deletion_answer}
use Rattle.file.specs.Lodge.{lodge_answer}
use Rattle.file.specs.Release.{release_answer}
use Rattle.file.specs.Settle.{settle_answer}
use Rattle.file.specs.Fields.{cover_of, shortfall_of, with_next, set_to}
use Rattle.file.specs.Position.{cover_through, cover_on}
use Rattle.file.specs.Sound.{Sound}
use Rattle.file.specs.Statement.{file_statement}
use Rattle.layout.specs.Parts.{written}
use Rattle.layout.specs.Files.{file_of_words, Put}
use Rattle.layout.specs.Words.{book_length, place, file_in_words, today_in, book_of_words, book_words}
use Rattle.layout.specs.WellFormed.{SoundBook, WellFormed}
use Rattle.layout.proofs.BookLaws.{book-long, book-file, put-book, put-length, canonical-put, fresh_words, fresh-words}
use Rattle.layout.proofs.BookLaws.{canonical-fresh}
use Rattle.layout.proofs.PartLaws.{next-put}
use Rattle.book.specs.Call.{Act, admit, lodge, release, settle, annual_run, delete, Call, on, statement, calls_made}
use Rattle.book.specs.Rule.{Rule, old_rule, new_rule}
use Rattle.book.specs.Account.{file_at, fresh_book, with_file, sum_of_counts, if_numbered, if_admitted, admits_retired, file_answer, file_after, answer, step, applied}
use Rattle.book.specs.Left.{file_left}
use Rattle.book.specs.Reached.{Given, GivenFirst, Begun}
use Rattle.book.specs.InWords.{GivenWords, GivenFirstWords, BegunWords}
use Rattle.book.specs.Admissions.{PutsAdmission}
use Rattle.book.specs.View.{RefusesAll}
use Rattle.book.proofs.Functions.Answers.{left-given, left-admit}
use Rattle.book.proofs.Functions.Answers.{first-already, first-no-role, first_done, accepted-done}
use Rattle.book.proofs.Functions.Answers.{refused-statement, gave-statement, gave_count}
use Rattle.book.proofs.Functions.Begins.{begun-refused, begun-done}
use Rattle.book.proofs.Functions.OnFile.{above-answer, known-answer, unretired, is-admitted, refused-first, accepted-first, retired-first}
use Rattle.book.proofs.Functions.SoundBook.{sound-file, made-bound, step-sound, fresh-sound, numbered}
use Rattle.book.proofs.Participant.Decide.{decide-accepted}
use Rattle.book.proofs.History.Life.{given, given-first}

-- ---- from the book to its words

-- Words that are those of their book, after a call on well-formed words under either rule, are well formed; after a refused one they are as they
-- were.
module _ (rule : Rule) (l m : List ℕ) (c : Call) (w : WellFormed l) (left : book_of_words m ≡ step rule (book_of_words l) c)
    (same : m ≡ book_words (book_of_words m)) where
  formed-after : length m ≡ length l → WellFormed m
  formed-after long =
      record { long = long ∙ w.long; canonical = same; sound = subst SoundBook (sym left) (step-sound rule (book_of_words l) c w.sound) }

  unchanged-after : (x : Answer) → x ≡ answer rule (book_of_words l) c → accepted x ≡ false → m ≡ l
  unfolding step
  unchanged-after x e bad =
      same
      ∙ ap book_words (left ∙ ap (λ (t : Bool). cond t (applied (book_of_words l) c) (book_of_words l)) (ap accepted (sym e) ∙ bad))
      ∙ sym w.canonical

pub in_words : (l m : List ℕ) (c : Call) (x : Answer) → WellFormed l → Given (book_of_words l) c x (book_of_words m) → length m ≡ length l
    → m ≡ book_words (book_of_words m) → GivenWords l c x m
in_words l m c x w g long same =
    record {
      given = g;
      formed = formed-after new_rule l m c w g.left same long;
      unchanged = unchanged-after new_rule l m c w g.left same x g.answered;
    }

first-in-words : (l m : List ℕ) (c : Call) (x : Answer) → WellFormed l → GivenFirst (book_of_words l) c x (book_of_words m) → length m ≡ length l
    → m ≡ book_words (book_of_words m) → GivenFirstWords l c x m
first-in-words l m c x w g long same =
    record {
      given = g;
      formed = formed-after old_rule l m c w g.left same long;
      unchanged = unchanged-after old_rule l m c w g.left same x g.answered;
    }

-- A call that wrote nothing.
pub nothing_written : (l : List ℕ) (c : Call) (x : Answer) → WellFormed l → Given (book_of_words l) c x (book_of_words l) → GivenWords l c x l
nothing_written l c x w g = in_words l l c x w g refl w.canonical

-- ---- what the words of a book hold

pub day-within : (l : List ℕ) (t : ℕ) → WellFormed l → t ≡ today_in l → t ≤ 29219
unfolding book_of_words
day-within l t w e = rw e w.sound.day

-- A participant above 63 has none.
pub none-there : (l : List ℕ) (p : ℕ) → 63 < p → file_at (book_of_words l) p ≡ no_file
unfolding file_at
none-there l p h = get_or-eq_default (book_of_words l).files no_file (omega (arith, book-long l))

pub file-there : (l : List ℕ) (p : ℕ) → p ≤ 63 → file_at (book_of_words l) p ≡ file_in_words l p
unfolding file_at
file-there l p h = book-file l p h

-- What is read of the view of a participant's file.
module _ (l l' : List ℕ) (p p' : ℕ) (words : l' ≡ l) (same : p' ≡ p) where
  pub seen : {X : Type 0} (F : File → ℕ → X) (x : X) → x ≡ F (file_in_words l' p') (today_in l') → x ≡ F (file_in_words l p) (today_in l)
  seen F x e = e ∙ (λ i. F (file_in_words (words i) (same i)) (today_in (words i)))

-- Whether it is admitted, and its role.
pub none-admitted : (l : List ℕ) (p : ℕ) → 63 < p → false ≡ (file_at (book_of_words l) p).admitted
none-admitted l p h = sym (ap (λ (z : File). z.admitted) (none-there l p h))

pub there-admitted : (l : List ℕ) (p : ℕ) (r : Bool) → p ≤ 63 → r ≡ (file_in_words l p).admitted → r ≡ (file_at (book_of_words l) p).admitted
there-admitted l p r h e = e ∙ sym (ap (λ (z : File). z.admitted) (file-there l p h))

pub none-role : (l : List ℕ) (p : ℕ) → 63 < p → 0 ≡ (file_at (book_of_words l) p).role
none-role l p h = sym (ap (λ (z : File). z.role) (none-there l p h))

pub there-role : (l l' : List ℕ) (p p' r : ℕ) → l' ≡ l → p' ≡ p → p ≤ 63 → r ≡ (file_in_words l' p').role → r ≡ (file_at (book_of_words l) p).role
there-role l l' p p' r words same h e =
    seen l l' p p' words same (λ f t. f.role) r e ∙ sym (ap (λ (z : File). z.role) (file-there l p h))

-- Behind cause 2 an admitted participant's call is answered, and an accepted one leaves the file after it.
pub answered : (f : File) (x y : Answer) → f.admitted ≡ true → y ≡ x → y ≡ if_admitted f x
answered f x y e h = is-admitted f x y e h

pub left-after : (f : File) (t : ℕ) (a : Act) {x : Answer} → x ≡ file_answer f t a → accepted x ≡ true → file_left f t a ≡ file_after f t a
unfolding file_left
left-after f t a b good = cond-true (accepted (file_answer f t a)) (file_after f t a) f (ap accepted (sym b) ∙ good)

-- ---- the calls on a participant's file

-- The amount that an annual run answers.
abbrev amount_in : Answer → ℕ
amount_in (refused n) = 0
amount_in done = 0
amount_in (called e asked last) = 0
amount_in (covered e) = 0
amount_in (recorded e) = 0
amount_in (annual a n) = a
amount_in (days_opened n) = 0
amount_in (stated f c s d a m) = 0
amount_in (counted n) = 0
amount_in (batched n) = 0
amount_in (refused_pair n i) = 0
amount_in (deletion a c) = 0

module _ (l : List ℕ) (p : ℕ) (w : WellFormed l) (low : p ≤ 63) where
  pub file-sound : (f : File) (t : ℕ) → f ≡ file_in_words l p → t ≡ today_in l → Sound t f
  unfolding book_of_words
  file-sound f t e q = rw (e, q) (subst (Sound (today_in l)) (file-there l p low) (sound-file (book_of_words l) p w.sound))

  -- what is said of the file in the words is said of the book's file
  pub said : {X : Type 0} (F : File → X) (x : X) → x ≡ F (file_in_words l p) → x ≡ F (file_at (book_of_words l) p)
  said F x e = e ∙ ap F (sym (file-there l p low))

  module _ (m : List ℕ) (g : File) (put : Put l (place p) g m) where
    -- the file is put back
    one : (a : Act) (x : Answer) → Given (book_of_words l) (on p a) x (with_file (book_of_words l) p g) → GivenWords l (on p a) x m
    unfolding with_file
    one a x h =
        in_words l m (on p a) x w (subst (Given (book_of_words l) (on p a) x) (sym (put-book l m p g low put)) h)
        (put-length l m p g low put)
        (canonical-put l m p g w.canonical low put)

    -- what a call gives, from its answer and the file that it leaves
    pub given-left : (a : Act) (x : Answer) → admits_retired a ≡ false → x ≡ file_answer (file_in_words l p) (today_in l) a
        → g ≡ file_left (file_in_words l p) (today_in l) a → GivenWords l (on p a) x m
    unfolding book_of_words
    given-left a x other e h =
        one a x
        (left-given (book_of_words l) p low a x g other
        (said (λ z. file_answer z (today_in l) a) x e) (said (λ z. file_left z (today_in l) a) g h))

-- What a call on an admitted participant's file answers, behind cause 2; an admission asks for none.
abbrev pub own_answer : File → ℕ → Act → Answer
own_answer f t (admit role) = done
own_answer f t (lodge k h) = lodge_answer f t k h
own_answer f t (release k n) = release_answer f t k n
own_answer f t (settle m figures) = settle_answer f t m figures
own_answer f t annual_run = annual_answer f t
own_answer f t delete = deletion_answer f t

abbrev pub asks_admitted : Act → Bool
asks_admitted (admit role) = false
asks_admitted (lodge k h) = true
asks_admitted (release k n) = true
asks_admitted (settle m figures) = true
asks_admitted annual_run = true
asks_admitted delete = true

behind : (f : File) (t : ℕ) (a : Act) → asks_admitted a ≡ true → (file_answer f t a ≡ if_admitted f (own_answer f t a)) × (admits_retired a ≡ false)
unfolding file_answer
behind f t (admit role) e = (cc, cc)
behind f t (lodge k h) e = (refl, refl)
behind f t (release k n) e = (refl, refl)
behind f t (settle m figures) e = (refl, refl)
behind f t annual_run e = (refl, refl)
behind f t delete e = (refl, refl)

module _ (l l' : List ℕ) (p p' : ℕ) (a : Act) (x : Answer) (words : l' ≡ l) (same : p' ≡ p) (known : (file_in_words l p).admitted ≡ true)
    (asks : asks_admitted a ≡ true) (e : x ≡ own_answer (file_in_words l' p') (today_in l') a) where
  -- It is the answer of the file in the words.
  pub own-answered : x ≡ file_answer (file_in_words l p) (today_in l) a
  own-answered =
      answered (file_in_words l p) (own_answer (file_in_words l p) (today_in l) a) x known (seen l l' p p' words same (λ f t. own_answer f t a) x e)
      ∙ sym (behind (file_in_words l p) (today_in l) a asks).0

  -- Where its own causes refuse it, nothing is written.
  pub given-refused : WellFormed l → p ≤ 63 → accepted x ≡ false → GivenWords l (on p a) x l
  unfolding book_of_words step
  given-refused w low bad =
      let is : x ≡ answer new_rule (book_of_words l) (on p a) =
      known-answer (book_of_words l) p a x (le-ltb 63 p low) (behind (file_in_words l p) (today_in l) a asks).1
      (own-answered ∙ ap (λ (z : File). file_answer z (today_in l) a) (sym (file-there l p low))) in
      nothing_written l (on p a) x w
      (given (book_of_words l) (on p a) x (book_of_words l) is
      (sym (cond-false (accepted (answer new_rule (book_of_words l) (on p a))) (applied (book_of_words l) (on p a)) (book_of_words l)
      (ap accepted (sym is) ∙ bad))))

-- Nor where cause 1 or 2 refuses it.
pub given-unknown : (l : List ℕ) (p : ℕ) (a : Act) (r : Refusal) → WellFormed l → asks_admitted a ≡ true → RefusesAll l p r
    → GivenWords l (on p a) (refused (number_of r)) l
unfolding book_of_words step answer
given-unknown l p a r w asks e =
    let f = file_at (book_of_words l) p in
    let x = refused (number_of r) in
    let is : x ≡ answer new_rule (book_of_words l) (on p a) =
    e (own_answer f (today_in l) a)
    ∙ sym (ap (if_numbered p) (behind f (today_in l) a asks).0)
    ∙ ap (if_numbered p) (unretired a (file_answer f (today_in l) a) (behind f (today_in l) a asks).1) in
    nothing_written l (on p a) x w
    (given (book_of_words l) (on p a) x (book_of_words l) is
    (sym (cond-false (accepted (answer new_rule (book_of_words l) (on p a))) (applied (book_of_words l) (on p a)) (book_of_words l)
    (ap accepted (sym is)))))

-- An annual run leaves the next amount.
pub given-run : (l l' m : List ℕ) (p p' : ℕ) (run : AnnualRun) → WellFormed l → l' ≡ l → p' ≡ p → p ≤ 63 → (file_in_words l p).admitted ≡ true
    → annual run.amount run.months ≡ annual_answer (file_in_words l' p') (today_in l') → m ≡ written l (place p + 5) (1 ∷ run.amount ∷ [])
    → GivenWords l (on p annual_run) (annual run.amount run.months) m
unfolding file_after annual_answer annual_file
given-run l l' m p p' run w words same low known e stored =
    let f = file_in_words l p in
    let t = today_in l in
    let a = run.amount in
    let x = annual a run.months in
    let own : x ≡ annual_answer f t = seen l l' p p' words same annual_answer x e in
    let is : x ≡ file_answer f t annual_run = own-answered l l' p p' annual_run x words same known refl e in
    let amount : a ≡ annual_amount_of f t = ap amount_in (own ∙ decide-accepted _ _ (ap accepted (sym own))) in
    given-left l p w low m (with_next f (set_to a)) (next-put l m p w.canonical w.long low a stored) annual_run x refl is
    (ap (λ (y : ℕ). with_next f (set_to y)) amount
    ∙ sym (left-after f t annual_run is refl ∙ cond-true (accepted (annual_answer f t)) (with_next f (set_to (annual_amount_of f t))) f (ap accepted (sym own))))

-- ---- admissions

-- An admission's answer by the causes that both rules have.
pub no-participant : (l : List ℕ) (p role : ℕ) (r : Refusal) → (r ≡ NoSuchParticipant) × (63 < p)
    → refused (number_of r) ≡ answer old_rule (book_of_words l) (on p (admit role))
no-participant l p role r h = ap (λ (z : Refusal). refused (number_of z)) h.0 ∙ above-answer old_rule (book_of_words l) p (admit role) (lt-ltb 63 p h.1)

module _ (l l' : List ℕ) (p p' role : ℕ) (words : l' ≡ l) (same : p' ≡ p) (low : p ≤ 63) (a : Bool) (ea : a ≡ (file_in_words l' p').admitted) where
  flag_is : a ≡ (file_at (book_of_words l) p).admitted
  flag_is = there-admitted l p a low (seen l l' p p' words same (λ f t. f.admitted) a ea)

  pub already-admitted : a ≡ true → refused 3 ≡ answer old_rule (book_of_words l) (on p (admit role))
  already-admitted h = first-already (book_of_words l) p low role (sym flag_is ∙ h)

  pub no-such-role : a ≡ false → 5 < role → refused 4 ≡ answer old_rule (book_of_words l) (on p (admit role))
  no-such-role h k = first-no-role (book_of_words l) p low role (sym flag_is ∙ h) k

  pub may-be-admitted : a ≡ false → role ≤ 5 → done ≡ answer old_rule (book_of_words l) (on p (admit role))
  may-be-admitted h k = first_done (book_of_words l) p low role (sym flag_is ∙ h) k

-- By the answer x that the old rule gives: where it refuses, both do; where it accepts role 1, the new one refuses with 23.
module _ (l : List ℕ) (p role : ℕ) (x : Answer) (w : WellFormed l) (e : x ≡ answer old_rule (book_of_words l) (on p (admit role))) where
  pub refused-alike : accepted x ≡ false → GivenWords l (on p (admit role)) x l
  unfolding step
  refused-alike bad =
      let is = refused-first (book_of_words l) p (admit role) x e bad in
      nothing_written l (on p (admit role)) x w
      (given (book_of_words l) (on p (admit role)) x (book_of_words l) is
      (sym (cond-false (accepted (answer new_rule (book_of_words l) (on p (admit role)))) (applied (book_of_words l) (on p (admit role))) (book_of_words l)
      (ap accepted (sym is) ∙ bad))))

  pub refused-by-old-rule : accepted x ≡ false → GivenFirstWords l (on p (admit role)) x l
  unfolding step
  refused-by-old-rule bad =
      first-in-words l l (on p (admit role)) x w
      (given-first (book_of_words l) (on p (admit role)) x (book_of_words l) e
      (sym (cond-false (accepted (answer old_rule (book_of_words l) (on p (admit role)))) (applied (book_of_words l) (on p (admit role))) (book_of_words l)
      (ap accepted (sym e) ∙ bad))))
      refl
      w.canonical

-- An admission that the old rule accepts.
module _ (l : List ℕ) (p role : ℕ) (e : done ≡ answer old_rule (book_of_words l) (on p (admit role))) where
  pub retired-role : WellFormed l → role ≡ 1 → GivenWords l (on p (admit role)) (refused 23) l
  unfolding step
  retired-role w is_one =
      let is = retired-first (book_of_words l) p role (ap accepted (sym e)) (eq-eqb role 1 is_one) in
      nothing_written l (on p (admit role)) (refused 23) w
      (given (book_of_words l) (on p (admit role)) (refused 23) (book_of_words l) is
      (sym (cond-false (accepted (answer new_rule (book_of_words l) (on p (admit role)))) (applied (book_of_words l) (on p (admit role))) (book_of_words l)
      (ap accepted (sym is)))))

  pub is-accepted : accepted (answer old_rule (book_of_words l) (on p (admit role))) ≡ true
  is-accepted = ap accepted (sym e)

  pub is-numbered : p ≤ 63
  unfolding answer
  is-numbered = numbered p _ is-accepted

-- What an accepted admission writes.
module _ (l m : List ℕ) (p role : ℕ) (w : WellFormed l) (low : p ≤ 63) (g : File) (put : Put l (place p) g m) where
  pub put-admission : (day : ℕ) → day ≡ today_in l → accepted (answer old_rule (book_of_words l) (on p (admit role))) ≡ true
      → g ≡ admitted_file day role → PutsAdmission l p role m
  unfolding book_of_words with_file
  put-admission day q good b =
      let book = book_of_words l in
      let stored : book_of_words m ≡ with_file book p g = put-book l m p g low put in
      let file : g ≡ admitted_file (today_in l) role = b ∙ ap (λ (d : ℕ). admitted_file d role) q in
      let long = put-length l m p g low put in
      let is = accepted-done book p role good in
      let same = canonical-put l m p g w.canonical low put in
      record {
        first = first-in-words l m (on p (admit role)) done w
            (given-first book (on p (admit role)) done (book_of_words m) is
            (stored ∙ left-admit old_rule book p role g good file))
            long
            same;
        given = λ other.
            let alike = accepted-first book p role good other in
            in_words l m (on p (admit role)) done w
            (given book (on p (admit role)) done (book_of_words m) (is ∙ sym alike)
            (stored ∙ left-admit new_rule book p role g (ap accepted alike ∙ good) file))
            long
            same;
      }

pub other-role : (l m : List ℕ) (p role : ℕ) → PutsAdmission l p role m → (role ≡ 1 → ⊥) → GivenWords l (on p (admit role)) done m
other-role l m p role x ne = x.given (ne_eqb role 1 ne)

-- The statement.
pub unknown-stated : (l : List ℕ) (p : ℕ) (r : Refusal) → RefusesAll l p r → Given (book_of_words l) (statement p) (refused (number_of r)) (book_of_words l)
unfolding answer step
unknown-stated l p r e = refused-statement (book_of_words l) p (number_of r) (e _)

pub given-statement : (l l' : List ℕ) (p p' : ℕ) → l' ≡ l → p' ≡ p → p ≤ 63 → (file_in_words l p).admitted ≡ true → (a c s d u t n k : ℕ)
    → a ≡ (file_in_words l' p').firm → d ≡ today_in l' → u ≡ today_in l' → c ≡ cover_through d u (file_in_words l' p').slots
    → t ≡ (file_in_words l' p').charged → n ≡ (file_in_words l' p').accrued → s ≡ a - c
    → k ≡ (file_in_words l' p').made → Given (book_of_words l) (statement p) (stated a c s t n k) (book_of_words l)
unfolding book_of_words file_statement cover_of cover_on shortfall_of
given-statement l l' p p' words same low known a c s d u t n k ea ed eu ec et en es ek =
    let day = today_in l in
    let firm = seen l l' p p' words same (λ f t. f.firm) a ea in
    let covered = seen l l' p p' words same (λ f t. cover_through t t f.slots) c (ec ∙ (λ i. cover_through (ed i) (eu i) (file_in_words l' p').slots)) in
    let charged = seen l l' p p' words same (λ f t. f.charged) t et in
    let accrued = seen l l' p p' words same (λ f t. f.accrued) n en in
    let made = seen l l' p p' words same (λ f t. f.made) k ek in
    let short : s ≡ (file_in_words l p).firm - cover_through day day (file_in_words l p).slots = es ∙ (λ i. firm i - covered i) in
    let st : Statement = record { firm = a; cover = c; shortfall = s; charged = t; accrued = n; made = k } in
    gave-statement (book_of_words l) p low st (ap (λ (z : File). z.admitted) (file-there l p low) ∙ known)
    ((λ i. record { firm = firm i; cover = covered i; shortfall = short i; charged = charged i; accrued = accrued i; made = made i })
    ∙ ap (λ (z : File). file_statement z day) (sym (file-there l p low)))

-- The count of calls made to all: the sum of the words of the files' counts.
abbrev pub made_at : List ℕ → ℕ → ℕ
made_at l p = get_or l (place p + 9) 0

counts : (l : List ℕ) → sum_by (made_at l) (range_with_len 0 64) ≡ sum_of_counts (book_of_words l)
unfolding sum_of_counts book_of_words file_of_words
counts l = sum-places (λ (f : File). f.made) 64 (λ p. file_in_words l p)

pub counts-few : (l : List ℕ) → WellFormed l → sum_of_counts (book_of_words l) ≤ 7480320
unfolding sum_of_counts book_of_words
counts-few l w =
    sum-table-bound (λ (f : File). f.made) 64 116880 (λ p. file_in_words l p)
    (λ p h. made-bound (today_in l) (file_in_words l p) (file-sound l p w (omega arith) (file_in_words l p) (today_in l) refl refl))

pub counts-fit : (l : List ℕ) → WellFormed l → sum_by (made_at l) (range_with_len 0 64) ≤ 7480320
counts-fit l w = omega (arith, counts l, counts-few l w)

pub given-count : (l : List ℕ) (n : ℕ) → n ≡ sum_by (made_at l) (range_with_len 0 64) → Given (book_of_words l) calls_made (counted n) (book_of_words l)
given-count l n e = gave_count (book_of_words l) n (e ∙ counts l)

-- ---- a fresh book

-- The words of a fresh book on day d.
begun-words : (d day : ℕ) (x : Answer) → d ≤ 29219 → Begun day x (fresh_book d) → BegunWords day x (fresh_words d)
unfolding fresh_book
begun-words d day x h b =
    record {
      begun = subst (Begun day x) (sym (fresh-words d h)) b;
      formed =
          record {
            long = ap (λ (n : ℕ). suc (suc n)) (length-replicate {A = ℕ} 6208 0);
            canonical = canonical-fresh d h;
            sound = subst SoundBook (sym (fresh-words d h)) (fresh-sound d h);
          };
    }

pub fresh-late : (l m : List ℕ) (day : ℕ) → length l ≡ book_length → m ≡ replicate (length l) 0 → 29219 < day → BegunWords day (refused 17) (set m 0 2)
fresh-late l m day long e h =
    subst (λ (z : List ℕ). BegunWords day (refused 17) (set z 0 2)) (sym (e ∙ ap (λ (n : ℕ). replicate n 0) long))
    (begun-words 0 day (refused 17) (omega arith) (begun-refused day (fresh_book 0) h refl))

pub fresh-done : (l m : List ℕ) (day : ℕ) → length l ≡ book_length → m ≡ replicate (length l) 0 → day ≤ 29219
    → BegunWords day done (set (set m 0 2) 1 day)
fresh-done l m day long e h =
    subst (λ (z : List ℕ). BegunWords day done (set (set z 0 2) 1 day)) (sym (e ∙ ap (λ (n : ℕ). replicate n 0) long))
    (begun-words day day done h (begun-done day (fresh_book day) h refl))

pub ruleset begins = (fresh-late, fresh-done)

pub ruleset questions = (none-admitted, there-admitted, none-role, there-role, unknown-stated, given-statement)

pub ruleset admissions = (no-participant, already-admitted, no-such-role, may-be-admitted)

pub ruleset admitted = (day-within, put-admission)

pub ruleset by_both_rules = (refused-alike, refused-by-old-rule, retired-role, is-accepted, is-numbered, other-role)

pub ruleset runs = (given-unknown, given-refused, given-run)
