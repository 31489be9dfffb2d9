-- What loading a batch gives: all its parts are judged on the book as it is, which is to judge each behind those before it, and are settled in
-- turn where none is refused.
-- Assumes nothing.
use Prim.Native.Nat.{ℕ, zero, suc, ◌+◌, ◌*◌, ◌≤◌, ◌<◌}
use native.Mathlib.Omega.{arith}
use native.Mathlib.Numerals.{add-one}
use mathlib.Core.Path.{◌≡◌, refl, sym, ap, subst, ◌∙◌}
use mathlib.Core.Bool.{Bool, true, false, not}
use mathlib.Core.List.{List, [], ◌∷◌}
use borrow.Author.Tests.{lt-ltb, le-ltb, ltb-true, ltb-false, eqb-true, eqb-false}
use lib.Dec.{ltb, eqb}
use lib.IntN.{ℤ, pos}
use lib.ListN.{length, get_or, set, length-set}
use lib.Seq.{get_or-set_same, get_or-set_other}
use Rattle.laws.specs.Cases.{split, clash, cond-true, cond-false}
use Rattle.laws.specs.Least.{least, NoneBelow, least-none, least-found}
use Rattle.std.specs.Prelude.{Result, Ok, Err, MatchResult, is_ok}
use Rattle.refusal.specs.declared.Refusal.{Refusal}
use Rattle.refusal.specs.Numbers.{number_of}
use Rattle.manual.specs.Figures.{summed}
use Rattle.batch.specs.declared.Misfit.{Misfit}
use Rattle.batch.specs.declared.parts.Part.{Part}
use Rattle.batch.specs.Batch.{month_in, count_in, offset_at, participant_at, rows_at, figures_behind, figures_at, form_of}
use Rattle.batch.specs.FormLaws.{is_batch, Whole, whole, part-inside}
use Rattle.batch.specs.Parts.{PartIs}
use Rattle.file.specs.declared.File.{File}
use Rattle.file.specs.declared.Settled.{Settled}
use Rattle.file.specs.declared.Settled.TheVariants.{Called, Covered, Recorded}
use Rattle.file.specs.Answer.{Answer, refused, refused_pair, batched, accepted, settlement_says, settled_says}
use Rattle.file.specs.Settle.{settle_answer}
use Rattle.layout.specs.Book.{Book}
use Rattle.layout.specs.Words.{book_of_words, file_in_words, today_in}
use Rattle.layout.specs.WellFormed.{WellFormed}
use Rattle.book.specs.Call.{on, batch, part_act, refusal_of, first_refused, batch_says}
use Rattle.book.specs.Rule.{new_rule}
use Rattle.book.specs.Account.{file_at, if_numbered, if_admitted, file_answer, answer_on, after_parts, part_answer, answer, applied, step}
use Rattle.book.specs.Batches.{judged, made_parts, Judges}
use Rattle.book.specs.InWords.{GivenWords}
use Rattle.book.specs.Settlements.{due_on, AnswersSettlement, PutsSettlement}
use Rattle.book.specs.View.{RefusesAll}
use Rattle.book.proofs.History.Parts.{parts_in, batch-accepted, batch-agree, part-alone}
use Rattle.book.proofs.History.Life.{given}
use Rattle.book.proofs.Functions.OnFile.{above-answer, known-answer}
use Rattle.book.proofs.Functions.SoundBook.{accepted-behind}
use Rattle.book.proofs.Functions.OnWords.{in_words, nothing_written, file-there, seen, answered}

-- ---- judging

-- None of the first i settlements is refused.
abbrev NoneRefused : (ℕ → Answer) → ℕ → Type 0
NoneRefused x i = NoneBelow (λ k. not (accepted (x k))) i

-- The first refusal is answered with its pair's index ..
says-refused : (n i number : ℕ) (x : ℕ → Answer) → i < n → NoneRefused x i → refused number ≡ x i → refused_pair number i ≡ batch_says (Ok n) x
unfolding batch_says first_refused
says-refused n i number x h none e =
    let first = least (λ k. not (accepted (x k))) n in
    let is : first ≡ i = least-found (λ k. not (accepted (x k))) n i h none (ap (λ (z : Answer). not (accepted z)) (sym e)) in
    ap (λ (z : Answer). refused_pair (refusal_of z) i) e
    ∙ ap (λ (k : ℕ). refused_pair (refusal_of (x k)) k) (sym is)
    ∙ sym (cond-true (ltb first n) (refused_pair (refusal_of (x first)) first) (batched n)
    (ap (λ (k : ℕ). ltb k n) is ∙ lt-ltb i n h))

-- .. and a batch with none answers how many parts it has.
says_all : (n : ℕ) (x : ℕ → Answer) → NoneRefused x n → batched n ≡ batch_says (Ok n) x
unfolding batch_says first_refused
says_all n x none =
    let first = least (λ k. not (accepted (x k))) n in
    let is : first ≡ n = least-none (λ k. not (accepted (x k))) n none in
    sym (cond-false (ltb first n) (refused_pair (refusal_of (x first)) first) (batched n)
    (ap (λ (k : ℕ). ltb k n) is ∙ le-ltb n n (omega arith)))

-- What stands behind the answers that are kept of the parts.
abbrev no_answer : Settled
no_answer = Recorded (pos 0)

-- A settlement that isn't refused is accepted.
settled_accepted : (s : Settled) → accepted (settlement_says s) ≡ true
settled_accepted (Called e asked last) = refl
settled_accepted (Covered e) = refl
settled_accepted (Recorded e) = refl

-- What is kept of an answer whose refusal gets its part's index.
pub ok-kept : (r : Result Settled Refusal) (m : Result Settled Misfit) (s : Settled) (a : Answer) (P : Refusal → Type 0) → MatchResult r (λ x. m ≡ Ok x) P
    → is_ok m ≡ is_ok r → m ≡ Ok s → settled_says r ≡ a → settlement_says s ≡ a
ok-kept (Ok x) m s a P h v e q = let same : s ≡ x = cc in ap settlement_says same ∙ q
ok-kept (Err r) m s a P h v e q = clash {t = is_ok m} (ap is_ok e) v

module _ (b : Book) (file : List ℕ) where
  pub judges-first : (answers : List Settled) → Judges b file 0 answers
  judges-first answers = record { there = omega arith; same = λ j h. absurd (omega arith) }

  -- one more, which is no refusal
  pub judges-next : (i : ℕ) (answers : List Settled) (s : Settled) → Judges b file i answers → i < length answers
      → settlement_says s ≡ judged b file i → Judges b file (i + 1) (set answers i s)
  judges-next i answers s js room e =
      record {
        there = omega (arith, room, length-set answers i s);
        same = λ j h.
            split (eqb j i)
            (λ q. let is : j ≡ i = eqb-true j i q in
            ap (λ (k : ℕ). settlement_says (get_or (set answers i s) k no_answer)) is
            ∙ ap settlement_says (get_or-set_same answers i s no_answer room)
            ∙ e
            ∙ ap (judged b file) (sym is))
            (λ q. let other : j ≡ i → ⊥ = eqb-false j i q in
            ap settlement_says (get_or-set_other answers i j s no_answer other)
            ∙ js.same j (earlier j i h other));
      }
    where
      earlier : (j i : ℕ) → j < i + 1 → (j ≡ i → ⊥) → j < i
      earlier j i h ne = split (ltb j i) (ltb-true j i) (λ f. absurd (ne (let not = ltb-false j i f in omega arith)))

  pub judges_there : (n i : ℕ) (answers : List Settled) → Judges b file n answers → i < n → i < length answers
  judges_there n i answers js h = omega (arith, js.there)

  pub judges-all : (i n : ℕ) (answers : List Settled) → i ≤ n → n ≤ i → Judges b file i answers → Judges b file n answers
  judges-all i n answers low high js = let e : i ≡ n = omega arith in subst (λ (k : ℕ). Judges b file k answers) e js

  pub judges-accepted : (i : ℕ) (answers : List Settled) → Judges b file i answers → (j : ℕ) → j < i → accepted (judged b file j) ≡ true
  judges-accepted i answers js j h = ap accepted (sym (js.same j h)) ∙ settled_accepted (get_or answers j no_answer)

  none-refused : (i : ℕ) (answers : List Settled) → Judges b file i answers → NoneRefused (judged b file) i
  none-refused i answers js k h = ap not (judges-accepted i answers js k h)

  -- so what is found is what the batch says
  pub judge-refused : (n i : ℕ) (answers : List Settled) (r : Refusal) → Judges b file i answers → i < n
      → refused (number_of r) ≡ judged b file i → refused_pair (number_of r) i ≡ batch_says (Ok n) (judged b file)
  judge-refused n i answers r js h e = says-refused n i (number_of r) (judged b file) h (none-refused i answers js) e

-- To judge the parts on the book before the batch is to judge each behind those before it.
pub judged-is : (b : Book) (file : List ℕ) (n : ℕ) → form_of file ≡ Ok n → batch_says (Ok n) (judged b file) ≡ answer new_rule b (batch file)
unfolding answer
judged-is b file n e =
    ap (λ (f : Result ℕ Misfit). batch_says f (judged b file)) (sym e)
    ∙ batch-agree file (judged b file) (part_answer b file) (λ w k h. sym (part-alone b file w k h))

-- ---- settling

-- Where each settlement is accepted, the book made in turn is that of the account.
made-is : (b : Book) (file : List ℕ) (k : ℕ) → ((j : ℕ) → j < k → accepted (part_answer b file j) ≡ true)
    → made_parts b file k ≡ after_parts b file k
unfolding made_parts after_parts part_answer step answer applied
made-is b file zero each = refl
made-is b file (suc k) each =
    ap (λ (z : Book). step new_rule z (on (participant_at file k) (part_act file k))) (made-is b file k (λ j h. each j (omega arith)))
    ∙ cond-true (accepted (answer_on new_rule (after_parts b file k) (participant_at file k) (part_act file k))) _ (after_parts b file k)
    (each k (omega arith))

-- The parts of an accepted batch, settled in turn.
pub settled_is : (b : Book) (file : List ℕ) → accepted (answer new_rule b (batch file)) ≡ true
    → made_parts b file (count_in file) ≡ step new_rule b (batch file)
unfolding step applied answer
settled_is b file e =
    made-is b file (count_in file) (batch-accepted file (part_answer b file) e).each
    ∙ sym (cond-true (accepted (answer new_rule b (batch file))) (after_parts b file (count_in file)) b e)

-- ---- a batch of n parts

pub few-parts : (file : List ℕ) (n : ℕ) → form_of file ≡ Ok n → n ≤ 64
few-parts file n form =
    let w = whole file (ap is_batch form) in
    omega (arith, w.most, ap parts_in (sym form ∙ w.form))

pub all-inside : (file : List ℕ) (n i : ℕ) → form_of file ≡ Ok n → i < n → offset_at file i + 2 + 8 * rows_at file i ≤ length file
all-inside file n i form h =
    let w = whole file (ap is_batch form) in
    part-inside file w i (omega (arith, ap parts_in (sym form ∙ w.form)))

-- ---- one part

-- One that cause 1 or 2 refuses.
pub part-unknown : (l : List ℕ) (file : List ℕ) (k : ℕ) (part : Part) (r : Refusal) → PartIs file k part → RefusesAll l part.participant r
    → refused (number_of r) ≡ judged (book_of_words l) file k
unfolding file_answer
part-unknown l file k part r is e =
    e _ ∙ (λ i. if_numbered (is.participant i) (if_admitted (file_at (book_of_words l) (is.participant i))
    (settle_answer (file_at (book_of_words l) (is.participant i)) (book_of_words l).today.0 (month_in file) (figures_at file k))))

-- What the settlement of another answers, by the sum of its figures.
pub part-judged : (file : List ℕ) (k : ℕ) (part : Part) (l l' : List ℕ) (p' : ℕ) (due : Result Bool Refusal) (sum : Result ℤ Refusal) (x : Answer)
    → PartIs file k part → l' ≡ l → p' ≡ part.participant → part.participant ≤ 63 → (file_in_words l part.participant).admitted ≡ true
    → due ≡ due_on (today_in l) (month_in file) → sum ≡ summed (figures_behind file part.offset part.rows)
    → AnswersSettlement (file_in_words l' p') (today_in l') due sum x → x ≡ judged (book_of_words l) file k
unfolding answer book_of_words figures_at file_answer
part-judged file k part l l' p' due sum x is words same low known d s answers =
    let p = participant_at file k in
    let h : p ≤ 63 = omega (arith, is.participant) in
    let f = file_in_words l part.participant in
    let figures : sum ≡ summed (figures_at file k) = s ∙ (λ i. summed (figures_behind file (is.offset i) (is.rows i))) in
    known-answer (book_of_words l) p (part_act file k) x (le-ltb 63 p h) refl
    (answered f (settle_answer f (today_in l) (month_in file) (figures_at file k)) x known
    (seen l l' part.participant p' words same (λ f t. settle_answer f t (month_in file) (figures_at file k)) x (answers (month_in file) (figures_at file k) (d ∙ ap (λ (t : ℕ). due_on t (month_in file)) (ap today_in (sym words))) figures))
    ∙ ap (λ (q : ℕ). file_answer (file_in_words l q) (today_in l) (part_act file k)) is.participant
    ∙ ap (λ (f : File). file_answer f (today_in l) (part_act file k)) (sym (file-there l p h)))

-- ---- all parts

pub made-first : (b : Book) (file : List ℕ) → b ≡ made_parts b file 0
unfolding made_parts
made-first b file = refl

pub made_all : (b : Book) (file : List ℕ) (k n : ℕ) (l : List ℕ) → k ≤ n → n ≤ k → book_of_words l ≡ made_parts b file k
    → book_of_words l ≡ made_parts b file n
made_all b file k n l low high e = let same : k ≡ n = omega arith in e ∙ ap (made_parts b file) same

-- Two books in words are as long.
pub same-words : (l m : List ℕ) → WellFormed l → WellFormed m → length m ≡ length l
same-words l m w v = v.long ∙ sym w.long

-- One more part is settled.
pub made-next : (b : Book) (file : List ℕ) (k : ℕ) (l m : List ℕ) (x : Answer) → book_of_words l ≡ made_parts b file k
    → GivenWords l (on (participant_at file k) (part_act file k)) x m → book_of_words m ≡ made_parts b file (k + 1)
unfolding made_parts
made-next b file k l m x e g =
    g.given.left
    ∙ ap (λ (z : Book). step new_rule z (on (participant_at file k) (part_act file k))) e
    ∙ ap (made_parts b file) (sym (add-one k))

-- A part that is no refusal is of a participant up to 63.
low-participant : (b : Book) (file : List ℕ) (k : ℕ) → accepted (judged b file k) ≡ true → participant_at file k ≤ 63
unfolding answer
low-participant b file k e =
    split (ltb 63 (participant_at file k))
    (λ h. clash {t = false} (ap accepted (above-answer new_rule b (participant_at file k) (part_act file k) h) ∙ e) refl)
    (λ h. ltb-false 63 (participant_at file k) h)

module _ (b : Book) (file : List ℕ) (n i : ℕ) (answers : List Settled) (js : Judges b file n answers) (h : i < n) (part : Part)
    (is : PartIs file i part) where
  pub part_low : part.participant ≤ 63
  part_low = omega (arith, is.participant, low-participant b file i (judges-accepted b file n answers js i h))

  -- What is kept of part i is what it answers behind the parts before it.
  module _ (form : form_of file ≡ Ok n) (l : List ℕ) (so_far : book_of_words l ≡ made_parts b file i) where
    batch-whole : Whole file
    batch-whole = whole file (ap is_batch form)

    count : n ≡ count_in file
    count = ap parts_in (sym form ∙ batch-whole.form)

    behind : (k : ℕ) → k < n → judged b file k ≡ part_answer b file k
    behind k g = sym (part-alone b file batch-whole k (omega (arith, count)))

    kept-answer : settlement_says (get_or answers i no_answer) ≡ file_answer (file_in_words l (participant_at file i)) (today_in l) (part_act file i)
    unfolding part_answer answer book_of_words
    kept-answer =
        let p = participant_at file i in
        let low : p ≤ 63 = low-participant b file i (judges-accepted b file n answers js i h) in
        let made : made_parts b file i ≡ after_parts b file i =
        made-is b file i (λ k g. ap accepted (sym (behind k (omega arith))) ∙ judges-accepted b file n answers js k (omega arith)) in
        js.same i h
        ∙ behind i h
        ∙ ap (λ (z : Book). answer_on new_rule z p (part_act file i)) (sym (so_far ∙ made))
        ∙ sym (known-answer (book_of_words l) p (part_act file i)
        (file_answer (file_at (book_of_words l) p) (today_in l) (part_act file i)) (le-ltb 63 p low) refl refl)
        ∙ ap (λ (f : File). file_answer f (today_in l) (part_act file i)) (file-there l p low)

    -- .. so what is written is what its settlement leaves.
    pub part-given : (mo : ℕ) (r : Settled) (m : List ℕ) → mo ≡ month_in file → r ≡ get_or answers i no_answer
        → PutsSettlement l part.participant mo (settlement_says r) m
        → GivenWords l (on (participant_at file i) (part_act file i)) (settlement_says r) m
    unfolding file_answer
    part-given mo r m month e puts =
        let p = participant_at file i in
        let f = file_in_words l p in
        let is-answer : settlement_says r ≡ file_answer f (today_in l) (part_act file i) = ap settlement_says e ∙ kept-answer in
        let behind-two = accepted-behind f (settle_answer f (today_in l) (month_in file) (figures_at file i))
        (ap accepted (sym is-answer) ∙ settled_accepted r) in
        subst (λ (q : ℕ). GivenWords l (on q (part_act file i)) (settlement_says r) m) is.participant
        (subst (λ (z : ℕ). PutsSettlement l part.participant z (settlement_says r) m) month puts (figures_at file i)
        (ap (λ (q : ℕ). (file_in_words l q).admitted) is.participant ∙ behind-two.0)
        (is-answer ∙ behind-two.1 ∙ ap (λ (q : ℕ). settle_answer (file_in_words l q) (today_in l) (month_in file) (figures_at file i)) (sym is.participant)))

-- What is kept of a part, whatever stands behind the last.
pub kept_there : (answers : List Settled) (i : ℕ) (x : Settled) → i < length answers → get_or answers i x ≡ get_or answers i no_answer
kept_there [] i x h = absurd (omega arith)
kept_there (a ∷ l) zero x h = refl
kept_there (a ∷ l) (suc i) x h = kept_there l i x (omega arith)

module _ (l : List ℕ) (w : WellFormed l) (file : List ℕ) where
  -- A refused batch leaves every word.
  left_alone : (n i : ℕ) → refused_pair n i ≡ answer new_rule (book_of_words l) (batch file) → GivenWords l (batch file) (refused_pair n i) l
  unfolding step
  left_alone n i is =
      let b = book_of_words l in
      nothing_written l (batch file) (refused_pair n i) w
      (given b (batch file) (refused_pair n i) b is
      (sym (cond-false (accepted (answer new_rule b (batch file))) (applied b (batch file)) b (ap accepted (sym is)))))

  -- A file that is no batch.
  pub load-no-batch : (m : Misfit) → Err m ≡ form_of file → GivenWords l (batch file) (refused_pair (number_of m.refusal) m.pair) l
  unfolding answer batch_says
  load-no-batch m e =
      let b = book_of_words l in
      left_alone (number_of m.refusal) m.pair (ap (λ (f : Result ℕ Misfit). batch_says f (part_answer b file)) e)

  -- A batch with a refused part.
  pub load-refused : (parts : ℕ) (m : Misfit) → form_of file ≡ Ok parts
      → refused_pair (number_of m.refusal) m.pair ≡ batch_says (Ok parts) (judged (book_of_words l) file)
      → GivenWords l (batch file) (refused_pair (number_of m.refusal) m.pair) l
  load-refused parts m form e = left_alone (number_of m.refusal) m.pair (e ∙ judged-is (book_of_words l) file parts form)

  -- A batch whose parts are all accepted, and settled.
  pub load-settled : (m : List ℕ) (parts : ℕ) (answers : List Settled) → form_of file ≡ Ok parts → Judges (book_of_words l) file parts answers
      → WellFormed m → book_of_words m ≡ made_parts (book_of_words l) file parts → GivenWords l (batch file) (batched parts) m
  load-settled m parts answers form js formed made =
      let b = book_of_words l in
      let is : batched parts ≡ answer new_rule b (batch file)
      = says_all parts (judged b file) (none-refused b file parts answers js) ∙ judged-is b file parts form in
      let count : parts ≡ count_in file = ap parts_in (sym form ∙ (whole file (ap is_batch form)).form) in
      in_words l m (batch file) (batched parts) w
      (given b (batch file) (batched parts) (book_of_words m) is
      (made ∙ ap (made_parts b file) count ∙ settled_is b file (ap accepted (sym is))))
      (formed.long ∙ sym w.long)
      formed.canonical

pub ruleset parts = (few-parts, all-inside, part-unknown, part-judged)

pub ruleset judgements = (few-parts, all-inside, judges-first, judges-next, judges-all, judge-refused)

pub ruleset loads = (few-parts, load-no-batch, load-refused, load-settled)

pub ruleset puts_parts = (made-first, made_all, same-words, judges_there, part_low, part-given, kept_there, made-next)
