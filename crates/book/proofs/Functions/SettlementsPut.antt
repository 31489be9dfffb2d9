-- What an accepted settlement writes: the month's total, and where it calls the call and the file's count of calls made.
-- Assumes nothing.
use Prim.Native.Nat.{ℕ, ◌+◌, ◌*◌, ◌%◌, ◌-◌, ◌≤◌, ◌<◌}
use native.Mathlib.Omega.{arith}
use mathlib.Core.Path.{◌≡◌, refl, sym, ap, subst, ◌∙◌}
use mathlib.Core.Bool.{Bool, true, false, cond, ◌&&◌}
use mathlib.Core.List.{List, [], ◌∷◌, ◌++◌}
use borrow.Author.Tests.{leb-false}
use lib.Dec.{leb}
use lib.IntN.{ℤ, pos, nat_abs}
use lib.ListN.{length, get_or, set, length-append, length-set}
use lib.Signed.{lt_z}
use mir.Facts.{to_z-of_z, to_z_pos}
use mir.Syntax.{w64}
use mir.Val.{SFits, to_z}
use Rattle.laws.specs.Cases.{cond-true, cond-false, and_left, and_right}
use Rattle.laws.specs.Integers.{above-natural}
use Rattle.laws.specs.Read.{read}
use Rattle.calendar.specs.declared.Day.{Day}
use Rattle.calendar.specs.declared.Month.{Month}
use Rattle.calendar.specs.Civil.{month_of}
use Rattle.manual.specs.Check.{exceeds_tolerance, call_is_made}
use Rattle.manual.specs.Figures.{sum_of, summed}
use Rattle.manual.specs.Laws.{call_is_made-tolerance, summed-total}
use Rattle.file.specs.declared.File.{File}
use Rattle.file.specs.declared.Settled.{Settled}
use Rattle.file.specs.declared.Settled.TheVariants as Settlements
use Rattle.file.specs.Answer.{Answer, called, covered, recorded, accepted, settlement_says}
use Rattle.file.specs.Calls.{call_of, in_places}
use Rattle.file.specs.CallLaws.{in_places-next}
use Rattle.file.specs.CheckLaws.{settled-answer}
use Rattle.file.specs.DecideLaws.{none-holds}
use Rattle.file.specs.Fields.{open_calls, open_amounts, with_totals}
use Rattle.file.specs.KeepsCalls.{open-count}
use Rattle.file.specs.Settle.{check_due, deposited, settlement_calls, settled_answer, settle_answer, calls_settled, settled_file}
use Rattle.file.specs.Totals.{total_of, with_total}
use Rattle.layout.specs.Parts.{total_words, open_call_words, TotalBack, CallBack, written}
use Rattle.layout.specs.Files.{file_of_words}
use Rattle.layout.specs.Words.{place, file_in_words, today_in}
use Rattle.layout.specs.WellFormed.{WellFormed}
use Rattle.layout.proofs.BookLaws.{canonical-put, put-length}
use Rattle.layout.proofs.Written.{length-written}
use Rattle.layout.proofs.PartLaws.{with_months, with_places, with_made, total-put, call-put, count-put, made-put, put-again}
use Rattle.book.specs.Call.{settle, on}
use Rattle.book.specs.Account.{file_answer, file_after}
use Rattle.book.specs.Left.{file_left}
use Rattle.book.specs.InWords.{GivenWords}
use Rattle.book.specs.Settlements.{due_on, AnswersSettlement, PutsSettlement}
use Rattle.book.proofs.Functions.OnWords.{file-sound, seen, answered, left-after, given-left, given-refused, given-unknown}
use Rattle.book.proofs.Functions.SoundBook.{made-bound}
use Rattle.std.specs.Prelude.{Result}
use Rattle.refusal.specs.declared.Refusal.{Refusal}
use Rattle.book.proofs.Participant.Decide.{decide-accepted}

-- ---- what is written

-- A month's total at its place in the ring; a signed number's bits are the number's.
pub month-put : (l m : List ℕ) (at k : ℕ) (mo : Month) (e : ℤ) → SFits w64 e → k ≡ mo.0 % 16
    → (m ≡ written l (at + (50 + 3 * k)) (total_words (record { recorded = true; month = mo; total = read e })))
    × TotalBack (record { recorded = true; month = mo; total = read e })
    → (m ≡ written l (at + (50 + 3 * (mo.0 % 16))) (total_words (total_of mo.0 e))) × TotalBack (total_of mo.0 e)
month-put l m at k mo e fits here put = (
  put.0 ∙ (λ i. written l (at + (50 + 3 * here i)) (total_words (total_of mo.0 (to_z-of_z fits i)))),
  subst (λ (z : ℤ). TotalBack (total_of mo.0 z)) (to_z-of_z fits) put.1,
)

-- A call's words, and another word upon them.
pub call-behind : {P : Type 0} (l m vs : List ℕ) (j k v : ℕ) → (m ≡ written l j vs) × P → (set m k v ≡ set (written l j vs) k v) × P
call-behind l m vs j k v put = (ap (λ (z : List ℕ). set z k v) put.0, put.1)

-- As many words as before.
pub called-long : {P Q : Type 0} (l m n us vs : List ℕ) (i j k v a y : ℕ) → (m ≡ written l i us) × P → (n ≡ set (written m j vs) k v) × Q
    → length (set n a y) ≡ length l
called-long l m n us vs i j k v a y one two =
    length-set n a y
    ∙ ap length two.0
    ∙ length-set (written m j vs) k v
    ∙ length-written m j vs
    ∙ ap length one.0
    ∙ length-written l i us

-- An answer that keeps a total and no more.
abbrev pub keeps_total : Bool → ℤ → Answer
keeps_total true e = covered e
keeps_total false e = recorded e

module _ (l : List ℕ) (p : ℕ) (w : WellFormed l) (low : p ≤ 63) where
  abbrev f : File
  f = file_in_words l p

  abbrev t : ℕ
  t = today_in l

  pub few-open : get_or l (place p + 4) 0 ≤ 4
  unfolding file_of_words
  few-open = (file-sound l p w low f t refl refl).count

  pub made-room : get_or l (place p + 9) 0 + 1 < 18446744073709551616
  unfolding file_of_words
  made-room = let few = made-bound t f (file-sound l p w low f t refl refl) in omega arith

  module _ (mo : ℕ) (figures : List ℤ) where
    abbrev e : ℤ
    e = sum_of figures

    -- what an accepted settlement answers and leaves
    pub record Accepts (x : Answer) : Type 0 where
      pub own : accepted (settle_answer f t mo figures) ≡ true
      pub says : x ≡ settled_answer f t mo figures
      pub answers : x ≡ file_answer f t (settle mo figures)
      pub left : file_left f t (settle mo figures) ≡ with_totals f (with_total f.totals mo e) (calls_settled f t mo figures) (cond (settlement_calls f t mo figures) 1 0)

    accepts : (x : Answer) → f.admitted ≡ true → x ≡ settle_answer f t mo figures → accepted x ≡ true → Accepts x
    unfolding file_answer file_after settled_file settle_answer
    accepts x known b good =
        let own : accepted (settle_answer f t mo figures) ≡ true = ap accepted (sym b) ∙ good in
        let is : x ≡ file_answer f t (settle mo figures) = answered f (settle_answer f t mo figures) x known b in
        record {
          own = own;
          says = b ∙ decide-accepted _ (settled_answer f t mo figures) own;
          answers = is;
          left = left-after f t (settle mo figures) is good ∙ cond-true (accepted (settle_answer f t mo figures)) _ f own;
        }

    -- ---- one that keeps a total

    kept-total : (due calls check : Bool) (a b c : ℕ) (z : ℤ) → keeps_total due z ≡ cond calls (called a b c) (cond check (covered e) (recorded e))
        → (calls ≡ false) × (z ≡ e)
    kept-total true true check a b c z q = (cc, cc)
    kept-total false true check a b c z q = (cc, cc)
    kept-total true false true a b c z q = (refl, cc)
    kept-total true false false a b c z q = (cc, cc)
    kept-total false false true a b c z q = (cc, cc)
    kept-total false false false a b c z q = (refl, cc)

    -- no call is open besides
    same-calls : settlement_calls f t mo figures ≡ false → calls_settled f t mo figures ≡ open_calls f
    unfolding calls_settled
    same-calls h = cond-false (settlement_calls f t mo figures) (open_calls f ++ (call_of (nat_abs e) (t + 10) ∷ [])) (open_calls f) h

    kept-left : (z : ℤ) → settlement_calls f t mo figures ≡ false → z ≡ e
        → with_months f (set f.totals (mo % 16) (total_of mo z)) ≡ with_totals f (with_total f.totals mo e) (calls_settled f t mo figures) (cond (settlement_calls f t mo figures) 1 0)
    unfolding with_total
    kept-left z h same =
        let s = file-sound l p w low f t refl refl in
        let none : f.made ≡ f.made + cond (settlement_calls f t mo figures) 1 0 = rw h (omega arith) in
        λ i. record {
          admitted = f.admitted;
          leaving = f.leaving;
          role = f.role;
          firm = f.firm;
          slots = f.slots;
          calls = (s.places ∙ ap in_places (sym (same-calls h))) i;
          count = (sym (open-count f t s) ∙ ap length (sym (same-calls h))) i;
          next = f.next;
          totals = set f.totals (mo % 16) (total_of mo (same i));
          charged = f.charged;
          accrued = f.accrued;
          made = none i;
        }

    pub given-kept : (m : List ℕ) (due : Bool) (z : ℤ) → f.admitted ≡ true → keeps_total due z ≡ settle_answer f t mo figures
        → (m ≡ written l (place p + (50 + 3 * (mo % 16))) (total_words (total_of mo z))) × TotalBack (total_of mo z)
        → GivenWords l (on p (settle mo figures)) (keeps_total due z) m
    given-kept m due z known b put =
        let a = accepts (keeps_total due z) known b (keeps due) in
        let is : (settlement_calls f t mo figures ≡ false) × (z ≡ e) =
        kept-total due (settlement_calls f t mo figures) (check_due (month_of t) mo) (nat_abs e) (nat_abs e - deposited f t) (t + 10) z
        (a.says ∙ settled-answer f t mo figures) in
        given-left l p w low m (with_months f (set f.totals (mo % 16) (total_of mo z)))
        (total-put l m p w.canonical w.long low (mo % 16) (total_of mo z) (omega arith) put.1 put.0)
        (settle mo figures) (keeps_total due z) refl a.answers
        (kept-left z is.0 is.1 ∙ sym a.left)
      where
        keeps : (due : Bool) → accepted (keeps_total due z) ≡ true
        keeps true = refl
        keeps false = refl

    -- ---- one that calls

    call-said : (calls check : Bool) (a b c x y z : ℕ) → called x y z ≡ cond calls (called a b c) (cond check (covered e) (recorded e))
        → (calls ≡ true) × (x ≡ a) × (z ≡ c)
    call-said true check a b c x y z q = (refl, cc, cc)
    call-said false true a b c x y z q = (cc, cc, cc)
    call-said false false a b c x y z q = (cc, cc, cc)

    -- What is known of it: it is no fifth call, and its amount is the total.
    pub record Calls (x last : ℕ) : Type 0 where
      pub calls : settlement_calls f t mo figures ≡ true
      pub few : get_or l (place p + 4) 0 < 4
      pub total : to_z w64 x ≡ e
      pub amount : x ≡ nat_abs e
      pub day : last ≡ t + 10

    calls-of : (x asked last : ℕ) → Accepts (called x asked last) → Calls x last
    unfolding settle_answer settlement_calls exceeds_tolerance file_of_words
    calls-of x asked last a =
        let s = file-sound l p w low f t refl refl in
        let none = none-holds _ _ a.own in
        let small : nat_abs e ≤ 16000000000000 = summed-total figures none.1.0 none.1.1.0 in
        let said =
        call-said (settlement_calls f t mo figures) (check_due (month_of t) mo) (nat_abs e) (nat_abs e - deposited f t) (t + 10) x asked last
        (a.says ∙ settled-answer f t mo figures) in
        let made : call_is_made e (deposited f t) f.firm (open_amounts f) ≡ true = and_right (check_due (month_of t) mo) _ said.0 in
        let above = and_left (lt_z (pos (deposited f t)) e) _ (call_is_made-tolerance e (deposited f t) f.firm (open_amounts f) made) in
        let room =
        leb-false 4 (length (open_calls f))
        (sym (ap (λ (c : Bool). c && leb 4 (length (open_calls f))) said.0) ∙ none.1.1.1.0) in
        let low : x < 9223372036854775808 = omega (arith, said.1, small) in
        record {
          calls = said.0;
          few = omega (arith, room, open-count f t s);
          total = to_z_pos w64 low ∙ ap pos said.1 ∙ sym (above-natural (deposited f t) e above);
          amount = said.1;
          day = said.2;
        }

    count-is : get_or l (place p + 4) 0 ≡ f.count
    unfolding file_of_words
    count-is = refl

    called-left : (x last n : ℕ) (z : ℤ) → Calls x last → n ≡ get_or l (place p + 4) 0 → z ≡ e
        → with_made (with_places (with_months f (set f.totals (mo % 16) (total_of mo z))) (set f.calls n (call_of x last)) (n + 1)) (f.made + 1)
        ≡ with_totals f (with_total f.totals mo e) (calls_settled f t mo figures) (cond (settlement_calls f t mo figures) 1 0)
    unfolding with_total calls_settled
    called-left x last n z k n-is same =
        let s = file-sound l p w low f t refl refl in
        let opened = open_calls f ++ (call_of (nat_abs e) (t + 10) ∷ []) in
        let is : calls_settled f t mo figures ≡ opened = cond-true (settlement_calls f t mo figures) opened (open_calls f) k.calls in
        let at : n ≡ length (open_calls f) = n-is ∙ count-is ∙ sym (open-count f t s) in
        let few : length (open_calls f) < 4 = omega (arith, k.few, count-is, open-count f t s) in
        let one : f.made + 1 ≡ f.made + cond (settlement_calls f t mo figures) 1 0 = rw k.calls refl in
        λ i. record {
          admitted = f.admitted;
          leaving = f.leaving;
          role = f.role;
          firm = f.firm;
          slots = f.slots;
          calls =
              ((λ j. set (s.places j) (at j) (call_of (k.amount j) (k.day j)))
              ∙ in_places-next (open_calls f) (call_of (nat_abs e) (t + 10)) few
              ∙ ap in_places (sym is))
              i;
          count =
              (ap (λ (m : ℕ). m + 1) at ∙ sym (length-append (open_calls f) (call_of (nat_abs e) (t + 10) ∷ [])) ∙ ap length (sym is)) i;
          next = f.next;
          totals = set f.totals (mo % 16) (total_of mo (same i));
          charged = f.charged;
          accrued = f.accrued;
          made = one i;
        }

    pub given-open : (m n : List ℕ) (x asked last : ℕ) (z : ℤ) → z ≡ to_z w64 x
        → (m ≡ written l (place p + (50 + 3 * (mo % 16))) (total_words (total_of mo z))) × TotalBack (total_of mo z)
        → (n ≡ set (written m (place p + (42 + 2 * get_or l (place p + 4) 0)) (open_call_words (call_of x last))) (place p + 4) (get_or l (place p + 4) 0 + 1))
        × CallBack (call_of x last)
        → f.admitted ≡ true → called x asked last ≡ settle_answer f t mo figures
        → GivenWords l (on p (settle mo figures)) (called x asked last) (set n (place p + 9) (get_or l (place p + 9) 0 + 1))
    unfolding file_of_words
    given-open m n x asked last z z-is one two known b =
        let a = accepts (called x asked last) known b refl in
        let k = calls-of x asked last a in
        let number = get_or l (place p + 4) 0 in
        let c = call_of x last in
        let room : place p + 98 ≤ length l = omega (arith, w.long) in
        -- the total
        let f₁ = with_months f (set f.totals (mo % 16) (total_of mo z)) in
        let put₁ = total-put l m p w.canonical w.long low (mo % 16) (total_of mo z) (omega arith) one.1 one.0 in
        let same₁ = canonical-put l m p f₁ w.canonical low put₁ in
        let long₁ = put-length l m p f₁ low put₁ ∙ w.long in
        -- the call
        let r₁ = file_in_words m p in
        let o = written m (place p + (42 + 2 * number)) (open_call_words c) in
        let f₂ = with_places r₁ (set r₁.calls number c) r₁.count in
        let put₂ = call-put m o p same₁ long₁ low number c k.few two.1 refl in
        let same₂ = canonical-put m o p f₂ same₁ low put₂ in
        let long₂ = put-length m o p f₂ low put₂ ∙ long₁ in
        -- their number
        let r₂ = file_in_words o p in
        let f₃ = with_places r₂ r₂.calls (number + 1) in
        let put₃ = count-put o n p same₂ long₂ low (number + 1) two.0 in
        let same₃ = canonical-put o n p f₃ same₂ low put₃ in
        let long₃ = put-length o n p f₃ low put₃ ∙ long₂ in
        -- the count of calls made
        let made = get_or l (place p + 9) 0 + 1 in
        let r₃ = file_in_words n p in
        let f₄ = with_made r₃ made in
        let put₄ = made-put n (set n (place p + 9) made) p same₃ long₃ low made refl in
        let is : f₄ ≡ with_made (with_places f₁ (set f.calls number c) (number + 1)) made =
        ap (λ (y : File). with_made y made) put₃.back
        ∙ ap (λ (y : File). with_made (with_places y y.calls (number + 1)) made) put₂.back
        ∙ ap (λ (y : File). with_made (with_places y (set y.calls number c) (number + 1)) made) put₁.back in
        given-left l p w low (set n (place p + 9) made) f₄
        (put-again l n (set n (place p + 9) made) (place p) f₃ f₄ room
        (put-again l o n (place p) f₂ f₃ room (put-again l m o (place p) f₁ f₂ room put₁ put₂) put₃) put₄)
        (settle mo figures) (called x asked last) refl a.answers
        (is ∙ called-left x last number z k refl (z-is ∙ k.total) ∙ sym a.left)

-- ---- by the case of the answer

module _ (l : List ℕ) (p mo : ℕ) (w : WellFormed l) (low : p ≤ 63) (r : Settled) where
  pub puts-called : (m : List ℕ) (x asked : ℕ) (last : Day) → r ≡ Settlements.Called x asked last
      → ((y : ℕ) → PutsSettlement l p mo (called x y last.0) m) → PutsSettlement l p mo (settlement_says r) m
  puts-called m x asked last e put = subst (λ (z : Settled). PutsSettlement l p mo (settlement_says z) m) (sym e) (put asked)

  pub puts-covered : (m : List ℕ) (z y : ℤ) → r ≡ Settlements.Covered z → y ≡ z
      → (m ≡ written l (place p + (50 + 3 * (mo % 16))) (total_words (total_of mo y))) × TotalBack (total_of mo y)
      → PutsSettlement l p mo (settlement_says r) m
  puts-covered m z y e same put =
      subst (λ (s : Settled). PutsSettlement l p mo (settlement_says s) m) (sym (e ∙ ap Settlements.Covered (sym same)))
      (λ figures known b. given-kept l p w low mo figures m true y known b put)

  pub puts-recorded : (m : List ℕ) (z y : ℤ) → r ≡ Settlements.Recorded z → y ≡ z
      → (m ≡ written l (place p + (50 + 3 * (mo % 16))) (total_words (total_of mo y))) × TotalBack (total_of mo y)
      → PutsSettlement l p mo (settlement_says r) m
  puts-recorded m z y e same put =
      subst (λ (s : Settled). PutsSettlement l p mo (settlement_says s) m) (sym (e ∙ ap Settlements.Recorded (sym same)))
      (λ figures known b. given-kept l p w low mo figures m false y known b put)

-- ---- the whole settlement

-- What a settlement of an admitted participant's file gives, from the view of it ..
module _ (l l' : List ℕ) (p p' mo d : ℕ) (figures : List ℤ) (due : Result Bool Refusal) (sum : Result ℤ Refusal) (x : Answer)
    (words : l' ≡ l) (same : p' ≡ p) (known : (file_in_words l p).admitted ≡ true) (now : d ≡ today_in l') (e : due ≡ due_on d mo) (s : sum ≡ summed figures)
    (answers : AnswersSettlement (file_in_words l' p') (today_in l') due sum x) where
  own : x ≡ settle_answer (file_in_words l' p') (today_in l') mo figures
  own = answers mo figures (e ∙ ap (λ (t : ℕ). due_on t mo) now) s

  pub settlement-given : (m : List ℕ) → PutsSettlement l p mo x m → GivenWords l (on p (settle mo figures)) x m
  settlement-given m puts = puts figures known (seen l l' p p' words same (λ f t. settle_answer f t mo figures) x own)

  -- .. and where it is refused.
  pub settlement-refused : WellFormed l → p ≤ 63 → accepted x ≡ false → GivenWords l (on p (settle mo figures)) x l
  settlement-refused w low bad = given-refused l l' p p' (settle mo figures) x words same known refl own w low bad

pub ruleset puts = (puts-called, puts-covered, puts-recorded)

pub ruleset settlements = (given-unknown, settlement-given, settlement-refused)
