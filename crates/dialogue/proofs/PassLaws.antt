-- A line made again but for its days: the days that an advance opens are those that its answer tells, so opening them behind it leaves what the call
-- leaves; and a day opened alone is an advance by one day.
-- Assumes nothing.
use Rattle.std.proofs.Common.{◌≡◌, ℕ, zero, suc, ◌+◌, ◌-◌, ◌%◌, ◌^◌, ◌<◌, ◌≤◌, min, Bool, true, false, cond, ◌||◌, ltb, List, [], length, ℤ, sym, refl, ap, ◌∙◌, subst, arith}
use Rattle.std.proofs.Common.{lt-ltb, le-ltb, ltb-true, ltb-false}
use Rattle.laws.specs.Cases.{split, cond-true, cond-false}
use Rattle.calendar.specs.declared.Day.{Day}
use Rattle.file.specs.Answer as Said
use Rattle.file.specs.Answer.{accepted}
use Rattle.layout.specs.Book.{Book}
use Rattle.layout.specs.Words.{book_of_words}
use Rattle.layout.specs.WellFormed.{WellFormed}
use Rattle.book.specs.Call.{advance}
use Rattle.book.specs.Rule.{Rule, new_rule}
use Rattle.book.specs.Account.{answer, applied, step, open_day, open_days}
use Rattle.book.specs.InWords.{GivenWords}
use Rattle.book.proofs.Participant.Decide.{decide_true, decide-false}
use Rattle.book.proofs.History.Advances.{not-outside, days-fit}
use Rattle.journal.specs.declared.Request.{Request}
use Rattle.printing.specs.declared.Answer.{Answer}
use Rattle.answering.specs.Asked.{asked, answer_to, book_after}
use Rattle.answering.specs.InWords.{AnsweredWords}
use Rattle.answering.specs.Shown.{shown}
use Rattle.dialogue.specs.declared.Way.{Way}
use Rattle.dialogue.specs.declared.Place.{Place}
use Rattle.dialogue.specs.declared.passes.Made.{Made}
use Rattle.dialogue.specs.Asks.{request_of, rule_at, LineAsked}
use Rattle.dialogue.specs.Turns.{next, answer_of, is_kept, ends_at, after}
use Rattle.dialogue.specs.Answers.{state_of}
use Rattle.dialogue.specs.Dialogue.{replaying}
use Rattle.dialogue.specs.Passes.{opened_in, days_of, but_days, place_behind, MadeButDays, LineMade, open_next_day, NextOpened, OpenedInTurn, MadeWhole}

-- ---- what an advance answers

-- Whether cause 17 refuses it.
abbrev outside : Book → ℕ → Bool
outside b day = ltb 29219 day || ltb day b.today.0

refused-answer : (rule : Rule) (b : Book) (day budget : ℕ) → outside b day ≡ true → answer rule b (advance day budget) ≡ Said.refused 17
unfolding answer
refused-answer rule b day budget e =
    decide_true (record { number = 17; holds = outside b day }) [] (Said.days_opened (min budget (day - b.today.0))) e

opened-answer : (rule : Rule) (b : Book) (day budget : ℕ) → outside b day ≡ false
    → answer rule b (advance day budget) ≡ Said.days_opened (min budget (day - b.today.0))
unfolding answer Said.decide
opened-answer rule b day budget e =
    decide-false (record { number = 17; holds = outside b day }) [] (Said.days_opened (min budget (day - b.today.0))) e

module _ (b : Book) (day budget : ℕ) (today : Day) (t : Bool) (now : today ≡ b.today) (test : t ≡ (ltb 29219 day || ltb day today.0)) where
  tested : outside b day ≡ t
  tested = ap (λ (z : Day). ltb 29219 day || ltb day z.0) (sym now) ∙ sym test

  pub late : t ≡ true → Said.refused 17 ≡ answer new_rule b (advance day budget)
  late e = sym (refused-answer new_rule b day budget (tested ∙ e))

  pub not-before : t ≡ false → today.0 ≤ day
  not-before e = (not-outside day today.0 (sym test ∙ e)).1

  pub in_time : t ≡ false → (n : ℕ) → n ≡ min budget (day - today.0) → Said.days_opened n ≡ answer new_rule b (advance day budget)
  in_time e n is =
      ap Said.days_opened (is ∙ ap (λ (z : Day). min budget (day - z.0)) now) ∙ sym (opened-answer new_rule b day budget (tested ∙ e))

pub ruleset to_open = (late, not-before, in_time)

-- ---- the answer, and the words before the days are opened

-- An advance is answered alike under both rules.
pub advance-made : (p : Place) (l : List ℕ) (r : Request) (ys : List ℤ) (day : Day) (budget : ℕ) (s : Said.Answer) (x : Answer) → WellFormed l
    → r ≡ Request.Advance day budget → s ≡ answer new_rule (book_of_words l) (advance day.0 budget) → x ≡ shown s → MadeButDays p l (asked r ys) x l
unfolding answer
advance-made p l r ys day budget s x w is e h =
    subst (λ (z : Request). MadeButDays p l (asked z ys) x l) (sym is) (record { answered = h ∙ ap shown e; left = refl; formed = w })

-- Any other request leaves the book that it leaves.
whole : (rule : Rule) (b : Book) (r : Request) (ys : List ℤ) → ((t : Day) (k : ℕ) → r ≡ Request.Advance t k → ⊥)
    → but_days rule b (asked r ys) ≡ book_after rule b (asked r ys)
whole rule b (Request.Advance t k) ys not = absurd (not t k refl)
whole rule b r ys not = refl

pub other-made : (p : Place) (l m : List ℕ) (r : Request) (ys : List ℤ) (x : Answer) (way : Way)
    → ((t : Day) (k : ℕ) → r ≡ Request.Advance t k → ⊥) → way ≡ replaying → AnsweredWords (rule_at way p) l ((p.line + 1) % 2 ^ 64) (asked r ys) x m → MadeButDays p l (asked r ys) x m
unfolding next
other-made p l m r ys x way not as_replayed g =
    let h = subst (λ (z : Way). AnsweredWords (rule_at z p) l ((p.line + 1) % 2 ^ 64) (asked r ys) x m) as_replayed g in
    record {
      answered = h.given.answered;
      left = h.given.left ∙ sym (whole (rule_at replaying p) (book_of_words l) r ys not);
      formed = h.formed;
    }

-- ---- the days behind it

module _ (rule : Rule) (b : Book) (day budget : ℕ) where
  abbrev days : ℕ
  days = min budget (day - b.today.0)

  abbrev opened : Said.Answer → Book
  opened z = open_days (opened_in (shown z)) b

  abbrev stepped : Said.Answer → Book
  stepped z = cond (accepted z) (open_days days b) b

  advance-opened : open_days (opened_in (shown (answer rule b (advance day budget)))) b ≡ step rule b (advance day budget)
  unfolding step applied open_days
  advance-opened =
      split (outside b day)
      (λ e. ap opened (refused-answer rule b day budget e) ∙ sym (ap stepped (refused-answer rule b day budget e)))
      (λ e. ap opened (opened-answer rule b day budget e) ∙ sym (ap stepped (opened-answer rule b day budget e)))

  advance-few : b.today.0 ≤ 29219 → b.today.0 + opened_in (shown (answer rule b (advance day budget))) ≤ 29219
  advance-few h =
      split (outside b day)
      (λ e. rw (refused-answer rule b day budget e) (omega (arith, h)))
      (λ e. rw (opened-answer rule b day budget e) (days-fit day b.today.0 budget e))

opened-after : (rule : Rule) (b : Book) (n : ℕ) (r : Request) (ys : List ℤ)
    → open_days (days_of r (answer_to rule b n (asked r ys))) (but_days rule b (asked r ys)) ≡ book_after rule b (asked r ys)
unfolding open_days
opened-after rule b n (Request.Advance t k) ys = advance-opened rule b t.0 k
opened-after rule b n r ys = refl

few-days : (rule : Rule) (b : Book) (n : ℕ) (r : Request) (ys : List ℤ) → (but_days rule b (asked r ys)).today.0 ≤ 29219
    → (but_days rule b (asked r ys)).today.0 + days_of r (answer_to rule b n (asked r ys)) ≤ 29219
few-days rule b n (Request.Advance t k) ys h = advance-few rule b t.0 k h
few-days rule b n r ys h = omega (arith, h)

-- ---- the line

module _ (p : Place) (l m line : List ℕ) (zs ys : List ℤ) (r : Request) (x : Answer) (is : LineAsked replaying p line zs r ys)
    (given : MadeButDays p l (asked r ys) x m) where
  abbrev rule : Rule
  rule = rule_at replaying p

  abbrev b : Book
  b = book_of_words l

  answered-line : x ≡ answer_of replaying (length zs) (state_of l p) line
  unfolding answer_of
  answered-line = given.answered ∙ ap (answer_to rule b (next p.line)) is.same

  behind-line : place_behind p r x ≡ (after replaying (length zs) (state_of l p) line).place
  unfolding place_behind after is_kept ends_at
  behind-line = λ i. place_behind p (is.request i) (answered-line i)

  days-line : days_of r x ≡ days_of (request_of replaying (length zs) p line) (answer_of replaying (length zs) (state_of l p) line)
  days-line = λ i. days_of (is.request i) (answered-line i)

  book-line : open_days (days_of r x) (book_of_words m) ≡ (after replaying (length zs) (state_of l p) line).book
  unfolding after
  book-line =
      (λ i. open_days (days_of r (given.answered i)) (given.left i))
      ∙ opened-after rule b (next p.line) r ys
      ∙ ap (book_after rule b) is.same

  few-line : (book_of_words m).today.0 + days_of r x ≤ 29219
  few-line =
      let same : (book_of_words m).today.0 ≡ (but_days rule b (asked r ys)).today.0 = ap (λ (z : Book). z.today.0) given.left in
      let number : days_of r x ≡ days_of r (answer_to rule b (next p.line) (asked r ys)) = ap (days_of r) given.answered in
      let low : (book_of_words m).today.0 ≤ 29219 = given.formed.sound.day in
      let h = few-days rule b (next p.line) r ys (omega (arith, same, low)) in
      omega (arith, same, number, h)

  line-made : LineMade (length zs) l p line m (record { request = r; answer = x; place = place_behind p r x; days = days_of r x })
  line-made =
      record {
        request = is.request;
        answer = answered-line;
        place = behind-line;
        days = days-line;
        left = given.left ∙ ap (but_days rule b) is.same;
        book = book-line;
        few = few-line;
        formed = given.formed;
      }

pub asked_replaying : (p : Place) (line : List ℕ) (zs ys : List ℤ) (r : Request) (way : Way) → way ≡ replaying → LineAsked way p line zs r ys
    → LineAsked replaying p line zs r ys
asked_replaying p line zs ys r way as_replayed is = subst (λ (z : Way). LineAsked z p line zs r ys) as_replayed is

pub made-line : (p q : Place) (l m line : List ℕ) (zs ys : List ℤ) (r : Request) (x : Answer) (n : ℕ) (way : Way) → way ≡ replaying
    → LineAsked way p line zs r ys → MadeButDays p l (asked r ys) x m → q ≡ place_behind p r x → n ≡ days_of r x
    → LineMade (length zs) l p line m (record { request = r; answer = x; place = q; days = n })
made-line p q l m line zs ys r x n way as_replayed is given place days =
    subst (LineMade (length zs) l p line m)
    (λ i. record { request = r; answer = x; place = sym place i; days = sym days i })
    (line-made p l m line zs ys r x (asked_replaying p line zs ys r way as_replayed is) given)

-- ---- one day

next-step : (b : Book) → step new_rule b (advance (b.today.0 + 1) 1) ≡ open_next_day b
unfolding step applied open_next_day open_days
next-step b =
    let t = b.today.0 in
    let stepped : Said.Answer → Book = λ z. cond (accepted z) (open_days (min 1 (t + 1 - t)) b) b in
    split (ltb t 29219)
    (λ e.
    let h = ltb-true t 29219 e in
    let not-late : ltb 29219 (t + 1) ≡ false = le-ltb 29219 (t + 1) (omega (arith, h)) in
    let not-early : ltb (t + 1) t ≡ false = le-ltb (t + 1) t (omega arith) in
    let one : min 1 (t + 1 - t) ≡ 1 = omega arith in
    ap stepped (opened-answer new_rule b (t + 1) 1 (rw (not-late, not-early) refl))
    ∙ ap (λ (n : ℕ). open_days n b) one
    ∙ sym (cond-true (ltb t 29219) (open_day b) b e))
    (λ e.
    let h = ltb-false t 29219 e in
    let is_late : ltb 29219 (t + 1) ≡ true = lt-ltb 29219 (t + 1) (omega (arith, h)) in
    ap stepped (refused-answer new_rule b (t + 1) 1 (rw is_late refl))
    ∙ sym (cond-false (ltb t 29219) (open_day b) b e))

pub next-opened : (l m : List ℕ) (t : Day) (x : Said.Answer) → t ≡ (book_of_words l).today → GivenWords l (advance (t.0 + 1) 1) x m → NextOpened l m
next-opened l m t x now g =
    record {
      book = g.given.left ∙ ap (λ (z : Day). step new_rule (book_of_words l) (advance (z.0 + 1) 1)) now ∙ next-step (book_of_words l);
      formed = g.formed;
    }

pub today-low : (l : List ℕ) (t : Day) → WellFormed l → t ≡ (book_of_words l).today → t.0 ≤ 29219
today-low l t w now = rw now w.sound.day

pub ruleset next_opened = (next-opened, today-low)

-- ---- the days of a line, one by one

-- So many days are still to be opened on book b, and lead to book e.
pub record DaysLeft (n : ℕ) (b e : Book) : Type 0 where
  pub leads : open_days n b ≡ e
  pub few : b.today.0 + n ≤ 29219

pub days-left : (room : ℕ) (l : List ℕ) (p : Place) (line m : List ℕ) (made : Made) → LineMade room l p line m made
    → DaysLeft made.days (book_of_words m) (after replaying room (state_of l p) line).book
days-left room l p line m made x = record { leads = x.book; few = x.few }

-- Where there is a day after today it is opened.
pub next-day : (b : Book) → b.today.0 < 29219 → open_next_day b ≡ open_day b
unfolding open_next_day
next-day b h = cond-true (ltb b.today.0 29219) (open_day b) b (lt-ltb b.today.0 29219 h)

pub one-less : (n : ℕ) (b e : Book) → DaysLeft (suc n) b e → DaysLeft n (open_next_day b) e
unfolding open_days open_day
one-less n b e d =
    let here : DaysLeft n (open_day b) e = record { leads = d.leads; few = omega (arith, d.few) } in
    subst (λ (z : Book). DaysLeft n z e) (sym (next-day b (omega (arith, d.few)))) here

pub none-left : (b e : Book) → DaysLeft 0 b e → b ≡ e
unfolding open_days
none-left b e d = d.leads

in-turn : (n : ℕ) (l m : List ℕ) (e : Book) → WellFormed l → DaysLeft n (book_of_words l) e → OpenedInTurn n l m
    → (book_of_words m ≡ e) × WellFormed m
in-turn zero l m e w d o = (ap book_of_words o ∙ none-left (book_of_words l) e d, subst WellFormed (sym o) w)
in-turn (suc n) l m e w d o =
    in-turn n o.0 m e o.1.formed (subst (λ (z : Book). DaysLeft n z e) (sym o.1.book) (one-less n (book_of_words l) e d)) o.2

-- Behind a line made but for its days, its days opened one by one leave the state that the line leaves.
pub made-whole : (room : ℕ) (l : List ℕ) (p : Place) (line m : List ℕ) (made : Made) (k : List ℕ) → LineMade room l p line m made
    → OpenedInTurn made.days m k → MadeWhole room l p line made k
made-whole room l p line m made k x o =
    let done = in-turn made.days m k (after replaying room (state_of l p) line).book x.formed (days-left room l p line m made x) o in
    record { left = λ i. record { book = done.0 i; place = x.place i }; formed = done.1 }
