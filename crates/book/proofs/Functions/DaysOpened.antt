-- Days opened in the words of a book: file by file within a day, day by day within an advance.
-- Assumes nothing.
use Prim.Native.Nat.{ℕ, suc, ◌+◌, ◌-◌, ◌≤◌, ◌<◌, min}
use native.Mathlib.Omega.{arith}
use native.Mathlib.Numerals.{add-one}
use mathlib.Core.Path.{◌≡◌, refl, sym, ap, subst, ◌∙◌}
use mathlib.Core.Bool.{Bool, true, false, cond, ◌||◌}
use mathlib.Core.List.{List, [], ◌∷◌}
use lib.Dec.{ltb}
use lib.ListN.{length, get_or, set, length-set}
use Rattle.laws.specs.Places.{up_to, up_to-none, up_to-next, up_to-all, up_to-turn}
use Rattle.file.specs.declared.Charges.{Charges}
use Rattle.file.specs.declared.File.{File}
use Rattle.file.specs.Admit.{no_file}
use Rattle.file.specs.Answer.{Answer, refused, days_opened, decide, accepted}
use Rattle.file.specs.Sound.{Sound}
use Rattle.file.specs.Fields.{shortfall_of, cover_of, with_charges}
use Rattle.file.specs.Position.{cover_on, cover_through}
use Rattle.file.specs.Opening.{opened_file}
use Rattle.file.specs.Charges.{changes_on, charged_for, charges_after}
use Rattle.file.proofs.AtOpening.{charges-fit}
use Rattle.file.proofs.Unchanged.{unchanged-opened}
use Rattle.manual.specs.Charge.{day_charge}
use Rattle.layout.specs.Book.{Book}
use Rattle.layout.specs.Files.{Put}
use Rattle.layout.specs.Parts.{written}
use Rattle.layout.specs.Words.{book_length, place, file_in_words, today_in, book_of_words, book_words}
use Rattle.layout.specs.WellFormed.{SoundBook, WellFormed}
use Rattle.layout.proofs.BookLaws.{book-long, book-file, put-book, put-length, today-book, canonical-put, canonical-today}
use Rattle.layout.proofs.PartLaws.{same-put, charges-put}
use Rattle.book.specs.Call.{advance}
use Rattle.book.specs.Rule.{new_rule}
use Rattle.book.specs.Account.{opened_if_admitted, open_day, open_days, answer, applied, step}
use Rattle.book.specs.InWords.{GivenWords}
use Rattle.book.specs.Opened.{Openable}
use Rattle.book.specs.Reached.{Given}
use Rattle.book.proofs.Participant.Decide.{decide_true, decide-false}
use Rattle.book.proofs.Functions.OnFile.{refused-left}
use Rattle.book.proofs.Functions.OnWords.{in_words, nothing_written, file-sound}
use Rattle.book.proofs.Functions.SoundBook.{day-sound}
use Rattle.book.proofs.History.Advances.{not-outside, days-fit, open_days-last, open_days-today}
use Rattle.book.proofs.History.Life.{given}

-- ---- one file at an opening

opened-yes : (d : ℕ) (f : File) → f.admitted ≡ true → opened_file f d ≡ opened_if_admitted d f
unfolding opened_if_admitted
opened-yes d f e = sym (ap (λ (t : Bool). cond t (opened_file f d) f) e)

opened-not : (d : ℕ) (f : File) → f.admitted ≡ false → f ≡ opened_if_admitted d f
unfolding opened_if_admitted
opened-not d f e = sym (ap (λ (t : Bool). cond t (opened_file f d) f) e)

module _ (l : List ℕ) (p : ℕ) (o : Openable l p) where
  pub openable-long : length l ≡ book_length
  openable-long = o.long

  pub openable-low : p ≤ 63
  openable-low = o.low

  pub openable-sound : Sound (today_in l) (file_in_words l p)
  openable-sound = o.sound

  module _ (d : ℕ) (next : d ≡ suc (today_in l)) where
    abbrev f : File
    f = file_in_words l p

    pub opens-sound : (g : File) → g ≡ f → Sound (d - 1) g × (1 ≤ d) × (d ≤ 29219)
    opens-sound g e =
        let before : d - 1 ≡ today_in l = omega arith in
        (rw (before, e) o.sound, omega arith, omega (arith, o.within))

    pub opens-within : d ≤ 29219
    opens-within = omega (arith, o.within)

    -- a participant that isn't admitted
    pub not-opened : f.admitted ≡ false → Put l (place p) (opened_if_admitted d f) l
    not-opened e = subst (λ (g : File). Put l (place p) g l) (opened-not d f e) (same-put l l p o.canonical o.long o.low refl)

    -- the file is put back
    pub file-put : (m : List ℕ) (at : ℕ) (g h : File) → f.admitted ≡ true → g ≡ f → h ≡ opened_file g d → at ≡ place p → Put l at h m
        → Put l (place p) (opened_if_admitted d f) m
    file-put m at g h e same opened here put =
        subst (λ (z : File). Put l (place p) z m) (opened ∙ ap (λ (z : File). opened_file z d) same ∙ opened-yes d f e) (rw here at put)

    -- its charges are
    pub charges-stored : (m : List ℕ) (at : ℕ) (c : Charges) → f.admitted ≡ true → changes_on d f ≡ false → c ≡ charges_after f d
        → at ≡ place p → m ≡ written l (at + 7) (c.charged ∷ c.accrued ∷ []) → Put l (place p) (opened_if_admitted d f) m
    charges-stored m at c e quiet is here put =
        subst (λ (z : File). Put l (place p) z m)
        (ap (with_charges f) is ∙ sym (unchanged-opened f (today_in l) d o.sound quiet) ∙ opened-yes d f e)
        (charges-put l m p o.canonical o.long o.low c (rw here at put))

-- the charges of a file of which the day changes nothing else
module _ (f : File) (d : ℕ) (charged accrued firm covered shortfall : ℕ) (charged-is : charged ≡ f.charged) (accrued-is : accrued ≡ f.accrued)
    (firm-is : firm ≡ f.firm) (covered-is : covered ≡ cover_through d d f.slots) (shortfall-is : shortfall ≡ firm - covered) where
  abbrev charges : Charges
  charges = record { charged = charged; accrued = accrued }

  pub charges-room : (t : ℕ) → Sound t f → (d ≡ suc t) × (d ≤ 29219) → (charged < 18446744073709551615) × (accrued + day_charge shortfall < 18446744073709551616)
  charges-room t s next =
      charges-fit f t charges shortfall s (omega (arith, next.0, next.1)) (λ i. record { charged = charged-is i; accrued = accrued-is i })
      (omega (arith, s.firm))

  pub charges-are : (after : Charges) → after ≡ charged_for charges shortfall → after ≡ charges_after f d
  unfolding charges_after shortfall_of cover_of cover_on
  charges-are after e = e ∙ rw (charged-is, accrued-is, shortfall-is, firm-is, covered-is) refl

pub ruleset files = (openable-long, openable-low, openable-sound, opens-sound, opens-within, not-opened, file-put, charges-stored)

-- ---- one pass over the files, on the day after today

-- In the words m the day after that of the words l was opened for the first i participants.
pub record Pass (i : ℕ) (l m : List ℕ) : Type 0 where
  pub few : i ≤ 64
  pub formed : WellFormed l
  pub within : suc (today_in l) ≤ 29219
  pub long : length m ≡ book_length
  pub canonical : m ≡ book_words (book_of_words m)
  pub stand : book_of_words m
      ≡ record {
        files = up_to (opened_if_admitted (suc (today_in l))) i (book_of_words l).files;
        today = (book_of_words l).today;
      }

pub pass-first : (l : List ℕ) → WellFormed l → today_in l + 1 ≤ 29219 → Pass 0 l l
pass-first l w h =
    record {
      few = omega arith;
      formed = w;
      within = omega arith;
      long = w.long;
      canonical = w.canonical;
      stand = λ i. record {
        files = sym (up_to-none (opened_if_admitted (suc (today_in l))) (book_of_words l).files) i;
        today = (book_of_words l).today;
      };
    }

module _ (i : ℕ) (l m : List ℕ) (s : Pass i l m) where
  -- today is as it was
  same-today : today_in m ≡ today_in l
  unfolding book_of_words
  same-today = ap (λ (b : Book). b.today.0) s.stand

  pub pass-day : (d : ℕ) → d ≡ today_in l + 1 → d ≡ suc (today_in m)
  pass-day d e = omega (arith, same-today)

  pub pass-numbered : i < 64 → i ≤ 63
  pass-numbered h = omega arith

  -- the next file is as it was
  same-file : i < 64 → file_in_words m i ≡ file_in_words l i
  same-file h =
      sym (book-file m i (omega arith))
      ∙ ap (λ (b : Book). get_or b.files i no_file) s.stand
      ∙ up_to-next (opened_if_admitted (suc (today_in l))) i (book_of_words l).files no_file
      ∙ book-file l i (omega arith)

  pub pass-openable : i < 64 → Openable m i
  pass-openable h =
      record {
        long = s.long;
        canonical = s.canonical;
        low = omega arith;
        within = omega (arith, same-today, s.within);
        sound = rw (same-today, same-file h) (file-sound l i s.formed (omega arith) (file_in_words l i) (today_in l) refl refl);
      }

  -- one more is opened
  pub pass-next : (n : List ℕ) (d : ℕ) → i < 64 → d ≡ today_in l + 1 → Put m (place i) (opened_if_admitted d (file_in_words m i)) n → Pass (i + 1) l n
  pass-next n d h next put =
      let g = opened_if_admitted (suc (today_in l)) in
      let e : d ≡ suc (today_in l) = omega arith in
      let f = opened_if_admitted d (file_in_words m i) in
      let low : i ≤ 63 = omega arith in
      record {
        few = omega arith;
        formed = s.formed;
        within = s.within;
        long = put-length m n i f low put ∙ s.long;
        canonical = canonical-put m n i f s.canonical low put;
        stand =
            put-book m n i f low put
            ∙ (λ j. record {
              files = up_to-turn g (book_of_words m).files (book_of_words l).files i 64 (file_in_words m i) f no_file (book-long l) h
                  (ap (λ (b : Book). b.files) s.stand) (sym (book-file m i low)) (ap (λ (k : ℕ). opened_if_admitted k (file_in_words m i)) e) j;
              today = (s.stand j).today;
            });
      }

  -- all are opened, and today is the next day
  pub pass-all : (d : ℕ) → 64 ≤ i → d ≡ today_in l + 1
      → (book_of_words (set m 1 d) ≡ open_day (book_of_words l)) × WellFormed (set m 1 d)
  unfolding open_day book_of_words
  pass-all d h next =
      let g = opened_if_admitted (suc (today_in l)) in
      let e : d ≡ suc (today_in l) = omega arith in
      let low : d ≤ 29219 = omega (arith, s.within) in
      let long : 2 ≤ length m = omega (arith, s.long) in
      let b = book_of_words l in
      let leads : book_of_words (set m 1 d) ≡ open_day b =
      today-book m d long low
      ∙ (λ j. record {
        files = (ap (λ (k : Book). k.files) s.stand ∙ up_to-all g i b.files (omega (arith, book-long l))) j;
        today = record { 0 = e j };
      }) in (
        leads,
        record {
          long = length-set m 1 d ∙ s.long;
          canonical = canonical-today m d s.canonical long low;
          sound = subst SoundBook (sym leads) (day-sound b (omega (arith, s.within)) s.formed.sound);
        },
      )

pub ruleset passes = (pass-first, pass-day, pass-numbered, pass-openable, pass-next, pass-all)

-- ---- the days in turn

-- Of so many days after that of the words l, `past` have been opened in the words m.
pub record Turn (days past : ℕ) (l m : List ℕ) : Type 0 where
  pub few : past ≤ days
  pub within : today_in l + days ≤ 29219
  pub formed : WellFormed m
  pub leads : book_of_words m ≡ open_days past (book_of_words l)

pub turn-first : (days : ℕ) (l : List ℕ) → WellFormed l → today_in l + days ≤ 29219 → Turn days 0 l l
unfolding open_days
turn-first days l w h = record { few = omega arith; within = h; formed = w; leads = refl }

module _ (days past : ℕ) (l m : List ℕ) (s : Turn days past l m) where
  -- there is a day after today
  pub turn-within : past < days → today_in m + 1 ≤ 29219
  unfolding book_of_words
  turn-within h =
      let today : today_in m ≡ today_in l + past = ap (λ (b : Book). b.today.0) s.leads ∙ open_days-today past (book_of_words l) in
      omega (arith, s.within)

  pub turn-formed : WellFormed m
  turn-formed = s.formed

  -- one more is opened
  pub turn-next : (n : List ℕ) → past < days → (book_of_words n ≡ open_day (book_of_words m)) × WellFormed n → Turn days (past + 1) l n
  turn-next n h opened =
      record {
        few = omega arith;
        within = s.within;
        formed = opened.1;
        leads =
            opened.0
            ∙ ap open_day s.leads
            ∙ sym (open_days-last past (book_of_words l))
            ∙ ap (λ (k : ℕ). open_days k (book_of_words l)) (sym (add-one past));
      }

  pub turn-all : days ≤ past → (book_of_words m ≡ open_days days (book_of_words l)) × WellFormed m
  turn-all h = let e : past ≡ days = omega (arith, s.few) in (s.leads ∙ ap (λ (k : ℕ). open_days k (book_of_words l)) e, s.formed)

pub ruleset turns = (turn-first, turn-within, turn-formed, turn-next, turn-all)

-- ---- an advance

-- A refused advance.
late-answer : (b : Book) (day budget : ℕ) → (ltb 29219 day || ltb day b.today.0) ≡ true
    → refused 17 ≡ answer new_rule b (advance day budget)
unfolding answer
late-answer b day budget e =
    sym (decide_true (record { number = 17; holds = ltb 29219 day || ltb day b.today.0 }) [] (days_opened (min budget (day - b.today.0))) e)

-- An accepted one.
opened-answer : (b : Book) (day budget : ℕ) → (ltb 29219 day || ltb day b.today.0) ≡ false
    → days_opened (min budget (day - b.today.0)) ≡ answer new_rule b (advance day budget)
unfolding answer decide
opened-answer b day budget e =
    sym (decide-false (record { number = 17; holds = ltb 29219 day || ltb day b.today.0 }) [] (days_opened (min budget (day - b.today.0))) e)

gave-days : (b : Book) (day budget n : ℕ) → (ltb 29219 day || ltb day b.today.0) ≡ false → n ≡ min budget (day - b.today.0)
    → Given b (advance day budget) (days_opened n) (open_days n b)
unfolding step applied
gave-days b day budget n h number =
    let e = opened-answer b day budget h in
    given b (advance day budget) (days_opened n) (open_days n b)
    (ap days_opened number ∙ e)
    (ap (λ (m : ℕ). open_days m b) number ∙ ap (λ (x : Answer). cond (accepted x) (open_days (min budget (day - b.today.0)) b) b) e)

module _ (l : List ℕ) (day budget t : ℕ) (outside : Bool) (w : WellFormed l) (now : t ≡ today_in l)
    (test : outside ≡ (ltb 29219 day || ltb day t)) where
  today-is : t ≡ (book_of_words l).today.0
  unfolding book_of_words
  today-is = now

  pub outside-given : outside ≡ true → GivenWords l (advance day budget) (refused 17) l
  outside-given h =
      let b = book_of_words l in
      let x = late-answer b day budget (rw (← today-is) (sym test ∙ h)) in
      nothing_written l (advance day budget) (refused 17) w
      (given b (advance day budget) (refused 17) b x (refused-left b (advance day budget) 17 x))

  module _ (h : outside ≡ false) where
    pub not-before : t ≤ day
    not-before = (not-outside day t (sym test ∙ h)).1

    pub days-within : (n : ℕ) → n ≡ min budget (day - t) → today_in l + n ≤ 29219
    days-within n e = rw (← now) (subst (λ (k : ℕ). t + k ≤ 29219) (sym e) (days-fit day t budget (sym test ∙ h)))

    pub days-given : (m : List ℕ) (n : ℕ) → n ≡ min budget (day - t) → (book_of_words m ≡ open_days n (book_of_words l)) × WellFormed m
        → GivenWords l (advance day budget) (days_opened n) m
    days-given m n number opened =
        let b = book_of_words l in
        in_words l m (advance day budget) (days_opened n) w
        (subst (Given b (advance day budget) (days_opened n)) (sym opened.0)
        (gave-days b day budget n (rw (← today-is) (sym test ∙ h)) (number ∙ ap (λ (k : ℕ). min budget (day - k)) today-is)))
        (opened.1.long ∙ sym w.long)
        opened.1.canonical

pub ruleset advances = (outside-given, not-before, days-within, days-given)
