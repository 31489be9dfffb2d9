-- In every history a participant's open calls rise, and exceed its firm amount but where a next amount overtook the call of its deletion: by the days
-- opened and its calls in turn.
-- Assumes nothing.
use Prim.Native.Nat.{ℕ, suc, ◌+◌, ◌≤◌, ◌<◌}
use mathlib.Core.Path.{◌≡◌, refl, sym, ap, subst, ◌∙◌}
use mathlib.Core.Bool.{Bool, true, false, cond, not, ◌&&◌}
use mathlib.Core.List.{List, [], ◌∷◌, ◌++◌}
use native.Mathlib.Omega.{arith}
use borrow.Author.Tests.{leb-true, le-leb, lt-leb, ltb-true, ltb-false, not-false}
use lib.Dec.{leb, ltb, eqb}
use lib.ListN.{length, length-append}
use lib.IntN.{ℤ, pos, nat_abs}
use lib.Signed.{lt_z}
use Rattle.laws.specs.Cases.{split, clash, and_left, and_right, or-second, by-test}
use Rattle.laws.specs.Integers.{above-less}
use Rattle.laws.specs.Lists.{All}
use Rattle.calendar.specs.Civil.{month_of, is_first_october, in_annual_days, in_deletion_months}
use Rattle.manual.specs.Minimum.{minimum_of}
use Rattle.manual.specs.Figures.{sum_of}
use Rattle.manual.specs.Check.{exceeds_tolerance, exceeds_each, call_is_made}
use Rattle.file.specs.declared.NextAmount.{NextAmount}
use Rattle.file.specs.declared.OpenCall.{OpenCall}
use Rattle.file.specs.Calls.{amounts_of, call_of, keep, stays_at}
use Rattle.file.specs.CallLaws.{keep_append, keep-length, keep_all}
use Rattle.file.specs.Fields.{unset}
use Rattle.file.specs.Settle.{check_due}
use Rattle.file.specs.DeletionLaws.{exceeds-largest}
use Rattle.book.specs.Call.{Act, admit, lodge, release, settle, annual_run, delete}
use Rattle.book.specs.Reading.Events.{Own, day_opened, act, admitted_in, leaving_in}
use Rattle.book.specs.Reading.Holdings.{deposited_in}
use Rattle.book.specs.Reading.Months.{deletion_in, next_in}
use Rattle.book.specs.Reading.Calls.{base_in, open_on, called_in, deletion_called, calls_in, firm_in, open_in}
use Rattle.book.specs.Reading.Decisions.{own_causes}
use Rattle.book.proofs.Participant.Lawful.{today_in, NoneHolds, Lawful}
use Rattle.book.proofs.Participant.Keep.{keep-ext, keep-keep}
use Rattle.book.proofs.Participant.Blank.{blank-firm, blank-open, blank-next}
use Rattle.book.proofs.Participant.Bases.{firm-raised}
use Rattle.book.proofs.Participant.Charges.{firm-settled, firm-deleted}
use Rattle.book.proofs.Participant.OpenCalls.{open-behind}
use Rattle.book.proofs.Participant.OpenCallsNextDay.{open_in-next}
use Rattle.book.proofs.Participant.Shortfalls.{newly-admitted}
use Rattle.figures.specs.DeletionLaws.{in_first_ten_of_october}
use Rattle.figures.proofs.Autumn.{NextOctober, next-october, ended-by-october, one-day-on, not-in-september}
use Rattle.figures.proofs.RisingCalls.{all-weaken, Standing, none_open, standing-same, standing-more, standing-day}

-- The calls whose last free day is day q or later.
abbrev outliving : ℕ → List OpenCall → List OpenCall
outliving q calls = keep (λ (c : OpenCall). leb q c.last.0) calls

-- While a next amount is set, on day t in September: no open call outlives the 30th, but for that of a deletion.
record Awaiting (t : ℕ) (leaving : Bool) (calls : List OpenCall) : Type 0 where
  october : NextOctober t
  outlive : length (outliving october.day calls) ≤ cond leaving 1 0

-- What holds of a participant's part of a history on its day t.
pub record Stands (t : ℕ) (own : List Own) : Type 0 where
  pub standing : Standing t (firm_in t own) (leaving_in own) (open_in t own)
  awaiting : (next_in own).set ≡ true → Awaiting t (leaving_in own) (open_in t own)

-- ---- a call made today

-- What exceeds the firm amount and every open call.
exceeds-all : (e : ℤ) (l : List OpenCall) → exceeds_each e (amounts_of l) ≡ true → All (λ (c : OpenCall). c.amount < nat_abs e) l
unfolding exceeds_each
exceeds-all e [] h = tt
exceeds-all e (c ∷ l) h = (
  above-less c.amount e (and_left (lt_z (pos c.amount) e) _ h),
  exceeds-all e l (and_right (lt_z (pos c.amount) e) _ h),
)

-- The calls open today after a call of an amount that exceeds both, if it is made, which leaves the firm amount as it was.
module _ (t firm : ℕ) (old new : Bool) (made : List OpenCall) (st : Standing t firm old (open_on t made)) (kept : old ≡ true → new ≡ true) where
  behind : (b : Bool) (e : ℤ) → (b ≡ true → exceeds_each e (firm ∷ amounts_of (open_on t made)) ≡ true) → (now : ℕ) → now ≡ firm
      → Standing t now new (open_on t (made ++ cond b (call_of (nat_abs e) (t + 10) ∷ []) []))
  unfolding exceeds_each
  behind b e above now same =
      rw (same, open-behind t made b (nat_abs e) (t + 10) (omega arith))
      (by-test b (open_on t made ++ (call_of (nat_abs e) (t + 10) ∷ [])) (open_on t made) (Standing t firm new)
      (λ yes.
      let h = above yes in
      standing-more t firm (nat_abs e) old new (open_on t made) st kept (above-less firm e (and_left (lt_z (pos firm) e) _ h))
      (exceeds-all e (open_on t made) (and_right (lt_z (pos firm) e) _ h)))
      (λ no. standing-same t firm (nat_abs e) old new (open_on t made) st kept))

-- An admission: nothing was open, and the firm amount is 0.
module _ (s : ℕ) (own : List Own) (lw : Lawful s own) (role : ℕ) (none : NoneHolds (own_causes (today_in s own) own (admit role))) where
  out : admitted_in own ≡ false
  unfolding own_causes
  out = none.0

  admit-firm : firm_in (today_in s own) (act (today_in s own) (admit role) ∷ own) ≡ firm_in (today_in s own) own
  admit-firm = newly-admitted s role own lw out ∙ sym (blank-firm s own lw out (today_in s own))

  -- A minimum above 0 exceeds the firm amount, and there is no open call.
  minimum-exceeds : ltb 0 (minimum_of role) ≡ true
      → exceeds_each (pos (minimum_of role)) (firm_in (today_in s own) own ∷ amounts_of (open_in (today_in s own) own)) ≡ true
  unfolding exceeds_each
  minimum-exceeds h = rw (blank-firm s own lw out (today_in s own), blank-open s own lw out (today_in s own), h)

  admit-stands : Stands (today_in s own) own → Stands (today_in s own) (act (today_in s own) (admit role) ∷ own)
  unfolding open_in calls_in leaving_in next_in
  admit-stands st =
      record {
        standing =
            behind (today_in s own) (firm_in (today_in s own) own) (leaving_in own) (leaving_in own) (calls_in own) st.standing (λ h. h)
            (ltb 0 (minimum_of role)) (pos (minimum_of role)) minimum-exceeds _ admit-firm;
        awaiting = λ h. clash h (ap (λ (n : NextAmount). n.set) (blank-next s own lw out));
      }

-- A settlement: no check is due while a next amount is set, since that is in September.
module _ (t m : ℕ) (figures : List ℤ) (own : List Own) (st : Stands t own) where
  settlement-exceeds : called_in t m figures own (calls_in own) ≡ true
      → exceeds_each (sum_of figures) (firm_in t own ∷ amounts_of (open_in t own)) ≡ true
  unfolding called_in call_is_made firm_in open_in
  settlement-exceeds h =
      and_right (exceeds_tolerance (sum_of figures) (deposited_in t own)) _ (and_right (check_due (month_of t) m) _ h)

  none-due : Awaiting t (leaving_in own) (open_in t own) → called_in t m figures own (calls_in own) ≡ false
  unfolding called_in check_due
  none-due w =
      let september = w.october.september t (omega arith) w.october.later in
      rw september (split (eqb (m + 2) (month_of t)) (λ e. rw e refl) (λ e. rw e refl))

  settle-awaiting : (next_in own).set ≡ true → Awaiting t (leaving_in own) (open_in t (act t (settle m figures) ∷ own))
  unfolding open_in calls_in
  settle-awaiting h =
      let w = st.awaiting h in
      subst (Awaiting t (leaving_in own))
      (sym
      (open-behind t (calls_in own) (called_in t m figures own (calls_in own)) (nat_abs (sum_of figures)) (t + 10) (omega arith)
      ∙ ap (λ (b : Bool). cond b (open_in t own ++ (call_of (nat_abs (sum_of figures)) (t + 10) ∷ [])) (open_in t own)) (none-due w)))
      w

  settle-stands : Stands t (act t (settle m figures) ∷ own)
  unfolding open_in calls_in leaving_in next_in
  settle-stands =
      record {
        standing =
            behind t (firm_in t own) (leaving_in own) (leaving_in own) (calls_in own) st.standing (λ h. h)
            (called_in t m figures own (calls_in own)) (sum_of figures) settlement-exceeds _ (firm-settled t t m figures own (omega arith));
        awaiting = settle-awaiting;
      }

-- A deletion: its participant wasn't under deletion yet, so that its call is the only one that outlives September.
module _ (t : ℕ) (own : List Own) (st : Stands t own) (none : NoneHolds (own_causes t own delete)) where
  deletion-exceeds : deletion_called t own (calls_in own) ≡ true
      → exceeds_each (pos (deletion_in t own)) (firm_in t own ∷ amounts_of (open_in t own)) ≡ true
  unfolding deletion_called firm_in open_in
  deletion-exceeds h = exceeds-largest (deletion_in t own) (firm_in t own) (amounts_of (open_in t own)) ∙ h

  one_more : (q : ℕ) (b : Bool) (c : OpenCall) → length (outliving q (open_in t own)) ≤ 0
      → length (outliving q (cond b (open_in t own ++ (c ∷ [])) (open_in t own))) ≤ 1
  one_more q true c h =
      omega (
        arith,
        ap length (keep_append (λ (x : OpenCall). leb q x.last.0) (open_in t own) (c ∷ [])),
        length-append (outliving q (open_in t own)) (outliving q (c ∷ [])),
        keep-length (λ (x : OpenCall). leb q x.last.0) (c ∷ []),
        h,
      )
  one_more q false c h = omega (arith, h)

  delete-awaiting : (next_in own).set ≡ true → Awaiting t true (open_in t (act t delete ∷ own))
  unfolding open_in calls_in own_causes
  delete-awaiting h =
      let w = st.awaiting h in
      let b = deletion_called t own (calls_in own) in
      let c : OpenCall = call_of (deletion_in t own) (t + 10) in
      let alone : leaving_in own ≡ false = or-second (not (in_deletion_months t)) (leaving_in own) none.1.0 in
      subst (Awaiting t true) (sym (open-behind t (calls_in own) b (deletion_in t own) (t + 10) (omega arith)))
      (record {
        october = w.october;
        outlive = one_more w.october.day b c (subst (λ (l : Bool). length (outliving w.october.day (open_in t own)) ≤ cond l 1 0) alone w.outlive);
      })

  delete-stands : Stands t (act t delete ∷ own)
  unfolding open_in calls_in leaving_in next_in
  delete-stands =
      record {
        standing =
            behind t (firm_in t own) (leaving_in own) true (calls_in own) st.standing (λ h. refl)
            (deletion_called t own (calls_in own)) (pos (deletion_in t own)) deletion-exceeds _ (firm-deleted t t own (omega arith));
        awaiting = delete-awaiting;
      }

-- An annual run, on 1 to 10 September: every open call ends by the 20th.
none-outlive : (k q : ℕ) (l : List OpenCall) → All (λ (c : OpenCall). c.last.0 ≤ k) l → k < q → length (outliving q l) ≤ 0
unfolding keep
none-outlive k q [] a h = omega arith
none-outlive k q (c ∷ l) a h = rw (lt-leb q c.last.0 (omega (arith, a.0, h))) (none-outlive k q l a.1 h)

module _ (t : ℕ) (own : List Own) (st : Stands t own) (none : NoneHolds (own_causes t own annual_run)) where
  annual-awaiting : Awaiting t (leaving_in own) (open_in t own)
  unfolding own_causes
  annual-awaiting =
      let h : in_annual_days t ≡ true = not-false (in_annual_days t) none.1.0 in
      record {
        october = next-october t h;
        outlive =
            omega (
              arith,
              none-outlive (t + 10) (next-october t h).day (open_in t own) (all-weaken _ _ (open_in t own) (λ c p. p.1) st.standing.days)
                  (ended-by-october t h),
            );
      }

  annual-stands : Stands t (act t annual_run ∷ own)
  unfolding firm_in base_in open_in calls_in leaving_in next_in
  annual-stands = record { standing = st.standing; awaiting = λ h. annual-awaiting }

-- Any accepted call.
act-stands : (s : ℕ) (own : List Own) (a : Act) → Lawful s own → NoneHolds (own_causes (today_in s own) own a) → Stands (today_in s own) own
    → Stands (today_in s own) (act (today_in s own) a ∷ own)
act-stands s own (admit role) lw none st = admit-stands s own lw role none st
act-stands s own (lodge k h) lw none st =
    unfold firm_in base_in open_in calls_in leaving_in next_in in record { standing = st.standing; awaiting = st.awaiting }
act-stands s own (release k a) lw none st =
    unfold firm_in base_in open_in calls_in leaving_in next_in in record { standing = st.standing; awaiting = st.awaiting }
act-stands s own (settle m figures) lw none st = settle-stands (today_in s own) m figures own st
act-stands s own annual_run lw none st = annual-stands (today_in s own) own st none
act-stands s own delete lw none st = delete-stands (today_in s own) own st none

-- ---- the next day opened

-- Calls that pass a test pass it, and no more of some pass another than of all.
keep-passed : (test : OpenCall → Bool) (l : List OpenCall) → All (λ (c : OpenCall). test c ≡ true) (keep test l)
unfolding keep
keep-passed test [] = tt
keep-passed test (c ∷ l) = split (test c) (λ e. rw e (e, keep-passed test l)) (λ e. rw e (keep-passed test l))

keep-fewer : (p q : OpenCall → Bool) (l : List OpenCall) → length (keep p (keep q l)) ≤ length (keep p l)
unfolding keep
keep-fewer p q [] = omega arith
keep-fewer p q (c ∷ l) =
    let h = keep-fewer p q l in
    split (q c)
    (λ e. rw e (split (p c) (λ f. rw f (omega (arith, h))) (λ f. rw f h)))
    (λ e. rw e (split (p c) (λ f. rw f (omega (arith, h))) (λ f. rw f h)))

-- On a 1 October at most one call is open, that of a deletion.
module _ (t firm : ℕ) (ten : (d : ℕ) → suc t ≤ d → d ≤ suc t + 9 → in_first_ten_of_october d ≡ true) where
  few : (leaving : Bool) (l : List OpenCall) → length l ≤ cond leaving 1 0
      → All (λ (c : OpenCall). (suc t ≤ c.last.0) × (c.last.0 ≤ t + 10)) l → Standing (suc t) firm leaving l
  few leaving [] h a = none_open (suc t) firm leaving
  few true (c ∷ []) h a =
      record {
        days = ((a.0.0, omega (arith, a.0.1)), tt);
        rising = (tt, tt);
        others = tt;
        each = ((λ le. (refl, λ d from to. ten d from (omega (arith, to, a.0.1)))), tt);
      }
  few true (c ∷ x ∷ l) h a = absurd (omega (arith, h))
  few false (c ∷ l) h a = absurd (omega (arith, h))

module _ (s : ℕ) (own : List Own) (lw : Lawful s own) (st : Stands (today_in s own) own) where
  abbrev today : ℕ
  today = today_in s own

  -- Where a next amount takes effect on it.
  module _ (e : (is_first_october (suc today) && (next_in own).set) ≡ true) where
    first : is_first_october (suc today) ≡ true
    first = and_left _ _ e

    waited : Awaiting today (leaving_in own) (open_in today own)
    waited = st.awaiting (and_right (is_first_october (suc today)) _ e)

    this-day : waited.october.day ≡ suc today
    this-day =
        split (ltb (suc today) waited.october.day)
        (λ l. absurd
        (not-in-september (suc today) first (waited.october.september (suc today) (omega arith) (ltb-true (suc today) waited.october.day l))))
        (λ l. omega (arith, ltb-false (suc today) waited.october.day l, waited.october.later))

    still_open : open_in (suc today) (day_opened (suc today) ∷ own) ≡ outliving (suc today) (open_in today own)
    unfolding open_in open_on calls_in
    still_open =
        keep-ext (λ c. leb (suc today) c.last.0) (λ c. leb today c.last.0 && leb (suc today) c.last.0) (calls_in own)
        (λ c. both c.last.0)
        ∙ sym (keep-keep (λ c. leb (suc today) c.last.0) (λ c. leb today c.last.0) (calls_in own))
      where
        both : (l : ℕ) → leb (suc today) l ≡ (leb today l && leb (suc today) l)
        both l =
            split (leb (suc today) l) (λ h. rw (h, le-leb today l (omega (arith, leb-true (suc today) l h))))
            (λ h. rw h (split (leb today l) (λ k. rw k) (λ k. rw k)))

    those : All (λ (c : OpenCall). (suc today ≤ c.last.0) × (c.last.0 ≤ today + 10)) (outliving (suc today) (open_in today own))
    those =
        both (outliving (suc today) (open_in today own)) (keep-passed (λ (c : OpenCall). leb (suc today) c.last.0) (open_in today own))
        (keep_all (λ (c : OpenCall). leb (suc today) c.last.0) _ (open_in today own) st.standing.days)
      where
        both : (l : List OpenCall) → All (λ (c : OpenCall). leb (suc today) c.last.0 ≡ true) l
            → All (λ (c : OpenCall). (today ≤ c.last.0) × (c.last.0 ≤ today + 10)) l
            → All (λ (c : OpenCall). (suc today ≤ c.last.0) × (c.last.0 ≤ today + 10)) l
        both [] x y = tt
        both (c ∷ l) x y = ((leb-true (suc today) c.last.0 x.0, y.0.1), both l x.1 y.1)

    effect-stands : Stands (suc today) (day_opened (suc today) ∷ own)
    unfolding leaving_in next_in
    effect-stands =
        record {
          standing =
              subst (Standing (suc today) _ (leaving_in own)) (sym still_open)
              (few today _
              (λ d from to. waited.october.ten d (omega (arith, this-day, from)) (omega (arith, this-day, to)))
              (leaving_in own) (outliving (suc today) (open_in today own))
              (subst (λ (q : ℕ). length (outliving q (open_in today own)) ≤ cond (leaving_in own) 1 0) this-day waited.outlive)
              those);
          awaiting = λ h. clash h (ap (λ (b : Bool). (cond b unset (next_in own)).set) first);
        }

  -- Where none does.
  module _ (e : (is_first_october (suc today) && (next_in own).set) ≡ false) where
    plain-standing : Standing (suc today) (firm_in (suc today) (day_opened (suc today) ∷ own)) (leaving_in own)
        (open_in (suc today) (day_opened (suc today) ∷ own))
    plain-standing =
        rw (firm-raised s own lw e, open_in-next today own) (standing-day today (firm_in today own) (leaving_in own) (open_in today own) st.standing)

    plain-awaiting : (next_in (day_opened (suc today) ∷ own)).set ≡ true
        → Awaiting (suc today) (leaving_in own) (open_in (suc today) (day_opened (suc today) ∷ own))
    unfolding next_in
    plain-awaiting h =
        split (is_first_october (suc today))
        (λ yes. clash h (ap (λ (b : Bool). (cond b unset (next_in own)).set) yes))
        (λ no.
        let w = st.awaiting (sym (ap (λ (b : Bool). (cond b unset (next_in own)).set) no) ∙ h) in
        rw (open_in-next today own)
        (record {
          october = one-day-on today w.october no;
          outlive =
              omega (arith, w.outlive, keep-fewer (λ (c : OpenCall). leb w.october.day c.last.0) (stays_at (suc today)) (open_in today own));
        }))

    plain-stands : Stands (suc today) (day_opened (suc today) ∷ own)
    unfolding leaving_in
    plain-stands = record { standing = plain-standing; awaiting = plain-awaiting }

  day-stands : Stands (suc today) (day_opened (suc today) ∷ own)
  day-stands = split (is_first_october (suc today) && (next_in own).set) effect-stands plain-stands

-- Every participant's part of a history.
pub stands : (s : ℕ) (own : List Own) → Lawful s own → Stands (today_in s own) own
unfolding today_in
stands s [] lw =
    record {
      standing = unfold open_in open_on calls_in keep in none_open s (firm_in s []) (leaving_in []);
      awaiting = λ h. clash h (unfold next_in in refl);
    }
stands s (day_opened d ∷ own) lw = rw lw.0 (day-stands s own lw.2 (stands s own lw.2))
stands s (act d a ∷ own) lw =
    let none = subst (λ (t : ℕ). NoneHolds (own_causes t own a)) lw.0 lw.1 in
    subst (λ (t : ℕ). Stands (today_in s own) (act t a ∷ own)) (sym lw.0) (act-stands s own a lw.2 none (stands s own lw.2))
