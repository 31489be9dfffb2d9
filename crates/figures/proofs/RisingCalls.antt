-- Open calls that rise, and how they stand to the firm amount, when a call is added and when a day is opened.
-- Assumes nothing.
use Prim.Native.Nat.{ℕ, suc, ◌+◌, ◌≤◌, ◌<◌, max}
use mathlib.Core.Path.{◌≡◌, refl, sym, ap, subst}
use mathlib.Core.Bool.{Bool, true, false, ◌&&◌}
use mathlib.Core.List.{List, [], ◌∷◌, ◌++◌}
use native.Mathlib.Omega.{arith}
use lib.Dec.{leb}
use lib.ListN.{drop}
use borrow.Author.Tests.{leb-true, leb-false, eqb-false, ne_eqb}
use Rattle.laws.specs.Cases.{split, clash, and_both}
use Rattle.laws.specs.Lists.{All, all_append}
use Rattle.file.specs.declared.OpenCall.{OpenCall}
use Rattle.file.specs.Calls.{largest, amounts_of, call_of, keep, ends_at, stays_at}
use Rattle.file.specs.CallLaws.{keep_all}
use Rattle.book.proofs.Participant.Keep.{largest-max}
use Rattle.figures.specs.DeletionLaws.{in_first_ten_of_october, Rising, AllAbove}

-- What holds of each element, weakened.
pub all-weaken : {A : Type 0} (P Q : A → Type 0) (l : List A) → ((x : A) → P x → Q x) → All P l → All Q l
all-weaken P Q [] f a = tt
all-weaken P Q (x ∷ l) f a = (f x a.0, all-weaken P Q l f a.1)

-- .. and of each but the first.
but_first : (a : ℕ) (l : List OpenCall) → AllAbove a l → AllAbove a (drop 1 l)
but_first a [] h = tt
but_first a (c ∷ l) h = h.1

-- Calls that pass a test rise as all do, and so do calls with one behind them that is above each and ends no earlier.
rising-keep : (test : OpenCall → Bool) (l : List OpenCall) → Rising l → Rising (keep test l)
unfolding keep
rising-keep test [] r = tt
rising-keep test (c ∷ l) r =
    split (test c) (λ e. rw e (keep_all test _ l r.0, rising-keep test l r.1)) (λ e. rw e (rising-keep test l r.1))

rising-more : (l : List OpenCall) (c : OpenCall) → Rising l
    → All (λ (x : OpenCall). (x.amount < c.amount) × (x.last.0 ≤ c.last.0)) l → Rising (l ++ (c ∷ []))
rising-more [] c r a = (tt, tt)
rising-more (x ∷ l) c r a = (all_append _ l (c ∷ []) r.0 (a.0, tt), rising-more l c r.1 a.1)

-- An open call on day t at or below the firm amount: a participant's under deletion, on 1 to 10 October.
abbrev Overtaken : ℕ → Bool → OpenCall → Type 0
Overtaken t leaving c = (leaving ≡ true) × ((d : ℕ) → t ≤ d → d ≤ c.last.0 → in_first_ten_of_october d ≡ true)

-- How the calls open on day t stand to the firm amount.
pub record Standing (t firm : ℕ) (leaving : Bool) (calls : List OpenCall) : Type 0 where
  pub days : All (λ (c : OpenCall). (t ≤ c.last.0) × (c.last.0 ≤ t + 10)) calls
  pub rising : Rising calls
  pub others : AllAbove firm (drop 1 calls)
  pub each : All (λ (c : OpenCall). c.amount ≤ firm → Overtaken t leaving c) calls

-- None is open.
pub none_open : (t firm : ℕ) (leaving : Bool) → Standing t firm leaving []
none_open t firm leaving = record { days = tt; rising = tt; others = tt; each = tt }

-- A call is made today, above the firm amount and every open call.
module _ (t firm a : ℕ) (old new : Bool) (calls : List OpenCall) (st : Standing t firm old calls) (kept : old ≡ true → new ≡ true) where
  pub standing-same : Standing t firm new calls
  standing-same =
      record {
        days = st.days;
        rising = st.rising;
        others = st.others;
        each = all-weaken _ _ calls (λ c f le. (kept (f le).0, (f le).1)) st.each;
      }

  module _ (above : firm < a) (each-above : All (λ (c : OpenCall). c.amount < a) calls) where
    behind : All (λ (c : OpenCall). (c.amount < a) × (c.last.0 ≤ t + 10)) calls
    behind = zip calls each-above st.days
      where
        zip : (l : List OpenCall) → All (λ (c : OpenCall). c.amount < a) l
            → All (λ (c : OpenCall). (t ≤ c.last.0) × (c.last.0 ≤ t + 10)) l
            → All (λ (c : OpenCall). (c.amount < a) × (c.last.0 ≤ t + 10)) l
        zip [] x y = tt
        zip (c ∷ l) x y = ((x.0, y.0.1), zip l x.1 y.1)

    rest-above : (l : List OpenCall) → AllAbove firm (drop 1 l) → AllAbove firm (drop 1 (l ++ (call_of a (t + 10) ∷ [])))
    rest-above [] x = tt
    rest-above (c ∷ l) x = all_append _ l (call_of a (t + 10) ∷ []) x (above, tt)

    pub standing-more : Standing t firm new (calls ++ (call_of a (t + 10) ∷ []))
    standing-more =
        record {
          days = all_append _ calls (call_of a (t + 10) ∷ []) st.days ((omega arith, omega arith), tt);
          rising = rising-more calls (call_of a (t + 10)) st.rising behind;
          others = rest-above calls st.others;
          each =
              all_append _ calls (call_of a (t + 10) ∷ []) standing-same.each
              ((λ le. absurd (omega (arith, above, le))), tt);
        }

-- The next day is opened. A call that is open today ends where its last free day is today.
stays-later : (t : ℕ) (c : OpenCall) → t ≤ c.last.0 → ends_at (suc t) c ≡ false → suc t ≤ c.last.0
stays-later t c h e = omega (arith, eqb-false (suc c.last.0) (suc t) e)

later-stays : (t : ℕ) (c : OpenCall) → suc t ≤ c.last.0 → ends_at (suc t) c ≡ false
later-stays t c h = ne_eqb (suc c.last.0) (suc t) (λ e. omega (arith, e))

-- Where the oldest stays all stay.
module _ (t : ℕ) where
  all_stay : (l : List OpenCall) → All (λ (x : OpenCall). suc t ≤ x.last.0) l → keep (stays_at (suc t)) l ≡ l
  unfolding keep
  all_stay [] a = refl
  all_stay (c ∷ l) a = rw (later-stays t c a.0) (ap (λ (k : List OpenCall). c ∷ k) (all_stay l a.1))

  none-ends : (l : List OpenCall) → All (λ (x : OpenCall). suc t ≤ x.last.0) l → keep (ends_at (suc t)) l ≡ []
  unfolding keep
  none-ends [] a = refl
  none-ends (c ∷ l) a = rw (later-stays t c a.0) (none-ends l a.1)

  from_first : (c : OpenCall) (l : List OpenCall) → suc t ≤ c.last.0 → Rising (c ∷ l) → All (λ (x : OpenCall). suc t ≤ x.last.0) (c ∷ l)
  from_first c l h r = (h, all-weaken _ _ l (λ x p. omega (arith, h, p.1)) r.0)

  -- Of calls that all exceed an amount, those that stay exceed the largest of it and of those that end.
  abbrev raised_by : ℕ → List OpenCall → ℕ
  raised_by firm l = largest firm (amounts_of (keep (ends_at (suc t)) l))

  -- Where all stay, nothing is raised: what holds of the amount and the calls holds of those after the opening.
  where-all-stay : (firm : ℕ) (l : List OpenCall) → All (λ (x : OpenCall). suc t ≤ x.last.0) l → (P : ℕ → List OpenCall → Type 0) → P firm l
      → P (raised_by firm l) (keep (stays_at (suc t)) l)
  unfolding largest
  where-all-stay firm l on P x =
      let raised : raised_by firm l ≡ firm = ap (λ (k : List OpenCall). largest firm (amounts_of k)) (none-ends l on) in
      subst (λ (k : List OpenCall). P (raised_by firm l) k) (sym (all_stay l on)) (subst (λ (n : ℕ). P n l) (sym raised) x)

  -- Calls that exceed an amount and a call before them exceed the larger of both.
  higher : (firm : ℕ) (c : OpenCall) (l : List OpenCall)
      → All (λ (x : OpenCall). (c.amount < x.amount) × (c.last.0 ≤ x.last.0)) l → AllAbove firm l → AllAbove (max c.amount firm) l
  higher firm c [] x y = tt
  higher firm c (z ∷ l) x y = (omega (arith, x.0.0, y.0), higher firm c l x.1 y.1)

  stay-above : (firm : ℕ) (l : List OpenCall) → All (λ (c : OpenCall). (t ≤ c.last.0) × (c.last.0 ≤ t + 10)) l → Rising l → AllAbove firm l
      → AllAbove (raised_by firm l) (keep (stays_at (suc t)) l)
  unfolding keep largest
  stay-above firm [] o r a = tt
  stay-above firm (c ∷ l) o r a =
      split (ends_at (suc t) c)
      (λ e. rw (e, sym (largest-max firm c.amount (amounts_of (keep (ends_at (suc t)) l))))
      (stay-above (max c.amount firm) l o.1 r.1 (higher firm c l r.0 a.1)))
      (λ e.
      let on = from_first c l (stays-later t c o.0.0 e) r in
      where-all-stay firm (c ∷ l) on (λ n k. AllAbove n k) a)

  -- The calls that stay are open on the next day.
  days-stay : (l : List OpenCall) → All (λ (c : OpenCall). (t ≤ c.last.0) × (c.last.0 ≤ t + 10)) l
      → All (λ (c : OpenCall). (suc t ≤ c.last.0) × (c.last.0 ≤ suc t + 10)) (keep (stays_at (suc t)) l)
  unfolding keep
  days-stay [] o = tt
  days-stay (c ∷ l) o =
      split (ends_at (suc t) c) (λ e. rw e (days-stay l o.1))
      (λ e. rw e ((stays-later t c o.0.0 e, omega (arith, o.0.1)), days-stay l o.1))

  module _ (firm : ℕ) (leaving : Bool) where
    -- How those that stay stand to the firm amount that those that end have raised: where the oldest ends all others exceed it, and where it stays
    -- nothing changed.
    others-day : (l : List OpenCall) → Standing t firm leaving l → AllAbove (raised_by firm l) (drop 1 (keep (stays_at (suc t)) l))
    unfolding keep largest
    others-day [] st = tt
    others-day (c ∷ l) st =
        split (ends_at (suc t) c)
        (λ e. rw (e, sym (largest-max firm c.amount (amounts_of (keep (ends_at (suc t)) l))))
        (but_first (raised_by (max c.amount firm) l) (keep (stays_at (suc t)) l)
        (stay-above (max c.amount firm) l st.days.1 st.rising.1 (higher firm c l st.rising.0 st.others))))
        (λ e.
        let on = from_first c l (stays-later t c st.days.0.0 e) st.rising in
        where-all-stay firm (c ∷ l) on (λ n k. AllAbove n (drop 1 k)) st.others)

    each-day : (l : List OpenCall) → Standing t firm leaving l
        → All (λ (c : OpenCall). c.amount ≤ raised_by firm l → Overtaken (suc t) leaving c) (keep (stays_at (suc t)) l)
    unfolding keep largest
    each-day [] st = tt
    each-day (c ∷ l) st =
        split (ends_at (suc t) c)
        (λ e. rw (e, sym (largest-max firm c.amount (amounts_of (keep (ends_at (suc t)) l))))
        (all-weaken _ _ (keep (stays_at (suc t)) l) (λ x above le. absurd (omega (arith, above, le)))
        (stay-above (max c.amount firm) l st.days.1 st.rising.1 (higher firm c l st.rising.0 st.others))))
        (λ e.
        let on = from_first c l (stays-later t c st.days.0.0 e) st.rising in
        where-all-stay firm (c ∷ l) on (λ n k. All (λ (x : OpenCall). x.amount ≤ n → Overtaken (suc t) leaving x) k)
        (all-weaken _ _ (c ∷ l) (λ x f le. ((f le).0, λ d h. (f le).1 d (omega (arith, h)))) st.each))

    pub standing-day : (l : List OpenCall) → Standing t firm leaving l
        → Standing (suc t) (raised_by firm l) leaving (keep (stays_at (suc t)) l)
    standing-day l st =
        record {
          days = days-stay l st.days;
          rising = rising-keep (stays_at (suc t)) l st.rising;
          others = others-day l st;
          each = each-day l st;
        }

-- All exceed the firm amount, but under deletion and on 1 to 10 October.
pub standing-above : (t firm : ℕ) (leaving : Bool) (calls : List OpenCall) → Standing t firm leaving calls
    → (leaving && in_first_ten_of_october t) ≡ false → AllAbove firm calls
standing-above t firm leaving calls st e = each calls st.days st.each
  where
    each : (l : List OpenCall) → All (λ (c : OpenCall). (t ≤ c.last.0) × (c.last.0 ≤ t + 10)) l
        → All (λ (c : OpenCall). c.amount ≤ firm → Overtaken t leaving c) l → AllAbove firm l
    each [] x y = tt
    each (c ∷ l) x y = (
      split (leb c.amount firm)
          (λ h.
          let overtaken = y.0 (leb-true c.amount firm h) in
          clash (and_both _ _ overtaken.0 (overtaken.1 t (omega arith) x.0.0)) e)
          (λ h. leb-false c.amount firm h),
      each l x.1 y.1,
    )
