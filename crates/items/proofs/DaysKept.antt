-- What a call and an opened day do to a participant's items: a call leaves them, and an opened day joins them where it charged.
-- Assumes nothing.
use Prim.Native.Nat.{ℕ, ◌-◌, ◌≤◌, ◌<◌}
use native.Mathlib.Omega.{arith}
use mathlib.Core.Path.{◌≡◌, refl, sym, ap, ap₂, ◌∙◌}
use mathlib.Core.Bool.{Bool, true, false, cond, not, ◌&&◌}
use mathlib.Core.List.{List, [], ◌∷◌}
use lib.Dec.{eqb}
use borrow.Author.Tests.{eq-eqb, ne_eqb}
use Rattle.laws.specs.Cases.{by-test, split, clash, cond-true, cond-false}
use Rattle.laws.specs.Lists.{All}
use Rattle.laws.specs.Prefixes.{all_weaker}
use Rattle.file.specs.Fields.{cover_of, shortfall_of}
use Rattle.book.specs.Call.{Act, admit, lodge, release, settle, annual_run, delete}
use Rattle.book.specs.Reading.Events.{Own, day_opened, act, admitted_in}
use Rattle.book.specs.Reading.Holdings.{lodged_where, released_where, cover_in}
use Rattle.book.specs.Reading.Calls.{base_in, calls_in, firm_in}
use Rattle.book.specs.Reading.Charges.{before, opening_shortfall, days_since}
use Rattle.book.specs.Reading.Decisions.{own_causes}
use Rattle.book.specs.Kept.{file_in}
use Rattle.book.proofs.Participant.Lawful.{today_in, NoneHolds, Lawful}
use Rattle.book.proofs.Participant.Bases.{next_day, with_next_day, firm-before}
use Rattle.book.proofs.Participant.Charges.{days-past, days-none, firm-settled, firm-deleted}
use Rattle.book.proofs.Participant.Statements.{cover-of-file}
use Rattle.items.specs.declared.Charged.{Charged}
use Rattle.items.specs.Items.{Descending, day_in, charged_among, charged_days, with_charged, items_of, items_in}
use Rattle.items.specs.ByBook.{day_by, charged_by, with_day}

-- Two histories with the same figures on day d.
record SameOn (a b : List Own) (d : ℕ) : Type 0 where
  firm : firm_in d a ≡ firm_in d b
  cover : cover_in d (before d a) ≡ cover_in d (before d b)

same-day : (d : ℕ) (a b : List Own) → SameOn a b d → day_in d a ≡ day_in d b
unfolding day_in
same-day d a b e = λ i. record { day = record { 0 = d }; firm = e.firm i; cover = e.cover i }

same-shortfall : (d : ℕ) (a b : List Own) → SameOn a b d → opening_shortfall d a ≡ opening_shortfall d b
unfolding opening_shortfall
same-shortfall d a b e = ap₂ ◌-◌ e.firm e.cover

-- The same charged days of those on which they agree.
charged-same : (days : List ℕ) (a b : List Own) → All (SameOn a b) days → charged_among days a ≡ charged_among days b
unfolding charged_among
charged-same [] a b h = refl
charged-same (d ∷ days) a b h =
    λ i.
    cond (eqb (same-shortfall d a b h.0 i) 0) (charged-same days a b h.1 i) (same-day d a b h.0 i ∷ charged-same days a b h.1 i)

-- ---- each charged day once

-- What holds of days holds of those of them that were charged.
among-all : (P : ℕ → Type 0) (days : List ℕ) (own : List Own) → All P days → All (λ (c : Charged). P c.day.0) (charged_among days own)
unfolding charged_among day_in
among-all P [] own h = tt
among-all P (d ∷ days) own h =
    by-test (eqb (opening_shortfall d own) 0) (charged_among days own) (day_in d own ∷ charged_among days own) (All (λ (c : Charged). P c.day.0))
    (λ e. among-all P days own h.1)
    (λ e. (h.0, among-all P days own h.1))

-- Days of which each is before those in front of it.
abbrev Falling : List ℕ → Type 0
Falling [] = Unit {0}
Falling (d ∷ days) = All (λ (e : ℕ). e < d) days × Falling days

among-falls : (days : List ℕ) (own : List Own) → Falling days → Descending (charged_among days own)
unfolding charged_among day_in
among-falls [] own h = tt
among-falls (d ∷ days) own h =
    by-test (eqb (opening_shortfall d own) 0) (charged_among days own) (day_in d own ∷ charged_among days own) Descending
    (λ e. among-falls days own h.1)
    (λ e. (among-all (λ (k : ℕ). k < d) days own h.0, among-falls days own h.1))

-- The days opened since the admission are such.
since-falls : (s : ℕ) (own : List Own) → Lawful s own → Falling (days_since own)
unfolding days_since
since-falls s [] lw = tt
since-falls s (day_opened d ∷ own) lw =
    by-test (admitted_in own) (d ∷ days_since own) [] Falling
    (λ yes. (
      all_weaker (λ (e : ℕ). e ≤ today_in s own) (λ (e : ℕ). e < d) (λ e h. omega (arith, lw.0)) (days_since own) (days-past s own lw.2),
      since-falls s own lw.2,
    ))
    (λ no. tt)
since-falls s (act d a ∷ own) lw = since-falls s own lw.2

pub charged-once : (s : ℕ) (own : List Own) → Lawful s own → Descending (charged_days own)
unfolding charged_days
charged-once s own lw = among-falls (days_since own) own (since-falls s own lw)

-- ---- a call

-- An act that is no admission leaves the firm amounts up to its day.
firm-same : (d t : ℕ) (a : Act) (own : List Own) → d ≤ t → admitted_in own ≡ true → NoneHolds (own_causes t own a)
    → firm_in d (act t a ∷ own) ≡ firm_in d own
unfolding own_causes firm_in base_in calls_in
firm-same d t (admit role) own h e none = clash e none.0
firm-same d t (lodge k p) own h e none = refl
firm-same d t (release k a) own h e none = refl
firm-same d t (settle m figures) own h e none = firm-settled d t m figures own (omega arith)
firm-same d t annual_run own h e none = refl
firm-same d t delete own h e none = firm-deleted d t own (omega arith)

-- The call comes after each opening, so it leaves their figures.
same-past : (t : ℕ) (own : List Own) (a : Act) → admitted_in own ≡ true → NoneHolds (own_causes t own a) → (d : ℕ) → d ≤ t
    → SameOn (act t a ∷ own) own d
unfolding before
same-past t own a e none d h = record { firm = firm-same d t a own h e none; cover = refl }

pub items-after-call : (s : ℕ) (own : List Own) (a : Act) → Lawful s own → NoneHolds (own_causes (today_in s own) own a)
    → items_in (act (today_in s own) a ∷ own) ≡ items_in own
unfolding items_in charged_days days_since
items-after-call s own a lw none =
    let t = today_in s own in
    split (admitted_in own)
    (λ e.
    ap items_of
    (charged-same (days_since own) (act t a ∷ own) own
    (all_weaker (λ (d : ℕ). d ≤ t) (SameOn (act t a ∷ own) own) (same-past t own a e none) (days_since own) (days-past s own lw))))
    (λ e. ap items_of (rw (days-none own e) (unfold charged_among in refl)))

-- ---- an opened day

-- It leaves the figures of the days before it.
same-before : (own : List Own) (e d : ℕ) → d < e → SameOn (day_opened e ∷ own) own d
unfolding before
same-before own e d h =
    record {
      firm = firm-before d e own h;
      cover = ap (cover_in d) (cond-false (eqb e d) own (before d own) (ne_eqb e d (λ q. omega arith)));
    }

charged-before : (s : ℕ) (own : List Own) → Lawful s own → charged_among (days_since own) (with_next_day s own) ≡ charged_days own
unfolding charged_days
charged-before s own lw =
    charged-same (days_since own) (with_next_day s own) own
    (all_weaker (λ (d : ℕ). d ≤ today_in s own) (SameOn (with_next_day s own) own)
    (λ d h. same-before own (next_day s own) d (omega arith)) (days_since own) (days-past s own lw))

-- It is itself one of the charged days where the participant is admitted and its opening shortfall is above 0.
among-next : (a : Bool) (d : ℕ) (days : List ℕ) (own : List Own) (l : List Charged) → charged_among days own ≡ l
    → charged_among (cond a (d ∷ days) []) own ≡ cond a (cond (eqb (opening_shortfall d own) 0) l (day_in d own ∷ l)) []
unfolding charged_among
among-next true d days own l e = ap (λ (k : List Charged). cond (eqb (opening_shortfall d own) 0) k (day_in d own ∷ k)) e
among-next false d days own l e = refl

charged-now : (s : ℕ) (own : List Own) → Lawful s own
    → charged_days (with_next_day s own)
    ≡ cond (admitted_in own)
    (cond (eqb (opening_shortfall (next_day s own) (with_next_day s own)) 0)
    (charged_days own)
    (day_in (next_day s own) (with_next_day s own) ∷ charged_days own))
    []
unfolding charged_days days_since
charged-now s own lw =
    among-next (admitted_in own) (next_day s own) (days_since own) (with_next_day s own) (charged_days own) (charged-before s own lw)

-- Before the admission there are none.
none-before : (own : List Own) → admitted_in own ≡ false → charged_days own ≡ []
unfolding charged_days charged_among
none-before own e = ap (λ (days : List ℕ). charged_among days own) (days-none own e)

joined-if : (a z : Bool) (c : Charged) (days : List Charged) → (a ≡ false → days ≡ [])
    → cond (a && not z) (with_charged c (items_of days)) (items_of days) ≡ items_of (cond a (cond z days (c ∷ days)) [])
unfolding items_of
joined-if true true c days h = refl
joined-if true false c days h = refl
joined-if false z c days h = ap items_of (h refl)

-- The file's figures on the day are the reading's.
module _ (s : ℕ) (own : List Own) (lw : Lawful s own) (within : next_day s own ≤ 29219) where
  abbrev d : ℕ
  d = next_day s own

  abbrev now : List Own
  now = with_next_day s own

  cover-as : cover_of (file_in d now) d ≡ cover_in d (before d now)
  unfolding today_in before cover_in lodged_where released_where
  cover-as =
      cover-of-file s now (refl, within, lw)
      ∙ ap (cover_in d) (sym (cond-true (eqb d d) own (before d own) (eq-eqb d d refl)))

  day-as : day_by (file_in d now) d ≡ day_in d now
  unfolding day_by day_in file_in
  day-as = λ i. record { day = record { 0 = d }; firm = firm_in d now; cover = cover-as i }

  charged-as : charged_by (file_in d now) d ≡ admitted_in own && not (eqb (opening_shortfall d now) 0)
  unfolding charged_by file_in shortfall_of opening_shortfall admitted_in
  charged-as = ap (λ (c : ℕ). admitted_in own && not (eqb (firm_in d now - c) 0)) cover-as

  -- So the items with it are the reading's.
  pub items-after-opening : with_day (file_in d now) d (items_in own) ≡ items_in now
  unfolding with_day items_in
  items-after-opening =
      (λ i. cond (charged-as i) (with_charged (day-as i) (items_of (charged_days own))) (items_of (charged_days own)))
      ∙ joined-if (admitted_in own) (eqb (opening_shortfall d now) 0) (day_in d now) (charged_days own) (none-before own)
      ∙ ap items_of (sym (charged-now s own lw))
