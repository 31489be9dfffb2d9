-- A call changes no opening shortfall of a day opened before it: the days charged and the accrued charge stay as they were.
-- Assumes nothing.
use Prim.Native.Nat.{ℕ, ◌+◌, ◌-◌, ◌≤◌}
use mathlib.Core.Path.{◌≡◌, refl, ap}
use mathlib.Core.Bool.{Bool, true, false, cond, ◌&&◌}
use mathlib.Core.List.{List, [], ◌∷◌, ◌++◌, append-nil}
use native.Mathlib.Omega.{arith}
use borrow.Author.Tests.{le-ltb}
use lib.Dec.{leb, ltb}
use lib.IntN.{ℤ, nat_abs}
use Rattle.laws.specs.Lists.{All}
use Rattle.laws.specs.Cases.{split, clash, cond-false, by-test}
use Rattle.laws.specs.Prefixes.{all_weaker}
use Rattle.manual.specs.Figures.{sum_of}
use Rattle.file.specs.declared.OpenCall.{OpenCall}
use Rattle.file.specs.Calls.{largest, amounts_of, call_of, keep}
use Rattle.file.specs.CallLaws.{keep_same}
use Rattle.book.specs.Call.{Act, admit, lodge, release, settle, annual_run, delete}
use Rattle.book.specs.Reading.Events.{Own, day_opened, act, admitted_in}
use Rattle.book.specs.Reading.Holdings.{cover_in}
use Rattle.book.specs.Reading.Calls.{Base, base_in, counts_from, firm_from, calls_in, called_in, deletion_called, firm_in}
use Rattle.book.specs.Reading.Months.{deletion_in}
use Rattle.book.specs.Reading.Charges.{before, opening_shortfall, days_since, count_short, sum_charges, charged_in, accrued_in}
use Rattle.book.specs.Reading.Decisions.{own_causes}
use Rattle.book.proofs.Participant.Lawful.{today_in, NoneHolds, Lawful}

-- The days opened since the admission are not after today.
pub days-past : (s : ℕ) (own : List Own) → Lawful s own → All (λ (e : ℕ). e ≤ today_in s own) (days_since own)
unfolding days_since today_in
days-past s [] lw = tt
days-past s (day_opened d ∷ own) lw =
    by-test (admitted_in own) (d ∷ days_since own) [] (All (λ (e : ℕ). e ≤ d))
    (λ yes. (
      omega arith,
      all_weaker (λ (e : ℕ). e ≤ today_in s own) (λ (e : ℕ). e ≤ d) (λ e h. omega (arith, lw.0)) (days_since own) (days-past s own lw.2),
    ))
    (λ no. tt)
days-past s (act d a ∷ own) lw = days-past s own lw.2

-- Before the admission no day counts as opened since it.
pub days-none : (own : List Own) → admitted_in own ≡ false → days_since own ≡ []
unfolding days_since admitted_in
days-none [] e = refl
days-none (day_opened d ∷ own) e = cond-false (admitted_in own) (d ∷ days_since own) [] e
days-none (act d (admit role) ∷ own) e = clash refl e
days-none (act d (lodge k h) ∷ own) e = days-none own e
days-none (act d (release k a) ∷ own) e = days-none own e
days-none (act d (settle m figures) ∷ own) e = days-none own e
days-none (act d annual_run ∷ own) e = days-none own e
days-none (act d delete ∷ own) e = days-none own e

-- A call that fails the test, behind a list of calls, is not kept.
pub keep-behind : (test : OpenCall → Bool) (made : List OpenCall) (b : Bool) (c : OpenCall) → test c ≡ false
    → keep test (made ++ cond b (c ∷ []) []) ≡ keep test made
keep-behind test made true c e = keep_same test made c e
keep-behind test made false c e = ap (keep test) (append-nil made)

-- A call whose last free day is d or later doesn't count for the firm amount on d.
late-call : (r d l : ℕ) → d ≤ l → leb r l && ltb l d ≡ false
late-call r d l h = rw (le-ltb l d h) (split (leb r l) (λ e. rw e) (λ e. rw e))

pub firm-behind : (d : ℕ) (base : Base) (made : List OpenCall) (b : Bool) (e l : ℕ) → d ≤ l
    → firm_from d base (made ++ cond b (call_of e l ∷ []) []) ≡ firm_from d base made
unfolding firm_from
firm-behind d base made b e l h =
    ap (λ (k : List OpenCall). largest base.amount (amounts_of k))
    (keep-behind (counts_from base.from d) made b (call_of e l) (late-call base.from d l h))

-- A settlement changes no firm amount up to its call's last free day.
pub firm-settled : (d t m : ℕ) (figures : List ℤ) (own : List Own) → d ≤ t + 10
    → firm_in d (act t (settle m figures) ∷ own) ≡ firm_in d own
unfolding firm_in base_in calls_in
firm-settled d t m figures own h =
    firm-behind d (base_in d own) (calls_in own) (called_in t m figures own (calls_in own)) (nat_abs (sum_of figures)) (t + 10) h

-- Nor does a deletion.
pub firm-deleted : (d t : ℕ) (own : List Own) → d ≤ t + 10 → firm_in d (act t delete ∷ own) ≡ firm_in d own
unfolding firm_in base_in calls_in
firm-deleted d t own h =
    firm-behind d (base_in d own) (calls_in own) (deletion_called t own (calls_in own)) (deletion_in t own) (t + 10) h

-- The charges of days whose opening shortfalls agree.
abbrev pub Agree : List ℕ → List Own → List Own → Type 0
Agree days a b = All (λ (d : ℕ). opening_shortfall d a ≡ opening_shortfall d b) days

pub count_same : (days : List ℕ) (a b : List Own) → Agree days a b → count_short days a ≡ count_short days b
unfolding count_short
count_same [] a b h = refl
count_same (d ∷ days) a b h = rw (h.0, count_same days a b h.1)

pub sum_same : (days : List ℕ) (a b : List Own) → Agree days a b → sum_charges days a ≡ sum_charges days b
unfolding sum_charges
sum_same [] a b h = refl
sum_same (d ∷ days) a b h = rw (h.0, sum_same days a b h.1)

-- A firm amount that stays leaves the opening shortfall: the call comes after each opening.
shortfall-same : (d t : ℕ) (a : Act) (own : List Own) → firm_in d (act t a ∷ own) ≡ firm_in d own
    → opening_shortfall d (act t a ∷ own) ≡ opening_shortfall d own
unfolding opening_shortfall before
shortfall-same d t a own e = ap (λ (f : ℕ). f - cover_in d (before d own)) e

-- An act that is no admission leaves the firm amounts up to its day; before an admission there is no such day.
firm-same : (d t : ℕ) (a : Act) (own : List Own) → d ≤ t → admitted_in own ≡ true → NoneHolds (own_causes t own a)
    → firm_in d (act t a ∷ own) ≡ firm_in d own
unfolding own_causes firm_in base_in calls_in
firm-same d t (admit role) own h e none = clash e none.0
firm-same d t (lodge k p) own h e none = refl
firm-same d t (release k a) own h e none = refl
firm-same d t (settle m figures) own h e none = firm-settled d t m figures own (omega arith)
firm-same d t annual_run own h e none = refl
firm-same d t delete own h e none = firm-deleted d t own (omega arith)

-- So each opening shortfall since the admission stays.
agree-past : (t : ℕ) (own : List Own) (a : Act) → NoneHolds (own_causes t own a) → admitted_in own ≡ true
    → (days : List ℕ) → All (λ (d : ℕ). d ≤ t) days → Agree days (act t a ∷ own) own
agree-past t own a none e days h =
    all_weaker (λ (d : ℕ). d ≤ t) (λ (d : ℕ). opening_shortfall d (act t a ∷ own) ≡ opening_shortfall d own)
    (λ d past. shortfall-same d t a own (firm-same d t a own past e none))
    days
    h

agree-act : (t : ℕ) (own : List Own) (a : Act) → NoneHolds (own_causes t own a) → All (λ (d : ℕ). d ≤ t) (days_since own)
    → Agree (days_since own) (act t a ∷ own) own
agree-act t own a none h =
    split (admitted_in own) (λ e. agree-past t own a none e (days_since own) h) (λ e. rw (days-none own e) tt)

-- A call leaves the days charged and the accrued charge.
pub charged-act : (s : ℕ) (own : List Own) (a : Act) → Lawful s own → NoneHolds (own_causes (today_in s own) own a)
    → charged_in (act (today_in s own) a ∷ own) ≡ charged_in own
unfolding charged_in days_since
charged-act s own a lw none =
    count_same (days_since own) (act (today_in s own) a ∷ own) own (agree-act (today_in s own) own a none (days-past s own lw))

pub accrued-act : (s : ℕ) (own : List Own) (a : Act) → Lawful s own → NoneHolds (own_causes (today_in s own) own a)
    → accrued_in (act (today_in s own) a ∷ own) ≡ accrued_in own
unfolding accrued_in days_since
accrued-act s own a lw none =
    sum_same (days_since own) (act (today_in s own) a ∷ own) own (agree-act (today_in s own) own a none (days-past s own lw))
