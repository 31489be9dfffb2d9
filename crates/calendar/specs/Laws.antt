-- Laws of months and their first days, for whoever reasons about a day's month. Those of years and cycles, as that month 960 would begin on
-- day 29,220, are in Years, and those of dates in DateLaws.
-- Assumes nothing.
use Rattle.std.specs.Prelude.{ℕ, zero, suc, ◌+◌, ◌-◌, ◌/◌, ◌%◌, ◌≤◌, ◌<◌, ◌≡◌, refl, Bool, true, false, ◌&&◌, T, leb, ltb}
use Rattle.std.proofs.Common.{zero-le, suc-le-suc, sym, subst, ap, ◌∙◌, ⊎_elim, eq-or-lt_of_le, le_of_suc-le-suc, le_trans, arith, leb-true, leb-false, le-leb, ltb-true, ltb-false, leb→le, lit≤}
use Rattle.std.proofs.lemmas.Bool.{lt-leb}
use Rattle.laws.specs.Cases.{split}
use Rattle.laws.specs.Tables.{and_left, and_right, every, every-at}
use Rattle.calendar.specs.Civil.{leap, length_of, first_day, begun, holding, month_of, length_in, day_of_month}
use Rattle.calendar.specs.Years.{length_at, first_day-last}

-- a later month begins no earlier
pub first_day-mono : (m n : ℕ) → m ≤ n → first_day m ≤ first_day n
unfolding first_day
first_day-mono m zero h = let e : m ≡ 0 = omega arith in rw e (omega arith)
first_day-mono m (suc n) h =
    ⊎_elim (λ (e : m ≡ suc n). rw e (omega arith))
    (λ (l : m < suc n). omega (arith, first_day-mono m n (le_of_suc-le-suc l)))
    (eq-or-lt_of_le h)

-- a month ends where the next begins
pub first_day-suc : (m : ℕ) → first_day (suc m) ≡ first_day m + length_of m
unfolding first_day
first_day-suc m = refl

-- month 0 has begun by every day
first_day-zero : (d : ℕ) → first_day 0 ≤ d
unfolding first_day
first_day-zero d = zero-le

-- of the months 0 to n, the latest that has begun is one of them, and has begun; the next has not, where month n has not ended
pub begun-le : (n d : ℕ) → begun n d ≤ n
unfolding begun
begun-le zero d = zero-le
begun-le (suc n) d =
    split (leb (first_day (suc n)) d) (λ t. rw t (omega arith)) (λ t. rw t (omega (arith, begun-le n d)))

pub begun_first : (n d : ℕ) → first_day (begun n d) ≤ d
unfolding begun
begun_first zero d = first_day-zero d
begun_first (suc n) d =
    split (leb (first_day (suc n)) d) (λ t. rw t (leb-true (first_day (suc n)) d t)) (λ t. rw t (begun_first n d))

pub begun-next : (n d : ℕ) → d < first_day (suc n) → d < first_day (suc (begun n d))
unfolding begun
begun-next zero d h = h
begun-next (suc n) d h =
    split (leb (first_day (suc n)) d) (λ t. rw t h) (λ t. rw t (begun-next n d (leb-false (first_day (suc n)) d t)))

-- no other month can be the latest that has begun
pub begun-at : (n m d : ℕ) → m ≤ n → first_day m ≤ d → (m < n → d < first_day (suc m)) → begun n d ≡ m
unfolding begun
begun-at zero m d h f g = omega arith
begun-at (suc n) m d h f g =
    ⊎_elim (λ (e : m ≡ suc n). rw (le-leb (first_day (suc n)) d (subst (λ (k : ℕ). first_day k ≤ d) e f)) (sym e))
    (λ (l : m < suc n).
    let later : d < first_day (suc n) = le_trans (g l) (first_day-mono (suc m) (suc n) l) in
    rw (lt-leb (first_day (suc n)) d later) (begun-at n m d (le_of_suc-le-suc l) f (λ k. g l)))
    (eq-or-lt_of_le h)

-- on a later day no fewer have begun
pub begun-mono : (n d e : ℕ) → d ≤ e → begun n d ≤ begun n e
unfolding begun
begun-mono zero d e h = zero-le
begun-mono (suc n) d e h =
    split (leb (first_day (suc n)) e) (λ t. rw t (begun-le (suc n) d))
    (λ t. rw (t, lt-leb (first_day (suc n)) d (le_trans (suc-le-suc h) (leb-false (first_day (suc n)) e t))) (begun-mono n d e h))

-- The month of a day.

-- of the months 0 to m + n, month m having begun by day d, the latest that has begun holds the day
holding-begun : (n m r d : ℕ) → d ≡ first_day m + r → holding n m r ≡ begun (m + n) d
unfolding holding
holding-begun zero m r d e = sym (begun-at (m + 0) m d (omega arith) (omega arith) (λ l. omega arith))
holding-begun (suc n) m r d e =
    split (ltb r (length_of m))
    (λ t. rw t
    (sym (begun-at (m + suc n) m d (omega arith) (omega arith) (λ l. omega (arith, first_day-suc m, ltb-true r (length_of m) t)))))
    (λ t. rw t
    (let same : suc m + n ≡ m + suc n = omega arith in
    holding-begun n (suc m) (r - length_of m) d (omega (arith, first_day-suc m, ltb-false r (length_of m) t))
    ∙ ap (λ (k : ℕ). begun k d) same))

-- the month that holds a day is the latest that has begun by then
pub month_of-begun : (d : ℕ) → month_of d ≡ begun 960 d
unfolding month_of first_day
month_of-begun d = holding-begun 960 0 d d (omega arith)

-- no day lies in a month past 960
pub month_of_le : (d : ℕ) → month_of d ≤ 960
month_of_le d = rw (month_of-begun d) (begun-le 960 d)

-- a later day lies in no earlier month
pub month_of-mono : (d e : ℕ) → d ≤ e → month_of d ≤ month_of e
month_of-mono d e h = rw (month_of-begun d, month_of-begun e) (begun-mono 960 d e h)

-- a day's month has begun by that day
pub month_of-first : (d : ℕ) → first_day (month_of d) ≤ d
month_of-first d = rw (month_of-begun d) (begun_first 960 d)

-- and the next has not
pub month_of-next : (d : ℕ) → d ≤ 29219 → d < first_day (suc (month_of d))
month_of-next d h = rw (month_of-begun d) (begun-next 960 d (omega (arith, first_day-last, first_day-mono 960 961 (lit≤ tt))))

-- a day of the calendar lies in one of its months
pub month_of-last : (d : ℕ) → d ≤ 29219 → month_of d ≤ 959
month_of-last d h =
    ⊎_elim (λ (e : month_of d ≡ 960). omega (arith, first_day-last, month_of-first d, ap first_day e))
    (λ (l : month_of d < 960). le_of_suc-le-suc l)
    (eq-or-lt_of_le (month_of_le d))

-- any other day lies in none
pub month_of_after : (d : ℕ) → 29219 < d → month_of d ≡ 960
month_of_after d h = month_of-begun d ∙ begun-at 960 960 d (lit≤ tt) (omega (arith, first_day-last)) (λ l. omega arith)

-- the month that has begun by a day, and whose successor has not, is the day's
pub month_of-is : (m d : ℕ) → m < 960 → first_day m ≤ d → d < first_day (suc m) → month_of d ≡ m
month_of-is m d h f g = month_of-begun d ∙ begun-at 960 m d (omega arith) f (λ l. g)

-- the days of a month are those from its first, as many as its length
pub month_of-in : (m k : ℕ) → m < 960 → k < length_of m → month_of (first_day m + k) ≡ m
month_of-in m k h l = month_of-is m (first_day m + k) h (omega arith) (omega (arith, first_day-suc m))

-- The day of the month.

-- the first is 1
pub day_of_month-ge : (d : ℕ) → 1 ≤ day_of_month d
unfolding day_of_month
day_of_month-ge d = omega arith

-- the last is the month's length
pub day_of_month-le : (d : ℕ) → d ≤ 29219 → day_of_month d ≤ length_of (month_of d)
unfolding day_of_month
day_of_month-le d h = omega (arith, month_of-first d, month_of-next d h, first_day-suc (month_of d))

-- a day is its month's first day and the days of the month before it
pub day_of_month-sum : (d : ℕ) → first_day (month_of d) + (day_of_month d - 1) ≡ d
unfolding day_of_month
day_of_month-sum d = omega (arith, month_of-first d)

-- the days of a month from its first are its days 1, 2, ..
pub day_of_month-in : (m k : ℕ) → m < 960 → k < length_of m → day_of_month (first_day m + k) ≡ k + 1
unfolding day_of_month
day_of_month-in m k h l = rw (month_of-in m k h l) (omega arith)

-- The length of a month.

short : Bool → ℕ → Bool
short b p = leb 28 (length_at b p) && leb (length_at b p) 31

at_place : (b : Bool) (p : ℕ) → p < 12 → T (short b p)
unfolding short length_at every
at_place true p h = every-at (short true) 12 tt p h
at_place false p h = every-at (short false) 12 tt p h

-- a month has 28 to 31 days
pub length_of-range : (m : ℕ) → (28 ≤ length_of m) × (length_of m ≤ 31)
unfolding short length_of length_in length_at
length_of-range m =
    let b = leap (2020 + m / 12) in
    let t = at_place b (m % 12) (omega arith) in
    let n = length_at b (m % 12) in
    (leb→le 28 n (and_left (leb 28 n) (leb n 31) t), leb→le n 31 (and_right (leb 28 n) (leb n 31) t))
