-- Laws of one position: what it counts for, and what stands there, after it lapsed, after a lodging and after a release.
-- Assumes nothing.
use Prim.Native.Nat.{ℕ, ◌+◌, ◌-◌, ◌≤◌, ◌<◌}
use native.Mathlib.Omega.{arith}
use mathlib.Core.Path.{◌≡◌, refl, sym, ap, ◌∙◌}
use mathlib.Core.Bool.{true, false, cond, ◌&&◌, true≢false, false≢true}
use lib.Dec.{leb, eqb}
use borrow.Author.Tests.{ltb-true, ltb-false, leb-true, leb-false, eqb-true, le-leb, lt-leb, le-ltb, eq-eqb, ne_eqb, not-false}
use Rattle.laws.specs.Cases.{split, and_left, and_right}
use Rattle.file.specs.declared.Position.{Position}
use Rattle.file.specs.declared.Position.TheVariants.{Empty, Cash, Letter}
use Rattle.file.specs.Position.{amount_of, in_force_through, counts_through, filled, lapsed_by, emptied_on, less_released, not_releasable, outside_amounts, against_days}
use Rattle.book.specs.Reading.Holdings.{less}

-- A letter that lapsed by t counts through no day from t on.
lapsed-counts-nothing : (t d e : ℕ) (p : Position) → t ≤ e → lapsed_by t p ≡ true → counts_through d e p ≡ 0
unfolding counts_through
lapsed-counts-nothing t d e Empty h q = refl
lapsed-counts-nothing t d e (Cash a) h q = absurd (false≢true q)
lapsed-counts-nothing t d e (Letter a first last) h q =
    let late : leb e last.0 ≡ false = lt-leb e last.0 (omega (arith, ltb-true last.0 t q)) in
    split (leb first.0 d) (λ f. simp (f, late)) (λ f. simp f)

-- Emptying what lapsed by t changes what counts through no day from t on.
pub emptied-counts : (t d e : ℕ) (p : Position) → t ≤ e → counts_through d e (emptied_on t p) ≡ counts_through d e p
unfolding emptied_on counts_through
emptied-counts t d e p h =
    split (lapsed_by t p) (λ q. rw q (sym (lapsed-counts-nothing t d e p h q))) (λ q. rw q)

-- A position that holds nothing today counts for nothing from today on.
unfilled-counts-nothing : (d e : ℕ) (p : Position) → filled p ≡ false → counts_through d e p ≡ 0
unfolding counts_through
unfilled-counts-nothing d e Empty q = refl
unfilled-counts-nothing d e (Cash a) q = absurd (true≢false q)
unfilled-counts-nothing d e (Letter a first last) q = absurd (true≢false q)

pub unfilled-today : (t d e : ℕ) (p : Position) → t ≤ e → filled (emptied_on t p) ≡ false → counts_through d e p ≡ 0
unfilled-today t d e p h q = sym (emptied-counts t d e p h) ∙ unfilled-counts-nothing d e (emptied_on t p) q

-- A lodging, nothing of it released, counts for itself.
pub less-nothing-counts : (d e : ℕ) (p : Position) → counts_through d e (less 0 p) ≡ counts_through d e p
unfolding counts_through
less-nothing-counts d e Empty = refl
less-nothing-counts d e (Cash a) =
    split (leb a 0)
    (λ q. rw q (omega (arith, leb-true a 0 q)))
    (λ q. rw q (omega arith))
less-nothing-counts d e (Letter a first last) =
    split (leb a 0)
    (λ q.
    let z : a ≡ 0 = omega (arith, leb-true a 0 q) in
    rw (q, z) (split (leb first.0 d && leb e last.0) (λ f. simp f) (λ f. simp f)))
    (λ q. let z : a - 0 ≡ a = omega arith in rw (q, z))

-- A position that holds something today is as it was left.
pub filled-today : (t : ℕ) (p : Position) → filled (emptied_on t p) ≡ true → emptied_on t p ≡ p
unfolding emptied_on
filled-today t p f = split (lapsed_by t p) (λ e. absurd (false≢true (rw e at f))) (λ e. rw e)

-- A release that the rule allows takes its amount exactly where what was last lodged is in force.
release-takes-left : (d e r a : ℕ) (p : Position) → filled (less r p) ≡ true → not_releasable a (less r p) ≡ false
    → counts_through d e (less (a + r) p) + cond (in_force_through d e p) a 0 ≡ counts_through d e (less r p)
unfolding counts_through
release-takes-left d e r a Empty f n = absurd (false≢true f)
release-takes-left d e r a (Cash b) f n =
    split (leb b r)
    (λ q. absurd (false≢true (rw q at f)))
    (λ q.
    let most : a ≤ b - r = ltb-false (b - r) a (rw q at n) in
    let more : r < b = leb-false b r q in
    split (leb b (a + r))
    (λ g. let all : b ≤ a + r = leb-true b (a + r) g in rw (q, g) (omega arith))
    (λ g. rw (q, g) (omega arith)))
release-takes-left d e r a (Letter b first last) f n =
    split (leb b r)
    (λ q. absurd (false≢true (rw q at f)))
    (λ q.
    let whole : a ≡ b - r = eqb-true a (b - r) (not-false (eqb a (b - r)) (rw q at n)) in
    let more : r < b = leb-false b r q in
    let all : leb b (a + r) ≡ true = le-leb b (a + r) (omega arith) in
    rw (q, all)
    (split (leb first.0 d && leb e last.0)
    (λ g. rw g (omega arith))
    (λ g. rw g)))

pub release-takes : (t d e r a : ℕ) (p : Position) → filled (emptied_on t (less r p)) ≡ true
    → not_releasable a (emptied_on t (less r p)) ≡ false
    → counts_through d e (less (a + r) p) + cond (in_force_through d e p) a 0 ≡ counts_through d e (less r p)
release-takes t d e r a p f n =
    let same : emptied_on t (less r p) ≡ less r p = filled-today t (less r p) f in
    release-takes-left d e r a p (rw same at f) (rw same at n)

-- An amount that cause 8 allows is at least 1.
pub amount-above : (a : ℕ) → outside_amounts a ≡ false → 1 ≤ a
unfolding outside_amounts
amount-above a e =
    leb-true 1 a
    (and_left (leb 1 a) (leb a 1000000000000) (not-false (leb 1 a && leb a 1000000000000) e))

-- What causes 8 and 9 allow to be lodged stands at its place as it was lodged.
pub lodged-stands : (t : ℕ) (p : Position) → outside_amounts (amount_of p) ≡ false → against_days t p ≡ false
    → emptied_on t (less 0 p) ≡ p
unfolding emptied_on
lodged-stands t Empty amount days = refl
lodged-stands t (Cash a) amount days =
    let some : leb a 0 ≡ false = lt-leb a 0 (amount-above a amount) in
    let whole : a - 0 ≡ a = omega arith in
    rw (some, whole)
lodged-stands t (Letter a first last) amount days =
    let some : leb a 0 ≡ false = lt-leb a 0 (amount-above a amount) in
    let whole : a - 0 ≡ a = omega arith in
    let rule : (leb first.0 last.0 && (leb t last.0 && leb last.0 29219)) ≡ true =
    not-false (leb first.0 last.0 && (leb t last.0 && leb last.0 29219)) days in
    let lasts : t ≤ last.0 =
    leb-true t last.0
    (and_left (leb t last.0) (leb last.0 29219)
    (and_right (leb first.0 last.0) (leb t last.0 && leb last.0 29219) rule)) in
    rw (some, whole, le-ltb last.0 t lasts)

-- What a release that the rule allows leaves at its place, by what it finds there today.
less-released-left : (t r a : ℕ) (p : Position) → filled (less r p) ≡ true → not_releasable a (less r p) ≡ false
    → less_released a (less r p) ≡ emptied_on t (less (a + r) p)
unfolding emptied_on
less-released-left t r a Empty f n = absurd (false≢true f)
less-released-left t r a (Cash b) f n =
    split (leb b r)
    (λ e. absurd (false≢true (rw e at f)))
    (λ e.
    let most : a ≤ b - r = ltb-false (b - r) a (rw e at n) in
    let more : r < b = leb-false b r e in
    split (leb b (a + r))
    (λ g.
    let all : b ≤ a + r = leb-true b (a + r) g in
    rw (e, g, eq-eqb a (b - r) (omega arith)))
    (λ g.
    let part : a + r < b = leb-false b (a + r) g in
    let rest : b - r - a ≡ b - (a + r) = omega arith in
    rw (e, g, ne_eqb a (b - r) (λ q. omega arith), rest)))
less-released-left t r a (Letter b first last) f n =
    split (leb b r)
    (λ e. absurd (false≢true (rw e at f)))
    (λ e.
    let whole : a ≡ b - r = eqb-true a (b - r) (not-false (eqb a (b - r)) (rw e at n)) in
    let more : r < b = leb-false b r e in
    rw (e, le-leb b (a + r) (omega arith)))

pub less-released : (t r a : ℕ) (p : Position) → filled (emptied_on t (less r p)) ≡ true
    → not_releasable a (emptied_on t (less r p)) ≡ false
    → less_released a (emptied_on t (less r p)) ≡ emptied_on t (less (a + r) p)
less-released t r a p f n =
    let same : emptied_on t (less r p) ≡ less r p = filled-today t (less r p) f in
    ap (less_released a) same ∙ less-released-left t r a p (rw same at f) (rw same at n)
