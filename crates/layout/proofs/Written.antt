-- A list with other words from a place on: its length, one such list upon another, what stands in it, and its parts.
-- Assumes nothing.
use Prim.Native.Nat.{ℕ, zero, suc, ◌+◌, ◌-◌, ◌≤◌, ◌<◌}
use mathlib.Core.Path.{◌≡◌, refl, sym, ap, ◌∙◌}
use mathlib.Core.List.{List, [], ◌∷◌, ◌++◌, append_assoc}
use native.Mathlib.Omega.{arith}
use borrow.Author.Tests.{ltb-true, ltb-false}
use lib.Dec.{ltb}
use lib.ListN.{length, get_or, set, take, drop, length-set, length-append}
use lib.Seq.{sets, length-sets, sets-eq, drop_at, take-append-le, drop-append-le, take-append-add, drop-append-add, get_or-set_same, get_or-set_other}
use lib.Seq.{ext_get_or, take_all}
use borrow.Rule.Slice.PartMut.{put_mid}
use Rattle.std.proofs.lemmas.Slice.{put_mid-paste}
use Rattle.laws.specs.Cases.{split}
use Rattle.layout.specs.Parts.{written}

pub length-written : (l : List ℕ) (at : ℕ) (vs : List ℕ) → length (written l at vs) ≡ length l
unfolding written
length-written l at vs = length-sets l at vs

-- a part that is written over with other words
pub part-written : (l vs ys : List ℕ) (at k : ℕ) → at + length vs ≤ length l → k ≡ length vs → ys ≡ vs → put_mid at k l ys ≡ written l at vs
unfolding written
part-written l vs ys at k h e same =
    put_mid-paste at k l ys vs (length vs) same (sym e) refl
    ∙ ap (λ (z : List ℕ). take at l ++ z ++ drop (at + length vs) l) (take_all (length vs) vs (omega arith))
    ∙ sym (sets-eq vs l at h)

sets-append : (vs us l : List ℕ) (i m : ℕ) → m ≡ i + length vs → sets (sets l i vs) m us ≡ sets l i (vs ++ us)
sets-append [] us l i m e = let h : m ≡ i = omega arith in rw h
sets-append (a ∷ vs) us l i m e = sets-append vs us (set l i a) (suc i) m (omega arith)

pub written_next : (l : List ℕ) (at m : ℕ) (vs us : List ℕ) → m ≡ at + length vs → written (written l at vs) m us ≡ written l at (vs ++ us)
unfolding written
written_next l at m vs us e = sets-append vs us l at m e

sets-before : (vs l : List ℕ) (i j : ℕ) → j < i → get_or (sets l i vs) j 0 ≡ get_or l j 0
sets-before [] l i j h = refl
sets-before (a ∷ vs) l i j h =
    sets-before vs (set l i a) (suc i) j (omega arith) ∙ get_or-set_other l i j a 0 (λ e. omega arith)

pub written-before : (l : List ℕ) (at : ℕ) (vs : List ℕ) (j : ℕ) → j < at → get_or (written l at vs) j 0 ≡ get_or l j 0
unfolding written
written-before l at vs j h = sets-before vs l at j h

sets_behind : (vs l : List ℕ) (i j : ℕ) → i + length vs ≤ j → get_or (sets l i vs) j 0 ≡ get_or l j 0
sets_behind [] l i j h = refl
sets_behind (a ∷ vs) l i j h =
    sets_behind vs (set l i a) (suc i) j (omega arith) ∙ get_or-set_other l i j a 0 (λ e. omega arith)

pub written_behind : (l : List ℕ) (at : ℕ) (vs : List ℕ) (j : ℕ) → at + length vs ≤ j → get_or (written l at vs) j 0 ≡ get_or l j 0
unfolding written
written_behind l at vs j h = sets_behind vs l at j h

sets-in : (vs l : List ℕ) (i j k : ℕ) → j ≡ i + k → k < length vs → i + length vs ≤ length l → get_or (sets l i vs) j 0 ≡ get_or vs k 0
sets-in [] l i j k e h n = absurd (omega arith)
sets-in (a ∷ vs) l i j zero e h n =
    let q : j ≡ i = omega arith in
    rw q (sets-before vs (set l i a) (suc i) i (omega arith) ∙ get_or-set_same l i a 0 (omega arith))
sets-in (a ∷ vs) l i j (suc k) e h n =
    sets-in vs (set l i a) (suc i) j k (omega arith) (omega arith) (omega (arith, length-set l i a))

pub written_in : (l : List ℕ) (at : ℕ) (vs : List ℕ) (j k : ℕ) → j ≡ at + k → k < length vs → at + length vs ≤ length l
    → get_or (written l at vs) j 0 ≡ get_or vs k 0
unfolding written
written_in l at vs j k e h n = sets-in vs l at j k e h n

-- Words upon the first part of a list, and upon the part behind it.
pub written-first : (us vs rest : List ℕ) → length us ≡ length vs → written (us ++ rest) 0 vs ≡ vs ++ rest
unfolding written
written-first us vs rest h =
    sets-eq vs (us ++ rest) 0 (omega (arith, length-append us rest)) ∙ ap (λ (z : List ℕ). vs ++ z) (drop_at us rest (0 + length vs) (omega arith))

pub written-later : (us vs rest : List ℕ) (k : ℕ) → k + length vs ≤ length rest
    → written (us ++ rest) (length us + k) vs ≡ us ++ written rest k vs
unfolding written
written-later us vs rest k h =
    let e : length us + k + length vs ≡ length us + (k + length vs) = omega arith in
    sets-eq vs (us ++ rest) (length us + k) (omega (arith, length-append us rest))
    ∙ ap (λ (j : ℕ). take (length us + k) (us ++ rest) ++ vs ++ drop j (us ++ rest)) e
    ∙ ap (λ (z : List ℕ). take (length us + k) (us ++ rest) ++ vs ++ z) (drop-append-add us rest (k + length vs))
    ∙ ap (λ (z : List ℕ). z ++ vs ++ drop (k + length vs) rest) (take-append-add us rest k)
    ∙ ap (λ (z : List ℕ). z ++ drop (k + length vs) rest) (append_assoc us (take k rest) vs)
    ∙ append_assoc us (take k rest ++ vs) (drop (k + length vs) rest)
    ∙ ap (λ (z : List ℕ). us ++ z) (sym (sets-eq vs rest k h))

pub written-left : (us vs rest : List ℕ) (k : ℕ) → k + length vs ≤ length us → written (us ++ rest) k vs ≡ written us k vs ++ rest
unfolding written
written-left us vs rest k h =
    sets-eq vs (us ++ rest) k (omega (arith, length-append us rest))
    ∙ ap (λ (z : List ℕ). take k (us ++ rest) ++ vs ++ z) (drop-append-le (k + length vs) us rest h)
    ∙ ap (λ (z : List ℕ). z ++ vs ++ (drop (k + length vs) us ++ rest)) (take-append-le k us rest (omega arith))
    ∙ sym (append_assoc (take k us ++ vs) (drop (k + length vs) us) rest)
    ∙ ap (λ (z : List ℕ). z ++ rest) (sym (sets-eq vs us k h))

-- Words of which a part was replaced, written behind a place, are that part written upon them.
pub written-within : (l us vs : List ℕ) (i j : ℕ) → i + length us ≤ length l → j + length vs ≤ length us → l ≡ written l i us
    → written l i (written us j vs) ≡ written l (i + j) vs
written-within l us vs i j h k same =
    ext_get_or 0 (written l i (written us j vs)) (written l (i + j) vs)
    (length-written l i (written us j vs) ∙ sym (length-written l (i + j) vs))
    (λ n b. at n)
  where
    size : length (written us j vs) ≡ length us
    size = length-written us j vs

    here : (n : ℕ) → get_or l n 0 ≡ get_or (written l i us) n 0
    here n = ap (λ (z : List ℕ). get_or z n 0) same

    inside : (n m : ℕ) → n ≡ i + m → m < length us → get_or (written us j vs) m 0 ≡ get_or (written l (i + j) vs) n 0
    inside n m e b =
        split (ltb m j)
        (λ t. let c = ltb-true m j t in
        written-before us j vs m c
        ∙ sym (written_in l i us n m e b h)
        ∙ sym (here n)
        ∙ sym (written-before l (i + j) vs n (omega arith)))
        (λ t. let c = ltb-false m j t in
        split (ltb m (j + length vs))
        (λ u. let d = ltb-true m (j + length vs) u in
        written_in us j vs m (m - j) (omega arith) (omega arith) k
        ∙ sym (written_in l (i + j) vs n (m - j) (omega arith) (omega arith) (omega arith)))
        (λ u. let d = ltb-false m (j + length vs) u in
        written_behind us j vs m d
        ∙ sym (written_in l i us n m e b h)
        ∙ sym (here n)
        ∙ sym (written_behind l (i + j) vs n (omega arith))))

    at : (n : ℕ) → get_or (written l i (written us j vs)) n 0 ≡ get_or (written l (i + j) vs) n 0
    at n =
        split (ltb n i)
        (λ t. let c = ltb-true n i t in
        written-before l i (written us j vs) n c ∙ sym (written-before l (i + j) vs n (omega arith)))
        (λ t. let c = ltb-false n i t in
        split (ltb n (i + length us))
        (λ u. let d = ltb-true n (i + length us) u in
        written_in l i (written us j vs) n (n - i) (omega arith) (omega (arith, size)) (omega (arith, size))
        ∙ inside n (n - i) (omega arith) (omega arith))
        (λ u. let d = ltb-false n (i + length us) u in
        written_behind l i (written us j vs) n (omega (arith, size)) ∙ sym (written_behind l (i + j) vs n (omega arith))))

-- Words written over as many others.
pub written_over : (l : List ℕ) (i : ℕ) (us vs : List ℕ) → length us ≡ length vs → i + length us ≤ length l
    → written (written l i us) i vs ≡ written l i vs
written_over l i us vs same room =
    ext_get_or 0 (written (written l i us) i vs) (written l i vs)
    (length-written (written l i us) i vs ∙ long ∙ sym (length-written l i vs))
    (λ n b. at n)
  where
    long : length (written l i us) ≡ length l
    long = length-written l i us

    at : (n : ℕ) → get_or (written (written l i us) i vs) n 0 ≡ get_or (written l i vs) n 0
    at n =
        split (ltb n i)
        (λ t. let c = ltb-true n i t in
        written-before (written l i us) i vs n c ∙ written-before l i us n c ∙ sym (written-before l i vs n c))
        (λ t. let c = ltb-false n i t in
        split (ltb n (i + length vs))
        (λ u. let d = ltb-true n (i + length vs) u in
        written_in (written l i us) i vs n (n - i) (omega arith) (omega arith) (omega (arith, long))
        ∙ sym (written_in l i vs n (n - i) (omega arith) (omega arith) (omega arith)))
        (λ u. let d = ltb-false n (i + length vs) u in
        written_behind (written l i us) i vs n d ∙ written_behind l i us n (omega arith) ∙ sym (written_behind l i vs n d)))
