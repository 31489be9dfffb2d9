-- A request asks the same with the numbers of its lists alone.
-- Assumes nothing.
use Prim.Native.Nat.{ℕ, zero, suc, ◌+◌, min}
use mathlib.Core.Path.{◌≡◌, refl, ap, ◌∙◌}
use mathlib.Core.List.{List, [], ◌∷◌, map}
use native.Mathlib.Omega.{arith}
use lib.IntN.{ℤ}
use lib.ListN.{length, take, drop}
use lib.Seq.{take-take}
use Rattle.laws.specs.Clipped.{take-clipped}
use Rattle.book.specs.Call.{on, settle, batch}
use Rattle.journal.specs.Grammar.{length_list, total}
use Rattle.journal.specs.declared.Lengths.{Lengths}
use Rattle.journal.specs.declared.Request.{Request}
use Rattle.answering.specs.Asked.{call, guarantee, semesters_of, guarantee_of, byte_of, batch_bytes, asked}
use Rattle.answering.specs.Kept.{numbers_in}

-- ---- parts of the front of a row

cut-front : (m t : ℕ) (zs : List ℤ) → take m (take (m + t) zs) ≡ take m zs
cut-front m t zs = take-take m (m + t) zs (omega arith)

none : (t : ℕ) → [] ≡ take {A = ℤ} t []
none zero = refl
none (suc t) = refl

cut-behind : (m t : ℕ) (zs : List ℤ) → drop m (take (m + t) zs) ≡ take t (drop m zs)
cut-behind zero t zs =
    let e : 0 + t ≡ t = omega arith in rw e
cut-behind (suc m) t [] =
    let e : suc m + t ≡ suc (m + t) = omega arith in rw e (none t)
cut-behind (suc m) t (z ∷ zs) =
    let e : suc m + t ≡ suc (m + t) = omega arith in rw e (cut-behind m t zs)

-- The seven lists are read from the front of the row alone.
semesters-cut : (n : Lengths) (medium low zs : List ℤ) (marks : List ℕ)
    → semesters_of n medium low marks (take (n.zero_medium + (n.zero_low + (n.excess_medium + (n.excess_low + 0)))) zs)
    ≡ semesters_of n medium low marks zs
unfolding semesters_of
semesters-cut n medium low zs marks =
    let a = n.zero_medium in
    let b = n.zero_low in
    let c = n.excess_medium in
    let d = n.excess_low in
    rw (
      cut-front a (b + (c + (d + 0))) zs,
      cut-behind a (b + (c + (d + 0))) zs,
      cut-front b (c + (d + 0)) (drop a zs),
      cut-behind b (c + (d + 0)) (drop a zs),
      cut-front c (d + 0) (drop b (drop a zs)),
      cut-behind c (d + 0) (drop b (drop a zs)),
      cut-front d 0 (drop c (drop b (drop a zs))),
    )

row_cut : (n : Lengths) (zs : List ℤ) → guarantee_of n (take (total (length_list n)) zs) ≡ guarantee_of n zs
unfolding guarantee_of
row_cut n zs =
    let rest = n.zero_medium + (n.zero_low + (n.excess_medium + (n.excess_low + 0))) in
    rw (
      cut-front n.medium (n.low + (n.marks + rest)) zs,
      cut-behind n.medium (n.low + (n.marks + rest)) zs,
      cut-front n.low (n.marks + rest) (drop n.medium zs),
      cut-behind n.low (n.marks + rest) (drop n.medium zs),
      cut-front n.marks rest (drop n.low (drop n.medium zs)),
      cut-behind n.marks rest (drop n.low (drop n.medium zs)),
    )
    (semesters-cut n _ _ (drop n.marks (drop n.low (drop n.medium zs))) _)

-- The bytes of a file likewise.
file-cut : (n : ℕ) (zs : List ℤ) → batch_bytes n (take (min n (length zs)) zs) ≡ batch_bytes n zs
unfolding batch_bytes
file-cut n zs =
    ap (batch_bytes n) (take-clipped n (min n (length zs)) zs refl) ∙ ap (map byte_of) (take-take (min n 32768) n zs (omega arith))

-- The numbers of a request's lists.
abbrev pub own : Request → List ℤ → List ℤ
own r zs = take (numbers_in r (length zs)) zs

-- A request asks the same with them alone.
pub asked-cut : (r : Request) (zs : List ℤ) → asked r (own r zs) ≡ asked r zs
asked-cut (Request.Settle p m n) zs =
    ap (λ (w : List ℤ). call (on p (settle m.0 w))) (ap (take n) (take-clipped n (min n (length zs)) zs refl) ∙ take-take n n zs (omega arith))
asked-cut (Request.Special n) zs =
    ap guarantee
    (ap (guarantee_of n) (take-clipped (total (length_list n)) (min (total (length_list n)) (length zs)) zs refl) ∙ row_cut n zs)
asked-cut (Request.Batch n) zs = ap (λ (w : List ℕ). call (batch w)) (file-cut n zs)
asked-cut r zs = refl
