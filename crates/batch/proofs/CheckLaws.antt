-- The three causes of refusal of a file, from what the code reads.
-- Assumes nothing.
use Prim.Native.Nat.{ℕ, suc, ◌+◌, ◌-◌, ◌≤◌, ◌<◌, min}
use native.Mathlib.Omega.{arith}
use native.Mathlib.Numerals.{add-one}
use mathlib.Core.Path.{◌≡◌, refl, sym, ap, ap₂, ◌∙◌}
use mathlib.Core.Bool.{Bool, true, false, ◌&&◌, ◌||◌}
use mathlib.Core.List.{List}
use borrow.Author.Tests.{lt-ltb, le-ltb, eq-eqb, ne_eqb, eqb-true, eqb-false, not-false, leb-true, ltb-true, ltb-false}
use lib.Dec.{ltb, leb, eqb}
use lib.ListN.{length, get_or, set, replicate, length-set}
use lib.Seq.{get_or-set_same, get_or-set_other}
use Rattle.std.specs.Prelude.{Option, Some, None, MatchOption, Result, Ok, Err}
use Rattle.laws.specs.Cases.{split, cond-true, cond-false, or-first, or-second, and_left}
use Rattle.laws.specs.Least.{NoneBelow, least, least-none, least-found, none-next}
use Rattle.laws.specs.Places.{get_d-same}
use Rattle.refusal.specs.declared.Refusal.{Refusal}
use Rattle.refusal.specs.declared.Refusal.TheVariants.{BatchTooShort, PartsMisplaced, WrongPart}
use Rattle.batch.specs.declared.Misfit.{Misfit}
use Rattle.batch.specs.Batch.{count_in, end_at, participant_at, too_short, below}
use Rattle.batch.specs.Batch.{misplaced, first_misplaced, not_following, is_before, wrong_length, wrong_part, first_wrong, refused_if, form_of}

-- ---- the first pair of which a test holds

-- The test holds of none of the first i pairs.
pub record Passed (test : ℕ → Bool) (i : ℕ) : Type 0 where
  pub none : NoneBelow test i

pub passed_first : (test : ℕ → Bool) → Passed test 0
passed_first test = record { none = λ k h. absurd (omega arith) }

pub passed-next : (test : ℕ → Bool) (i : ℕ) (t : Bool) → Passed test i → t ≡ test i → t ≡ false → Passed test (i + 1)
passed-next test i t s e f = record { none = none-next test i s.none (sym e ∙ f) }

-- The place that a search found, or none.
pub found-least : (test : ℕ → Bool) (n i : ℕ) → i < n → Passed test i → test i ≡ true → Some i ≡ below (least test n) n
found-least test n i h s e =
    let first = least-found test n i h s.none e in
    let less : least test n < n = omega arith in
    sym (cond-true (ltb (least test n) n) (Some (least test n)) None (lt-ltb (least test n) n less) ∙ ap Some first)

pub none-least : (test : ℕ → Bool) (n i : ℕ) → n ≤ i → Passed test i → None ≡ below (least test n) n
none-least test n i h s =
    let last = least-none test n (λ k l. s.none k (omega arith)) in
    let most : n ≤ least test n = omega arith in
    sym (cond-false (ltb (least test n) n) (Some (least test n)) None (le-ltb (least test n) n most))

-- ---- cause 21

pub misplaced-found : (file : List ℕ) (n : ℕ) (r : Option ℕ) → n ≡ count_in file
    → MatchOption r ((k : ℕ) → 0 ≤ k → k < n → misplaced file k ≡ false)
    (λ i. (0 ≤ i) × (i < n) × (misplaced file i ≡ true) × ((k : ℕ) → 0 ≤ k → k < i → misplaced file k ≡ false))
    → r ≡ below (first_misplaced file) (count_in file)
unfolding first_misplaced
misplaced-found file n None e all =
    none-least (misplaced file) (count_in file) (count_in file) (omega arith)
    (record { none = λ k h. all k (omega arith) (omega arith) })
misplaced-found file n (Some i) e first =
    found-least (misplaced file) (count_in file) i (omega (arith, first.1)) (record { none = λ k h. first.3 k (omega arith) h }) first.2

-- ---- cause 22

-- The participants of the first i pairs are marked.
pub record Seen (file : List ℕ) (i : ℕ) (seen : List Bool) : Type 0 where
  pub long : length seen ≡ 256
  pub which : (p : ℕ) → p < 256 → get_or seen p false ≡ is_before file i p

pub seen_first : (file : List ℕ) → Seen file 0 (replicate 256 false)
unfolding is_before
seen_first file = record { long = refl; which = λ p h. get_d-same false 256 p }

-- One mark more.
marked : (file : List ℕ) (i p : ℕ) (seen : List Bool) → Seen file i seen → p ≡ participant_at file i → p < 256 → (q : ℕ) → q < 256
    → get_or (set seen p true) q false ≡ is_before file (suc i) q
unfolding is_before
marked file i p seen s e h q l =
    split (eqb p q)
    (λ t.
    let same = eqb-true p q t in
    ap (λ (k : ℕ). get_or (set seen p true) k false) (sym same)
    ∙ get_or-set_same seen p true false (omega (arith, s.long))
    ∙ sym (ap (λ (b : Bool). b || is_before file i q) (eq-eqb (participant_at file i) q (sym e ∙ same))))
    (λ f.
    let other = eqb-false p q f in
    get_or-set_other seen p q true false (λ r. other (sym r))
    ∙ s.which q l
    ∙ sym (ap (λ (b : Bool). b || is_before file i q) (ne_eqb (participant_at file i) q (λ r. other (e ∙ r)))))

pub seen_next : (file : List ℕ) (i p : ℕ) (seen : List Bool) → Seen file i seen → p ≡ participant_at file i → p < 256
    → Seen file (i + 1) (set seen p true)
seen_next file i p seen s e h =
    record {
      long = simp length-set s.long;
      which = λ q l. marked file i p seen s e h q l ∙ ap (λ (k : ℕ). is_before file k q) (sym (add-one i));
    }

-- Whether a part is wrong: its length, or its participant.
module _ (file : List ℕ) (n i p : ℕ) (t : Bool) (seen : List Bool) (s : Passed (wrong_part file) i) (e : t ≡ wrong_length file i)
    (marks : Seen file i seen) (q : p ≡ participant_at file i) (l : p < 256) where
  wrong_is : (t || get_or seen p false) ≡ wrong_part file i
  unfolding wrong_part
  wrong_is = ap₂ ◌||◌ e (marks.which p l ∙ ap (is_before file i) q)

  found : n ≡ count_in file → i < n → (t || get_or seen p false) ≡ true → Some i ≡ below (first_wrong file) (count_in file)
  unfolding first_wrong
  found c h v = found-least (wrong_part file) (count_in file) i (omega arith) s (sym wrong_is ∙ v)

  pub wrong-twice : n ≡ count_in file → i < n → t ≡ false → get_or seen p false ≡ true → Some i ≡ below (first_wrong file) (count_in file)
  wrong-twice c h v twice = found c h (ap₂ ◌||◌ v twice)

  pub right-next : t ≡ false → get_or seen p false ≡ false → Passed (wrong_part file) (i + 1)
  right-next v once = passed-next (wrong_part file) i (t || get_or seen p false) s wrong_is (ap₂ ◌||◌ v once)

pub wrong-length : (file : List ℕ) (n i : ℕ) (t : Bool) → n ≡ count_in file → i < n → Passed (wrong_part file) i → t ≡ wrong_length file i
    → t ≡ true → Some i ≡ below (first_wrong file) (count_in file)
unfolding first_wrong wrong_part
wrong-length file n i t c h s e v =
    found-least (wrong_part file) (count_in file) i (omega arith) s
    (ap (λ (b : Bool). b || is_before file i (participant_at file i)) (sym e ∙ v))

pub wrong-none : (file : List ℕ) (n i : ℕ) → n ≡ count_in file → n ≤ i → Passed (wrong_part file) i → None ≡ below (first_wrong file) (count_in file)
unfolding first_wrong
wrong-none file n i e h s = none-least (wrong_part file) (count_in file) i (omega arith) s

-- ---- what a file is

-- A cause that holds, and one that does not.
refused : (refusal : Refusal) (pair : ℕ) (holds : Bool) (form : Result ℕ Misfit) → holds ≡ true
    → refused_if refusal pair holds form ≡ Err (record { refusal = refusal; pair = pair })
unfolding refused_if
refused refusal pair holds form e = cond-true holds _ form e

unrefused : (refusal : Refusal) (pair : ℕ) (holds : Bool) (form : Result ℕ Misfit) → holds ≡ false → refused_if refusal pair holds form ≡ form
unfolding refused_if
unrefused refusal pair holds form e = cond-false holds _ form e

-- A place that was found is below the bound; where none was, it is not.
some-below : (k n i : ℕ) (r : Option ℕ) → r ≡ below k n → r ≡ Some i → (i ≡ k) × (k < n)
some-below k n i r e f =
    split (ltb k n) (λ t. (some (f-is t), ltb-true k n t)) (λ t. absurd (none (f-not t)))
  where
    f-is : ltb k n ≡ true → Some i ≡ Some k
    f-is t = sym f ∙ e ∙ cond-true (ltb k n) (Some k) None t

    f-not : ltb k n ≡ false → Some i ≡ None
    f-not t = sym f ∙ e ∙ cond-false (ltb k n) (Some k) None t

    some : Some i ≡ Some k → i ≡ k
    some p = cc

    none : Some i ≡ None → ⊥
    none p = cc

none_below : (k n : ℕ) (r : Option ℕ) → r ≡ below k n → r ≡ None → n ≤ k
none_below k n r e f =
    split (ltb k n) (λ t. absurd (some (sym f ∙ e ∙ cond-true (ltb k n) (Some k) None t))) (λ t. ltb-false k n t)
  where
    some : None ≡ Some k → ⊥
    some p = cc

-- The first cause.
module _ (file : List ℕ) (t : Bool) (known : t ≡ too_short file) where
  pub form-short : t ≡ true → Err (record { refusal = BatchTooShort; pair = 0 }) ≡ form_of file
  unfolding form_of
  form-short v = sym (refused BatchTooShort 0 (too_short file) _ (sym known ∙ v))

  module _ (long : t ≡ false) (n : ℕ) (pairs : n ≡ count_in file) where
    -- Where it does not hold there are pairs.
    pub some_pairs : 1 ≤ n
    unfolding too_short
    some_pairs =
        let count = count_in file in
        let within = not-false (leb 1 count && leb count 64) (or-first _ _ (or-second (ltb (length file) 4) _ (sym known ∙ long))) in
        let some = leb-true 1 count (and_left (leb 1 count) (leb count 64) within) in
        omega arith

    abbrev third : Result ℕ Misfit
    third = refused_if WrongPart (first_wrong file) (ltb (first_wrong file) (count_in file)) (Ok (count_in file))

    abbrev second : Result ℕ Misfit
    second = refused_if PartsMisplaced (min (first_misplaced file) (count_in file - 1)) (not_following file) third

    after-first : form_of file ≡ second
    unfolding form_of
    after-first = unrefused BatchTooShort 0 (too_short file) second (sym known ∙ long)

    -- The second.
    module _ (m : Option ℕ) (search : m ≡ below (first_misplaced file) (count_in file)) where
      pub form-misplaced : (i : ℕ) → m ≡ Some i → Err (record { refusal = PartsMisplaced; pair = i }) ≡ form_of file
      unfolding not_following
      form-misplaced i e =
          let found = some-below (first_misplaced file) (count_in file) i m search e in
          let less : first_misplaced file < count_in file = found.1 in
          let pair : min (first_misplaced file) (count_in file - 1) ≡ i = omega (arith, found.0) in
          let holds : not_following file ≡ true = simp (lt-ltb (first_misplaced file) (count_in file) less) in
          sym
          (after-first
          ∙ refused PartsMisplaced (min (first_misplaced file) (count_in file - 1)) (not_following file) third holds
          ∙ ap (λ (k : ℕ). Err (record { refusal = PartsMisplaced; pair = k })) pair)

      module _ (none : m ≡ None) (end : ℕ) (ends : end ≡ end_at file (n - 1)) where
        all : count_in file ≤ first_misplaced file
        all = none_below (first_misplaced file) (count_in file) m search none

        last : end_at file (count_in file - 1) ≡ end
        last = ap (λ (k : ℕ). end_at file (k - 1)) (sym pairs) ∙ sym ends

        pub form-end : (end ≡ length file → ⊥) → Err (record { refusal = PartsMisplaced; pair = n - 1 }) ≡ form_of file
        unfolding not_following
        form-end other =
            let most : count_in file ≤ first_misplaced file = all in
            let pair : min (first_misplaced file) (count_in file - 1) ≡ n - 1 = omega arith in
            let differs = ne_eqb (end_at file (count_in file - 1)) (length file) (λ same. other (sym last ∙ same)) in
            let holds : not_following file ≡ true = simp (le-ltb (first_misplaced file) (count_in file) most, differs) in
            sym
            (after-first
            ∙ refused PartsMisplaced (min (first_misplaced file) (count_in file - 1)) (not_following file) third holds
            ∙ ap (λ (k : ℕ). Err (record { refusal = PartsMisplaced; pair = k })) pair)

        -- The third.
        module _ (same : end ≡ length file) (w : Option ℕ) (searched : w ≡ below (first_wrong file) (count_in file)) where
          after-second : form_of file ≡ third
          unfolding not_following
          after-second =
              let holds : not_following file ≡ false =
              simp (
                le-ltb (first_misplaced file) (count_in file) all,
                eq-eqb (end_at file (count_in file - 1)) (length file) (last ∙ same),
              ) in
              after-first ∙ unrefused PartsMisplaced (min (first_misplaced file) (count_in file - 1)) (not_following file) third holds

          pub form-wrong : (i : ℕ) → w ≡ Some i → Err (record { refusal = WrongPart; pair = i }) ≡ form_of file
          form-wrong i e =
              let found = some-below (first_wrong file) (count_in file) i w searched e in
              let holds = lt-ltb (first_wrong file) (count_in file) found.1 in
              sym
              (after-second
              ∙ refused WrongPart (first_wrong file) (ltb (first_wrong file) (count_in file)) (Ok (count_in file)) holds
              ∙ ap (λ (k : ℕ). Err (record { refusal = WrongPart; pair = k })) (sym found.0))

          pub form-parts : w ≡ None → Ok n ≡ form_of file
          form-parts e =
              let holds = le-ltb (first_wrong file) (count_in file) (none_below (first_wrong file) (count_in file) w searched e) in
              sym
              (after-second
              ∙ unrefused WrongPart (first_wrong file) (ltb (first_wrong file) (count_in file)) (Ok (count_in file)) holds
              ∙ ap Ok (sym pairs))
