-- What a batch that is not refused says of its pairs.
-- Assumes nothing.
use Rattle.std.specs.Prelude.{ℕ, zero, suc, ◌+◌, ◌*◌, ◌<◌, ◌≤◌, ◌-◌, min, ◌≡◌, refl, Bool, true, false, not, ◌&&◌, List, leb, ltb, eqb, length, Result, Ok, Err}
use Rattle.std.proofs.Common.{arith, sym, ap, ◌∙◌, leb-true, ltb-true, ltb-false, eqb-true}
use Rattle.std.proofs.lemmas.Bool.{eqb-false}
use Rattle.laws.specs.Cases.{split, clash, or-first, or-second, and_left, and_right}
use Rattle.laws.specs.Least.{NoneBelow, none_below}
use Rattle.refusal.specs.declared.Refusal.{Refusal}
use Rattle.refusal.specs.declared.Refusal.TheVariants.{BatchTooShort, PartsMisplaced, WrongPart}
use Rattle.batch.specs.declared.Misfit.{Misfit}
use Rattle.batch.specs.Batch.{count_in, offset_at, length_at, end_at, begins_at, participant_at, rows_at, too_short}
use Rattle.batch.specs.Batch.{misplaced, first_misplaced, not_following, is_before, wrong_length, wrong_part, first_wrong, refused_if, form_of}

-- Whether a form is a batch.
abbrev pub is_batch : Result ℕ Misfit → Bool
is_batch (Ok n) = true
is_batch (Err misfit) = false

-- A cause that holds makes no batch of a file; one that does not leaves what the others say.
not-refused : (refusal : Refusal) (pair : ℕ) (holds : Bool) (form : Result ℕ Misfit) → is_batch (refused_if refusal pair holds form) ≡ true
    → (holds ≡ false) × (refused_if refusal pair holds form ≡ form)
unfolding refused_if
not-refused refusal pair true form e = clash {t = false} e refl
not-refused refusal pair false form e = (refl, refl)

-- The double negation of a test.
not-not : (t : Bool) → not t ≡ false → t ≡ true
not-not true e = refl
not-not false e = sym e

-- What holds of a batch: none of the three causes, and it has from 1 to 64 parts.
pub record Whole (file : List ℕ) : Type 0 where
  pub form : form_of file ≡ Ok (count_in file)
  pub some : 1 ≤ count_in file
  pub most : count_in file ≤ 64
  pub follows : NoneBelow (misplaced file) (count_in file)
  pub ends : end_at file (count_in file - 1) ≡ length file
  pub right : NoneBelow (wrong_part file) (count_in file)

pub whole : (file : List ℕ) → is_batch (form_of file) ≡ true → Whole file
unfolding form_of too_short not_following first_misplaced first_wrong
whole file e =
    let n = count_in file in
    let third = refused_if WrongPart (first_wrong file) (ltb (first_wrong file) n) (Ok n) in
    let second = refused_if PartsMisplaced (min (first_misplaced file) (n - 1)) (not_following file) third in
    let a = not-refused BatchTooShort 0 (too_short file) second e in
    let b = not-refused PartsMisplaced (min (first_misplaced file) (n - 1)) (not_following file) third (ap is_batch (sym a.1) ∙ e) in
    let c = not-refused WrongPart (first_wrong file) (ltb (first_wrong file) n) (Ok n) (ap is_batch (sym (a.1 ∙ b.1)) ∙ e) in
    let count = not-not (leb 1 n && leb n 64) (or-first _ _ (or-second (ltb (length file) 4) _ a.0)) in
    record {
      form = a.1 ∙ b.1 ∙ c.1;
      some = leb-true 1 n (and_left (leb 1 n) (leb n 64) count);
      most = leb-true n 64 (and_right (leb 1 n) (leb n 64) count);
      follows = none_below (misplaced file) n (ltb-false (first_misplaced file) n (or-first _ _ b.0));
      ends = eqb-true (end_at file (n - 1)) (length file) (not-not _ (or-second (ltb (first_misplaced file) n) _ b.0));
      right = none_below (wrong_part file) n (ltb-false (first_wrong file) n c.0);
    }

-- What is below j + 1 and isn't j is below j.
below : (i j : ℕ) → (i ≡ j → ⊥) → i < suc j → i < j
below i j ne h = split (ltb i j) (ltb-true i j) (λ f. absurd (ne (let not = ltb-false i j f in omega arith)))

-- A participant that is none of those before pair j isn't that of pair i, where i is before j.
not-before : (file : List ℕ) (i j p : ℕ) → i < j → is_before file j p ≡ false → participant_at file i ≡ p → ⊥
unfolding is_before
not-before file i zero p h e same = absurd (omega arith)
not-before file i (suc j) p h e same =
    split (eqb i j)
    (λ t.
    eqb-false (participant_at file j) p (or-first (eqb (participant_at file j) p) (is_before file j p) e)
    (ap (participant_at file) (sym (eqb-true i j t)) ∙ same))
    (λ f. not-before file i j p (below i j (eqb-false i j f) h) (or-second (eqb (participant_at file j) p) (is_before file j p) e) same)

-- "a participant twice": two pairs of a batch have two participants.
pub participants-differ : (file : List ℕ) → Whole file → (i j : ℕ) → i < j → j < count_in file
    → participant_at file i ≡ participant_at file j → ⊥
unfolding wrong_part
participants-differ file w i j h k =
    not-before file i j (participant_at file j) h (or-second (wrong_length file j) (is_before file j (participant_at file j)) (w.right j k))

-- ---- a part lies in the file

-- Where part i begins, and its length.
pub part-begins : (file : List ℕ) → Whole file → (i : ℕ) → i < count_in file → offset_at file i ≡ begins_at file i
unfolding misplaced
part-begins file w i h = eqb-true (offset_at file i) (begins_at file i) (not-not _ (w.follows i h))

pub part-long : (file : List ℕ) → Whole file → (i : ℕ) → i < count_in file → length_at file i ≡ 2 + 8 * rows_at file i
unfolding wrong_part wrong_length
part-long file w i h =
    eqb-true (length_at file i) (2 + 8 * rows_at file i) (not-not _ (or-second (ltb (length_at file i) 2) _ (or-first _ _ (w.right i h))))

-- Each part begins where the one before it ended, so that it ends no earlier.
ends-grow : (file : List ℕ) → Whole file → (i j : ℕ) → i + j < count_in file → end_at file i ≤ end_at file (i + j)
unfolding end_at begins_at
ends-grow file w i zero h = let e : i + 0 ≡ i = omega arith in rw e (omega arith)
ends-grow file w i (suc j) h =
    let next : i + suc j ≡ suc (i + j) = omega arith in
    rw next (omega (arith, ends-grow file w i j (omega arith), part-begins file w (suc (i + j)) (omega arith)))

-- A part with its figures ends within the file, so that no byte outside is read.
pub part-inside : (file : List ℕ) → Whole file → (i : ℕ) → i < count_in file → offset_at file i + 2 + 8 * rows_at file i ≤ length file
unfolding end_at
part-inside file w i h =
    let last = ends-grow file w i (count_in file - 1 - i) (omega arith) in
    let there : i + (count_in file - 1 - i) ≡ count_in file - 1 = omega arith in
    let end : end_at file (i + (count_in file - 1 - i)) ≡ length file = ap (end_at file) there ∙ w.ends in
    omega (arith, part-long file w i h)
