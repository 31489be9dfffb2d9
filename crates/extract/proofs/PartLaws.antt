-- The part of a batch that is a participant's, searched among its pairs; and the lines of an extract as they are written.
-- Assumes nothing.
use Prim.Native.Nat.{ℕ, ◌≤◌, ◌<◌}
use native.Mathlib.Omega.{arith}
use mathlib.Core.Path.{◌≡◌, refl, sym, ap, ◌∙◌}
use mathlib.Core.Bool.{Bool, true, false}
use mathlib.Core.List.{List, [], ◌∷◌, ◌++◌}
use lib.Dec.{eqb}
use lib.IntN.{ℤ}
use Rattle.std.specs.Prelude.{Option, Some, None, MatchOption, Result, Ok, Err}
use Rattle.words.specs.Text.{text}
use Rattle.batch.specs.declared.Misfit.{Misfit}
use Rattle.batch.specs.Batch.{participant_at, form_of}
use Rattle.batch.proofs.CheckLaws.{found-least, none-least}
use Rattle.journal.specs.declared.Request.{Request}
use Rattle.printing.specs.Lines.{printed}
use Rattle.answering.specs.Asked.{batch_bytes}
use Rattle.printing.specs.Written.{Sheet, followed}
use Rattle.printing.specs.WrittenLaws.{followed_none, followed_twice}
use Rattle.extract.specs.Extract.{own_part}
use Rattle.extract.specs.Lines.{stays, own_numbers, settle_line, part_line, file_of, own_line, commented, behind_call, line_with, extracted_line}

module _ (p : ℕ) (file : List ℕ) (form : Result ℕ Misfit) (is : form ≡ form_of file) where
  pub no_batch : (m : Misfit) → form ≡ Err m → None ≡ own_part p file
  unfolding own_part
  no_batch m e = rw (← is, e) refl

  pub part_found : (n : ℕ) (r : Option ℕ) → form ≡ Ok n
      → MatchOption r ((k : ℕ) → 0 ≤ k → k < n → eqb (participant_at file k) p ≡ false)
      (λ i. (0 ≤ i) × (i < n) × (eqb (participant_at file i) p ≡ true) × ((k : ℕ) → 0 ≤ k → k < i → eqb (participant_at file k) p ≡ false))
      → r ≡ own_part p file
  unfolding own_part
  part_found n None e all =
      rw (← is, e)
      (none-least (λ k. eqb (participant_at file k) p) n n (omega arith) (record { none = λ k h. all k (omega arith) (omega arith) }))
  part_found n (Some i) e first =
      rw (← is, e)
      (found-least (λ k. eqb (participant_at file k) p) n i first.1 (record { none = λ k h. first.3 k (omega arith) h }) first.2)

-- What stands behind a call.
pub behind_none : (s u : Sheet) (reference : List ℕ) → reference ≡ [] → u ≡ followed s (10 ∷ []) → u ≡ followed s (behind_call reference)
unfolding behind_call commented
behind_none s u reference e f = rw e f

pub behind_some : (s t u v : Sheet) (reference : List ℕ) → (reference ≡ [] → ⊥) → t ≡ followed s (text " # ") → u ≡ followed t reference
    → v ≡ followed u (10 ∷ []) → v ≡ followed s (behind_call reference)
unfolding behind_call commented
behind_some s t u v [] e f g h = absurd (e refl)
behind_some s t u v (b ∷ reference) e f g h =
    let mark = text " # " in
    rw (h, g, f)
    (ap (λ (x : Sheet). followed x (10 ∷ [])) (followed_twice s mark (b ∷ reference)) ∙ followed_twice s (mark ++ (b ∷ reference)) (10 ∷ []))

-- The settlement of a participant's part, or nothing.
module _ (p : ℕ) (file reference : List ℕ) (part : Option ℕ) (is : part ≡ own_part p file) where
  pub part_put : (k : ℕ) (s u v : Sheet) → part ≡ Some k
      → u ≡ followed s (printed (settle_line p file k).request (settle_line p file k).numbers) → v ≡ followed u (behind_call reference)
      → v ≡ followed s (line_with reference (part_line p file (own_part p file)))
  unfolding line_with
  part_put k s u v e f g = rw (← is, e, g, f, followed_twice) refl

  pub part_none : (s : Sheet) → part ≡ None → s ≡ followed s (line_with reference (part_line p file (own_part p file)))
  unfolding line_with
  part_none s e = rw (← is, e) (sym (followed_none s))

-- A line of the journal: a batch's part ..
module _ (p : ℕ) (r : Request) (zs : List ℤ) (reference : List ℕ) (file : Option ℕ) (is : file ≡ file_of r) where
  pub line_filed : (n : ℕ) (s v : Sheet) → file ≡ Some n
      → v ≡ followed s (line_with reference (part_line p (batch_bytes n zs) (own_part p (batch_bytes n zs))))
      → v ≡ followed s (extracted_line p r zs reference)
  unfolding extracted_line own_line
  line_filed n s v e f = rw (← is, e) f

  -- .. one that stays ..
  module _ (none : file ≡ None) (t : Bool) (test : t ≡ stays p r) where
    pub line_stays : (s u v : Sheet) → t ≡ true → u ≡ followed s (printed r (own_numbers r zs)) → v ≡ followed u (behind_call reference)
        → v ≡ followed s (extracted_line p r zs reference)
    unfolding extracted_line own_line line_with
    line_stays s u v e f g = rw (← is, none, ← test, e, g, f, followed_twice) refl

    -- .. or one that is left out.
    pub line_left : (s : Sheet) → t ≡ false → s ≡ followed s (extracted_line p r zs reference)
    unfolding extracted_line own_line line_with
    line_left s e = rw (← is, none, ← test, e) (sym (followed_none s))
