-- The two admission rules differ in admissions only, and the history of a list's first calls grows by one call, made under the rule of its place.
-- Assumes nothing.
use Prim.Native.Nat.{ℕ, suc, ◌+◌, ◌-◌, ◌≤◌, ◌<◌, min}
use native.Mathlib.Omega.{arith}
use mathlib.Core.Path.{◌≡◌, refl, sym, ap, ap₂, ◌∙◌}
use mathlib.Core.Bool.{Bool, true, false}
use mathlib.Core.List.{List, [], ◌∷◌}
use borrow.Author.Tests.{ltb-true, ltb-false}
use lib.Dec.{ltb}
use lib.IntN.{ℤ}
use Rattle.laws.specs.Cases.{split}
use Rattle.layout.specs.Book.{Book}
use Rattle.book.specs.Call.{admit, lodge, release, settle, annual_run, delete, Call, on, advance, statement, calls_made, batch}
use Rattle.book.specs.Rule.{old_rule, new_rule, under, history}
use Rattle.book.specs.Account.{answer}
use Rattle.replay.specs.declared.call.Call.{Call as Case}
use Rattle.replay.specs.declared.call.Call.TheVariants as Cases
use Rattle.replay.specs.Said.{said}
use Rattle.replay.specs.Encoding.{call_at, calls_from, history_up_to, rule_of_place}

-- ---- only admission changes

-- Whether a call is an admission.
abbrev pub admits : Call → Bool
admits (on p (admit role)) = true
admits (on p (lodge k h)) = false
admits (on p (release k a)) = false
admits (on p (settle m figures)) = false
admits (on p annual_run) = false
admits (on p delete) = false
admits (advance day budget) = false
admits (statement p) = false
admits calls_made = false
admits (batch file) = false

-- Any other call is answered alike under both rules.
pub alike : (c : Call) → admits c ≡ false → (b : Book) → answer old_rule b c ≡ answer new_rule b c
unfolding answer
alike (on p (admit role)) e b = cc
alike (on p (lodge k h)) e b = refl
alike (on p (release k a)) e b = refl
alike (on p (settle m figures)) e b = refl
alike (on p annual_run) e b = refl
alike (on p delete) e b = refl
alike (advance day budget) e b = refl
alike (statement p) e b = refl
alike calls_made e b = refl
alike (batch file) e b = refl

-- A call whose case is no admission is none.
pub other_case : (c : Case) → ((p role : ℕ) → c ≡ Cases.Admit p role → ⊥) → admits (said c) ≡ false
other_case (Cases.Admit p role) n = absurd (n p role refl)
other_case (Cases.Lodge p k holding) n = refl
other_case (Cases.Release p k amount) n = refl
other_case (Cases.Settle p month figures) n = refl
other_case (Cases.AnnualRun p) n = refl
other_case (Cases.Advance day budget) n = refl
other_case (Cases.Statement p) n = refl
other_case (Cases.Load file) n = refl
other_case (Cases.Delete p) n = refl
other_case Cases.CallsMade n = refl

-- ---- the history of the calls so far

-- Nothing yet.
pub history-none : (first : ℕ) (calls : List ℕ) (figures : List ℤ) (files : List ℕ) → history_up_to first calls figures files 0 ≡ []
unfolding history_up_to calls_from
history-none first calls figures files =
    let p : min first 0 ≡ 0 = omega arith in
    let q : 0 - first ≡ 0 = omega arith in
    ap₂ (λ (i j : ℕ). history (calls_from 0 calls figures files i) (calls_from first calls figures files j)) p q

-- One call more, in the first stretch and behind it: it comes first, with the rule of its place.
module _ (first : ℕ) (calls : List ℕ) (figures : List ℤ) (files : List ℕ) (n : ℕ) where
  next-first : n < first → history_up_to first calls figures files (suc n)
      ≡ under old_rule (call_at calls figures files n) ∷ history_up_to first calls figures files n
  unfolding history_up_to calls_from
  next-first h =
      let p : min first (suc n) ≡ suc n = omega arith in
      let q : min first n ≡ n = omega arith in
      let r : suc n - first ≡ 0 = omega arith in
      let t : n - first ≡ 0 = omega arith in
      let u : 0 + n ≡ n = omega arith in
      ap₂ (λ (i j : ℕ). history (calls_from 0 calls figures files i) (calls_from first calls figures files j)) p r
      ∙ ap (λ (i : ℕ). under old_rule (call_at calls figures files i) ∷ history (calls_from 0 calls figures files n) []) u
      ∙ ap₂ (λ (i j : ℕ). under old_rule (call_at calls figures files n)
      ∷ history (calls_from 0 calls figures files i) (calls_from first calls figures files j)) (sym q) (sym t)

  next-since : first ≤ n → history_up_to first calls figures files (suc n)
      ≡ under new_rule (call_at calls figures files n) ∷ history_up_to first calls figures files n
  unfolding history_up_to calls_from
  next-since h =
      let p : min first (suc n) ≡ min first n = omega arith in
      let r : suc n - first ≡ suc (n - first) = omega arith in
      let u : first + (n - first) ≡ n = omega arith in
      ap₂ (λ (i j : ℕ). history (calls_from 0 calls figures files i) (calls_from first calls figures files j)) p r
      ∙ ap (λ (i : ℕ). under new_rule (call_at calls figures files i) ∷ history_up_to first calls figures files n) u

  pub history-next : history_up_to first calls figures files (suc n)
      ≡ under (rule_of_place first n) (call_at calls figures files n) ∷ history_up_to first calls figures files n
  history-next =
      split (ltb n first)
      (λ e. rw e (next-first (ltb-true n first e)))
      (λ e. rw e (next-since (ltb-false n first e)))
