-- The deletion's amount, its answers and the files that it leaves, by the tests that the code makes. Assumes nothing.
use Prim.Native.Nat.{ℕ, ◌+◌, ◌-◌, ◌<◌, ◌≤◌}
use native.Mathlib.Omega.{arith}
use mathlib.Core.Path.{◌≡◌, refl, sym, ◌∙◌, ap}
use mathlib.Core.Bool.{Bool, true, false, cond, not, ◌&&◌, ◌||◌}
use mathlib.Core.List.{List, [], ◌∷◌, ◌++◌}
use borrow.Author.Tests.{le-leb, lt-leb}
use lib.Dec.{leb, ltb}
use lib.IntN.{ℤ, pos}
use lib.ListN.{length, drop, set, length-append}
use Rattle.std.specs.List.{list_all}
use Rattle.laws.specs.Cases.{cond-true, cond-false, and_both}
use Rattle.calendar.specs.Civil.{month_of, in_deletion_months}
use Rattle.manual.specs.Check.{exceeds_each}
use Rattle.manual.specs.Deletion.{deletion_amount}
use Rattle.file.specs.declared.File.{File}
use Rattle.file.specs.declared.OpenCall.{OpenCall}
use Rattle.file.specs.Answer.{refused, deletion, decide, accepted}
use Rattle.file.specs.Calls.{amounts_of, call_of}
use Rattle.file.specs.CallLaws.{in_places-next}
use Rattle.file.specs.Fields.{open_calls, open_amounts, with_deletion}
use Rattle.file.specs.Deletion.{deletion_totals, last_three, deletion_amount_of, deletion_calls, deletion_answer, calls_deleted, deleted_file}
use Rattle.file.specs.KeepsCalls.{open-count}
use Rattle.file.specs.Sound.{Sound}
use Rattle.file.specs.Totals.{total_at, totals_from}

-- The amount is that of the last three of the totals that the window found.
pub amount_last : (f : File) (t p first end amount : ℕ) (found : List ℤ) → p ≡ month_of t → first ≡ p - 14 → end ≡ p - 1
    → found ≡ totals_from (total_at f.totals) first (end - first) → amount ≡ deletion_amount (drop (length found - 3) found)
    → amount ≡ deletion_amount_of f t
unfolding deletion_amount_of last_three deletion_totals
amount_last f t p first end amount found p-is first-is end_is found-is amount-is = amount-is ∙ rw (found-is, first-is, end_is, p-is) refl

-- Whether an amount exceeds each of some calls.
pub each_call : (x : ℕ) (l : List OpenCall) → list_all (λ (c : OpenCall). ltb c.amount x) l ≡ exceeds_each (pos x) (amounts_of l)
unfolding exceeds_each
each_call x [] = refl
each_call x (c ∷ l) = ap (λ (t : Bool). ltb c.amount x && t) (each_call x l)

-- ---- the answers, and the files that they leave

-- A file placed under deletion, and one with one more call behind its open ones.
abbrev pub leave : File → File
leave f =
    record {
      admitted = f.admitted;
      leaving = true;
      role = f.role;
      firm = f.firm;
      slots = f.slots;
      calls = f.calls;
      count = f.count;
      next = f.next;
      totals = f.totals;
      charged = f.charged;
      accrued = f.accrued;
      made = f.made;
    }

abbrev pub with_call : File → OpenCall → File
with_call f c =
    record {
      admitted = f.admitted;
      leaving = f.leaving;
      role = f.role;
      firm = f.firm;
      slots = f.slots;
      calls = set f.calls f.count c;
      count = f.count + 1;
      next = f.next;
      totals = f.totals;
      charged = f.charged;
      accrued = f.accrued;
      made = f.made + 1;
    }

module _ (f : File) (t : ℕ) where
  -- refused outside August and September, and in the status
  pub deletion-outside : in_deletion_months t ≡ false → (refused 24 ≡ deletion_answer f t) × (f ≡ deleted_file f t)
  unfolding deletion_answer deleted_file decide
  deletion-outside h = rw h (refl, refl)

  pub deletion-again : in_deletion_months t ≡ true → f.leaving ≡ true → (refused 24 ≡ deletion_answer f t) × (f ≡ deleted_file f t)
  unfolding deletion_answer deleted_file decide
  deletion-again h l = rw (h, l) (refl, refl)

  module _ (inside : in_deletion_months t ≡ true) (stays : f.leaving ≡ false) (s : Sound t f) (amount : ℕ) (calls : Bool)
      (amount-is : amount ≡ deletion_amount_of f t) (calls-is : calls ≡ exceeds_each (pos amount) (f.firm ∷ open_amounts f)) where
    whether : deletion_calls f t ≡ calls
    unfolding deletion_calls
    whether = ap (λ (n : ℕ). exceeds_each (pos n) (f.firm ∷ open_amounts f)) (sym amount-is) ∙ sym calls-is

    -- cause 24 doesn't hold, and what is behind it
    untouched : (not (in_deletion_months t) || f.leaving) ≡ false
    untouched = rw (inside, stays) refl

    behind : deletion_answer f t ≡ cond (calls && leb 4 (length (open_calls f))) (refused 13) (deletion amount calls)
    unfolding deletion_answer decide
    behind =
        cond-false _ (refused 24) _ untouched
        ∙ (λ i. cond (whether i && leb 4 (length (open_calls f))) (refused 13) (deletion (sym amount-is i) (whether i)))

    -- the answer where the amount calls, or not, and what the file is then
    module _ (c : Bool) (is : calls ≡ c) (room : (c && leb 4 (length (open_calls f))) ≡ false) where
      accepts : deletion_answer f t ≡ deletion amount calls
      accepts = behind ∙ cond-false _ (refused 13) _ (ap (λ (b : Bool). b && leb 4 (length (open_calls f))) is ∙ room)

      left : (g : File) (l : List OpenCall) → calls_deleted f t ≡ l → with_deletion f l (cond c 1 0) ≡ leave g
          → (deletion amount calls ≡ deletion_answer f t) × (leave g ≡ deleted_file f t)
      unfolding deleted_file
      left g l e h = (
        sym accepts,
        sym h
            ∙ (λ i. with_deletion f (sym e i) (cond (sym (whether ∙ is) i) 1 0))
            ∙ sym (cond-true _ _ f (ap accepted accepts)),
      )

    -- placed, and not called: the open calls are as they were
    pub deletion-uncalled : calls ≡ false → (g : File) → g ≡ f → (deletion amount calls ≡ deletion_answer f t) × (leave g ≡ deleted_file f t)
    unfolding calls_deleted
    deletion-uncalled h g e =
        left false h refl g (open_calls f) (cond-false (deletion_calls f t) _ (open_calls f) (whether ∙ h))
        (let none : f.made + 0 ≡ f.made = omega arith in
        (λ i. record {
          admitted = f.admitted;
          leaving = true;
          role = f.role;
          firm = f.firm;
          slots = f.slots;
          calls = sym s.places i;
          count = open-count f t s i;
          next = f.next;
          totals = f.totals;
          charged = f.charged;
          accrued = f.accrued;
          made = none i;
        })
        ∙ ap leave (sym e))

    -- refused as a fifth call
    pub deletion-fifth : calls ≡ true → 4 ≤ f.count → (refused 13 ≡ deletion_answer f t) × (f ≡ deleted_file f t)
    unfolding deleted_file
    deletion-fifth h k =
        let full : leb 4 (length (open_calls f)) ≡ true = le-leb 4 (length (open_calls f)) (omega (arith, open-count f t s)) in
        let a : deletion_answer f t ≡ refused 13 = behind ∙ cond-true _ (refused 13) _ (and_both calls (leb 4 (length (open_calls f))) h full) in
        (sym a, sym (cond-false _ _ f (ap accepted a)))

    -- placed, and called: the call is behind the open ones
    pub deletion-called : calls ≡ true → f.count < 4 → (g : File) → g ≡ with_call f (call_of amount (t + 10))
        → (deletion amount calls ≡ deletion_answer f t) × (leave g ≡ deleted_file f t)
    unfolding calls_deleted
    deletion-called h k g e =
        let n : f.count ≡ length (open_calls f) = sym (open-count f t s) in
        let room : (true && leb 4 (length (open_calls f))) ≡ false = lt-leb 4 (length (open_calls f)) (omega arith) in
        let c = call_of (deletion_amount_of f t) (t + 10) in
        left true h room g (open_calls f ++ (c ∷ [])) (cond-true (deletion_calls f t) _ (open_calls f) (whether ∙ h))
        ((λ i. record {
          admitted = f.admitted;
          leaving = true;
          role = f.role;
          firm = f.firm;
          slots = f.slots;
          calls =
              sym ((λ j. set (s.places j) (n j) (call_of (amount-is j) (t + 10)))
              ∙ in_places-next (open_calls f) c (omega arith))
              i;
          count = sym (ap (λ (m : ℕ). m + 1) n ∙ sym (length-append (open_calls f) (c ∷ []))) i;
          next = f.next;
          totals = f.totals;
          charged = f.charged;
          accrued = f.accrued;
          made = f.made + 1;
        })
        ∙ ap leave (sym e))
