-- A settlement by the tests that the code makes: each answer. Assumes nothing.
use Prim.Native.Nat.{ℕ, ◌+◌, ◌-◌, ◌≤◌, ◌<◌}
use mathlib.Core.Path.{◌≡◌, refl, sym, ◌∙◌, ap}
use mathlib.Core.Bool.{Bool, true, false, cond, ◌&&◌, and-false}
use mathlib.Core.List.{List}
use native.Mathlib.Omega.{arith}
use borrow.Author.Tests.{le-leb, lt-leb}
use lib.Dec.{leb}
use lib.ListN.{length}
use lib.IntN.{ℤ}
use Rattle.laws.specs.Cases.{cond-true, cond-false, and_both, and-refused}
use Rattle.calendar.specs.Civil.{month_of}
use Rattle.refusal.specs.declared.Refusal.{Refusal}
use Rattle.refusal.specs.declared.Refusal.TheVariants.{FigureCount, OutOfRange}
use Rattle.refusal.specs.Numbers.{number_of}
use Rattle.manual.specs.declared.Call.{Call}
use Rattle.std.specs.Prelude.{Option, Some, None, Result, Ok, Err}
use Rattle.manual.specs.Check.{call_is_made, checked}
use Rattle.manual.specs.Figures.{sum_of, wrong_count, out_of_range, summed}
use Rattle.manual.specs.Laws.{checked-zeros}
use Rattle.file.specs.declared.File.{File}
use Rattle.file.specs.Answer.{Answer, refused, called, covered, recorded, decide}
use Rattle.file.specs.Calls.{amounts_of}
use Rattle.file.specs.CallLaws.{amounts-places}
use Rattle.file.specs.Fields.{open_calls, open_amounts}
use Rattle.file.specs.Settle.{outside_months, check_due, deposited, settlement_calls, check_says, settled_answer, settle_answer}
use Rattle.file.specs.DueCheck.{is_fifth, check_answer}
use Rattle.file.specs.Sound.{Sound}
use Rattle.file.specs.KeepsCalls.{open-count}

-- ---- the answers

-- the figures are of the right number and within their range, and the total is their sum
figures-summed : (figures : List ℤ) (r : Result ℤ Refusal) (e : ℤ) → r ≡ summed figures → r ≡ Ok e
    → (e ≡ sum_of figures) × (wrong_count figures ≡ false) × (out_of_range figures ≡ false)
unfolding summed
figures-summed figures r e h k = pick (wrong_count figures) (out_of_range figures) (sym h ∙ k)
  where
    pick : (w o : Bool) → cond w (Err FigureCount) (cond o (Err OutOfRange) (Ok (sum_of figures))) ≡ Ok e
        → (e ≡ sum_of figures) × (w ≡ false) × (o ≡ false)
    pick true o q = (cc, cc, cc)
    pick false true q = (cc, cc, cc)
    pick false false q = (cc, refl, refl)

module _ (f : File) (t m : ℕ) (figures : List ℤ) where
  -- cause 12
  pub settle-outside : outside_months (month_of t) m ≡ true → refused 12 ≡ settle_answer f t m figures
  unfolding settle_answer decide
  settle-outside h = simp h

  module _ (inside : outside_months (month_of t) m ≡ false) (r : Result ℤ Refusal) (summing : r ≡ summed figures) where
    -- causes 10 and 11
    pub settle-figures : (n : Refusal) → r ≡ Err n → refused (number_of n) ≡ settle_answer f t m figures
    unfolding settle_answer decide summed
    settle-figures n h = sym (simp inside (pick (wrong_count figures) (out_of_range figures) _ (sym summing ∙ h)))
      where
        pick : (w o : Bool) (x : Answer) → cond w (Err FigureCount) (cond o (Err OutOfRange) (Ok (sum_of figures))) ≡ Err n
            → cond w (refused 10) (cond o (refused 11) x) ≡ refused (number_of n)
        pick true o x q = cc
        pick false true x q = cc
        pick false false x q = cc

    module _ (e : ℤ) (total : r ≡ Ok e) where
      -- only cause 13 is left
      last-cause : settle_answer f t m figures
          ≡ cond (settlement_calls f t m figures && leb 4 (length (open_calls f))) (refused 13) (settled_answer f t m figures)
      unfolding settle_answer decide
      last-cause = let k = figures-summed figures r e summing total in simp (inside, k.1, k.2)

      -- no check was due
      pub settle-recorded : check_due (month_of t) m ≡ false → recorded e ≡ settle_answer f t m figures
      unfolding settlement_calls settled_answer
      settle-recorded q =
          let same : e ≡ sum_of figures = (figures-summed figures r e summing total).0 in
          ap recorded same ∙ sym (last-cause ∙ (simp q))

      -- one was
      pub settle-checked : check_due (month_of t) m ≡ true → settle_answer f t m figures ≡ check_answer f t e
      unfolding settlement_calls settled_answer check_answer
      settle-checked q =
          let same : e ≡ sum_of figures = (figures-summed figures r e summing total).0 in
          last-cause ∙ (simp q) ∙ ap (check_answer f t) (sym same)

-- ---- a check that is due

covered-unmade : (made : Bool) (x : Call) → None ≡ cond made (Some x) None → made ≡ false
covered-unmade true x q = cc
covered-unmade false x q = refl

call-made : (made : Bool) (x call : Call) → Some call ≡ cond made (Some x) None → made ≡ true
call-made true x call q = refl
call-made false x call q = cc

-- What the check found, by D and the amounts in the four places that the code gave it: the zeros behind the open calls change nothing.
module _ (f : File) (t : ℕ) (s : Sound t f) (e : ℤ) (d : ℕ) (opens : List ℕ) (r : Option Call) (d-is : d ≡ deposited f t)
    (opens-is : opens ≡ amounts_of f.calls) (r-is : r ≡ checked e d f.firm opens) where
  found : r ≡ checked e (deposited f t) f.firm (open_amounts f)
  found =
      let zeros = ap amounts_of s.places ∙ amounts-places (open_calls f) in
      r-is ∙ rw (d-is, opens-is, zeros) (checked-zeros e _ f.firm (open_amounts f) (4 - length (open_calls f)))

  pub check-covered : r ≡ None → covered e ≡ check_answer f t e
  unfolding check_answer checked
  check-covered h =
      let u : call_is_made e (deposited f t) f.firm (open_amounts f) ≡ false = covered-unmade _ _ (sym h ∙ found) in
      sym (cond-false (is_fifth f t e) _ _ (and-refused _ _ u) ∙ ap (check_says e (t + 10)) (sym found ∙ h))

  module _ (call : Call) (h : r ≡ Some call) where
    is_made : call_is_made e (deposited f t) f.firm (open_amounts f) ≡ true
    unfolding checked
    is_made = call-made _ _ _ (sym h ∙ found)

    -- a fifth open call
    pub check-fifth : 4 ≤ f.count → refused 13 ≡ check_answer f t e
    unfolding check_answer
    check-fifth n =
        let full : leb 4 (length (open_calls f)) ≡ true = le-leb 4 (length (open_calls f)) (omega (arith, open-count f t s)) in
        sym (cond-true (is_fifth f t e) _ _ (and_both _ _ is_made full))

    -- a new call
    pub check-called : f.count < 4 → called call.amount call.asked (t + 10) ≡ check_answer f t e
    unfolding check_answer
    check-called n =
        let free : leb 4 (length (open_calls f)) ≡ false = lt-leb 4 (length (open_calls f)) (omega (arith, open-count f t s)) in
        sym (cond-false (is_fifth f t e) _ _ (rw free (and-false (call_is_made e (deposited f t) f.firm (open_amounts f)))) ∙ ap (check_says e (t + 10)) (sym found ∙ h))
