-- A settlement's answer by the tests of the code on an admitted participant's file, in the order of the causes.
-- Assumes nothing.
use Prim.Native.Nat.{ℕ, ◌+◌, ◌≤◌, ◌<◌}
use native.Mathlib.Omega.{arith}
use mathlib.Core.Path.{◌≡◌, refl, sym, ap, ◌∙◌}
use mathlib.Core.Bool.{Bool, true, false, cond}
use mathlib.Core.List.{List}
use lib.IntN.{ℤ}
use Rattle.std.specs.Prelude.{Result, Ok, Err, Option, Some, None}
use Rattle.refusal.specs.declared.Refusal.{Refusal}
use Rattle.refusal.specs.declared.Refusal.TheVariants.{MonthOutOfRange}
use Rattle.refusal.specs.Numbers.{number_of}
use Rattle.calendar.specs.Civil.{month_of}
use Rattle.manual.specs.declared.Call.{Call}
use Rattle.manual.specs.Check.{checked}
use Rattle.file.specs.declared.File.{File}
use Rattle.file.specs.Answer.{Answer, refused, called, covered, recorded}
use Rattle.file.specs.Calls.{amounts_of}
use Rattle.file.specs.DueCheck.{check_answer}
use Rattle.file.specs.Settle.{outside_months, check_due, deposited}
use Rattle.file.specs.Sound.{Sound}
use Rattle.file.proofs.Settling as settling
use Rattle.book.specs.Settlements.{AnswersSettlement}

-- What is due says that the month is outside its range ..
out-of-range : (outside b : Bool) (r : Refusal) → Err r ≡ cond outside (Err MonthOutOfRange) (Ok b) → (outside ≡ true) × (r ≡ MonthOutOfRange)
out-of-range true b r e = (refl, cc)
out-of-range false b r e = (cc, cc)

-- .. or not, and whether a check is due.
in_range : (outside b due : Bool) → Ok due ≡ cond outside (Err MonthOutOfRange) (Ok b) → (outside ≡ false) × (due ≡ b)
in_range true b due e = (cc, cc)
in_range false b due e = (refl, cc)

module _ (f : File) (t : ℕ) (due : Result Bool Refusal) (sum : Result ℤ Refusal) where
  pub settle-outside : (r : Refusal) → due ≡ Err r → AnswersSettlement f t due sum (refused (number_of r))
  settle-outside r h m figures d s =
      let is = out-of-range (outside_months (month_of t) m) (check_due (month_of t) m) r (sym h ∙ d) in
      ap (λ (z : Refusal). refused (number_of z)) is.1 ∙ settling.settle-outside f t m figures is.0

  module _ (b : Bool) (inside : due ≡ Ok b) where
    pub settle-figures : (r : Refusal) → sum ≡ Err r → AnswersSettlement f t due sum (refused (number_of r))
    settle-figures r h m figures d s =
        let is = in_range (outside_months (month_of t) m) (check_due (month_of t) m) b (sym inside ∙ d) in
        settling.settle-figures f t m figures is.0 sum s r h

    -- the total, and as it is read from its bits
    module _ (total : ℤ) (h : sum ≡ Ok total) where
      pub settle-recorded : b ≡ false → AnswersSettlement f t due sum (recorded total)
      settle-recorded not m figures d s =
          let is = in_range (outside_months (month_of t) m) (check_due (month_of t) m) b (sym inside ∙ d) in
          settling.settle-recorded f t m figures is.0 sum s total h (sym is.1 ∙ not)

      pub settle-checked : (x : Answer) → b ≡ true → x ≡ check_answer f t total → AnswersSettlement f t due sum x
      settle-checked x due-now q m figures d s =
          let is = in_range (outside_months (month_of t) m) (check_due (month_of t) m) b (sym inside ∙ d) in
          q ∙ sym (settling.settle-checked f t m figures is.0 sum s total h (sym is.1 ∙ due-now))

pub ruleset settles = (settle-outside, settle-figures, settle-recorded, settle-checked)

-- ---- a check that is due

pub check-covered : (f : File) (t : ℕ) (s : Sound t f) (e : ℤ) (d : ℕ) (opens : List ℕ) (n : ℕ) (r : Option Call) → d ≡ deposited f t → n ≡ f.firm
    → opens ≡ amounts_of f.calls → r ≡ checked e d n opens → r ≡ None → covered e ≡ check_answer f t e
check-covered f t s e d opens n r d-is firm opens-is r-is h =
    settling.check-covered f t s e d opens r d-is opens-is (r-is ∙ ap (λ (k : ℕ). checked e d k opens) firm) h

module _ (f : File) (t : ℕ) (s : Sound t f) (e : ℤ) (d : ℕ) (opens : List ℕ) (n : ℕ) (r : Option Call) (d-is : d ≡ deposited f t) (firm : n ≡ f.firm)
    (opens-is : opens ≡ amounts_of f.calls) (r-is : r ≡ checked e d n opens) (call : Call) (h : r ≡ Some call) (k : ℕ) (count : k ≡ f.count) where
  found : r ≡ checked e d f.firm opens
  found = r-is ∙ ap (λ (m : ℕ). checked e d m opens) firm

  pub check-fifth : 4 ≤ k → refused 13 ≡ check_answer f t e
  check-fifth full = settling.check-fifth f t s e d opens r d-is opens-is found call h (omega arith)

  pub check-called : (day : ℕ) → day ≡ t → k < 4 → called call.amount call.asked (day + 10) ≡ check_answer f t e
  check-called day now free =
      ap (λ (m : ℕ). called call.amount call.asked (m + 10)) now ∙ settling.check-called f t s e d opens r d-is opens-is found call h (omega arith)

pub ruleset checks = (check-covered, check-fifth, check-called)
