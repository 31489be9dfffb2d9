-- The words of a part of a file lead back to it.
-- Assumes nothing.
use Prim.Native.Nat.{ℕ, ◌<◌}
use mathlib.Core.Path.{◌≡◌, refl}
use mathlib.Core.Bool.{Bool, true, false}
use mathlib.Core.List.{List, [], ◌∷◌}
use native.Mathlib.Omega.{arith}
use lib.IntN.{ℤ}
use mir.Syntax.{w64}
use mir.Val.{SFits, to_z, of_z}
use mir.Facts.{to_z-of_z}
use Rattle.file.specs.declared.OpenCall.{OpenCall}
use Rattle.file.specs.declared.MonthTotal.{MonthTotal}
use Rattle.layout.specs.Parts.{number_of, flag_of, flag_word, zigzag_of, open_call_of_words, total_of_words}
use Rattle.layout.specs.Parts.{admitted_of, leaving_of, status_word, written, CallBack, TotalBack}
use Rattle.layout.proofs.Zigzag.{signed_back}

abbrev small : ℕ
small = 4294967296

number-back : (n : ℕ) → n < small → number_of n ≡ n
number-back n h = omega arith

pub call_back : (c : OpenCall) → c.last.0 < small → CallBack c
unfolding open_call_of_words
call_back c h = simp (number-back c.last.0 h)

pub flag-back : (b : Bool) → flag_of (flag_word b) ≡ b
flag-back true = refl
flag-back false = refl

-- The word of a status leads back to it.
pub admitted-back : (a b : Bool) → admitted_of (status_word a b) ≡ a
unfolding admitted_of
admitted-back true true = refl
admitted-back true false = refl
admitted-back false true = refl
admitted-back false false = refl

pub leaving-back : (a b : Bool) → leaving_of (status_word a b) ≡ b
unfolding leaving_of
leaving-back true true = refl
leaving-back true false = refl
leaving-back false true = refl
leaving-back false false = refl

pub total-back : (t : MonthTotal) → t.month.0 < small → TotalBack t
unfolding total_of_words
total-back t h = simp (number-back t.month.0 h, flag-back t.recorded, signed_back t.total)

-- The words of a month's total, as they were stored.
pub total-are : (m l : List ℕ) (at a b c : ℕ) (r : Bool) (z : ℤ) → m ≡ written l at (a ∷ b ∷ c ∷ []) → a ≡ flag_word r
    → c ≡ zigzag_of (to_z w64 (of_z w64 z)) → SFits w64 z → m ≡ written l at (flag_word r ∷ b ∷ zigzag_of z ∷ [])
total-are m l at a b c r z e p q f = simp (e, p, q, to_z-of_z f)
