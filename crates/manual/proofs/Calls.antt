-- The monthly check: a call is made where its tests hold one after another. A total e is read from its bits, `read e`.
-- Assumes nothing.
use Prim.Native.Nat.{ℕ, ◌-◌, ◌≤◌}
use mathlib.Core.Path.{◌≡◌, sym, ◌∙◌}
use mathlib.Core.Bool.{Bool, true, false}
use mathlib.Core.List.{List}
use native.Mathlib.Nat.{le_of_lt}
use lib.Dec.{T}
use lib.IntN.{ℤ, pos, nat_abs}
use lib.Signed.{lt_z, non_neg}
use mir.Syntax.{w64}
use mir.Val.{SFits}
use mir.Facts.{to_z-of_z}
use Rattle.laws.specs.Integers.{cast-natural, above-not-negative}
use Rattle.laws.specs.Cases.{and_left}
use Rattle.laws.specs.Read.{read}
use Rattle.manual.specs.Check.{exceeds_tolerance, exceeds_each, call_is_made, checked}
use Rattle.manual.specs.Laws.{call_is_made-above, call_is_made-tolerance}
use Rattle.std.specs.Prelude.{Some, None}

-- ---- the tests: t₁ of the tolerance, t₂ against the firm amount, t₃ against the open calls

module _ (t₁ : Bool) (e : ℤ) (d firm : ℕ) (opens : List ℕ) (f : SFits w64 e) (said₁ : t₁ ≡ exceeds_tolerance (read e) d) where
  pub within-tolerance : t₁ ≡ false → false ≡ call_is_made e d firm opens
  unfolding call_is_made
  within-tolerance p = rw (sym (rw (to_z-of_z f) at said₁) ∙ p)

  module _ (t₂ : Bool) (held₁ : t₁ ≡ true) (said₂ : t₂ ≡ lt_z (pos firm) (read e)) where
    pub within-firm : t₂ ≡ false → false ≡ call_is_made e d firm opens
    unfolding call_is_made exceeds_each
    within-firm p = rw (sym (rw (to_z-of_z f) at said₁) ∙ held₁, sym (rw (to_z-of_z f) at said₂) ∙ p)

    pub against-open : (t₃ : Bool) → t₂ ≡ true → t₃ ≡ exceeds_each (read e) opens → t₃ ≡ call_is_made e d firm opens
    unfolding call_is_made exceeds_each
    against-open t₃ held₂ said₃ =
        rw (sym (rw (to_z-of_z f) at said₁) ∙ held₁, sym (rw (to_z-of_z f) at said₂) ∙ held₂) (rw (to_z-of_z f) at said₃)

-- ---- the outcome, by what the test t of a call said

module _ (t : Bool) (e : ℤ) (d firm : ℕ) (opens : List ℕ) (f : SFits w64 e) (said : t ≡ call_is_made (read e) d firm opens) where
  decided : t ≡ call_is_made e d firm opens
  decided = rw (to_z-of_z f) at said

  pub covered : t ≡ false → None ≡ checked e d firm opens
  unfolding checked
  covered p = rw (sym decided ∙ p)

  pub called : t ≡ true → Some (record { amount = nat_abs (read e); asked = nat_abs (read e) - d }) ≡ checked e d firm opens
  unfolding checked
  called p = rw (to_z-of_z f, sym decided ∙ p)

  pub called-natural : t ≡ true → T (non_neg (read e))
  unfolding exceeds_tolerance
  called-natural p =
      cast-natural e f (above-not-negative d e (and_left (lt_z (pos d) e) _ (call_is_made-tolerance e d firm opens (sym decided ∙ p))))

  pub called-above : t ≡ true → d ≤ nat_abs (read e)
  called-above p = rw (to_z-of_z f) (le_of_lt (call_is_made-above e d firm opens (sym decided ∙ p)))
