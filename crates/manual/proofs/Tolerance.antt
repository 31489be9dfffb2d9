-- The tolerance test: 5 × E ≥ 6 × D, for E above D, is E − D ≥ D / 5 rounded up. Assumes nothing.
use Prim.Native.Nat.{ℕ, ◌*◌, ◌-◌, ◌<◌}
use mathlib.Core.Path.{◌≡◌, refl, sym, ◌∙◌}
use mathlib.Core.Bool.{Bool, true, false}
use native.Mathlib.Omega.{arith}
use borrow.Author.Tests.{ltb-true}
use lib.Dec.{leb}
use lib.IntN.{ℤ, pos, negsuc, nat_abs, ◌*ℤ◌}
use lib.Signed.{lt_z, le_z}
use mir.Syntax.{w64}
use mir.Val.{SFits}
use mir.Facts.{to_z-of_z}
use Rattle.std.specs.Int.{div_ceil}
use Rattle.laws.specs.Cases.{clash, leb-agree, and-refused}
use Rattle.laws.specs.Read.{read}
use Rattle.manual.specs.Check.{exceeds_tolerance}
use Rattle.manual.proofs.Machine.{exceeded}

-- the two tests agree
at-least-a-fifth : (d : ℕ) (e : ℤ) → lt_z (pos d) e ≡ true → leb (div_ceil d 5) (nat_abs e - d) ≡ exceeds_tolerance e d
unfolding exceeds_tolerance
at-least-a-fifth d (pos n) p =
    let below : d < n = ltb-true d n p in
    leb-agree (div_ceil d 5) (n - d) (6 * d) (5 * n) (λ h. omega arith) (λ h. omega arith) ∙ rw p
at-least-a-fifth d (negsuc n) p = clash refl (sym p)

module _ (t : Bool) (d : ℕ) (e : ℤ) (f : SFits w64 e) (said : t ≡ lt_z (pos d) (read e)) where
  pub tolerance-refused : t ≡ false → t ≡ exceeds_tolerance e d
  unfolding exceeds_tolerance
  tolerance-refused p = p ∙ sym (and-refused (lt_z (pos d) e) (le_z (pos (6 * d)) (pos 5 *ℤ e)) (sym (exceeded t d e f said) ∙ p))

  pub tolerance-tested : (q : ℕ) → q ≡ div_ceil d 5 → t ≡ true → leb q (nat_abs (read e) - d) ≡ exceeds_tolerance e d
  tolerance-tested q c p = rw (to_z-of_z f, c) (at-least-a-fifth d e (sym (exceeded t d e f said) ∙ p))
