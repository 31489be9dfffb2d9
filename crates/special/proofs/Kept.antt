-- One rate more among the three that are kept: each arm of `Best::with` puts it where `insert` does.
-- Assumes nothing.
use mathlib.Core.Path.{◌≡◌}
use mathlib.Core.Bool.{true, false}
use mathlib.Core.List.{[], ◌∷◌}
use lib.ListN.{take}
use lib.IntN.{ℤ}
use lib.Signed.{lt_z}
use mir.Syntax.{w64}
use mir.Val.{SFits}
use mir.Facts.{to_z-of_z}
use Rattle.laws.specs.Largest.{insert}
use Rattle.laws.specs.Read.{read}

module _ (a b c x : ℤ) (fa : SFits w64 a) (fb : SFits w64 b) (fc : SFits w64 c) (fx : SFits w64 x) where
  pub above-first : lt_z (read a) (read x) ≡ true → read x ∷ read a ∷ read b ∷ [] ≡ take 3 (insert x (a ∷ b ∷ c ∷ []))
  unfolding insert
  above-first t = simp (to_z-of_z fa, to_z-of_z fb, to_z-of_z fx, (simp (to_z-of_z fa, to_z-of_z fx) at t))

  pub above-second : lt_z (read a) (read x) ≡ false → lt_z (read b) (read x) ≡ true → read a ∷ read x ∷ read b ∷ [] ≡ take 3 (insert x (a ∷ b ∷ c ∷ []))
  unfolding insert
  above-second s t =
      simp (to_z-of_z fa, to_z-of_z fb, to_z-of_z fx, (simp (to_z-of_z fa, to_z-of_z fx) at s), (simp (to_z-of_z fb, to_z-of_z fx) at t))

  pub above-third : lt_z (read a) (read x) ≡ false → lt_z (read b) (read x) ≡ false → lt_z (read c) (read x) ≡ true
      → read a ∷ read b ∷ read x ∷ [] ≡ take 3 (insert x (a ∷ b ∷ c ∷ []))
  unfolding insert
  above-third r s t =
      simp (
        to_z-of_z fa,
        to_z-of_z fb,
        to_z-of_z fx,
        (simp (to_z-of_z fa, to_z-of_z fx) at r),
        (simp (to_z-of_z fb, to_z-of_z fx) at s),
        (simp (to_z-of_z fc, to_z-of_z fx) at t),
      )

  pub above-none : lt_z (read a) (read x) ≡ false → lt_z (read b) (read x) ≡ false → lt_z (read c) (read x) ≡ false
      → read a ∷ read b ∷ read c ∷ [] ≡ take 3 (insert x (a ∷ b ∷ c ∷ []))
  unfolding insert
  above-none r s t =
      simp (
        to_z-of_z fa,
        to_z-of_z fb,
        to_z-of_z fc,
        (simp (to_z-of_z fa, to_z-of_z fx) at r),
        (simp (to_z-of_z fb, to_z-of_z fx) at s),
        (simp (to_z-of_z fc, to_z-of_z fx) at t),
      )
