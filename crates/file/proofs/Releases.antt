-- A release's answer by the tests of the code, in the order of its causes.
-- Assumes nothing.
use Prim.Native.Nat.{ℕ, ◌≤◌, ◌<◌, max}
use mathlib.Core.Path.{◌≡◌, refl, ap, ◌∙◌}
use mathlib.Core.Bool.{Bool, true, false, not}
use mathlib.Core.List.{List, [], ◌∷◌}
use native.Mathlib.Omega.{arith}
use borrow.Author.Tests.{lt-ltb, le-ltb}
use lib.Dec.{ltb}
use Rattle.std.specs.List.{fold}
use Rattle.file.specs.declared.File.{File}
use Rattle.file.specs.declared.OpenCall.{OpenCall}
use Rattle.file.specs.Answer.{refused, done, decide}
use Rattle.file.specs.Position.{cover_on, filled, not_releasable, outside_amounts, position_at}
use Rattle.file.specs.Calls.{largest, amounts_of}
use Rattle.file.specs.Release.{release_floor, slots_left, release_answer}

-- The largest of amounts, from the front: one that is put in front may as well be at the end.
largest-swap : (a b : ℕ) (l : List ℕ) → largest (max a b) l ≡ max b (largest a l)
unfolding largest
largest-swap a b [] = omega arith
largest-swap a b (x ∷ l) = omega (arith, largest-swap a b l)

largest-from : (a : ℕ) (l : List OpenCall) → fold (λ top (k : OpenCall). max top k.amount) a l ≡ largest a (amounts_of l)
unfolding largest
largest-from a [] = refl
largest-from a (c ∷ l) = largest-from (max a c.amount) l ∙ largest-swap a c.amount (amounts_of l)

-- .. of the firm amount, the next amount and the open calls.
pub largest-fold : (firm next : ℕ) (l : List OpenCall)
    → fold (λ top (k : OpenCall). max top k.amount) (max firm next) l ≡ largest next (firm ∷ amounts_of l)
unfolding largest
largest-fold firm next l =
    let e : max firm next ≡ max next firm = omega arith in
    largest-from (max firm next) l ∙ ap (λ (n : ℕ). largest n (amounts_of l)) e ∙ largest-swap next firm (amounts_of l)

module _ (f : File) (t k a : ℕ) where
  pub release-no-place : 7 < k → refused 5 ≡ release_answer f t k a
  unfolding release_answer decide
  release-no-place h = rw (lt-ltb 7 k h)

  module _ (place : k ≤ 7) (held : Bool) (e7 : held ≡ filled (position_at f.slots k)) where
    pub release-empty : not held ≡ true → refused 7 ≡ release_answer f t k a
    unfolding release_answer decide
    release-empty h = rw (le-ltb 7 k place, ← e7, h)

    module _ (some : not held ≡ false) (outside : Bool) (e8 : outside ≡ outside_amounts a) where
      pub release-outside : outside ≡ true → refused 8 ≡ release_answer f t k a
      unfolding release_answer decide
      release-outside h = rw (le-ltb 7 k place, ← e7, some, ← e8, h)

      module _ (within : outside ≡ false) (above : Bool) (e15 : above ≡ not_releasable a (position_at f.slots k)) where
        pub release-above : above ≡ true → refused 15 ≡ release_answer f t k a
        unfolding release_answer decide
        release-above h = rw (le-ltb 7 k place, ← e7, some, ← e8, within, ← e15, h)

        module _ (enough : above ≡ false) (short : Bool) (e16 : short ≡ ltb (cover_on t (slots_left f k a)) (release_floor f)) where
          pub release-uncovered : short ≡ true → refused 16 ≡ release_answer f t k a
          unfolding release_answer decide
          release-uncovered h = rw (le-ltb 7 k place, ← e7, some, ← e8, within, ← e15, enough, ← e16, h)

          pub release-done : short ≡ false → done ≡ release_answer f t k a
          unfolding release_answer decide
          release-done h = rw (le-ltb 7 k place, ← e7, some, ← e8, within, ← e15, enough, ← e16, h)
