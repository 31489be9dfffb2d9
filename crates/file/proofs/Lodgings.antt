-- A lodging's answer by the tests of the code, in the order of its causes.
-- Assumes nothing.
use Prim.Native.Nat.{ℕ, ◌≤◌, ◌<◌}
use mathlib.Core.Path.{◌≡◌}
use mathlib.Core.Bool.{Bool, true, false}
use borrow.Author.Tests.{lt-ltb, le-ltb}
use Rattle.file.specs.declared.File.{File}
use Rattle.file.specs.declared.Position.{Position}
use Rattle.file.specs.Answer.{refused, done, decide}
use Rattle.file.specs.Position.{amount_of, filled, outside_amounts, against_days, position_at}
use Rattle.file.specs.Lodge.{lodge_answer}

module _ (f : File) (t k : ℕ) (p : Position) where
  pub lodge-no-place : 7 < k → refused 5 ≡ lodge_answer f t k p
  unfolding lodge_answer decide
  lodge-no-place h = rw (lt-ltb 7 k h)

  module _ (place : k ≤ 7) (held : Bool) (e6 : held ≡ filled (position_at f.slots k)) where
    pub lodge-filled : held ≡ true → refused 6 ≡ lodge_answer f t k p
    unfolding lodge_answer decide
    lodge-filled h = rw (le-ltb 7 k place, ← e6, h)

    module _ (free : held ≡ false) (amount : ℕ) (ea : amount ≡ amount_of p) (outside : Bool) (e8 : outside ≡ outside_amounts amount) where
      pub lodge-outside : outside ≡ true → refused 8 ≡ lodge_answer f t k p
      unfolding lodge_answer decide
      lodge-outside h = rw (le-ltb 7 k place, ← e6, free, ← ea, ← e8, h)

      module _ (within : outside ≡ false) (against : Bool) (e9 : against ≡ against_days t p) where
        pub lodge-against : against ≡ true → refused 9 ≡ lodge_answer f t k p
        unfolding lodge_answer decide
        lodge-against h = rw (le-ltb 7 k place, ← e6, free, ← ea, ← e8, within, ← e9, h)

        pub lodge-done : against ≡ false → done ≡ lodge_answer f t k p
        unfolding lodge_answer decide
        lodge-done h = rw (le-ltb 7 k place, ← e6, free, ← ea, ← e8, within, ← e9, h)
