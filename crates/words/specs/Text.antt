-- A text in ASCII, as the list of its bytes.
-- Assumes nothing.
use Rattle.std.specs.Prelude.{ℕ, List, [], ◌∷◌}
use Prim.Native.Char.{code}
use Prim.Native.String.{String}
use Prim.Native.String.{[] as none, ◌∷◌ as ◌then◌}

abbrev pub text : String → List ℕ
text none = []
text (c then s) = code c ∷ text s
