-- What holds of every element of a list, weakened.
-- Assumes nothing.
use Rattle.std.specs.Prelude.{List, [], ◌∷◌}
use Rattle.laws.specs.Lists.{All}

-- If P gives Q, then P of each element gives Q of each.
pub all_weaker : {A : Type 0} (P Q : A → Type 0) → ((x : A) → P x → Q x) → (l : List A) → All P l → All Q l
all_weaker P Q h [] p = tt
all_weaker P Q h (x ∷ l) p = (h x p.0, all_weaker P Q h l p.1)
