-- The whole life of a kept journal: sessions one after the other, each an input of its own.
-- Assumes nothing.
use Rattle.std.specs.Prelude.{◌≡◌, ℕ, true, false, List, [], ◌∷◌, ◌++◌}
use Rattle.dialogue.specs.declared.Way.{Way}
use Rattle.dialogue.specs.Split.{lines_in, rest_in}
use Rattle.dialogue.specs.Turns.{State}
use Rattle.dialogue.specs.Whole.{stream_after, stream_journal}
use Rattle.dialogue.specs.Dialogue.{Replayed}

-- A session: the way that its lines are taken, and its input. One that a version before the role was retired kept is taken as a journal that is
-- replayed is: by the old admission rule, and with no line that ends its first stretch (paper 02, Ask 3).
pub record Sitting : Type 0 where
  pub way : Way
  pub input : List ℕ

-- The state in which a session begins behind another: the book, the count of kept calls and whether the first stretch lasts stay, its lines are
-- counted anew.
abbrev pub reopened : State → State
reopened s = record s { place = record s.place { line = 0; refused = 0; long = false } }

-- What the sessions add to the journal, and the state that they leave.
unfoldable pub sittings_journal : (most room : ℕ) → State → List Sitting → List ℕ
sittings_journal most room s [] = []
sittings_journal most room s (x ∷ xs) =
    stream_journal most x.way room s (lines_in x.input)
    ++ sittings_journal most room (reopened (stream_after most x.way room s (lines_in x.input))) xs

unfoldable pub sittings_end : (most room : ℕ) → State → List Sitting → State
sittings_end most room s [] = s
sittings_end most room s (x ∷ xs) = sittings_end most room (reopened (stream_after most x.way room s (lines_in x.input))) xs

-- Each of the sessions keeps what it accepts.
abbrev pub AllKeep : List Sitting → Type 0
AllKeep [] = Unit {0}
AllKeep (x ∷ xs) = (x.way.keeps ≡ true) × AllKeep xs

-- The journal is complete lines; replayed from t it leads to the book and the count that the last session left, and to whether its first stretch lasts,
-- and none of its lines is refused.
pub record KeptLife (most room : ℕ) (s t : State) (sittings : List Sitting) : Type 0 where
  pub whole : rest_in (sittings_journal most room s sittings) ≡ []
  pub replayed : Replayed most room t (sittings_journal most room s sittings) (sittings_end most room s sittings)
