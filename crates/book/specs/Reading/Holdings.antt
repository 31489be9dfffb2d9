-- Positions, cover and D, read from a participant's lodgings and releases.
-- Assumes nothing.
use Rattle.std.specs.Prelude.{ℕ, ◌+◌, ◌-◌, Bool, cond, ◌&&◌, List, [], ◌∷◌, leb, eqb}
use Rattle.file.specs.declared.Position.{Position}
use Rattle.file.specs.declared.Position.TheVariants.{Empty, Cash, Letter}
use Rattle.file.specs.Position.{amount_of, in_force, emptied_on}
use Rattle.book.specs.Call.{admit, lodge, release, settle, annual_run, delete}
use Rattle.book.specs.Reading.Events.{Own, day_opened, act}

-- "what was last lodged there": at place k.
unfoldable pub last_lodged : ℕ → List Own → Position
last_lodged k [] = Empty
last_lodged k (day_opened d ∷ own) = last_lodged k own
last_lodged k (act d (admit role) ∷ own) = last_lodged k own
last_lodged k (act d (lodge j h) ∷ own) = cond (eqb j k) h (last_lodged k own)
last_lodged k (act d (release j a) ∷ own) = last_lodged k own
last_lodged k (act d (settle m figures) ∷ own) = last_lodged k own
last_lodged k (act d annual_run ∷ own) = last_lodged k own
last_lodged k (act d delete ∷ own) = last_lodged k own

-- "what was released since" at place k.
unfoldable pub released_since : ℕ → List Own → ℕ
released_since k [] = 0
released_since k (day_opened d ∷ own) = released_since k own
released_since k (act d (admit role) ∷ own) = released_since k own
released_since k (act d (lodge j h) ∷ own) = cond (eqb j k) 0 (released_since k own)
released_since k (act d (release j a) ∷ own) = cond (eqb j k) (a + released_since k own) (released_since k own)
released_since k (act d (settle m figures) ∷ own) = released_since k own
released_since k (act d annual_run ∷ own) = released_since k own
released_since k (act d delete ∷ own) = released_since k own

-- A position less an amount; "it is empty if that is nothing".
abbrev pub less : ℕ → Position → Position
less r Empty = Empty
less r (Cash a) = cond (leb a r) Empty (Cash (a - r))
less r (Letter a first last) = cond (leb a r) Empty (Letter (a - r) first last)

-- What is left at place k, lapsed or not.
unfoldable pub left_at : ℕ → List Own → Position
left_at k own = less (released_since k own) (last_lodged k own)

-- "A position holds what was last lodged there less what was released since; it is empty if that is nothing or a letter whose last day is
-- before today."
unfoldable pub position_in : ℕ → ℕ → List Own → Position
position_in t k own = emptied_on t (left_at k own)

-- "sums accepted lodgings less accepted releases, by the dates": what the lodgings amount to that count, by a test of what they are and of their dates.
unfoldable pub lodged_where : (Position → Bool) → List Own → ℕ
lodged_where counts [] = 0
lodged_where counts (day_opened e ∷ own) = lodged_where counts own
lodged_where counts (act e (admit role) ∷ own) = lodged_where counts own
lodged_where counts (act e (lodge k h) ∷ own) = cond (counts h) (amount_of h) 0 + lodged_where counts own
lodged_where counts (act e (release k a) ∷ own) = lodged_where counts own
lodged_where counts (act e (settle m figures) ∷ own) = lodged_where counts own
lodged_where counts (act e annual_run ∷ own) = lodged_where counts own
lodged_where counts (act e delete ∷ own) = lodged_where counts own

-- What the releases take from it, "a release of a letter taking that letter's dates".
unfoldable pub released_where : (Position → Bool) → List Own → ℕ
released_where counts [] = 0
released_where counts (day_opened e ∷ own) = released_where counts own
released_where counts (act e (admit role) ∷ own) = released_where counts own
released_where counts (act e (lodge k h) ∷ own) = released_where counts own
released_where counts (act e (release k a) ∷ own) = cond (counts (last_lodged k own)) a 0 + released_where counts own
released_where counts (act e (settle m figures) ∷ own) = released_where counts own
released_where counts (act e annual_run ∷ own) = released_where counts own
released_where counts (act e delete ∷ own) = released_where counts own

-- "Cover on d": what counts is in force on it.
unfoldable pub cover_in : ℕ → List Own → ℕ
cover_in d own = lodged_where (in_force d) own - released_where (in_force d) own

-- Paper 02, Ask 2: "in force today that will still be in force on day t + 11. A letter that starts later doesn't count."
abbrev pub stays_in_force : ℕ → Position → Bool
stays_in_force t p = in_force t p && in_force (t + 11) p

-- D of a check on day t, "the amount in force today that will still be in force on day t + 11": accepted lodgings less accepted releases, by the dates.
unfoldable pub deposited_in : ℕ → List Own → ℕ
deposited_in t own = lodged_where (stays_in_force t) own - released_where (stays_in_force t) own
