-- That a file is within its bounds has one proof at most, so that a struct may hold it.
-- Assumes nothing.
use Rattle.std.specs.Prelude.{List, [], ◌∷◌, ◌≤◌, nat_abs}
use Rattle.std.specs.Coded.{×_prop, Unit-prop, le_prop}
use Rattle.laws.specs.Lists.{All}
use Rattle.file.specs.declared.Position.{Position}
use Rattle.file.specs.declared.Position.TheVariants.{Empty, Cash, Letter}
use Rattle.file.specs.declared.Slot.{Slot}
use Rattle.file.specs.declared.OpenCall.{OpenCall}
use Rattle.file.specs.declared.MonthTotal.{MonthTotal}
use Rattle.file.specs.Sound.{SoundPosition, SoundCall, total_bound}

all-one : {A : Type 0} (P : A → Type 0) → ((x : A) → IsProp (P x)) → (l : List A) → IsProp (All P l)
all-one P h [] = Unit-prop
all-one P h (x ∷ l) = ×_prop (h x) (all-one P h l)

position-one : (p : Position) → IsProp (SoundPosition p)
position-one Empty = Unit-prop
position-one (Cash a) = ×_prop le_prop le_prop
position-one (Letter a first last) = λ x y. λ i. (le_prop x.0 y.0 i, le_prop x.1 y.1 i, le_prop x.2 y.2 i, le_prop x.3 y.3 i)

call-one : (c : OpenCall) → IsProp (SoundCall c)
call-one c = λ x y. λ i. record { amount = le_prop x.amount y.amount i; last = le_prop x.last y.last i }

-- Of its positions, its open calls and its month totals.
pub slots-one : (l : List Slot) → IsProp (All (λ (s : Slot). SoundPosition s.position) l)
slots-one l = all-one _ (λ s. position-one s.position) l

pub calls-one : (l : List OpenCall) → IsProp (All SoundCall l)
calls-one l = all-one _ call-one l

pub totals-one : (l : List MonthTotal) → IsProp (All (λ (r : MonthTotal). nat_abs r.total ≤ total_bound) l)
totals-one l = all-one _ (λ r. le_prop) l
