-- A file keeps its bounds as it is admitted, and by every lodging and release; and what they say of its cover.
-- Assumes nothing.
use Rattle.std.specs.Prelude.{ℕ, ◌*◌, ◌-◌, ◌≤◌, ◌≡◌, refl, Bool, true, false, cond, ◌&&◌, List, [], ◌∷◌, leb, ltb, eqb, take, length, set, replicate, nat_abs}
use Rattle.std.proofs.Common.{sym, ap, arith, leb-true, ltb-false}
use Rattle.std.proofs.lemmas.Bool.{eqb-false, not-false}
use Rattle.manual.specs.Minimum.{minimum_of}
use Rattle.manual.specs.Laws.{minimum_of-bound}
use Rattle.laws.specs.Lists.{All, all_set, all-default, all_replicate}
use Rattle.laws.specs.Cases.{split, and_left, and_right}
use Rattle.file.specs.declared.File.{File}
use Rattle.file.specs.declared.MonthTotal.{MonthTotal}
use Rattle.file.specs.declared.OpenCall.{OpenCall}
use Rattle.file.specs.declared.Position.{Position}
use Rattle.file.specs.declared.Position.TheVariants.{Empty, Cash, Letter}
use Rattle.file.specs.declared.Slot.{Slot}
use Rattle.file.specs.Answer.{done, accepted}
use Rattle.file.specs.DecideLaws.{none-holds}
use Rattle.file.specs.Position.{amount_of, against_days, in_force_through, counts_through, cover_through, cover_on}
use Rattle.file.specs.Position.{less_released, not_releasable, outside_amounts, position_at, slot_of}
use Rattle.file.specs.Calls.{call_of, in_places}
use Rattle.file.specs.CallLaws.{in_places-take, in_places-all}
use Rattle.file.specs.Totals.{no_total}
use Rattle.file.specs.Fields.{cover_of, unset, with_slots, open_calls}
use Rattle.file.specs.Admit.{no_file, calls_of_admission, admitted_file}
use Rattle.file.specs.Lodge.{lodge_answer, lodged_file}
use Rattle.file.specs.Release.{slots_left, release_answer, released_file}
use Rattle.file.specs.Sound.{Sound, SoundCall, SoundPosition, total_bound}

-- ---- the cover

-- A sound position holds at most 10^12 cents.
amount-bound : (p : Position) → SoundPosition p → amount_of p ≤ 1000000000000
amount-bound Empty h = omega arith
amount-bound (Cash a) h = h.1
amount-bound (Letter a first last) h = h.1

-- A position counts for at most 10^12 cents.
pub counts-bound : (d e : ℕ) (p : Position) → SoundPosition p → counts_through d e p ≤ 1000000000000
unfolding counts_through
counts-bound d e p h = split (in_force_through d e p) (λ q. rw q (amount-bound p h)) (λ q. rw q (omega arith))

-- The cover of n sound positions is at most n * 10^12 cents.
pub cover-bound : (d e : ℕ) (l : List Slot) → All (λ (s : Slot). SoundPosition s.position) l → cover_through d e l ≤ length l * 1000000000000
unfolding cover_through
cover-bound d e [] a = omega arith
cover-bound d e (s ∷ l) a = omega (arith, cover-bound d e l a.1, counts-bound d e s.position a.0)

-- The cover of a sound file with its eight positions is at most 8 * 10^12 cents.
pub sound-cover : (t d : ℕ) (f : File) → Sound t f → length f.slots ≡ 8 → cover_of f d ≤ 8000000000000
unfolding cover_of cover_on
sound-cover t d f s e = omega (arith, cover-bound d d f.slots s.slots)

-- ---- amounts and days that are not refused

-- An amount that is not refused is 1 to 10^12.
pub amount-within : (a : ℕ) → outside_amounts a ≡ false → (1 ≤ a) × (a ≤ 1000000000000)
unfolding outside_amounts
amount-within a e =
    let both = not-false (leb 1 a && leb a 1000000000000) e in
    (leb-true 1 a (and_left (leb 1 a) (leb a 1000000000000) both), leb-true a 1000000000000 (and_right (leb 1 a) (leb a 1000000000000) both))

-- A position that may be lodged is sound.
pub lodged-position-sound : (t : ℕ) (p : Position) → outside_amounts (amount_of p) ≡ false → against_days t p ≡ false → SoundPosition p
lodged-position-sound t Empty h g = tt
lodged-position-sound t (Cash a) h g = amount-within a h
lodged-position-sound t (Letter a first last) h g =
    let b = amount-within a h in
    let all = not-false (leb first.0 last.0 && (leb t last.0 && leb last.0 29219)) g in
    let rest = and_right (leb first.0 last.0) (leb t last.0 && leb last.0 29219) all in (
      b.0,
      b.1,
      leb-true first.0 last.0 (and_left (leb first.0 last.0) (leb t last.0 && leb last.0 29219) all),
      leb-true last.0 29219 (and_right (leb t last.0) (leb last.0 29219) rest),
    )

-- Cash released in part.
left-cash : (a b : ℕ) → a ≤ b → (a ≡ b → ⊥) → b ≤ 1000000000000 → (1 ≤ b - a) × (b - a ≤ 1000000000000)
left-cash a b h g s = (omega arith, omega arith)

-- What a release leaves of a sound position is sound.
pub left-position-sound : (a : ℕ) (p : Position) → not_releasable a p ≡ false → SoundPosition p → SoundPosition (less_released a p)
left-position-sound a Empty g s = tt
left-position-sound a (Cash b) g s =
    split (eqb a b) (λ e. rw e tt) (λ e. rw e (left-cash a b (ltb-false b a g) (eqb-false a b e) s.1))
left-position-sound a (Letter b first last) g s = tt

-- So are the positions that a release leaves.
pub slots_left-sound : (f : File) (k a : ℕ) → All (λ (s : Slot). SoundPosition s.position) f.slots
    → not_releasable a (position_at f.slots k) ≡ false
    → All (λ (s : Slot). SoundPosition s.position) (slots_left f k a)
unfolding slots_left
slots_left-sound f k a s g =
    all_set (λ (x : Slot). SoundPosition x.position) f.slots k (slot_of (less_released a (position_at f.slots k)))
    (left-position-sound a (position_at f.slots k) g
    (all-default (λ (x : Slot). SoundPosition x.position) f.slots k (slot_of Empty) tt s))
    s

-- ---- the file is kept sound

-- A sound file with other sound positions is sound.
pub with_slots-sound : (t : ℕ) (f : File) (l : List Slot) → Sound t f → All (λ (s : Slot). SoundPosition s.position) l → Sound t (with_slots f l)
unfolding open_calls
with_slots-sound t f l s a =
    record {
      day = s.day;
      slots = a;
      calls = s.calls;
      count = s.count;
      places = s.places;
      firm = s.firm;
      next = s.next;
      totals = s.totals;
      charged = s.charged;
      accrued = s.accrued;
      counted = s.counted;
      made = s.made;
    }

-- A file chosen by a test is sound where both are.
pub either-sound : (t : ℕ) (b : Bool) (f g : File) → (b ≡ true → Sound t f) → Sound t g → Sound t (cond b f g)
either-sound t true f g h s = h refl
either-sound t false f g h s = s

-- A lodging, accepted or refused, keeps a file sound.
pub lodged-sound : (f : File) (t k : ℕ) (p : Position) → Sound t f → Sound t (lodged_file f t k p)
unfolding lodged_file lodge_answer
lodged-sound f t k p s =
    either-sound t (accepted (lodge_answer f t k p)) (with_slots f (set f.slots k (slot_of p))) f
    (λ e. let none = none-holds _ done e in
    with_slots-sound t f (set f.slots k (slot_of p)) s
    (all_set (λ (x : Slot). SoundPosition x.position) f.slots k (slot_of p)
    (lodged-position-sound t p none.1.1.0 none.1.1.1.0)
    s.slots))
    s

-- A release, accepted or refused, keeps a file sound.
pub released-sound : (f : File) (t k a : ℕ) → Sound t f → Sound t (released_file f t k a)
unfolding released_file release_answer
released-sound f t k a s =
    either-sound t (accepted (release_answer f t k a)) (with_slots f (slots_left f k a)) f
    (λ e. let none = none-holds _ done e in
    with_slots-sound t f (slots_left f k a) s (slots_left-sound f k a s.slots none.1.1.1.0))
    s

-- ---- a file as it begins

-- A file with no positions, no totals, nothing charged and sound calls is sound.
blank-sound : (t role : ℕ) (admitted : Bool) (calls : List OpenCall) (count : ℕ) → t ≤ 29219 → All SoundCall calls → count ≤ 4
    → calls ≡ in_places (take count calls)
    → Sound t
    (record {
      admitted = admitted;
      leaving = false;
      role = role;
      firm = 0;
      slots = replicate 8 (slot_of Empty);
      calls = calls;
      count = count;
      next = unset;
      totals = replicate 16 no_total;
      charged = 0;
      accrued = 0;
      made = count;
    })
unfolding open_calls
blank-sound t role admitted calls count day sound few placed =
    record {
      day = day;
      slots = all_replicate (λ (x : Slot). SoundPosition x.position) 8 (slot_of Empty) tt;
      calls = sound;
      count = few;
      places = placed;
      firm = omega arith;
      next = omega arith;
      totals = all_replicate (λ (r : MonthTotal). nat_abs r.total ≤ total_bound) 16 no_total (omega arith);
      charged = omega arith;
      accrued = omega arith;
      counted = omega arith;
      made = omega arith;
    }

-- A place with no call in it is sound.
pub no-call-sound : SoundCall (call_of 0 0)
no-call-sound = record { amount = omega arith; last = omega arith }

pub none-sound : (t : ℕ) → t ≤ 29219 → Sound t no_file
unfolding in_places
none-sound t day = blank-sound t 0 false (replicate 4 (call_of 0 0)) 0 day (all_replicate SoundCall 4 (call_of 0 0) no-call-sound) (omega arith) refl

-- The call that an admission makes, if any, is sound.
admission-sound : (t role : ℕ) → t ≤ 29219 → All SoundCall (calls_of_admission t role) × (length (calls_of_admission t role) ≤ 4)
unfolding calls_of_admission
admission-sound t role day =
    split (ltb 0 (minimum_of role))
    (λ e. rw e ((record { amount = omega (arith, minimum_of-bound role); last = omega arith }, tt), omega arith))
    (λ e. rw e (tt, omega arith))

pub admitted-sound : (t role : ℕ) → t ≤ 29219 → Sound t (admitted_file t role)
unfolding admitted_file
admitted-sound t role day =
    blank-sound t role true (in_places (calls_of_admission t role)) (length (calls_of_admission t role)) day
    (in_places-all SoundCall (calls_of_admission t role) no-call-sound (admission-sound t role day).0)
    (admission-sound t role day).1
    (ap in_places (sym (in_places-take (calls_of_admission t role))))
