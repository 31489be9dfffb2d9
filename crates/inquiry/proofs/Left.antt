-- Which releases of a file are accepted: those of an amount that the position allows, where the cover less what is released is at least the floor.
-- Assumes nothing.
use Rattle.std.specs.Prelude.{ℕ, zero, suc, ◌+◌, ◌≤◌, ◌≡◌, refl, true, false, List, [], ◌∷◌, eqb, set}
use Rattle.std.proofs.Common.{arith, eqb-true, ltb-false, le-leb, le-ltb}
use Rattle.std.proofs.lemmas.Bool.{not-false}
use Rattle.laws.specs.Cases.{split, clash}
use Rattle.file.specs.declared.File.{File}
use Rattle.file.specs.declared.Position.{Position}
use Rattle.file.specs.declared.Position.TheVariants.{Cash, Letter}
use Rattle.file.specs.declared.Slot.{Slot}
use Rattle.calendar.specs.declared.Day.{Day}
use Rattle.file.specs.Answer.{done, decide}
use Rattle.file.specs.DecideLaws.{none-holds}
use Rattle.file.specs.Position.{counts_through, cover_through, cover_on, filled, less_released, not_releasable, outside_amounts, slot_of, position_at}
use Rattle.file.specs.Release.{release_floor, slots_left, release_answer}
use Rattle.inquiry.specs.Releasable.{is_accepted}

-- ---- the cover that a release leaves

-- The cover with another holding at a place where something is held: less what that counted for, and more what the other counts for.
pub cover-set : (t : ℕ) (slots : List Slot) (k : ℕ) (p : Position) → filled (position_at slots k) ≡ true
    → cover_on t (set slots k (slot_of p)) + counts_through t t (position_at slots k) ≡ cover_on t slots + counts_through t t p
unfolding cover_on cover_through
cover-set t [] k p h = clash h refl
cover-set t (s ∷ slots) zero p h = omega arith
cover-set t (s ∷ slots) (suc k) p h = omega (arith, cover-set t slots k p h)

-- What counts of cash that is released in part or whole.
cash-counts : (t a b : ℕ) → a ≤ b → counts_through t t (less_released a (Cash b)) + a ≡ b
unfolding counts_through
cash-counts t a b h =
    split (eqb a b)
    (λ e. let same = eqb-true a b e in rw e (omega (arith, same)))
    (λ e. rw e (omega (arith, h)))

-- A release of cash leaves the cover less its amount ..
pub cash-left : (f : File) (t k a b : ℕ) → position_at f.slots k ≡ Cash b → a ≤ b → cover_on t (slots_left f k a) + a ≡ cover_on t f.slots
unfolding slots_left counts_through
cash-left f t k a b e h =
    let all = cover-set t f.slots k (less_released a (position_at f.slots k)) (rw e refl) in
    let before : counts_through t t (position_at f.slots k) ≡ b = rw e refl in
    let after : counts_through t t (less_released a (position_at f.slots k)) + a ≡ b = rw e (cash-counts t a b h) in
    omega (arith, all, before, after)

-- .. and that of a letter the cover less what the letter counts for.
pub letter-left : (f : File) (t k a b : ℕ) (first last : Day) → position_at f.slots k ≡ Letter b first last
    → cover_on t (slots_left f k a) + counts_through t t (position_at f.slots k) ≡ cover_on t f.slots
unfolding slots_left counts_through
letter-left f t k a b first last e =
    let all = cover-set t f.slots k (less_released a (position_at f.slots k)) (rw e refl) in
    let after : counts_through t t (less_released a (position_at f.slots k)) ≡ 0 = rw e refl in
    omega (arith, all, after)

-- ---- what an accepted release says, and what makes one accepted

pub record Released (f : File) (t k a : ℕ) : Type 0 where
  pub place : k ≤ 7
  pub held : filled (position_at f.slots k) ≡ true
  pub inside : outside_amounts a ≡ false
  pub allowed : not_releasable a (position_at f.slots k) ≡ false
  pub covered : release_floor f ≤ cover_on t (slots_left f k a)

pub released : (f : File) (t k a : ℕ) → is_accepted f t k a ≡ true → Released f t k a
unfolding release_answer
released f t k a e =
    let none = none-holds _ done e in
    record {
      place = ltb-false 7 k none.0;
      held = not-false (filled (position_at f.slots k)) none.1.0;
      inside = none.1.1.0;
      allowed = none.1.1.1.0;
      covered = ltb-false (cover_on t (slots_left f k a)) (release_floor f) none.1.1.1.1.0;
    }

pub accepted-where : (f : File) (t k a : ℕ) → Released f t k a → is_accepted f t k a ≡ true
unfolding release_answer decide
accepted-where f t k a r =
    rw (le-ltb 7 k r.place, r.held, r.inside, r.allowed, le-ltb (cover_on t (slots_left f k a)) (release_floor f) r.covered) refl

-- An amount of 1 to 10^12.
pub amount-inside : (a : ℕ) → 1 ≤ a → a ≤ 1000000000000 → outside_amounts a ≡ false
unfolding outside_amounts
amount-inside a low high = rw (le-leb 1 a low, le-leb a 1000000000000 high) refl
