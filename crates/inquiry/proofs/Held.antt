-- The most of each kind of holding, as the code finds it; and that of every file it is the most of the releases that are accepted.
-- Assumes nothing.
use Rattle.std.specs.Prelude.{ℕ, ◌-◌, ◌≤◌, ◌<◌, ◌≡◌, refl, min, true, false, not, ◌∷◌, eqb, ltb, take}
use Rattle.std.proofs.Common.{arith, sym, ap, ◌∙◌, eqb-true, eq-eqb, ltb-true, ltb-false, le-ltb}
use Rattle.std.proofs.lemmas.Bool.{not-false}
use Rattle.laws.specs.Cases.{split, clash}
use Rattle.laws.specs.Lists.{all-default}
use Rattle.file.specs.declared.File.{File}
use Rattle.file.specs.declared.Position.{Position}
use Rattle.file.specs.declared.Position.TheVariants.{Empty, Cash, Letter}
use Rattle.file.specs.declared.Slot.{Slot}
use Rattle.calendar.specs.declared.Day.{Day}
use Rattle.file.specs.Calls.{largest, amounts_of}
use Rattle.file.specs.Fields.{open_calls}
use Rattle.file.specs.KeepsPositions.{amount-within}
use Rattle.file.specs.Position.{amount_of, counts_through, cover_on, filled, not_releasable, slot_of, position_at}
use Rattle.file.specs.Release.{release_floor, slots_left}
use Rattle.file.specs.Sound.{Sound, SoundPosition}
use Rattle.inquiry.specs.Releasable.{is_accepted, greatest, releasable_at, Releasable}
use Rattle.inquiry.proofs.Greatest.{greatest-passes, greatest-above, greatest-is}
use Rattle.inquiry.proofs.Left.{cash-left, letter-left, Released, released, accepted-where, amount-inside}

-- ---- an amount above what is held

-- It isn't accepted.
more-than-held : (f : File) (t k a : ℕ) → amount_of (position_at f.slots k) < a → is_accepted f t k a ≡ false
more-than-held f t k a h =
    split (is_accepted f t k a)
    (λ e. let r = released f t k a e in absurd (none (position_at f.slots k) h r.held r.allowed))
    (λ e. e)
  where
    none : (p : Position) → amount_of p < a → filled p ≡ true → not_releasable a p ≡ false → ⊥
    none Empty h held allowed = clash held refl
    none (Cash b) h held allowed = omega (arith, h, ltb-false b a allowed)
    none (Letter b first last) h held allowed = let same = eqb-true a b (not-false (eqb a b) allowed) in omega (arith, h, same)

-- ---- the equation

-- Whatever the position allows below an amount that is accepted is accepted too.
below-accepted : (f : File) (t k n a : ℕ) (p : Position) → position_at f.slots k ≡ p → is_accepted f t k n ≡ true → 1 ≤ a → a ≤ n
    → not_releasable a (position_at f.slots k) ≡ false → is_accepted f t k a ≡ true
below-accepted f t k n a Empty e good low high allowed =
    let r = released f t k n good in clash r.held (rw e refl)
below-accepted f t k n a (Cash b) e good low high allowed =
    let r = released f t k n good in
    let most = amount-within n r.inside in
    let held : n ≤ b = ltb-false b n (rw e at r.allowed) in
    let left = cash-left f t k n b e held in
    let other = cash-left f t k a b e (omega (arith, high, held)) in
    accepted-where f t k a
    (record {
      place = r.place;
      held = r.held;
      inside = amount-inside a low (omega (arith, high, most.1));
      allowed = allowed;
      covered = omega (arith, r.covered, left, other, high);
    })
below-accepted f t k n a (Letter b first last) e good low high allowed =
    let r = released f t k n good in
    let same : n ≡ b = eqb-true n b (not-false (eqb n b) (rw e at r.allowed)) in
    let equal : a ≡ b = eqb-true a b (not-false (eqb a b) (rw e at allowed)) in
    ap (is_accepted f t k) (equal ∙ sym same) ∙ good

pub releasable-is : (f : File) (t k : ℕ) → Releasable f t k (releasable_at f t k)
unfolding releasable_at
releasable-is f t k =
    let test = is_accepted f t k in
    let most = amount_of (position_at f.slots k) in
    record {
      within =
          λ a low high allowed.
          below-accepted f t k (greatest test most) a (position_at f.slots k) refl (greatest-passes test most (omega (arith, low, high))) low high allowed;
      above =
          λ a h.
          split (ltb most a) (λ e. more-than-held f t k a (ltb-true most a e)) (λ e. greatest-above test most a h (ltb-false most a e));
      itself = greatest-passes test most;
    }

-- ---- what the code finds

-- The floor, by the words of the file that the code reads.
pub floor-is : (f : File) (n : ℕ) → n ≡ largest f.next.amount (f.firm ∷ amounts_of (take f.count f.calls)) → n ≡ release_floor f
unfolding release_floor open_calls
floor-is f n e = e

-- What a sound file holds at a position is sound.
pub held-sound : (f : File) (t k : ℕ) → Sound t f → SoundPosition (position_at f.slots k)
held-sound f t k s = all-default (λ (x : Slot). SoundPosition x.position) f.slots k (slot_of Empty) tt s.slots

-- An accepted release leaves no more cover than there is.
left-less : (f : File) (t k a : ℕ) (p : Position) → position_at f.slots k ≡ p → Released f t k a → cover_on t (slots_left f k a) ≤ cover_on t f.slots
left-less f t k a Empty e r = clash r.held (rw e refl)
left-less f t k a (Cash b) e r =
    let h : a ≤ b = ltb-false b a (rw e at r.allowed) in omega (arith, cash-left f t k a b e h)
left-less f t k a (Letter b first last) e r = omega (arith, letter-left f t k a b first last e)

-- Nothing where no release is accepted.
nothing : (f : File) (t k : ℕ) → ((a : ℕ) → Released f t k a → ⊥) → 0 ≡ releasable_at f t k
unfolding releasable_at
nothing f t k none =
    sym
    (greatest-is (is_accepted f t k) (amount_of (position_at f.slots k)) 0 (omega arith) (λ h. absurd (omega (arith, h)))
    (λ a h g. split (is_accepted f t k a) (λ e. absurd (none a (released f t k a e))) (λ e. e)))

module _ (f : File) (t k floor cover : ℕ) (lowest : floor ≡ release_floor f) (today : cover ≡ cover_on t f.slots) where
  -- Nothing where the cover is below the floor.
  pub below-floor : cover < floor → 0 ≡ releasable_at f t k
  below-floor h = nothing f t k (λ a r. omega (arith, h, r.covered, left-less f t k a (position_at f.slots k) refl r, lowest, today))

  module _ (s : Sound t f) (place : k ≤ 7) (enough : floor ≤ cover) where
    -- Cash down to the floor.
    pub cash-most : (b n : ℕ) → position_at f.slots k ≡ Cash b → n ≡ min b (cover - floor) → n ≡ releasable_at f t k
    unfolding releasable_at
    cash-most b n e is =
        let sound : (1 ≤ b) × (b ≤ 1000000000000) = rw e at (held-sound f t k s) in
        let low : n ≤ b = omega (arith, is) in
        let left = cash-left f t k n b e low in
        sym
        (rw e
        (greatest-is (is_accepted f t k) b n low
        (λ h.
        accepted-where f t k n
        (record {
          place = place;
          held = rw e refl;
          inside = amount-inside n h (omega (arith, low, sound.1));
          allowed = rw e (le-ltb b n low);
          covered = omega (arith, left, lowest, today, enough, is);
        }))
        (λ a h g.
        split (is_accepted f t k a)
        (λ q.
        let r = released f t k a q in
        let other = cash-left f t k a b e g in
        absurd (omega (arith, other, r.covered, lowest, today, enough, is, h, g)))
        (λ q. q))))

    -- A letter whole, where the cover without it is at least the floor ..
    pub letter-most : (b n : ℕ) (first last : Day) → position_at f.slots k ≡ Letter b first last
        → n ≡ counts_through t t (Letter b first last) → n ≤ cover - floor → b ≡ releasable_at f t k
    unfolding releasable_at
    letter-most b n first last e counts h =
        let counted : n ≡ counts_through t t (position_at f.slots k) = rw e counts in
        let sound : (1 ≤ b) × (b ≤ 1000000000000) × (first.0 ≤ last.0) × (last.0 ≤ 29219) = rw e at (held-sound f t k s) in
        let left = letter-left f t k b b first last e in
        sym
        (rw e
        (greatest-is (is_accepted f t k) b b (omega arith)
        (λ g.
        accepted-where f t k b
        (record {
          place = place;
          held = rw e refl;
          inside = amount-inside b sound.0 sound.1;
          allowed = rw e (ap not (eq-eqb b b refl));
          covered = omega (arith, left, lowest, today, enough, counted, h);
        }))
        (λ a g i. absurd (omega (arith, g, i)))))

    -- .. or not at all.
    pub letter-none : (b n : ℕ) (first last : Day) → position_at f.slots k ≡ Letter b first last
        → n ≡ counts_through t t (Letter b first last) → cover - floor < n → 0 ≡ releasable_at f t k
    letter-none b n first last e counts h =
        let counted : n ≡ counts_through t t (position_at f.slots k) = rw e counts in
        nothing f t k (λ a r. omega (arith, h, r.covered, letter-left f t k a b first last e, lowest, today, enough, counted))

-- Nothing where nothing is held.
pub empty-none : (f : File) (t k : ℕ) → position_at f.slots k ≡ Empty → 0 ≡ releasable_at f t k
empty-none f t k e = nothing f t k (λ a r. clash r.held (rw e refl))

pub ruleset mosts = (floor-is, below-floor, cash-most, letter-most, letter-none, empty-none)
