-- The words of a file say whether it is sound.
-- Assumes nothing.
use Prim.Native.Nat.{ℕ, zero, suc, ◌+◌, ◌*◌, ◌-◌, ◌%◌, ◌/◌, ◌≤◌, ◌<◌}
use mathlib.Core.Path.{◌≡◌, refl, sym, ap, ◌∙◌}
use mathlib.Core.Bool.{Bool}
use mathlib.Core.List.{List, [], ◌∷◌, ◌++◌}
use native.Mathlib.Omega.{arith}
use borrow.Author.Tests.{eqb-true, eqb-false}
use lib.Dec.{eqb}
use lib.ListN.{length, get_or, take, replicate}
use lib.IntN.{nat_abs}
use Rattle.laws.specs.Cases.{split}
use Rattle.laws.specs.Lists.{All, table}
use Rattle.laws.specs.Places.{get_d-same}
use Rattle.laws.specs.Tabulated.{get_d-table, all-table, table-all}
use Rattle.file.specs.declared.Slot.{Slot}
use Rattle.file.specs.declared.OpenCall.{OpenCall}
use Rattle.file.specs.declared.MonthTotal.{MonthTotal}
use Rattle.file.specs.Calls.{call_of, in_places}
use Rattle.file.specs.Fields.{open_calls}
use Rattle.file.specs.Sound.{SoundCall, SoundPosition, total_bound}
use Rattle.layout.specs.Parts.{number_of, signed_of_word, slot_of_words, open_call_of_words, total_of_words}
use Rattle.layout.specs.Files.{slots_of_words, calls_of_words, totals_of_words, file_of_words, words_at}
use Rattle.formed.specs.Decides.{Decides, Below}
use Rattle.formed.specs.Checks.{SoundSlot, SoundAmounts, SlotAt, CallAt, TotalAt, SoundAt}
use Rattle.formed.proofs.Decided.{as-well}

-- ---- zeros behind the open calls

module _ {A : Type 0} (z : A) where
  -- A repeated value stands at every place behind what is taken.
  behind-taken : (n m : ℕ) (l : List A) (k : ℕ) → n ≤ k → get_or (take n l ++ replicate m z) k z ≡ z
  behind-taken zero m l k h = get_d-same z m k
  behind-taken (suc n) m [] k h = get_d-same z m k
  behind-taken (suc n) m (x ∷ l) zero h = absurd (omega arith)
  behind-taken (suc n) m (x ∷ l) (suc k) h = behind-taken n m l k (omega arith)

-- A place with no call in it.
abbrev no_call : OpenCall
no_call = call_of 0 0

-- Four places with no call behind the first n.
four-places : (n : ℕ) (a b c d : OpenCall) → n ≤ 4 → (n ≤ 0 → a ≡ no_call) → (n ≤ 1 → b ≡ no_call) → (n ≤ 2 → c ≡ no_call)
    → (n ≤ 3 → d ≡ no_call)
    → a ∷ b ∷ c ∷ d ∷ [] ≡ in_places (take n (a ∷ b ∷ c ∷ d ∷ []))
unfolding in_places
four-places zero a b c d h p q r s = λ i. p (omega arith) i ∷ q (omega arith) i ∷ r (omega arith) i ∷ s (omega arith) i ∷ []
four-places (suc zero) a b c d h p q r s = λ i. a ∷ q (omega arith) i ∷ r (omega arith) i ∷ s (omega arith) i ∷ []
four-places (suc (suc zero)) a b c d h p q r s = λ i. a ∷ b ∷ r (omega arith) i ∷ s (omega arith) i ∷ []
four-places (suc (suc (suc zero))) a b c d h p q r s = λ i. a ∷ b ∷ c ∷ s (omega arith) i ∷ []
four-places (suc (suc (suc (suc zero)))) a b c d h p q r s = refl
four-places (suc (suc (suc (suc (suc n))))) a b c d h p q r s = absurd (omega arith)

-- A call whose words are zeros is none.
no_call_lem : (a d : ℕ) → (a ≡ 0) × (number_of d ≡ 0) → open_call_of_words a d ≡ no_call
unfolding open_call_of_words
no_call_lem a d e = λ i. record { amount = e.0 i; last = record { 0 = e.1 i } }

-- And the other way round.
call_none : (a d : ℕ) → open_call_of_words a d ≡ no_call → (a ≡ 0) × (number_of d ≡ 0)
unfolding open_call_of_words
call_none a d e = (ap (λ (c : OpenCall). c.amount) e, ap (λ (c : OpenCall). c.last.0) e)

-- ---- a signed number's word

-- A small word is a small number.
signed-small : (w : ℕ) → w ≤ 32000000000000 → nat_abs (signed_of_word w) ≤ total_bound
unfolding signed_of_word
signed-small w h = split (eqb (w % 2) 0) (λ e. rw e (omega arith)) (λ e. rw e (omega (arith, eqb-false (w % 2) 0 e)))

-- And the other way round.
small_signed : (w : ℕ) → nat_abs (signed_of_word w) ≤ total_bound → w ≤ 32000000000000
unfolding signed_of_word
small_signed w h =
    split (eqb (w % 2) 0) (λ e. let g : w / 2 ≤ total_bound = rw e at h in omega (arith, eqb-true (w % 2) 0 e))
    (λ e. let g : suc (w / 2) ≤ total_bound = rw e at h in omega arith)

-- ---- the file

module _ (l : List ℕ) (at : ℕ) where
  -- The file's words.
  abbrev w : ℕ → ℕ
  w = words_at l at

  -- The slots, from their words.
  slots-sound : Below 8 (SlotAt l at) → All (λ (s : Slot). SoundPosition s.position) (slots_of_words w)
  unfolding Below SoundSlot slots_of_words slot_of_words
  slots-sound b =
      all-table (λ (s : Slot). SoundPosition s.position) 8
      (λ k. slot_of_words (w (10 + 4 * k)) (w (11 + 4 * k)) (w (12 + 4 * k)) (w (13 + 4 * k))) b

  -- And the other way round.
  sound-slots : All (λ (s : Slot). SoundPosition s.position) (slots_of_words w) → Below 8 (SlotAt l at)
  unfolding Below SoundSlot slots_of_words slot_of_words
  sound-slots a =
      table-all (λ (s : Slot). SoundPosition s.position) 8
      (λ k. slot_of_words (w (10 + 4 * k)) (w (11 + 4 * k)) (w (12 + 4 * k)) (w (13 + 4 * k))) a

  -- Call k.
  abbrev call_here : ℕ → OpenCall
  call_here k = open_call_of_words (w (42 + 2 * k)) (w (43 + 2 * k))

  -- A call, from its words.
  call-sound : (k : ℕ) → CallAt l at k → SoundCall (call_here k)
  unfolding open_call_of_words
  call-sound k s = record { amount = s.amount; last = s.last }

  -- The calls, from their words.
  calls-sound : Below 4 (CallAt l at) → All SoundCall (calls_of_words w)
  unfolding Below calls_of_words
  calls-sound b = all-table SoundCall 4 call_here (λ k h. call-sound k (b k h))

  -- No call behind the open ones, from their words.
  calls-placed : w 4 ≤ 4 → Below 4 (CallAt l at) → calls_of_words w ≡ in_places (take (w 4) (calls_of_words w))
  unfolding Below calls_of_words
  calls-placed h b =
      four-places (w 4) (call_here 0) (call_here 1) (call_here 2) (call_here 3) h
      (λ n. no_call_lem (w 42) (w 43) ((b 0 (omega arith)).behind n))
      (λ n. no_call_lem (w 44) (w 45) ((b 1 (omega arith)).behind n))
      (λ n. no_call_lem (w 46) (w 47) ((b 2 (omega arith)).behind n))
      (λ n. no_call_lem (w 48) (w 49) ((b 3 (omega arith)).behind n))

  -- And the other way round.
  placed-here : calls_of_words w ≡ in_places (take (w 4) (calls_of_words w)) → (k : ℕ) → k < 4 → w 4 ≤ k → call_here k ≡ no_call
  unfolding calls_of_words in_places
  placed-here e k h n =
      sym (get_d-table 4 call_here k no_call h)
      ∙ ap (λ (m : List OpenCall). get_or m k no_call) e
      ∙ behind-taken no_call (w 4) (4 - length (take (w 4) (table 4 call_here))) (table 4 call_here) k n

  -- A call's words, from the call.
  place-sound : (k : ℕ) → SoundCall (call_here k) → (w 4 ≤ k → call_here k ≡ no_call) → CallAt l at k
  unfolding open_call_of_words
  place-sound k s z = record { amount = s.amount; last = s.last; behind = λ n. call_none (w (42 + 2 * k)) (w (43 + 2 * k)) (z n) }

  -- Each of the calls.
  call-here : All SoundCall (calls_of_words w) → (k : ℕ) → k < 4 → SoundCall (call_here k)
  unfolding calls_of_words
  call-here a k h = table-all SoundCall 4 call_here a k h

  -- The calls' words, from the calls.
  sound-calls : All SoundCall (calls_of_words w) → calls_of_words w ≡ in_places (take (w 4) (calls_of_words w)) → Below 4 (CallAt l at)
  unfolding Below
  sound-calls a e k h = place-sound k (call-here a k h) (placed-here e k h)

  -- The totals, from their words.
  totals-sound : Below 16 (TotalAt l at) → All (λ (r : MonthTotal). nat_abs r.total ≤ total_bound) (totals_of_words w)
  unfolding Below totals_of_words total_of_words
  totals-sound b =
      all-table (λ (r : MonthTotal). nat_abs r.total ≤ total_bound) 16
      (λ k. total_of_words (w (50 + 3 * k)) (w (51 + 3 * k)) (w (52 + 3 * k))) (λ k h. signed-small (w (52 + 3 * k)) (b k h))

  -- And the other way round.
  sound-totals : All (λ (r : MonthTotal). nat_abs r.total ≤ total_bound) (totals_of_words w) → Below 16 (TotalAt l at)
  unfolding Below totals_of_words total_of_words
  sound-totals a k h =
      small_signed (w (52 + 3 * k))
      (table-all (λ (r : MonthTotal). nat_abs r.total ≤ total_bound) 16
      (λ k. total_of_words (w (50 + 3 * k)) (w (51 + 3 * k)) (w (52 + 3 * k))) a k h)

  -- The file's own words are sound.
  abbrev Own : ℕ → Type 0
  Own t = SoundAmounts t (w 4) (w 3) (w 6) (w 7) (w 8) (w 9)

  -- The parts together are the whole.
  whole : (t : ℕ) → t ≤ 29219 → Below 8 (SlotAt l at) → Below 4 (CallAt l at) → Below 16 (TotalAt l at) → Own t → SoundAt t l at
  unfolding SoundAt file_of_words open_calls
  whole t day s c r o =
      record {
        day = day;
        slots = slots-sound s;
        calls = calls-sound c;
        count = o.count;
        places = calls-placed o.count c;
        firm = o.firm;
        next = o.next;
        totals = totals-sound r;
        charged = o.charged;
        accrued = o.accrued;
        counted = o.counted;
        made = o.made;
      }

  -- Each part follows from the whole.
  part-slots : (t : ℕ) → SoundAt t l at → Below 8 (SlotAt l at)
  unfolding SoundAt file_of_words
  part-slots t s = sound-slots s.slots

  -- The calls.
  part-calls : (t : ℕ) → SoundAt t l at → Below 4 (CallAt l at)
  unfolding SoundAt file_of_words open_calls
  part-calls t s = sound-calls s.calls s.places

  -- The totals.
  part-totals : (t : ℕ) → SoundAt t l at → Below 16 (TotalAt l at)
  unfolding SoundAt file_of_words
  part-totals t s = sound-totals s.totals

  -- The file's own words.
  part-own : (t : ℕ) → SoundAt t l at → Own t
  unfolding SoundAt file_of_words
  part-own t s =
      record {
        count = s.count;
        firm = s.firm;
        next = s.next;
        charged = s.charged;
        accrued = s.accrued;
        counted = s.counted;
        made = s.made;
      }

  -- A test of the parts, one after another, decides the whole.
  pub whole-decides : (t : ℕ) (r : Bool) → t ≤ 29219
      → Decides r (((Below 8 (SlotAt l at) × Below 4 (CallAt l at)) × Below 16 (TotalAt l at)) × Own t) → Decides r (SoundAt t l at)
  whole-decides t r day d =
      as-well d (λ p. whole t day p.0.0.0 p.0.0.1 p.0.1 p.1) (λ s. (((part-slots t s, part-calls t s), part-totals t s), part-own t s))
