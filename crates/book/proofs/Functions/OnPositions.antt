-- What a lodging and a release leave of the words of a book, from what the code found and wrote.
-- Assumes nothing.
use Prim.Native.Nat.{ℕ, ◌≤◌}
use native.Mathlib.Omega.{arith}
use mathlib.Core.Path.{◌≡◌, refl, sym, ap, ◌∙◌}
use mathlib.Core.Bool.{true, false}
use mathlib.Core.List.{List}
use borrow.Author.Tests.{ltb-false}
use lib.ListN.{set}
use Rattle.laws.specs.Cases.{cond-true}
use Rattle.laws.specs.Lists.{All, all_set, all-default}
use Rattle.file.specs.declared.File.{File}
use Rattle.file.specs.declared.Position.{Position}
use Rattle.file.specs.declared.Position.TheVariants.{Empty}
use Rattle.file.specs.declared.Slot.{Slot}
use Rattle.file.specs.Answer.{done, accepted}
use Rattle.file.specs.DecideLaws.{none-holds}
use Rattle.file.specs.Fields.{with_slots}
use Rattle.file.specs.KeepsPositions.{left-position-sound}
use Rattle.file.specs.Lodge.{lodge_answer, lodged_file}
use Rattle.file.specs.Position.{not_releasable, less_released, slot_of, position_at}
use Rattle.file.specs.Release.{slots_left, release_answer, released_file}
use Rattle.file.specs.Sound.{Sound, SoundPosition}
use Rattle.layout.specs.Files.{file_of_words, slots_of_words, words_at}
use Rattle.layout.specs.Words.{place, file_in_words, today_in}
use Rattle.layout.specs.WellFormed.{WellFormed}
use Rattle.layout.proofs.PartLaws.{slot-put}
use Rattle.book.specs.Call.{lodge, release, on}
use Rattle.book.specs.Account.{file_answer, file_after}
use Rattle.book.specs.InWords.{GivenWords}
use Rattle.book.specs.Positions.{PutsPosition}
use Rattle.book.proofs.Functions.OnWords.{given-left, given-unknown, given-refused, seen, own-answered, left-after}

-- A lodging and a release that are accepted are at one of eight places.
pub lodge-place : (f : File) (t k : ℕ) (h : Position) → done ≡ lodge_answer f t k h → k ≤ 7
unfolding lodge_answer
lodge-place f t k h e = ltb-false 7 k (none-holds _ done (ap accepted (sym e))).0

pub release-place : (f : File) (t k n : ℕ) → done ≡ release_answer f t k n → k ≤ 7
unfolding release_answer
release-place f t k n e = ltb-false 7 k (none-holds _ done (ap accepted (sym e))).0

module _ (l l' m : List ℕ) (p p' k : ℕ) (w : WellFormed l) (words : l' ≡ l) (same : p' ≡ p) (low : p ≤ 63) (known : (file_in_words l p).admitted ≡ true) where
  abbrev f : File
  f = file_in_words l p

  abbrev t : ℕ
  t = today_in l

  pub given-lodged : (h : Position) → done ≡ lodge_answer (file_in_words l' p') (today_in l') k h → PutsPosition l p k h m
      → GivenWords l (on p (lodge k h)) done m
  unfolding file_after lodged_file
  given-lodged h e put =
      let is : done ≡ file_answer f t (lodge k h) = own-answered l l' p p' (lodge k h) done words same known refl e in
      let own : done ≡ lodge_answer f t k h = seen l l' p p' words same (λ f t. lodge_answer f t k h) done e in
      given-left l p w low m (with_slots f (set f.slots k (slot_of h)))
      (slot-put l m p w.canonical w.long low k (slot_of h) (let few = lodge-place f t k h own in omega arith) put.back put.stored)
      (lodge k h) done refl is
      (sym (left-after f t (lodge k h) is refl ∙ cond-true (accepted (lodge_answer f t k h)) (with_slots f (set f.slots k (slot_of h))) f (ap accepted (sym own))))

  pub given-released : (n : ℕ) (h : Position) → done ≡ release_answer (file_in_words l' p') (today_in l') k n
      → h ≡ less_released n (position_at (file_in_words l' p').slots k) → PutsPosition l p k h m → GivenWords l (on p (release k n)) done m
  unfolding file_after released_file slots_left
  given-released n h e left put =
      let is : done ≡ file_answer f t (release k n) = own-answered l l' p p' (release k n) done words same known refl e in
      let own : done ≡ release_answer f t k n = seen l l' p p' words same (λ f t. release_answer f t k n) done e in
      given-left l p w low m (with_slots f (set f.slots k (slot_of h)))
      (slot-put l m p w.canonical w.long low k (slot_of h) (let few = release-place f t k n own in omega arith) put.back put.stored)
      (release k n) done refl is
      (ap (λ (z : Position). with_slots f (set f.slots k (slot_of z))) (seen l l' p p' words same (λ f t. less_released n (position_at f.slots k)) h left)
      ∙ sym (left-after f t (release k n) is refl ∙ cond-true (accepted (release_answer f t k n)) (with_slots f (slots_left f k n)) f (ap accepted (sym own))))

-- ---- the cover that is left

-- What a release leaves of a sound file's position is sound.
pub left_sound : (f : File) (t k n : ℕ) (held left : Position) → Sound t f → held ≡ position_at f.slots k → not_releasable n held ≡ false
    → left ≡ less_released n held → SoundPosition left
left_sound f t k n held left s here e is =
    rw (is, here)
    (left-position-sound n (position_at f.slots k) (ap (not_releasable n) (sym here) ∙ e)
    (all-default (λ (x : Slot). SoundPosition x.position) f.slots k (slot_of Empty) tt s.slots))

pub slots_with : (l : List ℕ) (p at k : ℕ) (left : Position) (slots : List Slot) → at ≡ place p → Sound (today_in l) (file_in_words l p)
    → slots ≡ slots_of_words (words_at l at) → SoundPosition left → All (λ (x : Slot). SoundPosition x.position) (set slots k (slot_of left))
unfolding file_of_words
slots_with l p at k left slots here s e h =
    all_set (λ (x : Slot). SoundPosition x.position) slots k (slot_of left) h (rw (e, here) s.slots)

pub ruleset lodgings = (given-unknown, given-refused, lodge-place, given-lodged)

pub ruleset releases = (given-unknown, given-refused, release-place, given-released)

pub ruleset covers = (slots_with)
