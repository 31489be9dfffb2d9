-- What the view of a participant's file knows of the words.
-- Assumes nothing.
use Prim.Native.Nat.{ℕ, ◌+◌, ◌*◌, ◌≤◌, ◌<◌}
use native.Mathlib.Omega.{arith}
use mathlib.Core.Path.{◌≡◌, refl, sym, ap, ◌∙◌}
use mathlib.Core.Bool.{Bool, true, false, ◌||◌}
use mathlib.Core.List.{List, [], ◌∷◌, map}
use lib.Dec.{ltb}
use lib.ListN.{length, get_or}
use denote.Param.Members.{Mut}
use Rattle.std.specs.declared.ops.Range.{Range}
use Rattle.std.specs.Fn.{Called}
use Rattle.std.specs.Option.{MatchOption}
use Rattle.std.specs.Iterator.{YieldsThen}
use Rattle.std.specs.List.{list_any, range_with_len, FoldsTo}
use Rattle.std.proofs.iter.Yields.{nat_range_steps}
use Rattle.std.proofs.lemmas.Iterator.{YieldsList-from_range}
use Rattle.std.proofs.lemmas.Iterator.Search.{any_from_yields_List}
use Rattle.std.proofs.lemmas.List.FromFn.{fill_by_all}
use Rattle.std.proofs.lemmas.List.{get_or-take}
use borrow.Author.Tests.{le-ltb, ltb-true}
use Rattle.file.specs.declared.File.{File}
use Rattle.file.specs.Answer.{done, decide, accepted}
use Rattle.std.specs.Prelude.{Result, Ok, Err, MatchResult, is_ok, Option}
use Rattle.laws.specs.Cases.{split, clash}
use Rattle.refusal.specs.declared.Refusal.{Refusal}
use Rattle.refusal.specs.declared.Refusal.TheVariants.{NotAdmitted}
use Rattle.laws.specs.Lists.{All}
use Rattle.file.specs.declared.Position.TheVariants.{Empty}
use Rattle.file.specs.declared.Slot.{Slot}
use Rattle.file.specs.declared.OpenCall.{OpenCall}
use Rattle.file.specs.Calls.{call_of}
use Rattle.file.specs.Fields.{open_calls}
use Rattle.file.specs.Position.{slot_of, position_at}
use Rattle.file.specs.KeepsCalls.{open-count}
use Rattle.file.specs.Sound.{Sound, SoundPosition}
use Rattle.layout.specs.Files.{file_of_words, slot_in, call_in, slots_of_words, words_at}
use Rattle.layout.specs.Words.{book_length, place, file_in_words, today_in, book_of_words}
use Rattle.layout.specs.WellFormed.{WellFormed}
use Rattle.layout.proofs.FileLaws.{slot-there, call-there, slots-long}
use Rattle.book.specs.Account.{file_at, if_numbered, if_admitted}
use Rattle.book.specs.View.{RefusesAll}
use Rattle.book.proofs.Participant.Decide.{decide-false}
use Rattle.book.proofs.Functions.OnFile.{not-admitted, is-admitted}
use Rattle.book.proofs.Functions.OnWords.{file-sound, file-there, none-admitted, seen}

-- The file that is read is within its bounds.
pub view-sound : (l : List ℕ) (p : ℕ) → WellFormed l → p ≤ 63 → Sound (today_in l) (file_in_words l p)
view-sound l p w low = file-sound l p w low (file_in_words l p) (today_in l) refl refl

pub view-long : (l : List ℕ) → WellFormed l → length l ≡ book_length
view-long l w = w.long

pub ruleset views = (view-sound, view-long)

-- What is held at a position.
pub held-there : (l : List ℕ) (p k at : ℕ) (s : Slot) → at ≡ place p → k ≤ 7 → s ≡ slot_in l (at + (10 + 4 * k))
    → s.position ≡ position_at (file_in_words l p).slots k
unfolding file_of_words
held-there l p k at s here h e =
    ap (λ (z : Slot). z.position)
    (e ∙ ap (λ (n : ℕ). slot_in l (n + (10 + 4 * k))) here ∙ sym (slot-there l (place p) k (slot_of Empty) (omega arith)))

-- One of its open calls.
pub call-open : (l : List ℕ) (p k at : ℕ) (c : OpenCall) → at ≡ place p → Sound (today_in l) (file_in_words l p) → k < (file_in_words l p).count
    → c ≡ call_in l (at + (42 + 2 * k)) → c ≡ get_or (open_calls (file_in_words l p)) k (call_of 0 0)
unfolding file_of_words open_calls
call-open l p k at c here s h e =
    e
    ∙ ap (λ (n : ℕ). call_in l (n + (42 + 2 * k))) here
    ∙ sym (call-there l (place p) k (call_of 0 0) (omega (arith, s.count)))
    ∙ sym (get_or-take (file_in_words l p).count (file_in_words l p).calls k (call_of 0 0) h)

pub call-numbered : (l : List ℕ) (p k : ℕ) → Sound (today_in l) (file_in_words l p) → k < (file_in_words l p).count → k < 4
call-numbered l p k s h = omega (arith, s.count)

pub ruleset calls = (call-open, call-numbered)

-- Its positions are within their bounds.
pub slots-sound : (l : List ℕ) (p at : ℕ) → at ≡ place p → Sound (today_in l) (file_in_words l p)
    → All (λ (z : Slot). SoundPosition z.position) (slots_of_words (words_at l at))
unfolding file_of_words
slots-sound l p at here s = rw here s.slots

pub ruleset positions = (held-there, slots-sound)

-- Cause 2 refuses a participant that isn't admitted.
pub refused-unknown : (l l' : List ℕ) (p p' : ℕ) (a : Bool) → l' ≡ l → p' ≡ p → p ≤ 63 → a ≡ (file_in_words l' p').admitted → a ≡ false → RefusesAll l p NotAdmitted
unfolding if_numbered decide
refused-unknown l l' p p' a words same low e f x =
    not-admitted (file_at (book_of_words l) p) x
    (ap (λ (z : File). z.admitted) (file-there l p low) ∙ sym (seen l l' p p' words same (λ f t. f.admitted) a e) ∙ f)
    ∙ sym (decide-false (record { number = 1; holds = ltb 63 p }) [] (if_admitted (file_at (book_of_words l) p) x) (le-ltb 63 p low))

pub ruleset refuses = (view-sound, view-long, refused-unknown)

-- A view is refused by cause 1 or 2 where the participant isn't admitted, and only there.
pub admitted-known : {V : Type 0} (l : List ℕ) (p : ℕ) (r : Result V Refusal) (P : V → Type 0) → ((v : V) → P v → (p ≤ 63) × ((file_in_words l p).admitted ≡ true))
    → MatchResult r P (λ e. RefusesAll l p e) → is_ok r ≡ (file_at (book_of_words l) p).admitted
unfolding if_numbered decide
admitted-known l p (Ok v) P known h = sym (ap (λ (z : File). z.admitted) (file-there l p (known v h).0) ∙ (known v h).1)
admitted-known l p (Err e) P known h =
    split (ltb 63 p)
    (λ t. none-admitted l p (ltb-true 63 p t))
    (λ t. split (file_at (book_of_words l) p).admitted
    (λ a. clash {t = true} refl
    (ap accepted
    (is-admitted (file_at (book_of_words l) p) done done a refl
    ∙ sym (decide-false (record { number = 1; holds = ltb 63 p }) [] (if_admitted (file_at (book_of_words l) p) done) t)
    ∙ sym (h done))))
    (λ a. sym a))

-- There are eight positions, and as many open calls as are counted.
pub slots-eight : (l : List ℕ) (p : ℕ) → length (file_in_words l p).slots ≡ 8
unfolding file_of_words
slots-eight l p = slots-long (words_at l (place p))

pub calls-counted : (l : List ℕ) (p : ℕ) → Sound (today_in l) (file_in_words l p) → length (open_calls (file_in_words l p)) ≡ (file_in_words l p).count
calls-counted l p s = open-count (file_in_words l p) (today_in l) s

-- ---- whether one of a row of parts passes a test

any-image : {A B : Type 0} (test : B → Bool) (f : A → B) (l : List A) → list_any (λ x. test (f x)) l ≡ list_any test (map f l)
any-image test f [] = refl
any-image test f (x ∷ l) = ap (λ (b : Bool). test (f x) || b) (any-image test f l)

-- `any` over the places of the parts, by a test of the part at each.
pub any-part : {A F : Type 0} {g : Mut F (ℕ × Unit {0}) Bool} {s : Range ℕ} (test : A → Bool) (parts : List A) (d : A) (n : ℕ) (u : Range ℕ) (f : F) (r : Bool)
    → (xs : List ℕ) × (o : Option ℕ) × (j : F) × YieldsThen nat_range_steps s xs o u × FoldsTo (λ p x q. Called g p (x, tt) false q) f xs j
    × MatchOption o (r ≡ false) (λ x. (r ≡ true) × ((h : F) × Called g j (x, tt) true h))
    → s ≡ record { start = 0; end = n }
    → length parts ≡ n
    → ((x : ℕ) (b : Bool) (q : F) → Called g f (x, tt) b q → (q ≡ f) × (b ≡ test (get_or parts x d)))
    → r ≡ list_any test parts
any-part test parts d n u f r ran is long each =
    any_from_yields_List (λ (k : ℕ). test (get_or parts k d)) u f r ran (YieldsList-from_range 0 n n is (omega arith)) each
    ∙ any-image test (λ (k : ℕ). get_or parts k d) (range_with_len 0 n)
    ∙ ap (list_any test) (sym (fill_by_all (λ (k : ℕ). get_or parts k d) parts n d long (λ k h. refl)))
