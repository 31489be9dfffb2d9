-- The lists of a line, written number by number.
-- Assumes nothing.
use Rattle.std.proofs.Common.{ℕ, zero, suc, ◌+◌, ◌-◌, ◌≤◌, ◌<◌, ◌≡◌, refl, sym, ap, ◌∙◌, Bool, false, List, [], ◌∷◌, ◌++◌, length, take, drop, get_or, set, Option, Some, None, Result, Ok, Err, IsErrAnd, ok_or, MatchResult, ℤ, arith, add-one}
use mathlib.Core.Bool.{beq}
use mathlib.Core.List.{append-nil, append_assoc}
use borrow.Author.Tests.{eq-eqb, ne_eqb}
use lib.Dec.{eqb}
use lib.ListN.{length-set, length-drop, drop_of_length-le}
use lib.Seq.{sets, sets-eq, length-sets, drop-cons, drop-drop, drop-length, take_all, length-take-le}
use borrow.Rule.Slice.PartMut.{put_mid}
use Rattle.laws.specs.Tables.{beq-eq, every, every-at}
use Rattle.words.specs.Words.{left}
use Rattle.words.specs.declared.line.Words.{Words}
use Rattle.words.specs.Numerals.{natural, unsigned_of, signed_of}
use Rattle.words.specs.Euros.{figure_of}
use Rattle.journal.specs.Names.{read_number}
use Rattle.journal.specs.Fields.{Left, more, fault, next_of, faulted, field_of, words_left}
use Rattle.journal.specs.Fields.{Numbers, with_number, next_numbers, Lists, on_lists, in_list, list_of, lists_of, figures_of, closed}
use Rattle.journal.specs.Grammar.{Parsed, are_marks, lengths_of, month_numbered, settle_of, special_of}
use Rattle.journal.specs.Steps.{IsNumber, IsFilled, ParsedIs, said}
use Rattle.journal.specs.declared.Request.{Request}
use Rattle.journal.specs.declared.plain.Call.{Call}
use Rattle.journal.specs.declared.Reason.{Reason}
use Rattle.journal.specs.declared.fields.Kind.{Kind}
use Rattle.journal.specs.declared.lists.Listed.{Listed}
use Rattle.journal.proofs.FieldLaws.{field_fault, closed_fault}
use Rattle.journal.proofs.Room.{list-fits}

-- A number of a list.

number-cases : (v : Option ℤ) (s : Words)
    → MatchResult (ok_or v Reason.NotNumber) (λ z. (v ≡ Some z) × (more (left s) ≡ more (left s)))
    (λ e. (v ≡ None) × (fault Reason.NotNumber ≡ fault e))
number-cases (Some z) s = (refl, refl)
number-cases None s = (refl, refl)

pub number_is : (due : Listed) (ws rest : List (List ℕ)) (w : List ℕ) (v : Option ℤ) (s : Words) → ws ≡ w ∷ rest → left s ≡ rest
    → v ≡ read_number due w → IsNumber due (more ws) (ok_or v Reason.NotNumber) s
unfolding next_of faulted
number_is due ws rest w v s e f g = rw (e, ← f, ← g) (number-cases v s)

no-mark : (due : Listed) → read_number due [] ≡ None
unfolding read_number unsigned_of signed_of figure_of natural
no-mark Listed.Mark = refl
no-mark Listed.Number = refl
no-mark Listed.Figure = refl

-- no word is left
pub number_none : (due : Listed) (ws : List (List ℕ)) (e : Reason) → ws ≡ [] → e ≡ Reason.TooFewWords
    → (read_number due (next_of (more ws)).word ≡ None) × (faulted (next_of (more ws)).left Reason.NotNumber ≡ fault e)
unfolding next_of faulted
number_none due ws e q r = rw (q, r) (no-mark due, refl)

pub number_err : (due : Listed) (l : Left) (r : Result ℤ Reason) (why : Reason) (s : Words) → IsErrAnd r (λ y. y ≡ why)
    → (read_number due (next_of l).word ≡ None) × (faulted (next_of l).left Reason.NotNumber ≡ fault why) → IsNumber due l r s
number_err due l (Ok z) why s e f = absurd e
number_err due l (Err y) why s e f = (f.0, f.1 ∙ sym (ap fault e))

-- numbers are written up to a fault that is passed on
pub filled_err : {A : Type 0} (x : Numbers) (e : List ℤ) (r : Result A Reason) (why : Reason) (s t : Words) (f : List ℤ) → IsErrAnd r (λ y. y ≡ why)
    → IsFilled {A = Unit {0}} x e (Err why) t f → IsFilled {A = A} x e r s f
filled_err x e (Ok a) why s t f q w = absurd q
filled_err x e (Err y) why s t f q w = record { rest = ap fault q ∙ w.rest; numbers = w.numbers }

pub filled_count : (x : Numbers) (e : List ℤ) (n : ℕ) (s : Words) (f : List ℤ) → IsFilled {A = Unit {0}} x e (Ok (tt {0})) s f → IsFilled x e (Ok n) s f
filled_count x e n s f w = record { rest = w.rest; numbers = w.numbers }

pub parsed_err : (x : Parsed) (e : List ℤ) (r : Result Call Reason) (why : Reason) (f : List ℤ) → IsErrAnd r (λ y. y ≡ why)
    → ParsedIs x e (Request.Error why) f → ParsedIs x e (said r) f
parsed_err x e (Ok a) why f q w = absurd q
parsed_err x e (Err y) why f q w = record { request = ap Request.Error q ∙ w.request; numbers = w.numbers }

-- The loop over the numbers of a list: what is left, y, written into f from place i on, gives what x gives, written into e.

pub record Filling (x y : Numbers) (e f : List ℤ) (i : ℕ) : Type 0 where
  pub same : sets f i y.numbers ≡ sets e 0 x.numbers
  pub end : i + length y.numbers ≡ length x.numbers
  pub rest : y.left ≡ x.left
  pub long : length f ≡ length e

pub filling_starts : (due : Listed) (count : ℕ) (l : Left) (e : List ℤ)
    → Filling (next_numbers due (length e) count l) (next_numbers due (length e - 0) (count - 0) l) e e 0
filling_starts due count l e =
    let z : count - 0 ≡ count = omega arith in
    let h : length e - 0 ≡ length e = omega arith in
    rw (z, h) (record { same = refl; end = omega arith; rest = refl; long = refl })

set_next : (f : List ℤ) (i : ℕ) (z : ℤ) (zs : List ℤ) → sets (set f i z) (i + 1) zs ≡ sets f i (z ∷ zs)
set_next f i z zs = rw (add-one i)

-- the next number and the rest
unrolled : (due : Listed) (room count k : ℕ) (l : Left) → k < count
    → next_numbers due room (count - k) l
    ≡ with_number room (read_number due (next_of l).word) (next_of l).left (next_numbers due (room - 1) (count - (k + 1)) (next_of l).left)
unfolding next_numbers
unrolled due room count k l h = let e : count - k ≡ suc (count - (k + 1)) = omega arith in rw e

-- a number that there is room for
with-room : (room : ℕ) (z : ℤ) (l : Left) (rest : Numbers) → 0 < room
    → with_number room (Some z) l rest ≡ record { numbers = z ∷ rest.numbers; left = rest.left }
unfolding with_number
with-room room z l rest h = rw (ne_eqb room 0 (λ e. omega arith))

no_room : (room : ℕ) (z : ℤ) (l : Left) (rest : Numbers) → room ≡ 0 → with_number room (Some z) l rest ≡ record { numbers = []; left = fault Reason.TooLong }
unfolding with_number
no_room room z l rest e = rw (eq-eqb room 0 e)

no_number : (room : ℕ) (l : Left) (rest : Numbers) → with_number room None l rest ≡ record { numbers = []; left = faulted l Reason.NotNumber }
unfolding with_number
no_number room l rest = refl

module _ (due : Listed) (count i : ℕ) (e f : List ℤ) (l m : Left)
    (w : Filling (next_numbers due (length e) count l) (next_numbers due (length e - i) (count - i) m) e f i) where
  -- the end of the loop
  module _ (h : count ≤ i) (s : Words) (q : m ≡ more (left s)) where
    done : next_numbers due (length e - i) (count - i) m ≡ record { numbers = []; left = m }
    unfolding next_numbers
    done = let z : count - i ≡ 0 = omega arith in rw z

    pub filling_ends : IsFilled (next_numbers due (length e) count l) e (Ok (tt {0})) s f
    filling_ends =
        let g : Filling (next_numbers due (length e) count l) (record { numbers = []; left = m }) e f i = rw done at w in
        record { rest = sym q ∙ g.rest; numbers = g.same }

    pub filling_whole : i ≤ count → length (next_numbers due (length e) count l).numbers ≡ count
    filling_whole b =
        let g : Filling (next_numbers due (length e) count l) (record { numbers = []; left = m }) e f i = rw done at w in
        omega (arith, g.end)

  module _ (h : i < count) where
    abbrev rest : Numbers
    rest = next_numbers due (length e - i - 1) (count - (i + 1)) (next_of m).left

    value-is : (v : Option ℤ) → read_number due (next_of m).word ≡ v
        → next_numbers due (length e - i) (count - i) m ≡ with_number (length e - i) v (next_of m).left rest
    value-is v q = unrolled due (length e - i) count i m h ∙ ap (λ (u : Option ℤ). with_number (length e - i) u (next_of m).left rest) q

    pub filling_faults : (why : Reason) → (read_number due (next_of m).word ≡ None) × (faulted (next_of m).left Reason.NotNumber ≡ fault why)
        → (s : Words) → IsFilled {A = Unit {0}} (next_numbers due (length e) count l) e (Err why) s f
    filling_faults why q s =
        let g : Filling (next_numbers due (length e) count l) (record { numbers = []; left = faulted (next_of m).left Reason.NotNumber }) e f i =
        rw (value-is None q.0 ∙ no_number (length e - i) (next_of m).left rest) at w in
        record { rest = sym q.1 ∙ g.rest; numbers = g.same }

    module _ (z : ℤ) (q : read_number due (next_of m).word ≡ Some z) where
      pub filling_full : length f ≤ i → (s : Words) → IsFilled {A = Unit {0}} (next_numbers due (length e) count l) e (Err Reason.TooLong) s f
      filling_full b s =
          let g : Filling (next_numbers due (length e) count l) (record { numbers = []; left = fault Reason.TooLong }) e f i =
          rw (value-is (Some z) q ∙ no_room (length e - i) z (next_of m).left rest (omega (arith, w.long))) at w in
          record { rest = g.rest; numbers = g.same }

      pub filling_goes : i < length f → (n : Left) → (next_of m).left ≡ n
          → Filling (next_numbers due (length e) count l) (next_numbers due (length e - (i + 1)) (count - (i + 1)) n) e (set f i z) (i + 1)
      filling_goes b n r =
          let a : length e - (i + 1) ≡ length e - i - 1 = omega arith in
          let v : Filling (next_numbers due (length e) count l) (record { numbers = z ∷ rest.numbers; left = rest.left }) e f i =
          rw (value-is (Some z) q ∙ with-room (length e - i) z (next_of m).left rest (omega (arith, w.long))) at w in
          rw (a, ← r)
          (record {
            same = set_next f i z rest.numbers ∙ v.same;
            end = omega (arith, v.end);
            rest = v.rest;
            long = length-set f i z ∙ v.long;
          })

-- A list is its length and then its numbers.

numbers-fault : (due : Listed) (room n : ℕ) (e : Reason) → next_numbers due room n (fault e) ≡ record { numbers = []; left = fault e }
unfolding next_numbers next_of with_number faulted
numbers-fault due room zero e = refl
numbers-fault due room (suc n) e = rw (no-mark due)

list-fault-is : (marks : Bool) (room : ℕ) (e : Reason) → list_of marks room (fault e) ≡ record { numbers = []; left = fault e }
unfolding list_of
list-fault-is marks room e =
    let h : (field_of Kind.Natural (fault e)).left ≡ fault e = field_fault Kind.Natural (fault e) e refl in
    rw h (numbers-fault (in_list marks) room (field_of Kind.Natural (fault e)).value e)

pub list_fault : (marks : Bool) (l : Left) (e : List ℤ) (why : Reason) (s : Words) → (field_of Kind.Natural l).left ≡ fault why
    → IsFilled {A = Unit {0}} (list_of marks (length e) l) e (Err why) s e
unfolding list_of
list_fault marks l e why s q =
    let g : next_numbers (in_list marks) (length e) (field_of Kind.Natural l).value (field_of Kind.Natural l).left ≡ record { numbers = []; left = fault why } =
    rw q (numbers-fault (in_list marks) (length e) (field_of Kind.Natural l).value why) in
    rw g (record { rest = refl; numbers = refl })

pub list_is : (marks : Bool) (room n : ℕ) (l m : Left) → n ≡ (field_of Kind.Natural l).value → m ≡ (field_of Kind.Natural l).left
    → next_numbers (in_list marks) room n m ≡ list_of marks room l
unfolding list_of
list_is marks room n l m e f = rw (e, f)

-- The loop over the seven lists: what is left, y, gives what x gives.

pub record Listing (x y : Lists) (e f : List ℤ) (end : ℕ) (d n : List ℕ) (i : ℕ) : Type 0 where
  pub same : sets f end y.numbers ≡ sets e 0 x.numbers
  pub lengths : sets n i y.lengths ≡ sets d 0 x.lengths
  pub rest : y.left ≡ x.left
  pub long : length f ≡ length e
  pub places : length n ≡ length d
  pub within : end ≤ length e

-- numbers after numbers
sets-append : (l : List ℤ) (i : ℕ) (a b : List ℤ) → sets l i (a ++ b) ≡ sets (sets l i a) (i + length a) b
sets-append l i [] b = let e : i + 0 ≡ i = omega arith in rw e
sets-append l i (x ∷ a) b =
    let e : i + suc (length a) ≡ suc i + length a = omega arith in
    rw e (sets-append (set l i x) (suc i) a b)

put_next : (n : List ℕ) (i v : ℕ) (vs : List ℕ) → sets (set n i v) (i + 1) vs ≡ sets n i (v ∷ vs)
put_next n i v vs = rw (add-one i)

-- which list has the marks
marks-at : (i : ℕ) → i < 7 → eqb i 2 ≡ get_or are_marks i false
unfolding every
marks-at i h = beq-eq (eqb i 2) (get_or are_marks i false) (every-at (λ k. beq (eqb k 2) (get_or are_marks k false)) 7 tt i h)

marks-from : (i : ℕ) → i < 7 → drop i are_marks ≡ eqb i 2 ∷ drop (i + 1) are_marks
marks-from i h = rw (add-one i, marks-at i h) (drop-cons are_marks i false h)

lists-cons : (m : Bool) (ms : List Bool) (room : ℕ) (l : Left)
    → lists_of (m ∷ ms) room l ≡ on_lists (list_of m room l) (lists_of ms (room - length (list_of m room l).numbers) (list_of m room l).left)
unfolding lists_of
lists-cons m ms room l = refl

lists-next : (room i : ℕ) (l : Left) → i < 7
    → lists_of (drop i are_marks) room l
    ≡ on_lists (list_of (eqb i 2) room l)
    (lists_of (drop (i + 1) are_marks) (room - length (list_of (eqb i 2) room l).numbers) (list_of (eqb i 2) room l).left)
lists-next room i l h = ap (λ (ms : List Bool). lists_of ms room l) (marks-from i h) ∙ lists-cons (eqb i 2) (drop (i + 1) are_marks) room l

pub lists-many : (ms : List Bool) (room : ℕ) (l : Left) → length (lists_of ms room l).lengths ≡ length ms
unfolding lists_of on_lists
lists-many [] room l = refl
lists-many (m ∷ ms) room l = ap suc (lists-many ms (room - length (list_of m room l).numbers) (list_of m room l).left)

sets-all : (d vs : List ℕ) → length d ≡ length vs → sets d 0 vs ≡ vs
sets-all d vs e =
    let z : 0 + length vs ≡ length vs = omega arith in
    let h : length d ≤ length vs = omega arith in
    sets-eq vs d 0 (omega arith) ∙ ap (λ (t : List ℕ). vs ++ t) (rw z (drop_of_length-le d h)) ∙ append-nil vs

-- a fault ends the lists
lists-fault : (ms : List Bool) (room : ℕ) (e : Reason) → ((lists_of ms room (fault e)).numbers ≡ []) × ((lists_of ms room (fault e)).left ≡ fault e)
unfolding lists_of on_lists
lists-fault [] room e = (refl, refl)
lists-fault (m ∷ ms) room e = rw (list-fault-is m room e) (lists-fault ms (room - 0) e)

-- what is written to the end of a slice
put_end : (f g zs : List ℤ) (end : ℕ) → end ≤ length f → length zs ≤ length f - end → g ≡ sets (take (length f - end) (drop end f)) 0 zs
    → put_mid end (length f - end) f g ≡ sets f end zs
put_end f g zs end h k q =
    let m : take (length f - end) (drop end f) ≡ drop end f = take_all (length f - end) (drop end f) (omega (arith, length-drop end f)) in
    let n : end + (length f - end) ≡ length f = omega arith in
    let z : 0 + length zs ≡ length zs = omega arith in
    let a : g ≡ zs ++ drop (end + length zs) f =
    q ∙ ap (λ (l : List ℤ). sets l 0 zs) m ∙ sets-eq zs (drop end f) 0 (omega (arith, length-drop end f))
    ∙ ap (λ (j : ℕ). zs ++ drop j (drop end f)) z ∙ ap (λ (l : List ℤ). zs ++ l) (drop-drop (length zs) end f) in
    let b : drop (length f - end) (drop end f) ≡ [] = drop-drop (length f - end) end f ∙ rw n (drop-length f) in
    ap (λ (l : List ℤ). take end f ++ (g ++ l)) b ∙ ap (λ (l : List ℤ). take end f ++ l) (append-nil g ∙ a)
    ∙ sym (sets-eq zs f end (omega arith) ∙ append_assoc (take end f) zs (drop (end + length zs) f))

module _ (i end : ℕ) (e f g : List ℤ) (d n : List ℕ) (at : Left) (x : Lists) (h : i < 7)
    (w : Listing x (lists_of (drop i are_marks) (length e - end) at) e f end d n i) where
  abbrev part : List ℤ
  part = take (length f - end) (drop end f)

  room : length part ≡ length e - end
  room = length-take-le (length f - end) (drop end f) (omega (arith, length-drop end f)) ∙ ap (λ (k : ℕ). k - end) w.long

  opened : Listing x
      (on_lists (list_of (eqb i 2) (length part) at)
      (lists_of (drop (i + 1) are_marks) (length part - length (list_of (eqb i 2) (length part) at).numbers) (list_of (eqb i 2) (length part) at).left))
      e f end d n i
  opened = rw room (rw (lists-next (length e - end) i at h) at w)

  put : g ≡ sets part 0 (list_of (eqb i 2) (length part) at).numbers
      → put_mid end (length f - end) f g ≡ sets f end (list_of (eqb i 2) (length part) at).numbers
  put q =
      put_end f g (list_of (eqb i 2) (length part) at).numbers end (omega (arith, w.within, w.long))
      (omega (arith, list-fits (eqb i 2) (length part) at, room, w.long)) q

  pub list_within : (m : ℕ) → length (list_of (eqb i 2) (length part) at).numbers ≡ m → end + m ≤ length e
  list_within m q = omega (arith, list-fits (eqb i 2) (length part) at, room, w.within)

  pub listing_goes : (m : ℕ) (s : Words) → IsFilled {A = ℕ} (list_of (eqb i 2) (length part) at) part (Ok m) s g
      → length (list_of (eqb i 2) (length part) at).numbers ≡ m
      → Listing x (lists_of (drop (i + 1) are_marks) (length e - (end + m)) (more (left s))) e (put_mid end (length f - end) f g) (end + m) d (set n i m) (i + 1)
  unfolding on_lists
  listing_goes m s z q =
      let a = list_of (eqb i 2) (length part) at in
      let b = lists_of (drop (i + 1) are_marks) (length part - length a.numbers) a.left in
      let v = opened in
      let c : length e - (end + m) ≡ length part - length a.numbers = omega (arith, room) in
      rw (c, z.rest, ← q)
      (record {
        same = rw (put z.numbers) (sym (sets-append f end a.numbers b.numbers) ∙ v.same);
        lengths = put_next n i (length a.numbers) b.lengths ∙ v.lengths;
        rest = v.rest;
        long = rw (put z.numbers) (length-sets f end a.numbers ∙ v.long);
        places = length-set n i (length a.numbers) ∙ v.places;
        within = list_within (length a.numbers) refl;
      })

  pub listing_fault : (why : Reason) (s : Words) → IsFilled {A = ℕ} (list_of (eqb i 2) (length part) at) part (Err why) s g
      → (x.left ≡ fault why) × (put_mid end (length f - end) f g ≡ sets e 0 x.numbers)
  unfolding on_lists
  listing_fault why s z =
      let a = list_of (eqb i 2) (length part) at in
      let b = lists-fault (drop (i + 1) are_marks) (length part - length a.numbers) why in
      let v : Listing x (on_lists a (lists_of (drop (i + 1) are_marks) (length part - length a.numbers) (fault why))) e f end d n i = rw (← z.rest) at opened in
      let k : a.numbers ++ (lists_of (drop (i + 1) are_marks) (length part - length a.numbers) (fault why)).numbers ≡ a.numbers =
      ap (λ (l : List ℤ). a.numbers ++ l) b.0 ∙ append-nil a.numbers in
      (sym v.rest ∙ b.1, put z.numbers ∙ sym (ap (sets f end) k) ∙ v.same)

pub listing_ends : (i end room : ℕ) (e f : List ℤ) (d n : List ℕ) (l at : Left) → 7 ≤ i → i ≤ 7 → length d ≡ 7
    → Listing (lists_of are_marks (length e) l) (lists_of (drop i are_marks) room at) e f end d n i
    → (n ≡ (lists_of are_marks (length e) l).lengths) × (at ≡ (lists_of are_marks (length e) l).left)
    × (f ≡ sets e 0 (lists_of are_marks (length e) l).numbers)
unfolding lists_of
listing_ends i end room e f d n l at h k b w =
    let q : i ≡ 7 = omega arith in
    let v : Listing (lists_of are_marks (length e) l) (record { lengths = []; numbers = []; left = at }) e f end d n 7 = rw q at w in
    (v.lengths ∙ sets-all d (lists_of are_marks (length e) l).lengths (b ∙ sym (lists-many are_marks (length e) l)), v.rest, v.same)

-- The calls that have lists.

pub special_is : (l at : Left) (e f : List ℤ) (n : List ℕ) (r : Request)
    → (n ≡ (lists_of are_marks (length e) l).lengths) × (at ≡ (lists_of are_marks (length e) l).left)
    × (f ≡ sets e 0 (lists_of are_marks (length e) l).numbers)
    → r ≡ closed at (Request.Special (lengths_of n)) → ParsedIs (special_of (length e) l) e r f
unfolding special_of
special_is l at e f n r x h = record { request = h ∙ rw (x.0, x.1); numbers = x.2 }

pub special_fault : (l : Left) (e f : List ℤ) (why : Reason)
    → ((lists_of are_marks (length e) l).left ≡ fault why) × (f ≡ sets e 0 (lists_of are_marks (length e) l).numbers)
    → ParsedIs (special_of (length e) l) e (Request.Error why) f
unfolding special_of
special_fault l e f why x = record { request = sym (closed_fault _ _ why x.0); numbers = x.1 }

pub settle_fault : (room : ℕ) (l : Left) (e : List ℤ) (why : Reason) → (field_of Kind.Month (field_of Kind.Natural l).left).left ≡ fault why
    → ParsedIs (settle_of room l) e (Request.Error why) e
unfolding settle_of figures_of words_left next_numbers closed
settle_fault room l e why h = rw h (record { request = refl; numbers = refl })

module _ (l : Left) (p v n : ℕ) (ws : List (List ℕ)) (first : p ≡ (field_of Kind.Natural l).value)
    (second : v ≡ (field_of Kind.Month (field_of Kind.Natural l).left).value)
    (rest : more ws ≡ (field_of Kind.Month (field_of Kind.Natural l).left).left) (e g : List ℤ) (all : n ≡ length ws) (s : Words) where
  pub settle_err : (why : Reason) → IsFilled {A = Unit {0}} (next_numbers Listed.Figure (length e) n (more ws)) e (Err why) s g
      → ParsedIs (settle_of (length e) l) e (Request.Error why) g
  unfolding settle_of figures_of words_left
  settle_err why z =
      let y : IsFilled {A = Unit {0}} (next_numbers Listed.Figure (length e) (length ws) (more ws)) e (Err why) s g = rw all at z in
      rw (← rest) (record { request = sym (closed_fault _ _ why (sym y.rest)); numbers = y.numbers })

  pub settle_is : (r : Request) → IsFilled {A = Unit {0}} (next_numbers Listed.Figure (length e) n (more ws)) e (Ok (tt {0})) s g
      → length (next_numbers Listed.Figure (length e) n (more ws)).numbers ≡ n → r ≡ closed (more (left s)) (Request.Settle p (month_numbered v) n)
      → ParsedIs (settle_of (length e) l) e r g
  unfolding settle_of figures_of words_left
  settle_is r z k h =
      rw (← first, ← second, ← rest, ← all) (record { request = rw (← z.rest, k) h; numbers = z.numbers })
