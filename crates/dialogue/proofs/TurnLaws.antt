-- One line more behind lines taken.
-- Assumes nothing.
use Rattle.std.proofs.Common.{◌≡◌, ℕ, ◌+◌, ◌-◌, ◌<◌, ◌≤◌, Bool, true, false, not, ◌&&◌, ◌||◌, eqb, ltb, leb, List, [], ◌∷◌, ◌++◌, length, take, drop, replicate, sym, refl, ap, ◌∙◌, append_assoc, append-nil, arith, length-append, length-drop, take_all, leb-true, ltb-true, ltb-false}
use Rattle.std.specs.Prelude.{Option, Some, None}
use Rattle.std.specs.List.{position, position_or_len}
use Rattle.std.proofs.lemmas.List.{drop-replicate, length-take}
use lib.ListN.{length-replicate}
use borrow.Author.Tests.{not-true}
use Rattle.laws.specs.Cases.{split, and_left, and_right, clash}
use Rattle.printing.specs.Written.{Sheet, written_on, room_on, followed, emptied, nameless, sized, blank}
use Rattle.printing.specs.WrittenLaws.{same_sheet, followed_none, followed_twice, written_fits, room_left, sized_written, sized_room}
use Rattle.dialogue.specs.declared.Way.{Way}
use Rattle.dialogue.specs.declared.Place.{Place}
use Rattle.dialogue.specs.Split.{lines_in, rest_in, until_newline}
use Rattle.dialogue.specs.Turns.{State, after, bytes_of, journal_of, ended, after_all, all_bytes, all_journal}
use Rattle.dialogue.specs.Answers.{space, SameBytes, state_of, LineTaken, goes_on, NextLine, WentOn, Taken, Answers}
use Rattle.dialogue.proofs.Decided.{decided-bytes}
use Rattle.dialogue.proofs.SplitLaws.{lines_more, whole-more, no_line}

-- ---- bytes put behind others

-- Where they have room, what is written is what was written before, and then they.
record Behind (bs : List ℕ) (e f : Sheet) : Type 0 where
  same : space f ≡ space e
  front : written_on f ≡ written_on e ++ bs

behind : (bs : List ℕ) (e f : Sheet) → f ≡ followed e bs → length bs ≤ room_on e → Behind bs e f
behind bs e f x h =
    let w : written_on f ≡ written_on e ++ bs = ap written_on x ∙ written_fits e bs h in
    let r : room_on f ≡ room_on e - length bs = ap room_on x ∙ room_left e bs in
    record { same = omega (arith, ap length w, length-append (written_on e) bs, r); front = w }

-- All that is written on a sheet, written on one of its size when it was blank.
filled : (k : Sheet) (t : List ℕ) → written_on k ≡ t → followed (blank (space k)) t ≡ sized k
unfolding followed blank sized
filled k t e =
    let n : length (written_on k) ≡ length t = ap length e in
    let z : List ℕ = replicate (space k) 0 in
    let l : length z ≡ space k = length-replicate {A = ℕ} (space k) 0 in
    let w : take (length z - 0) t ≡ written_on k = take_all (length z - 0) t (omega arith) ∙ sym e in
    let m : space k - length t ≡ room_on k = omega arith in
    let r : drop (length t) z ≡ replicate (room_on k) 0 = drop-replicate (length t) (space k) 0 ∙ ap (λ (i : ℕ). replicate {A = ℕ} i 0) m in
    same_sheet (nameless []) _ _ _ _ (λ i. w i ++ r i) (omega (arith, ap length w))

-- Whether one more line is taken does not hang on the bytes behind those that are written.
goes_sized : (way : Way) (p : Place) (j e : Sheet) → goes_on way p j e ≡ true → goes_on way p (sized j) (sized e) ≡ true
unfolding goes_on
goes_sized way p j e g = rw (sized_written j, sized_room j, sized_room e) g

-- ---- where one more line is taken

module _ (way : Way) (p : Place) (j e : Sheet) (g : goes_on way p j e ≡ true) where
  -- there is room for its bytes
  goes-room : (20480 ≤ room_on j) × (16384 ≤ room_on e)
  unfolding goes_on
  goes-room =
      let h = and_right (not (ended way p) && (way.gathers || eqb (length (written_on j)) 0)) (leb 20480 (room_on j) && leb 16384 (room_on e)) g in (
        leb-true 20480 (room_on j) (and_left (leb 20480 (room_on j)) (leb 16384 (room_on e)) h),
        leb-true 16384 (room_on e) (and_right (leb 20480 (room_on j)) (leb 16384 (room_on e)) h),
      )

  -- and the lines have not ended
  pub going : ended way p ≡ false
  unfolding goes_on
  going =
      not-true (ended way p)
      (and_left (not (ended way p)) (way.gathers || eqb (length (written_on j)) 0)
      (and_left (not (ended way p) && (way.gathers || eqb (length (written_on j)) 0)) (leb 20480 (room_on j) && leb 16384 (room_on e)) g))

-- ---- lines one after the other, and one more

module _ (way : Way) (room : ℕ) where
  -- Behind an end nothing more is taken.
  pub ended-after : (s : State) (ls : List (List ℕ)) → ended way s.place ≡ true → after_all way room s ls ≡ s
  unfolding after_all
  ended-after s [] e = refl
  ended-after s (l ∷ ls) e = rw e refl

  pub ended-bytes : (s : State) (ls : List (List ℕ)) → ended way s.place ≡ true → all_bytes way room s ls ≡ []
  unfolding all_bytes
  ended-bytes s [] e = refl
  ended-bytes s (l ∷ ls) e = rw e refl

  pub ended-journal : (s : State) (ls : List (List ℕ)) → ended way s.place ≡ true → all_journal way room s ls ≡ []
  unfolding all_journal
  ended-journal s [] e = refl
  ended-journal s (l ∷ ls) e = rw e refl

  pub after-append : (s : State) (a b : List (List ℕ)) → after_all way room s (a ++ b) ≡ after_all way room (after_all way room s a) b
  unfolding after_all
  after-append s [] b = refl
  after-append s (l ∷ a) b =
      split (ended way s.place) (λ e. rw e (sym (ended-after s b e))) (λ e. rw e (after-append (after way room s l) a b))

  pub bytes-append : (s : State) (a b : List (List ℕ))
      → all_bytes way room s (a ++ b) ≡ all_bytes way room s a ++ all_bytes way room (after_all way room s a) b
  unfolding after_all all_bytes
  bytes-append s [] b = refl
  bytes-append s (l ∷ a) b =
      split (ended way s.place) (λ e. rw e (sym (ended-bytes s b e)))
      (λ e.
      rw e
      (ap (λ (t : List ℕ). bytes_of way room s l ++ t) (bytes-append (after way room s l) a b)
      ∙ sym (append_assoc (bytes_of way room s l) (all_bytes way room (after way room s l) a)
      (all_bytes way room (after_all way room (after way room s l) a) b))))

  pub journal-append : (s : State) (a b : List (List ℕ))
      → all_journal way room s (a ++ b) ≡ all_journal way room s a ++ all_journal way room (after_all way room s a) b
  unfolding after_all all_journal
  journal-append s [] b = refl
  journal-append s (l ∷ a) b =
      split (ended way s.place) (λ e. rw e (sym (ended-journal s b e)))
      (λ e.
      rw e
      (ap (λ (t : List ℕ). journal_of way room s l ++ t) (journal-append (after way room s l) a b)
      ∙ sym
      (append_assoc (journal_of way room s l) (all_journal way room (after way room s l) a)
      (all_journal way room (after_all way room (after way room s l) a) b))))

  pub after_one : (s : State) (l : List ℕ) → ended way s.place ≡ false → after_all way room s (l ∷ []) ≡ after way room s l
  unfolding after_all
  after_one s l e = rw e refl

  pub bytes_one : (s : State) (l : List ℕ) → ended way s.place ≡ false → all_bytes way room s (l ∷ []) ≡ bytes_of way room s l
  unfolding all_bytes
  bytes_one s l e = rw e (append-nil (bytes_of way room s l))

  pub journal-one : (s : State) (l : List ℕ) → ended way s.place ≡ false → all_journal way room s (l ∷ []) ≡ journal_of way room s l
  unfolding all_journal
  journal-one s l e = rw e (append-nil (journal_of way room s l))

  -- One more that is taken, behind lines that were.
  went-more : (j e : Sheet) (s : State) (ls : List (List ℕ)) (l : List ℕ) → WentOn way room j e s ls
      → goes_on way (after_all way room s ls).place (followed j (all_journal way room s ls)) (followed e (all_bytes way room s ls)) ≡ true
      → WentOn way room j e s (ls ++ (l ∷ []))
  unfolding after_all all_bytes all_journal
  went-more j e s [] l w g = ((rw (followed_none j, followed_none e) at g), tt)
  went-more j e s (k ∷ ls) l w g =
      let jk = journal_of way room s k in
      let ek = bytes_of way room s k in
      let t = after way room s k in
      let on = going way s.place j e w.0 in
      let g1 : goes_on way (after_all way room t ls).place (followed j (jk ++ all_journal way room t ls)) (followed e (ek ++ all_bytes way room t ls)) ≡ true =
      rw on at g in (
        w.0,
        went-more (followed j jk) (followed e ek) t ls l w.1
            (rw (followed_twice j jk (all_journal way room t ls), followed_twice e ek (all_bytes way room t ls)) g1),
      )

-- ---- what is taken

pub none_taken : (way : Way) (room : ℕ) (s : State) (input : List ℕ) (k f j e : Sheet) → k ≡ emptied j → f ≡ emptied e
    → Taken way room s input 0 s k f
unfolding after_all all_bytes all_journal lines_in rest_in emptied
none_taken way room s input k f j e x y =
    record {
      within = omega arith;
      whole = refl;
      left = refl;
      journal = ap written_on x;
      bytes = ap written_on y;
      went = tt;
    }

-- A sheet that is cleared has as many bytes.
pub cleared : (k j : Sheet) → k ≡ emptied j → space k ≡ space j
unfolding emptied
cleared k j e = ap space e ∙ omega (arith, length-take j.end j.bytes.now)

-- The reference is the same, where it is cleared and where more is written.
pub cleared-same : (k j : Sheet) → k ≡ emptied j → SameBytes j k
unfolding emptied
cleared-same k j e = ap (λ (z : Sheet). z.bytes.ghost_name) e

pub written-same : (k j : Sheet) (t : List ℕ) → k ≡ followed j t → SameBytes j k
unfolding followed
written-same k j t e = ap (λ (z : Sheet). z.bytes.ghost_name) e

-- One line more: its bytes stand behind those of the lines before.
module _ (way : Way) (room : ℕ) (s : State) (input words m : List ℕ) (p q : Place) (j k e f : Sheet) (used n : ℕ)
    (before : Taken way room s input used (state_of words p) j e) (end : n ≡ until_newline (drop used input)) (more : n < length (drop used input))
    (one : LineTaken way room words p (take n (drop used input)) j e m q k f) (goes : goes_on way p j e ≡ true) where
  abbrev line : List ℕ
  line = take n (drop used input)

  abbrev lines : List (List ℕ)
  lines = lines_in (take used input)

  one_more : lines_in (take (used + (n + 1)) input) ≡ lines ++ (line ∷ [])
  one_more = lines_more input used n end more before.whole

  room-left-here : (20480 ≤ room_on j) × (16384 ≤ room_on e)
  room-left-here = goes-room way p j e goes

  not-ended : ended way (after_all way room s lines).place ≡ false
  not-ended = ap (λ (z : State). ended way z.place) (sym before.left) ∙ going way p j e goes

  journal-behind : Behind (journal_of way room (state_of words p) line) j k
  journal-behind = behind (journal_of way room (state_of words p) line) j k one.journal (omega (arith, one.few_kept, room-left-here.0))

  answer-behind : Behind (bytes_of way room (state_of words p) line) e f
  answer-behind = behind (bytes_of way room (state_of words p) line) e f one.bytes (omega (arith, one.few_said, room-left-here.1))

  left-more : state_of m q ≡ after_all way room s (lines ++ (line ∷ []))
  left-more =
      one.left ∙ ap (λ (z : State). after way room z line) before.left ∙ sym (after_one way room (after_all way room s lines) line not-ended)
      ∙ sym (after-append way room s lines (line ∷ []))

  journal-more : written_on k ≡ all_journal way room s (lines ++ (line ∷ []))
  journal-more =
      journal-behind.front ∙ ap (λ (z : List ℕ). z ++ journal_of way room (state_of words p) line) before.journal
      ∙ ap (λ (z : State). all_journal way room s lines ++ journal_of way room z line) before.left
      ∙ ap (λ (z : List ℕ). all_journal way room s lines ++ z) (sym (journal-one way room (after_all way room s lines) line not-ended))
      ∙ sym (journal-append way room s lines (line ∷ []))

  bytes-more : written_on f ≡ all_bytes way room s (lines ++ (line ∷ []))
  bytes-more =
      answer-behind.front ∙ ap (λ (z : List ℕ). z ++ bytes_of way room (state_of words p) line) before.bytes
      ∙ ap (λ (z : State). all_bytes way room s lines ++ bytes_of way room z line) before.left
      ∙ ap (λ (z : List ℕ). all_bytes way room s lines ++ z) (sym (bytes_one way room (after_all way room s lines) line not-ended))
      ∙ sym (bytes-append way room s lines (line ∷ []))

  went-here : WentOn way room (blank (space k)) (blank (space f)) s (lines ++ (line ∷ []))
  went-here =
      let pl : p ≡ (after_all way room s lines).place = ap (λ (z : State). z.place) before.left in
      let g : goes_on way (after_all way room s lines).place (followed (blank (space j)) (all_journal way room s lines))
      (followed (blank (space e)) (all_bytes way room s lines)) ≡ true =
      rw (← pl, filled j (all_journal way room s lines) before.journal, filled e (all_bytes way room s lines) before.bytes)
      (goes_sized way p j e goes) in
      rw (journal-behind.same, answer-behind.same)
      (went-more way room (blank (space j)) (blank (space e)) s lines line before.went g)

  pub turn : Taken way room s input (used + (n + 1)) (state_of m q) k f
  turn =
      record {
        within = omega (arith, more, length-drop used input, before.within);
        whole = whole-more input used n end more before.whole;
        left = rw one_more left-more;
        journal = rw one_more journal-more;
        bytes = rw one_more bytes-more;
        went = rw one_more went-here;
      }

-- A turn as the loop has it: the rest of the input is cut off at its end, and the slice for the numbers keeps its length.
pub record Turn (way : Way) (room : ℕ) (s : State) (input : List ℕ) (used : ℕ) (t : State) (j e k f : Sheet) : Type 0 where
  pub taken : Taken way room s input used t k f
  pub same_journal : space k ≡ space j
  pub same_answers : space f ≡ space e

rest-all : (l : List ℕ) (start : ℕ) → take (length l - start) (drop start l) ≡ drop start l
rest-all l start = take_all (length l - start) (drop start l) (omega (arith, length-drop start l))

pub turn-again : (way : Way) (room room₁ : ℕ) (s : State) (input words m : List ℕ) (p q : Place) (j k e f : Sheet) (used n : ℕ) (r : Option ℕ)
    → Taken way room s input used (state_of words p) j e → NextLine way p (take (length input - used) (drop used input)) j e r → r ≡ Some n
    → LineTaken way room₁ words p (take (used + n - used) (drop used input)) j e m q k f → room₁ ≡ room
    → Turn way room s input (used + (n + 1)) (state_of m q) j e k f
turn-again way room room₁ s input words m p q j k e f used n r before next is one same =
    let x : NextLine way p (drop used input) j e r = rw (rest-all input used) at next in
    let y = x.line n is in
    let z : used + n - used ≡ n = omega arith in
    let o : LineTaken way room words p (take n (drop used input)) j e m q k f = rw (z, same) at one in
    record {
      taken = turn way room s input words m p q j k e f used n before y.1 y.2 o y.0;
      same_journal = (journal-behind way room s input words m p q j k e f used n before y.1 y.2 o y.0).same;
      same_answers = (answer-behind way room s input words m p q j k e f used n before y.1 y.2 o y.0).same;
    }

-- ---- the end: no line more is taken, or no complete line is left

pub answered : (way : Way) (room : ℕ) (s : State) (p : Place) (words input : List ℕ) (k f : Sheet) (used : ℕ) (r : Option ℕ) → Taken way room s input used (state_of words p) k f
    → NextLine way p (take (length input - used) (drop used input)) k f r → r ≡ None → Answers way room s input used (state_of words p) k f
answered way room s p words input k f used r x next e =
    record {
      taken = x;
      all = let y : NextLine way p (drop used input) k f r = rw (rest-all input used) at next in y.none e;
      decided = λ seen b. x.bytes ∙ decided-bytes way room s (lines_in (take used input)) seen b;
    }

-- The length of the next line, by the code's search for a newline.
newline-first : (s : List ℕ) → until_newline s ≡ position_or_len (λ (b : ℕ). eqb b 10) s
unfolding until_newline
newline-first [] = refl
newline-first (b ∷ s) = split (eqb b 10) (λ e. rw e refl) (λ e. rw e (omega (arith, newline-first s)))

pub next_found : (way : Way) (p : Place) (rest : List ℕ) (j e : Sheet) (r : Option ℕ) (go : Bool) → go ≡ goes_on way p j e → go ≡ true
    → r ≡ position (λ (b : ℕ). eqb b 10) rest → NextLine way p rest j e r
next_found way p rest j e r go h t x =
    let n = position_or_len (λ (b : ℕ). eqb b 10) rest in
    let m : until_newline rest ≡ n = newline-first rest in
    split (ltb n (length rest))
    (λ u.
    let y : r ≡ Some n = rw u at x in
    record {
      line = λ k z.
          let same : k ≡ n = cc in
          (sym h ∙ t, same ∙ sym m, omega (arith, ltb-true n (length rest) u));
      none = λ z g. absurd (let c : Some n ≡ None = sym y ∙ z in cc);
    })
    (λ u.
    let y : r ≡ None = rw u at x in
    record {
      line = λ k z. absurd (let c : None ≡ Some k = sym y ∙ z in cc);
      none = λ z g. no_line rest (omega (arith, ltb-false n (length rest) u));
    })

pub next_stopped : (way : Way) (p : Place) (rest : List ℕ) (j e : Sheet) (go : Bool) → go ≡ goes_on way p j e → go ≡ false
    → NextLine way p rest j e None
next_stopped way p rest j e go h t =
    record { line = λ k z. absurd (let c : None ≡ Some k = z in cc); none = λ z g. clash g (sym h ∙ t) }
