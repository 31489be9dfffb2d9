-- All complete lines of a part, taken as often as their bytes have no room.
-- Assumes nothing.
use Rattle.std.proofs.Common.{◌≡◌, ℕ, ◌+◌, ◌-◌, ◌≤◌, true, false, leb, List, [], ◌++◌, length, take, drop, sym, refl, ap, ◌∙◌, subst, arith, length-drop, take-append-drop, take_all, take_all, take-add, le-leb}
use mathlib.Core.Bool.{or-true}
use Rattle.laws.specs.Cases.{split}
use Rattle.printing.specs.Written.{Sheet, written_on, room_on}
use Rattle.dialogue.specs.declared.Way.{Way}
use Rattle.dialogue.specs.declared.Place.{Place}
use Rattle.dialogue.specs.Split.{lines_in, rest_in}
use Rattle.dialogue.specs.Turns.{State, ended, after_all, all_bytes, all_journal}
use Rattle.dialogue.specs.Answers.{most_kept, most_said, space, goes_on, Answers}
use Rattle.dialogue.proofs.SplitLaws.{lines-behind, rest-behind}
use Rattle.dialogue.proofs.CompleteLines.{all_lines, none_rest}
use Rattle.dialogue.proofs.TurnLaws.{after-append, ended-after}
use Rattle.serving.specs.Parts.{Step, SomeTaken, Drained}

-- A part up to the end of an input is what is left of it.
pub rest_all : (input : List ℕ) (start : ℕ) → take (length input - start) (drop start input) ≡ drop start input
rest_all input start = take_all (length input - start) (drop start input) (omega (arith, length-drop start input))

-- What the loop knows: the lines of the first bytes are taken.
pub record Draining (way : Way) (room : ℕ) (s : State) (input : List ℕ) (start : ℕ) (t : State) : Type 0 where
  pub within : start ≤ length input
  pub whole : rest_in (take start input) ≡ []
  pub left : t ≡ after_all way room s (lines_in (take start input))

pub begins : (way : Way) (room : ℕ) (s : State) (input : List ℕ) → Draining way room s input 0 s
unfolding lines_in rest_in after_all
begins way room s input = record { within = omega arith; whole = refl; left = refl }

-- Of no bytes there is nothing to be written.
pub no-journal : (way : Way) (room : ℕ) (t : State) (l : List ℕ) → l ≡ [] → length (all_journal way room t (lines_in l)) ≡ 0
unfolding lines_in all_journal
no-journal way room t l e = rw e refl

no_bytes : (way : Way) (room : ℕ) (t : State) (l : List ℕ) → l ≡ [] → length (all_bytes way room t (lines_in l)) ≡ 0
unfolding lines_in all_bytes
no_bytes way room t l e = rw e refl

-- Where nothing is written yet and the lines have not ended, one more is taken.
would-go : (way : Way) (p : Place) (j e : Sheet) → ended way p ≡ false → length (written_on j) ≡ 0 → most_kept ≤ room_on j → most_said ≤ room_on e
    → goes_on way p j e ≡ true
unfolding goes_on
would-go way p j e x y h k =
    let m : leb most_kept (room_on j) ≡ true = le-leb most_kept (room_on j) h in
    let n : leb most_said (room_on e) ≡ true = le-leb most_said (room_on e) k in
    rw (x, y, m, n, or-true way.gathers) refl

-- ---- the lines of some bytes of a part

pub stepped : (way : Way) (room : ℕ) (s t : State) (input : List ℕ) (k f : Sheet) (used : ℕ) → Answers way room s input used t k f
    → most_kept ≤ space k → most_said ≤ space f → Step way room s input used t
stepped way room s t input k f used x a b =
    let y = x.taken in
    record { within = y.within; whole = y.whole; left = y.left; none = λ z e. none_left z e }
  where
    none_left : used ≡ 0 → ended way t.place ≡ false → lines_in input ≡ []
    none_left z e =
        let y = x.taken in
        let n : take used input ≡ [] = rw z refl in
        let jl : length (written_on k) ≡ 0 = ap length y.journal ∙ no-journal way room s (take used input) n in
        let rl : length (written_on f) ≡ 0 = ap length y.bytes ∙ no_bytes way room s (take used input) n in
        subst (λ (m : ℕ). lines_in (drop m input) ≡ []) z (x.all (would-go way t.place k f e jl (omega arith) (omega arith)))

pub some_taken : (way : Way) (room : ℕ) (s t : State) (input : List ℕ) (k f : Sheet) (used : ℕ) → Answers way room s input used t k f
    → most_kept ≤ space k → most_said ≤ space f → SomeTaken way room s input t
some_taken way room s t input k f used x a b = record { used = used; step = stepped way room s t input k f used x a b }

-- ---- .. and of all

module _ (way : Way) (room room₁ : ℕ) (s t u : State) (input : List ℕ) (start used : ℕ) (d : Draining way room s input start t)
    (x : Step way room₁ t (take (length input - start) (drop start input)) used u) (same : room₁ ≡ room) where
  pub here : Step way room t (drop start input) used u
  here =
      subst (λ (n : ℕ). Step way n t (drop start input) used u) same
      (subst (λ (l : List ℕ). Step way room₁ t l used u) (rest_all input start) x)

  -- one turn
  pub goes-on-taken : Draining way room s input (start + used) u
  goes-on-taken =
      let a = take start input in
      let b = take used (drop start input) in
      let part : take (start + used) input ≡ a ++ b = take-add start used input in
      let lines : lines_in (take (start + used) input) ≡ lines_in a ++ lines_in b = ap lines_in part ∙ lines-behind a b d.whole in
      record {
        within = omega (arith, d.within, here.within, length-drop start input);
        whole = ap rest_in part ∙ rest-behind a b d.whole ∙ here.whole;
        left =
            here.left ∙ ap (λ (z : State). after_all way room z (lines_in b)) d.left ∙ sym (after-append way room s (lines_in a) (lines_in b))
            ∙ ap (after_all way room s) (sym lines);
      }

  module _ (none : used ≡ 0) where
    -- the state is that of the first bytes
    pub at-start : u ≡ after_all way room s (lines_in (take start input))
    at-start = let e : start + used ≡ start = omega arith in rw e at goes-on-taken.left

    -- so all lines of the part are taken
    pub ends : Drained way room s input start u
    ends =
        record {
          within = d.within;
          left = split (ended way u.place) stopped going;
          rest = λ e. rest (here.none none e);
        }
      where
        whole-input : lines_in input ≡ lines_in (take start input) ++ lines_in (drop start input)
        whole-input = ap lines_in (sym (take-append-drop start input)) ∙ lines-behind (take start input) (drop start input) d.whole

        stopped : ended way u.place ≡ true → u ≡ after_all way room s (lines_in input)
        stopped e =
            sym (ended-after way room u (lines_in (drop start input)) e)
            ∙ ap (λ (z : State). after_all way room z (lines_in (drop start input))) at-start
            ∙ sym (after-append way room s (lines_in (take start input)) (lines_in (drop start input)))
            ∙ ap (after_all way room s) (sym whole-input)

        going : ended way u.place ≡ false → u ≡ after_all way room s (lines_in input)
        going e = at-start ∙ ap (after_all way room s) (all_lines input start d.whole (here.none none e))

        rest : lines_in (drop start input) ≡ [] → drop start input ≡ rest_in input
        rest n =
            sym
            (ap rest_in (sym (take-append-drop start input)) ∙ rest-behind (take start input) (drop start input) d.whole
            ∙ none_rest (drop start input) n)
