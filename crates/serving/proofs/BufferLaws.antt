-- A part of an input in the buffer: its lines taken, and what is left of it moved to the front.
-- Assumes nothing.
use Rattle.std.proofs.Common.{◌≡◌, ℕ, ◌+◌, ◌-◌, ◌%◌, ◌^◌, ◌≤◌, Bool, true, false, ltb, List, length, take, drop, sym, refl, ap, ◌∙◌, arith, length-append, length-drop, length-take, length-take-le, take-take, take-add, drop_at}
use Rattle.laws.specs.Cases.{split}
use Rattle.dialogue.specs.declared.Way.{Way}
use Rattle.dialogue.specs.declared.Place.{Place}
use Rattle.dialogue.specs.Split.{lines_in, rest_in, with_newlines}
use Rattle.dialogue.proofs.CompleteLines.{joined-again}
use Rattle.dialogue.specs.Turns.{State, ended, after_all}
use Rattle.dialogue.specs.Answers.{state_of}
use Rattle.dialogue.specs.Whole.{known_place}
use Rattle.serving.specs.Input.{is_long, staying, RestKept, PartTaken, complete}
use Rattle.serving.specs.Parts.{Drained}

-- What is behind the used bytes of the first `full` bytes.
behind-used : (e : List ℕ) (used full : ℕ) → used ≤ full → full ≤ length e → take (full - used) (drop used e) ≡ drop used (take full e)
behind-used e used full h k =
    let n : full ≡ used + (full - used) = omega arith in
    sym
    (ap (λ (m : ℕ). drop used (take m e)) n ∙ ap (drop used) (take-add used (full - used) e)
    ∙ drop_at (take used e) (take (full - used) (drop used e)) used (length-take-le used e (omega arith)))

-- A list is as long as its complete lines and its rest.
pub complete_rest : (l : List ℕ) → complete l + length (rest_in l) ≡ length l
complete_rest l = sym (length-append (with_newlines (lines_in l)) (rest_in l)) ∙ ap length (joined-again l)

-- Whether the lines have ended does not hang on a line that has begun.
pub ended-known : (way : Way) (t : Bool) (p : Place) → ended way (known_place t p) ≡ ended way p
unfolding ended
ended-known way t p = refl

-- What stays is no more than has begun.
pub stays_within : (long : Bool) (begun room : ℕ) → staying long begun room ≤ begun
stays_within true begun room = omega arith
stays_within false begun room = split (ltb begun room) (λ e. rw e (omega arith)) (λ e. rw e (omega arith))

module _ (way : Way) (room : ℕ) (s : State) (words e f : List ℕ) (full used stay : ℕ) (p : Place) (long : Bool) (h : full ≤ length e)
    (d : Drained way room s (take full e) used (state_of words p)) (m : RestKept p.long e used full long stay f) where
  abbrev after : State
  after = after_all way room s (lines_in (take full e))

  abbrev rest : List ℕ
  rest = rest_in (take full e)

  place-left : p ≡ after.place
  place-left = ap (λ (u : State). u.place) d.left

  used-within : used ≤ full
  used-within = omega (arith, d.within, length-take full e)

  module _ (n : ended way (known_place long p) ≡ false) where
    is-rest : drop used (take full e) ≡ rest
    is-rest = d.rest (sym (ended-known way long p) ∙ n)

    many : full - used ≡ length rest
    many =
        let k : full - used ≡ length (drop used (take full e)) = omega (arith, length-take full e, length-drop used (take full e), used-within) in
        k ∙ ap length is-rest

    place-taken : known_place long p ≡ known_place (is_long after.place.long (length rest) (length e)) after.place
    place-taken =
        ap (λ (b : Bool). known_place b p) m.known
        ∙ ap (λ (q : Place). known_place (is_long q.long (full - used) (length e)) q) place-left
        ∙ ap (λ (b : ℕ). known_place (is_long after.place.long b (length e)) after.place) many

    many-stay : stay ≡ staying after.place.long (length rest) (length e)
    many-stay =
        m.many ∙ ap (λ (q : Place). staying q.long (full - used) (length e)) place-left
        ∙ ap (λ (b : ℕ). staying after.place.long b (length e)) many

    front-stays : take stay f ≡ take stay rest
    front-stays =
        let few : stay ≤ full - used = omega (arith, m.many, stays_within p.long (full - used) (length e)) in
        m.front ∙ sym (take-take stay (full - used) (drop used e) few) ∙ ap (take stay) (behind-used e used full used-within h ∙ is-rest)

  pub part-taken : PartTaken way room s e full (state_of words (known_place long p)) stay f
  part-taken =
      record {
        book = λ n. ap (λ (u : State). u.book) d.left;
        place = place-taken;
        many = many-stay;
        front = front-stays;
      }

  -- The used bytes are those of its complete lines.
  pub part-counted : (before between after : ℕ) → between ≡ before → after ≡ (between + used) % 2 ^ 64
      → ended way (known_place long p) ≡ false → after ≡ (before + complete (take full e)) % 2 ^ 64
  part-counted before between after same behind n =
      let k : used ≡ complete (take full e) =
      omega (arith, ap length (is-rest n), complete_rest (take full e), length-drop used (take full e), length-take full e, used-within) in
      behind ∙ ap (λ (z : ℕ). (z + used) % 2 ^ 64) same ∙ ap (λ (z : ℕ). (before + z) % 2 ^ 64) k
