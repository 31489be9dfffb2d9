-- An input, read in parts: one part more leaves what all the bytes read so far leave, however they were cut.
-- Assumes nothing.
use Rattle.std.proofs.Common.{◌≡◌, ℕ, ◌≤◌, Bool, true, false, cond, leb, List, [], ◌∷◌, ◌++◌, length, take, sym, refl, ap, ◌∙◌, arith, length-append, length-take, take_all, le-ltb, lt-ltb, eq-eqb, ne_eqb, le-leb, leb-false, leb-true}
use Rattle.laws.specs.Cases.{split, cond-true}
use Rattle.dialogue.specs.declared.Way.{Way}
use Rattle.dialogue.specs.Split.{lines_in, rest_in, with_newlines}
use Rattle.dialogue.specs.Turns.{State, after, ended, after_all}
use Rattle.dialogue.specs.Whole.{known_place, state_before, stream_after}
use Rattle.dialogue.proofs.CompleteLines.{Plain, begun_lines, joined-again}
use Rattle.dialogue.proofs.LongLine.{knowing, after-begins}
use Rattle.serving.specs.Input.{is_long, staying, PartTaken, InputTaken}

-- ---- lines and rests

-- Behind complete lines the next line is not known to be too long.
pub stream-begins : (most : ℕ) (way : Way) (room : ℕ) (s : State) (ls : List (List ℕ)) → s.place.long ≡ false
    → (stream_after most way room s ls).place.long ≡ false
unfolding stream_after
stream-begins most way room s [] e = e
stream-begins most way room s (l ∷ ls) e =
    split (ended way s.place) (λ t. rw t e)
    (λ t. rw t (stream-begins most way room (after way room (state_before most s l) l) ls (after-begins way room (state_before most s l) l)))

rest-within : (s : List ℕ) → length (rest_in s) ≤ length s
rest-within s = omega (arith, ap length (joined-again s), length-append (with_newlines (lines_in s)) (rest_in s))

-- What has begun, with bytes behind it: no complete line where they have none, else the rest is theirs.
pub begun-none : (r b : List ℕ) → Plain r → lines_in b ≡ [] → lines_in (r ++ b) ≡ []
unfolding lines_in
begun-none [] b p e = e
begun-none (x ∷ r) b p e = rw (p.0, begun-none r b p.1 e)

pub begun-rest : (r b l : List ℕ) (ls : List (List ℕ)) → Plain r → lines_in b ≡ l ∷ ls → rest_in (r ++ b) ≡ rest_in b
unfolding lines_in rest_in
begun-rest [] b l ls p e = refl
begun-rest (x ∷ r) b l ls p e = rw (p.0, begun_lines r b l ls p.1 e) (begun-rest r b l ls p.1 e)

-- Either there is no line, or there is a first.
pub either : {G : Type 0} (ls : List (List ℕ)) → (ls ≡ [] → G) → ((l : List ℕ) (ms : List (List ℕ)) → ls ≡ l ∷ ms → G) → G
either [] f g = f refl
either (l ∷ ms) f g = g l ms refl

-- ---- a rest that is no longer than the buffer

long-test : (n most : ℕ) → n ≤ most → is_long false n most ≡ leb most n
long-test n most h =
    split (leb most n) (λ e. eq-eqb n most (omega (arith, leb-true most n e)) ∙ sym e)
    (λ e. ne_eqb n most (λ q. omega (arith, leb-false most n e)) ∙ sym e)

stay-test : (n most : ℕ) → staying false n most ≡ cond (leb most n) 0 n
stay-test n most =
    split (leb most n) (λ e. rw (e, le-ltb n most (leb-true most n e)) refl) (λ e. rw (e, lt-ltb n most (omega (arith, leb-false most n e))) refl)

pub front-test : (t : Bool) (used : ℕ) (rest : List ℕ) → used ≡ cond t 0 (length rest) → take used rest ≡ cond t [] rest
front-test true used rest e = rw e refl
front-test false used rest e = take_all used rest (omega arith)

-- ---- states

pub same-state : (t u : State) (z : Bool) → t.book ≡ u.book → t.place ≡ known_place z u.place → t ≡ knowing z u
same-state t u z p q = λ i. record { book = p i; place = q i }

-- ---- one part more

-- Where the part's lines lead to the state of all bytes, and its rest is theirs.
module _ (way : Way) (room : ℕ) (s : State) (most : ℕ) (t u : State) (used full : ℕ) (e f g : List ℕ)
    (x : PartTaken way room t e full u used f) (m : length e ≡ most) (begins : s.place.long ≡ false)
    (state : after_all way room t (lines_in (take full e)) ≡ stream_after most way room s (lines_in g))
    (rest : rest_in (take full e) ≡ rest_in g) where
  abbrev end : State
  end = stream_after most way room s (lines_in g)

  few : length (rest_in g) ≤ most
  few = omega (arith, ap length rest, rest-within (take full e), length-take full e, m)

  module _ (n : ended way u.place ≡ false) where
    pub place-joined : u.place ≡ known_place (leb most (length (rest_in g))) end.place
    place-joined =
        x.place n
        ∙ ap (λ (z : State). known_place (is_long z.place.long (length (rest_in (take full e))) (length e)) z.place) state
        ∙ ap (λ (z : Bool). known_place (is_long z (length (rest_in (take full e))) (length e)) end.place)
        (stream-begins most way room s (lines_in g) begins)
        ∙ ap (λ (z : List ℕ). known_place (is_long false (length z) (length e)) end.place) rest
        ∙ ap (λ (z : ℕ). known_place (is_long false (length (rest_in g)) z) end.place) m
        ∙ ap (λ (z : Bool). known_place z end.place) (long-test (length (rest_in g)) most few)

    pub many-joined : used ≡ cond (leb most (length (rest_in g))) 0 (length (rest_in g))
    many-joined =
        x.many n ∙ ap (λ (z : State). staying z.place.long (length (rest_in (take full e))) (length e)) state
        ∙ ap (λ (z : Bool). staying z (length (rest_in (take full e))) (length e)) (stream-begins most way room s (lines_in g) begins)
        ∙ ap (λ (z : List ℕ). staying false (length z) (length e)) rest
        ∙ ap (λ (z : ℕ). staying false (length (rest_in g)) z) m
        ∙ stay-test (length (rest_in g)) most

  abbrev pub joined : InputTaken way room s most u used f
  joined =
      record {
        bytes = g;
        book = λ n. x.book n ∙ ap (λ (z : State). z.book) state;
        place = place-joined;
        many = many-joined;
        rest =
            λ n.
            x.front n ∙ ap (take used) rest ∙ front-test (leb most (length (rest_in g))) used (rest_in g) (many-joined n);
      }

-- Where the line that has begun is too long and the part does not end it.
module _ (way : Way) (room : ℕ) (s : State) (most : ℕ) (t v u : State) (used full : ℕ) (e f g : List ℕ)
    (x : PartTaken way room t e full u used f) (none : lines_in (take full e) ≡ []) (is : t ≡ knowing true v)
    (state : stream_after most way room s (lines_in g) ≡ v) (long : most ≤ length (rest_in g)) where
  pub is-still : after_all way room t (lines_in (take full e)) ≡ knowing true v
  unfolding after_all
  is-still = ap (after_all way room t) none ∙ is

  pub is-long : leb most (length (rest_in g)) ≡ true
  is-long = le-leb most (length (rest_in g)) long

  pub no_byte : ended way u.place ≡ false → used ≡ 0
  no_byte n =
      x.many n ∙ ap (λ (z : State). staying z.place.long (length (rest_in (take full e))) (length e)) is-still

  abbrev pub still-long : InputTaken way room s most u used f
  still-long =
      record {
        bytes = g;
        book = λ n. x.book n ∙ ap (λ (z : State). z.book) is-still ∙ sym (ap (λ (z : State). z.book) state);
        place =
            λ n.
            x.place n
            ∙ ap (λ (z : State). known_place (is_long z.place.long (length (rest_in (take full e))) (length e)) z.place) is-still
            ∙ sym (ap (λ (z : State). known_place true z.place) state)
            ∙ sym (ap (λ (z : Bool). known_place z (stream_after most way room s (lines_in g)).place) is-long);
        many = λ n. no_byte n ∙ sym (cond-true (leb most (length (rest_in g))) 0 (length (rest_in g)) is-long);
        rest =
            λ n. ap (λ (k : ℕ). take k f) (no_byte n) ∙ sym (cond-true (leb most (length (rest_in g))) [] (rest_in g) is-long);
      }
