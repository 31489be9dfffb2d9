-- An input, read in parts: the turns of the loop that reads it.
-- Assumes nothing.
use Rattle.std.proofs.Common.{◌≡◌, ℕ, ◌+◌, ◌%◌, ◌^◌, ◌<◌, ◌≤◌, Bool, true, false, not, leb, List, [], ◌∷◌, ◌++◌, length, take, drop, sym, refl, ap, ◌∙◌, subst, arith, length-append, length-take, take-add, leb-true}
use native.Mathlib.Nat.{mod-add-mod}
use Rattle.std.specs.Prelude.{Result, Ok}
use Rattle.std.specs.Result.{result_unwrap_or}
use borrow.Author.Tests.{lt-leb}
use Rattle.laws.specs.Cases.{split, cond-true, cond-false}
use Rattle.laws.specs.Lists.{All}
use Rattle.dialogue.specs.declared.Way.{Way}
use Rattle.dialogue.specs.Split.{lines_in, rest_in, with_newlines}
use Rattle.dialogue.specs.Turns.{State, ended, after_all}
use Rattle.dialogue.specs.Whole.{known_place, stream_after}
use Rattle.dialogue.proofs.SplitLaws.{lines_cut, rest-cut}
use Rattle.dialogue.proofs.CompleteLines.{rest_plain, none_rest, begun_lines}
use Rattle.dialogue.proofs.LongLine.{knowing}
use Rattle.dialogue.proofs.Parts.{known, part-state, long-part-state}
use Rattle.dialogue.proofs.Streams.{cut-anywhere}
use Rattle.serving.specs.Input.{MoreRead, PartTaken, InputTaken, InputCounted, complete}
use Rattle.serving.proofs.BufferLaws.{ended-known, complete_rest}
use Rattle.serving.proofs.StreamLaws.{stream-begins, begun-none, begun-rest, either, same-state, joined, still-long}

-- Before the first read.
none-complete : complete [] ≡ 0
unfolding lines_in with_newlines
none-complete = refl

same-count : (count : ℕ) → count < 2 ^ 64 → count ≡ (count + complete []) % 2 ^ 64
same-count count k = omega (arith, k, none-complete)

pub none-taken : (way : Way) (room : ℕ) (s : State) (most : ℕ) (f : List ℕ) (count : ℕ) → 0 < most → s.place.long ≡ false → count < 2 ^ 64
    → InputCounted way room s most s 0 f count count
unfolding lines_in rest_in stream_after
none-taken way room s most f count h e k =
    let short : leb most 0 ≡ false = lt-leb most 0 h in
    record {
      taken =
          record {
            bytes = [];
            book = λ n. refl;
            place =
                λ n.
                ap (λ (z : State). z.place) (sym (known false s e)) ∙ ap (λ (z : Bool). known_place z s.place) (sym short);
            many = λ n. sym (cond-false (leb most 0) 0 0 short);
            rest = λ n. sym (cond-false (leb most 0) [] [] short);
          };
      counted = λ n all. same-count count k;
    }

-- Lines in front of others are short where all are, and so is the first of others behind them.
front-short : (most : ℕ) (ls ms : List (List ℕ)) → All (λ (l : List ℕ). length l < most) (ls ++ ms) → All (λ (l : List ℕ). length l < most) ls
front-short most [] ms h = tt
front-short most (l ∷ ls) ms h = (h.0, front-short most ls ms h.1)

next-short : (most : ℕ) (ls ms : List (List ℕ)) (l : List ℕ) → All (λ (k : List ℕ). length k < most) (ls ++ (l ∷ ms)) → length l < most
next-short most [] ms l h = h.0
next-short most (k ∷ ls) ms l h = next-short most ls ms l h.1

-- One part more, behind the bytes g.
module _ (way : Way) (room : ℕ) (s : State) (most : ℕ) (t u : State) (before used n full : ℕ) (d e f : List ℕ) (first middle now : ℕ)
    (begins : s.place.long ≡ false) (z : InputCounted way room s most t before d first middle) (on : ended way t.place ≡ false)
    (front : take before e ≡ take before d) (m : length e ≡ most) (h : full ≡ before + n) (x : PartTaken way room t e full u used f)
    (count : ended way u.place ≡ false → now ≡ (middle + complete (take full e)) % 2 ^ 64) where
  abbrev y : InputTaken way room s most t before d
  y = z.taken

  abbrev g : List ℕ
  g = y.bytes

  abbrev b : List ℕ
  b = take n (drop before e)

  abbrev end : State
  end = stream_after most way room s (lines_in g)

  part : take full e ≡ take before d ++ b
  part = ap (λ (k : ℕ). take k e) h ∙ take-add before n e ∙ ap (λ (z : List ℕ). z ++ b) front

  is_known : t ≡ knowing (leb most (length (rest_in g))) end
  is_known = same-state t end (leb most (length (rest_in g))) (y.book on) (y.place on)

  fits : length (take full e) ≤ most
  fits = omega (arith, length-take full e, m)

  end_on : ended way end.place ≡ false
  end_on =
      sym (ended-known way (leb most (length (rest_in g))) end.place) ∙ ap (ended way) (sym (y.place on)) ∙ on

  -- the bytes of the part's lines are counted behind those before
  sum : ended way u.place ≡ false → All (λ (l : List ℕ). length l < most) (lines_in (g ++ b)) → complete (g ++ b) ≡ complete g + complete (take full e)
      → now ≡ (first + complete (g ++ b)) % 2 ^ 64
  sum o a k =
      let whole : All (λ (l : List ℕ). length l < most) (lines_in g ++ lines_in (rest_in g ++ b)) = rw (lines_cut g b) at a in
      let last : middle ≡ (first + complete g) % 2 ^ 64 = z.counted on (front-short most (lines_in g) (lines_in (rest_in g ++ b)) whole) in
      let all : (first + complete g) + complete (take full e) ≡ first + complete (g ++ b) = omega (arith, k) in
      count o ∙ ap (λ (j : ℕ). (j + complete (take full e)) % 2 ^ 64) last
      ∙ mod-add-mod (first + complete g) (2 ^ 64) (complete (take full e))
      ∙ ap (λ (j : ℕ). j % 2 ^ 64) all

  -- where the line that has begun is not too long, it stands in the buffer before the new bytes
  short : leb most (length (rest_in g)) ≡ false → InputCounted way room s most u used f first now
  short c =
      let is : t ≡ end =
      is_known ∙ ap (λ (z : Bool). knowing z end) c ∙ known false end (stream-begins most way room s (lines_in g) begins) in
      let whole : take full e ≡ rest_in g ++ b =
      part ∙ ap (λ (z : List ℕ). z ++ b) (y.rest on ∙ cond-false (leb most (length (rest_in g))) [] (rest_in g) c) in
      let begun : t.place.long ≡ false = ap (λ (z : State). z.place.long) is ∙ stream-begins most way room s (lines_in g) begins in
      let rest : rest_in (take full e) ≡ rest_in (g ++ b) = ap rest_in whole ∙ sym (rest-cut g b) in
      record {
        taken =
            joined way room s most t u used full e f (g ++ b) x m begins
            (sym (part-state most way room t (take full e) fits begun)
            ∙ ap (λ (z : State). stream_after most way room z (lines_in (take full e))) is
            ∙ ap (λ (z : List ℕ). stream_after most way room end (lines_in z)) whole
            ∙ sym (cut-anywhere most way room s g b).state)
            rest;
        counted =
            λ o a.
            sum o a
            (omega
            (arith, complete_rest g, complete_rest (g ++ b), complete_rest (take full e), ap length rest, ap length whole, length-append g b, length-append (rest_in g) b));
      }

  -- where it is, nothing of it does
  module _ (c : leb most (length (rest_in g)) ≡ true) where
    is-long : t ≡ knowing true end
    is-long = is_known ∙ ap (λ (z : Bool). knowing z end) c

    alone : take full e ≡ b
    alone = part ∙ ap (λ (z : List ℕ). z ++ b) (y.rest on ∙ cond-true (leb most (length (rest_in g))) [] (rest_in g) c)

    -- the line that it ends is too long
    not-all : (l : List ℕ) (ls : List (List ℕ)) → lines_in b ≡ l ∷ ls → All (λ (j : List ℕ). length j < most) (lines_in (g ++ b)) → ⊥
    not-all l ls k a =
        let lines : lines_in (g ++ b) ≡ lines_in g ++ ((rest_in g ++ l) ∷ ls) =
        lines_cut g b ∙ ap (λ (j : List (List ℕ)). lines_in g ++ j) (begun_lines (rest_in g) b l ls (rest_plain g) k) in
        let all : All (λ (j : List ℕ). length j < most) (lines_in g ++ ((rest_in g ++ l) ∷ ls)) = rw lines at a in
        omega
        (arith, next-short most (lines_in g) ls (rest_in g ++ l) all, length-append (rest_in g) l, leb-true most (length (rest_in g)) c)

    ends_it : (l : List ℕ) (ls : List (List ℕ)) → lines_in b ≡ l ∷ ls → InputCounted way room s most u used f first now
    ends_it l ls k =
        record {
          taken =
              joined way room s most t u used full e f (g ++ b) x m begins
              (ap (λ (z : State). after_all way room z (lines_in (take full e))) is-long
              ∙ ap (λ (z : List ℕ). after_all way room (knowing true end) (lines_in z)) alone
              ∙ sym
              (long-part-state most way room end (rest_in g) b l ls (rest_plain g) (leb-true most (length (rest_in g)) c) k
              (omega (arith, ap length alone, fits)) end_on)
              ∙ sym (cut-anywhere most way room s g b).state)
              (ap rest_in alone ∙ sym (begun-rest (rest_in g) b l ls (rest_plain g) k) ∙ sym (rest-cut g b));
          counted = λ o a. absurd (not-all l ls k a);
        }

    goes-on-long : lines_in b ≡ [] → InputCounted way room s most u used f first now
    unfolding stream_after
    goes-on-long k =
        let none : lines_in (rest_in g ++ b) ≡ [] = begun-none (rest_in g) b (rest_plain g) k in
        let rest : rest_in (g ++ b) ≡ rest_in g ++ b = rest-cut g b ∙ none_rest (rest_in g ++ b) none in
        record {
          taken =
              still-long way room s most t end u used full e f (g ++ b) x (ap lines_in alone ∙ k) is-long
              ((cut-anywhere most way room s g b).state ∙ ap (stream_after most way room end) none)
              (omega (arith, ap length rest, length-append (rest_in g) b, leb-true most (length (rest_in g)) c));
          counted =
              λ o a.
              sum o a
              (omega
              (arith, complete_rest g, complete_rest (g ++ b), complete_rest b, ap length rest, ap length (none_rest b k), ap complete alone, length-append g b, length-append (rest_in g) b));
        }

  pub one_more : InputCounted way room s most u used f first now
  one_more =
      split (leb most (length (rest_in g))) (λ c. either (lines_in b) (goes-on-long c) (ends_it c)) short

-- One turn: n bytes are read behind those that stay, and the part is taken. A read that gave bytes was one that was to be made.
pub turn : {E : Type 0} (way : Way) (room room₁ : ℕ) (s : State) (most : ℕ) (t u : State) (got : Result ℕ E) (before before₁ used n : ℕ)
    (d e f : List ℕ) (first middle now : ℕ) → InputCounted way room s most t before d first middle → s.place.long ≡ false
    → MoreRead (not (ended way t.place)) before d got e → got ≡ Ok n → (n ≡ 0 → ⊥) → PartTaken way room₁ t e (before₁ + n) u used f
    → before₁ ≡ before → room₁ ≡ room → length e ≡ most
    → (ended way u.place ≡ false → now ≡ (middle + complete (take (before₁ + n) e)) % 2 ^ 64)
    → InputCounted way room s most u used f first now
turn {E = E} way room room₁ s most t u got before before₁ used n d e f first middle now y begins m is more x stay same k count =
    let on : ended way t.place ≡ false =
    split (ended way t.place)
    (λ w.
    let zero : n ≡ 0 = ap (λ (z : Result ℕ E). result_unwrap_or z 0) (sym is ∙ m.none (rw w refl)) in
    absurd (more zero))
    (λ w. w) in
    one_more way room s most t u before used n (before₁ + n) d e f first middle now begins y on m.front k (rw stay refl)
    (subst (λ (z : ℕ). PartTaken way z t e (before₁ + n) u used f) same x) count

-- Where the input ends nothing changes.
pub ended-taken : (way : Way) (room : ℕ) (s : State) (most : ℕ) (t : State) (used used₁ : ℕ) (d f : List ℕ) (first middle : ℕ)
    → InputCounted way room s most t used d first middle → used₁ ≡ used → take used f ≡ take used d
    → InputCounted way room s most t used₁ f first middle
ended-taken way room s most t used used₁ d f first middle y same front =
    rw same
    (record {
      taken =
          record {
            bytes = y.taken.bytes;
            book = y.taken.book;
            place = y.taken.place;
            many = y.taken.many;
            rest = λ n. front ∙ y.taken.rest n;
          };
      counted = y.counted;
    })
