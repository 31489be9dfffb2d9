-- A part of an input in a buffer: its lines taken by themselves are those of the whole input, also behind a line that is too long.
-- Assumes nothing.
use Rattle.std.proofs.Common.{◌≡◌, ℕ, suc, ◌<◌, ◌≤◌, Bool, true, false, cond, eqb, List, [], ◌∷◌, ◌++◌, length, sym, refl, ap, ◌∙◌, arith, length-append, le-leb}
use borrow.Author.Tests.{lt-leb}
use Rattle.laws.specs.Cases.{split}
use Rattle.laws.specs.Lists.{All}
use Rattle.dialogue.specs.declared.Way.{Way}
use Rattle.dialogue.specs.Split.{ahead, lines_in}
use Rattle.dialogue.specs.Turns.{State, after, ended, after_all}
use Rattle.dialogue.specs.Whole.{state_before, stream_after}
use Rattle.dialogue.proofs.CompleteLines.{Plain, begun_lines}
use Rattle.dialogue.proofs.LongLine.{knowing, after-begins, long_after}

-- ---- the lines of a part are shorter than it

-- Each line is shorter than so many bytes.
abbrev pub Short : ℕ → List (List ℕ) → Type 0
Short n ls = All (λ (l : List ℕ). length l < n) ls

pub more-short : (n m : ℕ) (ls : List (List ℕ)) → n ≤ m → Short n ls → Short m ls
more-short n m [] k h = tt
more-short n m (l ∷ ls) k h = (omega (arith, h.0), more-short n m ls k h.1)

ahead-short : (b n : ℕ) (ls : List (List ℕ)) → Short n ls → Short (suc n) (ahead b ls)
ahead-short b n [] h = tt
ahead-short b n (l ∷ ls) h = (omega (arith, h.0), more-short n (suc n) ls (omega arith) h.1)

pub lines-short : (s : List ℕ) → Short (length s) (lines_in s)
unfolding lines_in
lines-short [] = tt
lines-short (b ∷ s) =
    split (eqb b 10) (λ e. rw e (omega arith, more-short (length s) (suc (length s)) (lines_in s) (omega arith) (lines-short s)))
    (λ e. rw e (ahead-short b (length s) (lines_in s) (lines-short s)))

-- ---- short lines

pub known : (long : Bool) (s : State) → s.place.long ≡ long → knowing long s ≡ s
known long s e =
    λ i. record {
      book = s.book;
      place = record { line = s.place.line; refused = s.place.refused; kept = s.place.kept; long = sym e i; early = s.place.early };
    }

before-short : (most : ℕ) (s : State) (l : List ℕ) → length l < most → s.place.long ≡ false → state_before most s l ≡ s
before-short most s l h e = ap (λ (t : Bool). knowing t s) (lt-leb most (length l) h) ∙ known false s e

before-long : (most : ℕ) (s : State) (l : List ℕ) → most ≤ length l → state_before most s l ≡ knowing true s
before-long most s l h = ap (λ (t : Bool). knowing t s) (le-leb most (length l) h)

module _ (most : ℕ) (way : Way) (room : ℕ) where
  pub short-state : (s : State) (ls : List (List ℕ)) → Short most ls → s.place.long ≡ false
      → stream_after most way room s ls ≡ after_all way room s ls
  unfolding stream_after after_all
  short-state s [] h e = refl
  short-state s (l ∷ ls) h e =
      ap (λ (t : State). cond (ended way s.place) s (stream_after most way room (after way room t l) ls)) (before-short most s l h.0 e)
      ∙ ap (λ (t : State). cond (ended way s.place) s t) (short-state (after way room s l) ls h.1 (after-begins way room s l))

  -- ---- a part, with what had begun before it, in a buffer of `most` bytes

  module _ (s : State) (part : List ℕ) (h : length part ≤ most) (e : s.place.long ≡ false) where
    lines_fit : Short most (lines_in part)
    lines_fit = more-short (length part) most (lines_in part) h (lines-short part)

    pub part-state : stream_after most way room s (lines_in part) ≡ after_all way room s (lines_in part)
    part-state = short-state s (lines_in part) lines_fit e

  -- ---- a part behind a line that has begun and is too long: it may be taken without what has begun, with the flag set

  module _ (s : State) (r b l : List ℕ) (ls : List (List ℕ)) (plain : Plain r) (h : most ≤ length r) (e : lines_in b ≡ l ∷ ls)
      (k : length b ≤ most) where
    rest-short : Short most ls
    rest-short = split-short (lines_in b) e (more-short (length b) most (lines_in b) k (lines-short b))
      where
        split-short : (all : List (List ℕ)) → all ≡ l ∷ ls → Short most all → Short most ls
        split-short all g x = let y : Short most (l ∷ ls) = rw g at x in y.1

    too_long : state_before most s (r ++ l) ≡ knowing true s
    too_long = before-long most s (r ++ l) (omega (arith, length-append r l))

    -- where the lines have not ended, for then the flag would stay
    pub long-part-state : ended way s.place ≡ false
        → stream_after most way room s (lines_in (r ++ b)) ≡ after_all way room (knowing true s) (lines_in b)
    unfolding stream_after after_all ended
    long-part-state on =
        ap (stream_after most way room s) (begun_lines r b l ls plain e)
        ∙ ap (λ (z : State). cond (ended way s.place) s (stream_after most way room (after way room z (r ++ l)) ls)) too_long
        ∙ ap (λ (z : State). cond (ended way s.place) s (stream_after most way room z ls)) (long_after way room s (r ++ l) l)
        ∙ ap (λ (z : State). cond (ended way s.place) s z)
        (short-state (after way room (knowing true s) l) ls rest-short (after-begins way room (knowing true s) l))
        ∙ rw on refl
        ∙ ap (after_all way room (knowing true s)) (sym e)
