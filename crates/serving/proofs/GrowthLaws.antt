-- The journal's file grows by just the bytes that the lines add.
-- Assumes nothing.
use Rattle.std.proofs.Common.{◌≡◌, ℕ, ◌+◌, ◌-◌, ◌%◌, ◌^◌, Bool, false, eqb, List, [], ◌++◌, length, take, drop, sym, refl, ap, ◌∙◌, subst, append-nil, add_assoc, arith, length-append, take-append-drop, take-add, ne_eqb, eqb-true}
use native.Mathlib.Nat.{mod-add-mod}
use borrow.Author.Tests.{eqb-false, ltb-false}
use Rattle.laws.specs.Cases.{split}
use Rattle.dialogue.specs.declared.Way.{Way}
use Rattle.dialogue.specs.declared.Place.{Place}
use Rattle.dialogue.specs.Split.{lines_in}
use Rattle.dialogue.specs.Turns.{State, ended, all_journal}
use Rattle.dialogue.proofs.SplitLaws.{lines-behind}
use Rattle.dialogue.proofs.CompleteLines.{all_lines}
use Rattle.dialogue.proofs.TurnLaws.{journal-append, ended-journal}
use Rattle.storage.specs.declared.kept.Journal.{Journal}
use Rattle.std.specs.Prelude.{true, cond, nat_lt, Option, Some, None, Result, Ok}
use Rattle.std.specs.Result.{result_ok}
use Rattle.serving.specs.Delivery.{longer_by, Delivered, Became, Grown}
use Rattle.serving.specs.Parts.{Step}
use Rattle.serving.proofs.PartLaws.{rest_all, Draining, no-journal, here, at-start}

-- ---- longer by some bytes, and by more

longer-more : (j : Option Journal) (a b : ℕ) → longer_by (longer_by j a) b ≡ longer_by j (a + b)
longer-more None a b = refl
longer-more (Some j) a b =
    split (eqb a 0) (λ e. let z : a ≡ 0 = eqb-true a 0 e in let y : 0 + b ≡ b = omega arith in rw (z, y) refl)
    (λ e.
    split (eqb b 0) (λ f. let z : b ≡ 0 = eqb-true b 0 f in let y : a + 0 ≡ a = omega arith in rw (z, y, e) refl)
    (λ f.
    let g : eqb (a + b) 0 ≡ false = ne_eqb (a + b) 0 (λ q. eqb-false a 0 e (omega arith)) in
    rw (e, f, g)
    (ap (λ (k : ℕ). Some (record { file = j.file; lock = j.lock; end = k }))
    (mod-add-mod (j.end + a) (2 ^ 64) b ∙ ap (λ (k : ℕ). k % 2 ^ 64) (add_assoc j.end a b)))))

grown-more : (silent : Bool) (i j k : Option Journal) (a b n : ℕ) → Grown silent i a j → Grown silent j b k → a + b ≡ n → Grown silent i n k
grown-more silent i j k a b n x y e =
    record {
      kept = λ q. y.kept q ∙ ap (λ (z : Option Journal). longer_by z b) (x.kept q) ∙ longer-more i a b ∙ ap (longer_by i) e;
      none = λ q h.
          let none : j ≡ None = x.kept q ∙ ap (λ (z : Option Journal). longer_by z a) h in
          omega (arith, x.none q h, y.none q none);
    }

none-grown : (silent : Bool) (j : Option Journal) (n : ℕ) → n ≡ 0 → Grown silent j n j
none-grown silent None n e = record { kept = λ q. refl; none = λ q h. e }
none-grown silent (Some j) n e = record { kept = λ q. rw e refl; none = λ q h. e }

-- ---- the lines of some bytes of a part

pub took : {E : Type 0} (bytes kept : List ℕ) (silent : Bool) (p : Place) (before after : Option Journal) (r : Result (Option Journal) E)
    → Became silent p before kept r → r ≡ Ok after → kept ≡ bytes → Grown silent before (length bytes) after
took bytes kept silent p before after r y is e =
    record {
      kept = λ q. (delivered q).grown ∙ ap (λ (l : List ℕ). longer_by before (length l)) e;
      none = λ q h. sym (ap length e) ∙ (delivered q).none h;
    }
  where
    delivered : silent ≡ false → Delivered before kept after
    delivered q = rw is at (y.kept q)

left-none : (n : ℕ) (before after : Option Journal) → Some after ≡ cond (nat_lt 0 n) None (Some before) → n ≡ 0
left-none n before after m =
    split (nat_lt 0 n) (λ w. let x : Some after ≡ None = rw w at m in cc) (λ w. omega (arith, ltb-false 0 n w))

-- Where lines are replayed and a journal is left, none of them was refused or an error.
pub none-refused : {E : Type 0} (bytes : List ℕ) (silent : Bool) (p : Place) (before after : Option Journal) (r : Result (Option Journal) E)
    → Became silent p before bytes r → r ≡ Ok after → silent ≡ true → p.refused ≡ 0
none-refused bytes silent p before after r y is e = left-none p.refused before after (sym (ap result_ok is) ∙ y.replayed e)

-- ---- .. and of all

pub grown-none : (way : Way) (room : ℕ) (s : State) (input : List ℕ) (silent : Bool) (j : Option Journal)
    → Grown silent j (length (all_journal way room s (lines_in (take 0 input)))) j
grown-none way room s input silent j = none-grown silent j _ (no-journal way room s [] refl)

module _ (way : Way) (room room₁ : ℕ) (s t u : State) (input : List ℕ) (start used : ℕ) (silent : Bool) (i j k : Option Journal)
    (d : Draining way room s input start t) (x : Step way room₁ t (take (length input - start) (drop start input)) used u) (same : room₁ ≡ room)
    (before : Grown silent i (length (all_journal way room s (lines_in (take start input)))) j)
    (now : Grown silent j (length (all_journal way room₁ t (lines_in (take used (take (length input - start) (drop start input)))))) k) where
  more : Grown silent j (length (all_journal way room t (lines_in (take used (drop start input))))) k
  more =
      subst (λ (n : ℕ). Grown silent j (length (all_journal way n t (lines_in (take used (drop start input))))) k) same
      (subst (λ (l : List ℕ). Grown silent j (length (all_journal way room₁ t (lines_in (take used l)))) k) (rest_all input start) now)

  -- one turn
  pub grown-on : Grown silent i (length (all_journal way room s (lines_in (take (start + used) input)))) k
  grown-on =
      let a = take start input in
      let b = take used (drop start input) in
      let lines : lines_in (take (start + used) input) ≡ lines_in a ++ lines_in b =
      ap lines_in (take-add start used input) ∙ lines-behind a b d.whole in
      let both : all_journal way room s (lines_in (take (start + used) input))
      ≡ all_journal way room s (lines_in a) ++ all_journal way room t (lines_in b) =
      ap (all_journal way room s) lines ∙ journal-append way room s (lines_in a) (lines_in b)
      ∙ ap (λ (z : State). all_journal way room s (lines_in a) ++ all_journal way room z (lines_in b)) (sym d.left) in
      grown-more silent i j k _ _ _ before more
      (sym (ap length both ∙ length-append (all_journal way room s (lines_in a)) (all_journal way room t (lines_in b))))

  -- the last one, which took no line
  module _ (none : used ≡ 0) where
    all-kept : all_journal way room s (lines_in (take start input)) ≡ all_journal way room s (lines_in input)
    all-kept =
        split (ended way u.place)
        (λ e.
        let w : lines_in input ≡ lines_in (take start input) ++ lines_in (drop start input) =
        ap lines_in (sym (take-append-drop start input)) ∙ lines-behind (take start input) (drop start input) d.whole in
        sym
        (ap (all_journal way room s) w ∙ journal-append way room s (lines_in (take start input)) (lines_in (drop start input))
        ∙ ap (λ (z : State). all_journal way room s (lines_in (take start input)) ++ all_journal way room z (lines_in (drop start input)))
        (sym (at-start way room room₁ s t u input start used d x same none))
        ∙ ap (λ (l : List ℕ). all_journal way room s (lines_in (take start input)) ++ l) (ended-journal way room u (lines_in (drop start input)) e)
        ∙ append-nil (all_journal way room s (lines_in (take start input)))))
        (λ e.
        ap (all_journal way room s)
        (all_lines input start d.whole ((here way room room₁ s t u input start used d x same).none none e)))

    pub ends-grown : Grown silent i (length (all_journal way room s (lines_in input))) k
    ends-grown =
        let z : start + used ≡ start = omega arith in
        subst (λ (l : List ℕ). Grown silent i (length l) k) (ap (λ (n : ℕ). all_journal way room s (lines_in (take n input))) z ∙ all-kept) grown-on
