-- What is said to a line: its answer, and its wording where the way has words.
-- Assumes nothing.
use Rattle.std.proofs.Common.{◌≡◌, ℕ, ◌+◌, ◌≤◌, Bool, true, false, cond, List, [], ◌∷◌, ◌++◌, length, sym, refl, ap, ◌∙◌, append-nil, arith, length-append}
use Rattle.laws.specs.Cases.{by-test, cond-true, cond-false}
use Rattle.words.specs.Comments.{commented}
use Rattle.journal.specs.declared.Request.{Request}
use Rattle.printing.specs.declared.Answer.{Answer}
use Rattle.printing.specs.Answers.{answer_line}
use Rattle.printing.specs.Lines.{printed}
use Rattle.printing.specs.Written.{Sheet, followed}
use Rattle.printing.specs.WrittenLaws.{followed_none}
use Rattle.wording.specs.Wording.{wording}
use Rattle.wording.proofs.WordingLaws.{three_put}
use Rattle.answering.specs.Kept.{kept_line, retired_line}
use Rattle.dialogue.specs.Said.{SmallNumbers, speaks, Spoken, said, Said}
use Rattle.dialogue.proofs.Lengths.{said_short}
use Rattle.dialogue.proofs.WordingLength.{wording-short}

-- ---- what is said is short

wording-few : (words : Bool) (a : Answer) (l : List ℕ) → SmallNumbers a → length (cond words (wording a l) []) ≤ 300
wording-few true a l h = wording-short a l h
wording-few false a l h = omega arith

said-few : (words : Bool) (a : Answer) (l : List ℕ) → SmallNumbers a → length (said words a l) ≤ 436
unfolding said
said-few words a l h =
    by-test (speaks a) (answer_line a ++ cond words (wording a l) [] ++ (10 ∷ [])) [] (λ (t : List ℕ). length t ≤ 436)
    (λ e.
    omega (
      arith,
      length-append (answer_line a ++ cond words (wording a l) []) (10 ∷ []),
      length-append (answer_line a) (cond words (wording a l) []),
      said_short a h,
      wording-few words a l h,
    ))
    (λ e. omega arith)

-- ---- it is written

module _ (words : Bool) (a : Answer) (l : List ℕ) (t : Bool) (s : Spoken a t) where
  said-on : t ≡ true → said words a l ≡ answer_line a ++ cond words (wording a l) [] ++ (10 ∷ [])
  unfolding said
  said-on e = cond-true (speaks a) (answer_line a ++ cond words (wording a l) [] ++ (10 ∷ [])) [] (sym s.whether ∙ e)

  said-off : t ≡ false → said words a l ≡ []
  unfolding said
  said-off e = cond-false (speaks a) (answer_line a ++ cond words (wording a l) [] ++ (10 ∷ [])) [] (sym s.whether ∙ e)

  pub said_put : (e f g h : Sheet) → t ≡ true → f ≡ followed e (answer_line a) → g ≡ followed f (cond words (wording a l) [])
      → h ≡ followed g (10 ∷ []) → Said words a l e h
  said_put e f g h on x y z =
      record {
        put = three_put e f g h (answer_line a) (cond words (wording a l) []) (10 ∷ []) x y z ∙ ap (followed e) (sym (said-on on));
        most = said-few words a l s.small;
      }

  pub said_nothing : (e : Sheet) → t ≡ false → Said words a l e e
  said_nothing e off = record { put = sym (followed_none e) ∙ ap (followed e) (sym (said-off off)); most = said-few words a l s.small }

-- ---- the mark

pub mark_line : kept_line Request.RoleRetired [] [] ≡ retired_line
unfolding kept_line commented
mark_line = ap (λ (z : List ℕ). z ++ (10 ∷ [])) (append-nil (printed Request.RoleRetired []))
