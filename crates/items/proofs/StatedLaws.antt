-- What a statement tells of a participant's file: its figures are the file's, and one that is refused is of a participant who isn't admitted.
-- Assumes nothing.
use Prim.Native.Nat.{ℕ, ◌≤◌}
use mathlib.Core.Path.{◌≡◌, refl, sym, ap, ap₂, ◌∙◌}
use mathlib.Core.Bool.{Bool, true, false, cond}
use mathlib.Core.List.{List, [], ◌++◌, append-nil}
use lib.Dec.{ltb, eqb}
use borrow.Author.Tests.{ltb-true, ltb-false, ne_eqb, le-ltb}
use Rattle.std.specs.Prelude.{Some, None, Result, Ok, Err}
use Rattle.laws.specs.Cases.{split, clash}
use Rattle.refusal.specs.declared.Refusal.{Refusal}
use Rattle.refusal.specs.Numbers.{number_of}
use Rattle.calendar.specs.declared.Day.{Day}
use Rattle.file.specs.declared.File.{File}
use Rattle.file.specs.declared.Statement.{Statement}
use Rattle.file.specs.Answer.{Answer, refused, done, called, covered, recorded, annual, days_opened, stated, counted, batched, refused_pair, deletion}
use Rattle.file.specs.Answer.{decide, accepted, statement_says}
use Rattle.file.specs.Fields.{shortfall_of}
use Rattle.file.specs.Statement.{file_statement}
use Rattle.layout.specs.Words.{book_of_words}
use Rattle.book.specs.Call.{statement, stated_says}
use Rattle.book.specs.Reached.{Given}
use Rattle.book.specs.Account.{file_at, if_numbered, if_admitted, answer}
use Rattle.book.proofs.Functions.SoundBook.{numbered, accepted-behind}
use Rattle.book.proofs.Functions.OnWords.{none-there}
use Rattle.items.specs.ByBook.{day_by, charged_by}
use Rattle.words.specs.Text.{text}
use Rattle.printing.specs.Written.{Sheet, followed}
use Rattle.printing.specs.WrittenLaws.{followed_twice}
use Rattle.items.specs.declared.Items.{Items}
use Rattle.items.specs.State.{charged_on, all_days, all_mills}
use Rattle.items.specs.Lines.{sum_line, sums_text}

-- The figures that an answer states.
abbrev figures : Answer → Statement → Statement
figures (stated f c s d a m) other = record { firm = f; cover = c; shortfall = s; charged = d; accrued = a; made = m }
figures (refused n) other = other
figures done other = other
figures (called e asked last) other = other
figures (covered e) other = other
figures (recorded e) other = other
figures (annual a n) other = other
figures (days_opened n) other = other
figures (counted n) other = other
figures (batched n) other = other
figures (refused_pair n i) other = other
figures (deletion a calls) other = other

-- Behind cause 1.
behind-number : (p : ℕ) (x : Answer) → p ≤ 63 → if_numbered p x ≡ x
unfolding if_numbered decide
behind-number p x h = rw (le-ltb 63 p h)

-- Behind cause 2.
behind-status : (f : File) (x : Answer) → f.admitted ≡ true → if_admitted f x ≡ x
unfolding if_admitted decide
behind-status f x h = rw h

-- The words of a book, and a participant.
module _ (l : List ℕ) (p : ℕ) where
  abbrev file : File
  file = file_at (book_of_words l) p

  abbrev today : ℕ
  today = (book_of_words l).today.0

  abbrev behind : Answer
  behind = if_admitted file (statement_says (file_statement file today))

  -- A statement that is given.
  given-of : (s : Statement) → statement_says s ≡ if_numbered p behind → (file.admitted ≡ true) × (s ≡ file_statement file today)
  given-of s e =
      let first : p ≤ 63 = numbered p behind (sym (ap accepted e)) in
      let second : statement_says s ≡ behind = e ∙ behind-number p behind first in
      let admitted = accepted-behind file (statement_says (file_statement file today)) (sym (ap accepted second)) in
      (admitted.0, ap (λ (x : Answer). figures x s) (second ∙ admitted.1))

  -- .. and one that is refused.
  refused-of : (n : ℕ) → refused n ≡ if_numbered p behind → file.admitted ≡ false
  refused-of n e =
      split (ltb 63 p)
      (λ high. ap (λ (f : File). f.admitted) (none-there l p (ltb-true 63 p high)))
      (λ low.
      split file.admitted
      (λ yes.
      let said = statement_says (file_statement file today) in
      let all : refused n ≡ said = e ∙ behind-number p behind (ltb-false 63 p low) ∙ behind-status file said yes in
      clash {t = false} (ap accepted all) refl)
      (λ no. no))

  -- Whether today charged it, by its statement.
  module _ (x : Result Statement Refusal) (given : Given (book_of_words l) (statement p) (stated_says x) (book_of_words l)) where
    pub stated_none : (r : Refusal) → x ≡ Err r → file.admitted ≡ false
    unfolding answer
    stated_none r e = refused-of (number_of r) (ap stated_says (sym e) ∙ given.answered)

    pub stated_some : (s : Statement) → x ≡ Ok s → (file.admitted ≡ true) × (s ≡ file_statement file today)
    unfolding answer
    stated_some s e = given-of s (ap stated_says (sym e) ∙ given.answered)

    pub charged_none : (r : Refusal) → x ≡ Err r → None ≡ charged_on file today
    unfolding charged_on charged_by
    charged_none r e = rw (stated_none r e)

    pub charged_zero : (s : Statement) → x ≡ Ok s → s.shortfall ≡ 0 → None ≡ charged_on file today
    unfolding charged_on charged_by file_statement shortfall_of file_at
    charged_zero s e z =
        let of_file = stated_some s e in
        let zero : shortfall_of file today ≡ 0 = ap (λ (k : Statement). k.shortfall) (sym of_file.1) ∙ z in
        rw (of_file.0, zero)

    pub charged_some : (s : Statement) (day : Day) → x ≡ Ok s → (s.shortfall ≡ 0 → ⊥) → day ≡ (book_of_words l).today
        → Some (record { day = day; firm = s.firm; cover = s.cover }) ≡ charged_on file today
    unfolding charged_on charged_by day_by file_statement shortfall_of file_at
    charged_some s day e z h =
        let of_file = stated_some s e in
        let same = ap (λ (k : Statement). k.shortfall) of_file.1 in
        let above : eqb (shortfall_of file today) 0 ≡ false = ne_eqb (shortfall_of file today) 0 (λ q. z (same ∙ q)) in
        rw (of_file.0, above) (ap₂ (λ (d : Day) (k : Statement). Some (record { day = d; firm = k.firm; cover = k.cover })) h of_file.1)

    -- The lines of the sums.
    module _ (items : Items) (a u v : Sheet) where
      pub sums_none : (r : Refusal) → x ≡ Err r → u ≡ followed a (sum_line (text "sum                  ") (all_days items) (all_mills items))
          → u ≡ followed a (sums_text items file)
      unfolding sums_text
      sums_none r e h =
          h ∙ ap (followed a)
          (sym (ap (λ (k : Bool). sum_line (text "sum                  ") (all_days items) (all_mills items)
          ++ cond k (sum_line (text "statement            ") file.charged file.accrued) []) (stated_none r e)
          ∙ append-nil (sum_line (text "sum                  ") (all_days items) (all_mills items))))

      pub sums_some : (s : Statement) → x ≡ Ok s → u ≡ followed a (sum_line (text "sum                  ") (all_days items) (all_mills items))
          → v ≡ followed u (sum_line (text "statement            ") s.charged s.accrued) → v ≡ followed a (sums_text items file)
      unfolding sums_text file_statement
      sums_some s e h k =
          let first = sum_line (text "sum                  ") (all_days items) (all_mills items) in
          let of_file = stated_some s e in
          k
          ∙ ap₂ (λ (sheet : Sheet) (g : Statement). followed sheet (sum_line (text "statement            ") g.charged g.accrued)) h of_file.1
          ∙ followed_twice a first (sum_line (text "statement            ") file.charged file.accrued)
          ∙ ap (λ (b : Bool). followed a (first ++ cond b (sum_line (text "statement            ") file.charged file.accrued) [])) (sym of_file.0)
