-- The lines of the table, as they are written one after the other.
-- Assumes nothing.
use Prim.Native.Nat.{ℕ, zero, suc, ◌+◌, ◌≤◌}
use mathlib.Core.Path.{◌≡◌, refl, sym, ap, ◌∙◌}
use mathlib.Core.Bool.{Bool, true, false, cond}
use mathlib.Core.List.{List, [], ◌∷◌, ◌++◌}
use native.Mathlib.Numerals.{add-one}
use native.Mathlib.Omega.{arith}
use mir.Val.{bool_byte}
use lib.ListN.{get_or-eq_default}
use Rattle.std.specs.List.{sum_by, range_with_len}
use Rattle.std.proofs.lemmas.List.Sums.{sum_by-cons}
use Rattle.calendar.specs.declared.Day.{Day}
use Rattle.words.specs.Text.{text}
use Rattle.file.specs.Answer.{statement_says}
use Rattle.file.specs.declared.Statement.{Statement}
use Rattle.layout.specs.Book.{Book}
use Rattle.book.specs.Rule.{new_rule}
use Rattle.book.specs.Account.{file_at, answer}
use Rattle.std.specs.Prelude.{Result, Ok, Err}
use Rattle.refusal.specs.declared.Refusal.{Refusal}
use Rattle.book.specs.Call.{statement, stated_says}
use Rattle.book.specs.Reached.{Given}
use Rattle.journal.specs.Names.{role_names}
use Rattle.printing.specs.Decimals.{decimal, spaced, joined}
use Rattle.printing.specs.Written.{Sheet, followed}
use Rattle.printing.specs.WrittenLaws.{followed_none, followed_twice, joined_one, joined_more}
use Rattle.printing.specs.Dates.{date_text}
use Rattle.report.specs.Table.{role_text, line_of, row, rows, admitted_below, admitted_count, title_line}

-- How many participants are admitted.

-- Whether a participant is admitted, as a number.
abbrev pub admitted_as : Book → ℕ → ℕ
admitted_as b i = bool_byte (file_at b i).admitted

byte_cond : (t : Bool) → cond t 1 0 ≡ bool_byte t
byte_cond true = refl
byte_cond false = refl

byte_small : (t : Bool) → bool_byte t ≤ 1
byte_small true = omega arith
byte_small false = omega arith

below_next : (b : Book) (i : ℕ) → admitted_below (i + 1) b ≡ admitted_below i b + admitted_as b i
unfolding admitted_below
below_next b i = rw (add-one i, byte_cond (file_at b i).admitted)

-- The admitted of n participants from participant a on are added.
below_ahead : (b : Book) (a n : ℕ) → admitted_below a b + sum_by (admitted_as b) (range_with_len a n) ≡ admitted_below (a + n) b
below_ahead b a zero = let e : a + 0 ≡ a = omega arith in rw e (omega arith)
below_ahead b a (suc n) =
    let e : a + suc n ≡ a + 1 + n = omega arith in
    rw e (omega (arith, sum_by-cons (admitted_as b) a (range_with_len (a + 1) n), below_next b a, below_ahead b (a + 1) n))

none-below : (b : Book) → admitted_below 0 b ≡ 0
unfolding admitted_below
none-below b = refl

-- So the sum over all participants counts the admitted.
pub all_admitted : (b : Book) → sum_by (admitted_as b) (range_with_len 0 64) ≡ admitted_count b
unfolding admitted_count
all_admitted b = omega (arith, none-below b, below_ahead b 0 64)

small_ahead : (b : Book) (a n : ℕ) → sum_by (admitted_as b) (range_with_len a n) ≤ n
small_ahead b a zero = omega arith
small_ahead b a (suc n) =
    omega (arith, sum_by-cons (admitted_as b) a (range_with_len (a + 1) n), byte_small (file_at b a).admitted, small_ahead b (a + 1) n)

-- Of the first n participants at most n are admitted.
pub below-small : (b : Book) (n : ℕ) → admitted_below n b ≤ n
below-small b n =
    let e : 0 + n ≡ n = omega arith in
    let all : admitted_below 0 b + sum_by (admitted_as b) (range_with_len 0 n) ≡ admitted_below n b = rw e at (below_ahead b 0 n) in
    omega (arith, none-below b, all, small_ahead b 0 n)

-- They are at most 64.
pub admitted-small : (b : Book) → sum_by (admitted_as b) (range_with_len 0 64) ≤ 64
admitted-small b = small_ahead b 0 64

-- The name of a role.

pub no_role : (role : ℕ) → 6 ≤ role → role_text role ≡ []
unfolding role_text role_names
no_role role k = get_or-eq_default role_names [] k

-- The line of a participant: seven columns.

module _ (s t u v w x z : Sheet) where
  pub seven_columns : (n o a b c k m : List ℕ) → t ≡ followed s n → u ≡ followed t (spaced (o ∷ [])) → v ≡ followed u (spaced (a ∷ b ∷ c ∷ []))
      → w ≡ followed v (spaced (k ∷ [])) → x ≡ followed w (spaced (m ∷ [])) → z ≡ followed x (10 ∷ [])
      → z ≡ followed s (joined (n ∷ o ∷ a ∷ b ∷ c ∷ k ∷ m ∷ []) ++ (10 ∷ []))
  seven_columns n o a b c k m e f g h i j =
      let two : u ≡ followed s (joined (n ∷ o ∷ [])) = joined_one s t u n (o ∷ []) e f in
      let five : v ≡ followed s (joined (n ∷ o ∷ a ∷ b ∷ c ∷ [])) = joined_more s u v n (o ∷ []) (a ∷ b ∷ c ∷ []) two g in
      let six : w ≡ followed s (joined (n ∷ o ∷ a ∷ b ∷ c ∷ k ∷ [])) = joined_more s v w n (o ∷ a ∷ b ∷ c ∷ []) (k ∷ []) five h in
      let seven : x ≡ followed s (joined (n ∷ o ∷ a ∷ b ∷ c ∷ k ∷ m ∷ [])) = joined_more s w x n (o ∷ a ∷ b ∷ c ∷ k ∷ []) (m ∷ []) six i in
      rw (j, seven, followed_twice)

-- A participant's line by its statement.

module _ (b : Book) (n : ℕ) (st : Result Statement Refusal) (s u : Sheet) where
  pub row_stated : (role : ℕ) (t : Statement) → Given b (statement n) (stated_says st) b → st ≡ Ok t → role ≡ (file_at b n).role
      → u ≡ followed s (line_of n role (statement_says t)) → u ≡ followed s (row b n)
  unfolding row
  row_stated role t x k f y =
      let a : statement_says t ≡ answer new_rule b (statement n) = ap stated_says (sym k) ∙ x.answered in
      rw (← a, ← f) y

  pub row_refused : (m : Refusal) → Given b (statement n) (stated_says st) b → st ≡ Err m → s ≡ followed s (row b n)
  unfolding row line_of
  row_refused m x k = rw (← x.answered, k) (sym (followed_none s))

-- The lines, one by one.

module _ (b : Book) (s u v : Sheet) where
  pub rows_none : s ≡ followed s (rows 0 b)
  unfolding rows
  rows_none = sym (followed_none s)

  pub rows_more : (i : ℕ) → u ≡ followed s (rows i b) → v ≡ followed u (row b i) → v ≡ followed s (rows (i + 1) b)
  unfolding rows
  rows_more i x y = rw (y, x, followed_twice, add-one i)

-- The title.

pub title_put : (b : Book) (d : Day) (n : ℕ) (s t u v w : Sheet) → d ≡ b.today → n ≡ admitted_count b
    → t ≡ followed s (joined (text "report" ∷ decimal d.0 ∷ [])) → u ≡ followed t (spaced (date_text d.0 ∷ []))
    → v ≡ followed u (spaced (decimal n ∷ [])) → w ≡ followed v (10 ∷ []) → w ≡ followed s (title_line b)
unfolding title_line
title_put b d n s t u v w e f g h i j =
    let three : u ≡ followed s (joined (text "report" ∷ decimal d.0 ∷ date_text d.0 ∷ [])) =
    joined_more s t u (text "report") (decimal d.0 ∷ []) (date_text d.0 ∷ []) g h in
    let four : v ≡ followed s (joined (text "report" ∷ decimal d.0 ∷ date_text d.0 ∷ decimal n ∷ [])) =
    joined_more s u v (text "report") (decimal d.0 ∷ date_text d.0 ∷ []) (decimal n ∷ []) three i in
    rw (j, four, followed_twice, e, f)
