-- Numbers in decimal, read again.
-- Assumes nothing.
use Prim.Native.Nat.{ℕ, zero, suc, ◌+◌, ◌-◌, ◌*◌, ◌/◌, ◌%◌, ◌≤◌, ◌<◌, min}
use mathlib.Core.Path.{◌≡◌, refl, sym, ◌∙◌}
use mathlib.Core.Bool.{Bool, true, false}
use mathlib.Core.List.{List, [], ◌∷◌, ◌++◌}
use native.Mathlib.Nat.{not-suc-le-zero}
use native.Mathlib.Omega.{arith}
use borrow.Author.Tests.{le-leb, leb-true, le-ltb, ltb-true, ltb-false, ne_eqb}
use lib.Dec.{leb, ltb, lit<}
use lib.ListN.{length, length-append}
use lib.IntN.{ℤ, pos, negsuc}
use lib.Signed.{mag}
use Rattle.laws.specs.Cases.{split, and_left, and_right}
use Rattle.laws.specs.Every.{every-cons}
use Rattle.words.specs.Bytes.{blank, control, digit, each, same}
use Rattle.words.specs.Words.{place_in}
use Rattle.words.specs.Numerals.{natural, value_from, value, natural_of, unsigned_of, negative_of, signed_of}
use Rattle.words.specs.Euros.{amount_of, held, negated, figure_of}
use Rattle.words.specs.Dates.{day_in, month_in}
use Rattle.journal.specs.Names.{role_names, role_of_word, read_number}
use Rattle.journal.specs.declared.lists.Listed.{Listed}
use Rattle.std.specs.Prelude.{Some}
use Rattle.words.proofs.NumberLaws.{natural_each}
use Rattle.words.proofs.WordLaws.{solid}
use Rattle.printing.specs.Decimals.{numeral, decimal, integer}
use Rattle.printing.specs.Lines.{Holds}
use Rattle.printing.specs.Written.{Sheet, followed}
use Rattle.printing.specs.WrittenLaws.{followed_twice, decimal_step, decimal-small}
use Rattle.printing.proofs.PlainWords.{word_byte, IsWord, each-weaker, each_append}

-- Digits.

digit-is : (d : ℕ) → d < 10 → digit (48 + d) ≡ true
unfolding digit
digit-is d h = rw (le-leb 48 (48 + d) (omega arith), le-leb (48 + d) 57 (omega arith))

digit-range : (b : ℕ) → digit b ≡ true → (48 ≤ b) × (b ≤ 57)
unfolding digit
digit-range b e = (leb-true 48 b (and_left (leb 48 b) (leb b 57) e), leb-true b 57 (and_right (leb 48 b) (leb b 57) e))

digit-word : (b : ℕ) → digit b ≡ true → word_byte b ≡ true
unfolding word_byte solid control blank
digit-word b e =
    let r = digit-range b e in
    let lo = r.0 in
    let hi = r.1 in
    rw (
      ne_eqb b 32 (λ q. omega arith),
      ne_eqb b 9 (λ q. omega arith),
      ne_eqb b 13 (λ q. omega arith),
      ne_eqb b 35 (λ q. omega arith),
      ne_eqb b 127 (λ q. omega arith),
      le-ltb b 32 (omega arith),
    )

-- A number's digits.

single : (d : ℕ) → d < 10 → each digit ((48 + d) ∷ []) ≡ true
unfolding each
single d h = rw (digit-is d h)

last-digit : (n : ℕ) → each digit ((48 + n % 10) ∷ []) ≡ true
last-digit n = single (n % 10) (omega arith)

numeral-digits : (more n : ℕ) → each digit (numeral more n) ≡ true
unfolding numeral
numeral-digits zero n = last-digit n
numeral-digits (suc more) n =
    split (ltb n 10) (λ t. rw t (single n (ltb-true n 10 t)))
    (λ t. rw t (each_append digit (numeral more (n / 10)) ((48 + n % 10) ∷ []) (numeral-digits more (n / 10)) (last-digit n)))

numeral-long : (more n : ℕ) → 0 < length (numeral more n)
unfolding numeral
numeral-long zero n = lit< tt
numeral-long (suc more) n =
    split (ltb n 10) (λ t. rw t (lit< tt)) (λ t. rw (t, length-append (numeral more (n / 10)) ((48 + n % 10) ∷ [])) (omega arith))

value-snoc : (a : ℕ) (w : List ℕ) (b : ℕ) → value_from a (w ++ (b ∷ [])) ≡ 10 * value_from a w + (b - 48)
unfolding value_from
value-snoc a [] b = refl
value-snoc a (x ∷ w) b = value-snoc (10 * a + (x - 48)) w b

value-single : (d : ℕ) → value ((48 + d) ∷ []) ≡ d
unfolding value_from
value-single d = omega arith

numeral-value : (more n : ℕ) → n ≤ more → value (numeral more n) ≡ n
unfolding numeral
numeral-value zero n h = value-single (n % 10) ∙ omega arith
numeral-value (suc more) n h =
    split (ltb n 10) (λ t. rw t (value-single n))
    (λ t.
    let b : 10 ≤ n = ltb-false n 10 t in
    let k : n / 10 ≤ more = omega arith in
    rw (t, value-snoc 0 (numeral more (n / 10)) (48 + n % 10), numeral-value more (n / 10) k) (omega arith))

pub decimal-digits : (n : ℕ) → each digit (decimal n) ≡ true
unfolding decimal
decimal-digits n = numeral-digits n n

pub decimal-long : (n : ℕ) → 0 < length (decimal n)
unfolding decimal
decimal-long n = numeral-long n n

pub decimal-value : (n : ℕ) → value (decimal n) ≡ n
unfolding decimal
decimal-value n = numeral-value n n (omega arith)

pub decimal-natural : (n : ℕ) → natural (decimal n) ≡ true
decimal-natural n = sym (natural_each (decimal n) (λ e. omega (arith, decimal-long n))) ∙ decimal-digits n

pub decimal-word : (n : ℕ) → IsWord (decimal n)
decimal-word n = record { some_byte = decimal-long n; bytes = each-weaker digit word_byte digit-word (decimal n) (decimal-digits n) }

minus-word : word_byte 45 ≡ true
unfolding word_byte solid control blank
minus-word = refl

pub integer-word : (z : ℤ) → IsWord (integer z)
unfolding integer
integer-word (pos n) = decimal-word n
integer-word (negsuc n) =
    record {
      some_byte = omega (arith, decimal-long (suc n));
      bytes = every-cons word_byte 45 (decimal (suc n)) minus-word (decimal-word (suc n)).bytes;
    }

-- Read as a natural number, a day, a month, a role.

pub natural-back : (n : ℕ) → n ≤ 18446744073709551615 → natural_of (decimal n) ≡ Some n
unfolding natural_of
natural-back n h =
    let e : min n 18446744073709551615 ≡ n = omega arith in
    rw (decimal-natural n, decimal-value n, e)

pub amount-back : (n : ℕ) → n ≤ 18446744073709551615 → amount_of (decimal n) ≡ Some n
unfolding amount_of
amount-back n h = rw (decimal-natural n) (natural-back n h)

pub day-back : (n : ℕ) → n ≤ 18446744073709551615 → day_in (decimal n) ≡ Some n
unfolding day_in
day-back n h = rw (decimal-natural n) (natural-back n h)

pub month-back : (n : ℕ) → n ≤ 18446744073709551615 → month_in (decimal n) ≡ Some n
unfolding month_in
month-back n h = rw (decimal-natural n) (natural-back n h)

-- a name that begins with no digit is no number
not-name : (w : List ℕ) (c : ℕ) (m : List ℕ) → 0 < length w → each digit w ≡ true → 57 < c → same w (c ∷ m) ≡ false
unfolding same each
not-name [] c m h e g = absurd (not-suc-le-zero h)
not-name (b ∷ w) c m h e g =
    let r = digit-range b (and_left (digit b) (each digit w) e) in
    let hi = r.1 in
    rw (ne_eqb b c (λ q. omega arith))

no-role : (w : List ℕ) → 0 < length w → each digit w ≡ true → place_in w role_names ≡ 6
unfolding place_in role_names
no-role w h e =
    rw (
      not-name w 115 _ h e (lit< tt),
      not-name w 115 _ h e (lit< tt),
      not-name w 116 _ h e (lit< tt),
      not-name w 112 _ h e (lit< tt),
      not-name w 114 _ h e (lit< tt),
      not-name w 100 _ h e (lit< tt),
    )

pub role-back : (n : ℕ) → n ≤ 18446744073709551615 → role_of_word (decimal n) ≡ Some n
unfolding role_of_word
role-back n h = rw (no-role (decimal n) (decimal-long n) (decimal-digits n)) (natural-back n h)

-- Read as a number of a list.

pub unsigned_back : (n : ℕ) → n < 9223372036854775808 → unsigned_of (decimal n) ≡ Some (pos n)
unfolding unsigned_of
unsigned_back n h =
    let e : min n 9223372036854775807 ≡ n = omega arith in
    rw (decimal-natural n, decimal-value n, e)

negative_back : (n : ℕ) → n < 9223372036854775808 → negative_of (decimal (suc n)) ≡ Some (negsuc n)
unfolding negative_of
negative_back n h =
    let e : min (suc n) 9223372036854775808 ≡ suc n = omega arith in
    rw (decimal-natural (suc n), decimal-value (suc n), e)

-- digits are read as a number without a minus
signed-digits : (w : List ℕ) → 0 < length w → each digit w ≡ true → signed_of w ≡ unsigned_of w
unfolding signed_of each
signed-digits [] h e = absurd (not-suc-le-zero h)
signed-digits (b ∷ w) h e =
    let r = digit-range b (and_left (digit b) (each digit w) e) in
    let lo = r.0 in
    rw (ne_eqb b 45 (λ q. omega arith))

signed-negative : (w : List ℕ) → signed_of (45 ∷ w) ≡ negative_of w
unfolding signed_of
signed-negative w = refl

pub signed_back : (z : ℤ) → mag z < 9223372036854775808 → signed_of (integer z) ≡ Some z
unfolding integer
signed_back (pos n) h = signed-digits (decimal n) (decimal-long n) (decimal-digits n) ∙ unsigned_back n h
signed_back (negsuc n) h = signed-negative (decimal (suc n)) ∙ negative_back n h

-- a figure in cents
figure-digits : (w : List ℕ) → 0 < length w → each digit w ≡ true → figure_of w ≡ held (amount_of w)
unfolding figure_of each
figure-digits [] h e = absurd (not-suc-le-zero h)
figure-digits (b ∷ w) h e =
    let r = digit-range b (and_left (digit b) (each digit w) e) in
    let lo = r.0 in
    rw (ne_eqb b 45 (λ q. omega arith))

figure-negative : (w : List ℕ) → figure_of (45 ∷ w) ≡ negated (amount_of w)
unfolding figure_of
figure-negative w = refl

pub figure_back : (z : ℤ) → mag z < 9223372036854775808 → figure_of (integer z) ≡ Some z
unfolding integer
figure_back (pos n) h =
    let e : min n 9223372036854775807 ≡ n = omega arith in
    figure-digits (decimal n) (decimal-long n) (decimal-digits n) ∙ rw (amount-back n (omega arith), e)
figure_back (negsuc n) h =
    let e : min (suc n) 9223372036854775808 ≡ suc n = omega arith in
    figure-negative (decimal (suc n)) ∙ rw (amount-back (suc n) (omega arith), e)

-- whether a number of a list is a mark
abbrev pub is_mark : Listed → Bool
is_mark Listed.Mark = true
is_mark Listed.Number = false
is_mark Listed.Figure = false

pub number-back : (due : Listed) (z : ℤ) → Holds (is_mark due) z → read_number due (integer z) ≡ Some z
unfolding read_number integer
number-back Listed.Number z h = signed_back z h
number-back Listed.Figure z h = figure_back z h
number-back Listed.Mark (pos n) h = unsigned_back n h
number-back Listed.Mark (negsuc n) h = absurd h

-- The digits of a tenth of a number written, and its last behind them; and a number of one digit.

pub digits_more : (o u v w : Sheet) (n d : ℕ) → 10 ≤ n → u ≡ followed o (decimal (n / 10)) → v ≡ u → d ≡ 48 + n % 10
    → w ≡ followed v (d ∷ []) → w ≡ followed o (decimal n)
digits_more o u v w n d h e f g k = rw (k, f, e, g, followed_twice, decimal_step n h)

pub digits_one : (o v w : Sheet) (n d : ℕ) → n < 10 → v ≡ o → d ≡ 48 + n % 10 → w ≡ followed v (d ∷ []) → w ≡ followed o (decimal n)
digits_one o v w n d h f g k = rw (k, f, g, decimal-small n h)
