-- Bytes as hexadecimal digits: as they are written, and read again.
-- Assumes nothing.
use Prim.Native.Nat.{ℕ, ◌+◌, ◌-◌, ◌*◌, ◌/◌, ◌%◌, ◌≤◌, ◌<◌}
use mathlib.Core.Path.{◌≡◌, refl}
use mathlib.Core.Bool.{true}
use mathlib.Core.List.{List, [], ◌∷◌, ◌++◌}
use native.Mathlib.Numerals.{add-one}
use native.Mathlib.Omega.{arith}
use borrow.Author.Tests.{le-leb, lt-leb, le-ltb, lt-ltb, ltb-true, ltb-false, ne_eqb, eq-eqb}
use lib.Dec.{ltb}
use lib.IntN.{ℤ, pos, negsuc, nat_abs}
use lib.ListN.{length, take, drop, get_or, drop_of_length-le, length-append, length-take}
use lib.Seq.{drop-cons, length-take-le}
use Rattle.laws.specs.Cases.{split}
use Rattle.laws.specs.Every.{every-nil, every-cons}
use Rattle.laws.specs.Lists.{All}
use Rattle.words.specs.Text.{text}
use Rattle.words.specs.Bytes.{blank, control, digit, each}
use Rattle.words.specs.Hex.{lower_hex, hex_digit, hex_value, hexadecimal, bytes_of_hex}
use Rattle.words.proofs.HexLaws.{value_small}
use Rattle.words.proofs.WordLaws.{solid}
use Rattle.journal.specs.declared.Request.{Request}
use Rattle.printing.specs.Decimals.{spaced, joined}
use Rattle.printing.specs.Hex.{last_hex, hex_byte, hex_bytes, hex_words}
use Rattle.printing.specs.Lines.{IsByte, call_words, printed}
use Rattle.printing.proofs.PlainWords.{word_byte, IsWord}

-- The last digit of a number.

module _ (d : ℕ) where
  small-digit : d < 10 → hex_digit (48 + d) ≡ true
  unfolding hex_digit digit
  small-digit h = rw (le-leb 48 (48 + d) (omega arith), le-leb (48 + d) 57 (omega arith))

  small-value : d < 10 → hex_value (48 + d) ≡ d
  unfolding hex_value digit
  small-value h =
      let e : 48 + d - 48 ≡ d = omega arith in
      rw (le-leb 48 (48 + d) (omega arith), le-leb (48 + d) 57 (omega arith), e)

  letter-digit : 10 ≤ d → d < 16 → hex_digit (87 + d) ≡ true
  unfolding hex_digit digit lower_hex
  letter-digit h g =
      rw (
        le-leb 48 (87 + d) (omega arith),
        lt-leb (87 + d) 57 (omega arith),
        le-leb 97 (87 + d) (omega arith),
        le-leb (87 + d) 102 (omega arith),
      )

  letter-value : 10 ≤ d → d < 16 → hex_value (87 + d) ≡ d
  unfolding hex_value digit lower_hex
  letter-value h g =
      let e : 87 + d - 87 ≡ d = omega arith in
      rw (
        le-leb 48 (87 + d) (omega arith),
        lt-leb (87 + d) 57 (omega arith),
        le-leb 97 (87 + d) (omega arith),
        le-leb (87 + d) 102 (omega arith),
        e,
      )

last-digit : (n : ℕ) → hex_digit (last_hex n) ≡ true
unfolding last_hex
last-digit n =
    split (ltb (n % 16) 10) (λ t. rw t (small-digit (n % 16) (ltb-true (n % 16) 10 t)))
    (λ t. rw t (letter-digit (n % 16) (ltb-false (n % 16) 10 t) (omega arith)))

last-value : (n : ℕ) → hex_value (last_hex n) ≡ n % 16
unfolding last_hex
last-value n =
    split (ltb (n % 16) 10) (λ t. rw t (small-value (n % 16) (ltb-true (n % 16) 10 t)))
    (λ t. rw t (letter-value (n % 16) (ltb-false (n % 16) 10 t) (omega arith)))

pub last_small : (n d : ℕ) → d ≡ n % 16 → d < 10 → 48 + d ≡ last_hex n
unfolding last_hex
last_small n d e h = rw (← e, lt-ltb d 10 h)

pub last_letter : (n d : ℕ) → d ≡ n % 16 → 10 ≤ d → 87 + d ≡ last_hex n
unfolding last_hex
last_letter n d e h = rw (← e, le-ltb d 10 h)

-- The digits of bytes.

pub hex-long : (zs : List ℤ) → length (hex_bytes zs) ≡ 2 * length zs
unfolding hex_bytes hex_byte
hex-long [] = refl
hex-long (z ∷ zs) = omega (arith, hex-long zs)

hex-digits : (zs : List ℤ) → each hex_digit (hex_bytes zs) ≡ true
unfolding hex_bytes hex_byte
hex-digits [] = every-nil hex_digit
hex-digits (z ∷ zs) =
    every-cons hex_digit (last_hex (nat_abs z / 16)) (last_hex (nat_abs z) ∷ hex_bytes zs) (last-digit (nat_abs z / 16))
    (every-cons hex_digit (last_hex (nat_abs z)) (hex_bytes zs) (last-digit (nat_abs z)) (hex-digits zs))

pub hex-hexadecimal : (zs : List ℤ) → hexadecimal (hex_bytes zs) ≡ true
unfolding hexadecimal
hex-hexadecimal zs = rw (hex-digits zs, eq-eqb (length (hex_bytes zs) % 2) 0 (omega (arith, hex-long zs)))

-- Read again, they are the bytes.

byte-back : (z : ℤ) → IsByte z → pos (16 * hex_value (last_hex (nat_abs z / 16)) + hex_value (last_hex (nat_abs z))) ≡ z
byte-back (pos n) h =
    let e : 16 * (n / 16 % 16) + n % 16 ≡ n = omega arith in
    rw (last-value (n / 16), last-value n, e)
byte-back (negsuc n) h = absurd h

pub bytes_back : (zs : List ℤ) → All IsByte zs → bytes_of_hex (hex_bytes zs) ≡ zs
unfolding bytes_of_hex hex_bytes hex_byte
bytes_back [] a = refl
bytes_back (z ∷ zs) a = rw (byte-back z a.0, bytes_back zs a.1)

-- what is read is a byte
pub bytes-are : (w : List ℕ) → All IsByte (bytes_of_hex w)
unfolding bytes_of_hex
bytes-are [] = tt
bytes-are (a ∷ []) = tt
bytes-are (a ∷ b ∷ w) = (omega (arith, value_small a, value_small b), bytes-are w)

-- The word of a file.

last-range : (n : ℕ) → (48 ≤ last_hex n) × (last_hex n ≤ 102)
unfolding last_hex
last-range n =
    split (ltb (n % 16) 10) (λ t. rw t (omega arith, omega (arith, ltb-true (n % 16) 10 t))) (λ t. rw t (omega arith, omega arith))

word_byte_lem : (b : ℕ) → 48 ≤ b → b ≤ 102 → word_byte b ≡ true
unfolding word_byte solid control blank
word_byte_lem b lo hi =
    rw (
      ne_eqb b 32 (λ q. omega arith),
      ne_eqb b 9 (λ q. omega arith),
      ne_eqb b 13 (λ q. omega arith),
      ne_eqb b 35 (λ q. omega arith),
      ne_eqb b 127 (λ q. omega arith),
      le-ltb b 32 (omega arith),
    )

last_word : (n : ℕ) → word_byte (last_hex n) ≡ true
last_word n = let r = last-range n in word_byte_lem (last_hex n) r.0 r.1

hex-word : (zs : List ℤ) → each word_byte (hex_bytes zs) ≡ true
unfolding hex_bytes hex_byte
hex-word [] = every-nil word_byte
hex-word (z ∷ zs) =
    every-cons word_byte (last_hex (nat_abs z / 16)) (last_hex (nat_abs z) ∷ hex_bytes zs) (last_word (nat_abs z / 16))
    (every-cons word_byte (last_hex (nat_abs z)) (hex_bytes zs) (last_word (nat_abs z)) (hex-word zs))

pub file-words : (zs : List ℤ) → All IsWord (hex_words zs)
unfolding hex_words
file-words [] = tt
file-words (z ∷ zs) = (record { some_byte = omega (arith, hex-long (z ∷ zs)); bytes = hex-word (z ∷ zs) }, tt)

-- How long the line of a batch is: five bytes, and a blank and two digits for each byte where there is one.

file-long : (zs : List ℤ) → 0 < length zs → length (spaced (hex_words zs)) ≡ 1 + 2 * length zs
unfolding hex_words spaced
file-long [] h = absurd (omega arith)
file-long (z ∷ zs) h = omega (arith, length-append (32 ∷ hex_bytes (z ∷ zs)) [], hex-long (z ∷ zs))

file-empty : (zs : List ℤ) → length zs ≡ 0 → length (spaced (hex_words zs)) ≡ 0
unfolding hex_words spaced
file-empty [] h = refl
file-empty (z ∷ zs) h = absurd (omega arith)

batch-line : (n : ℕ) (zs : List ℤ) → length (printed (Request.Batch n) zs) ≡ 5 + length (spaced (hex_words (take n zs)))
unfolding printed call_words joined
batch-line n zs = length-append (text "batch") (spaced (hex_words (take n zs)))

pub batch-empty : (zs : List ℤ) → length (printed (Request.Batch 0) zs) ≡ 5
batch-empty zs = omega (arith, batch-line 0 zs, file-empty (take 0 zs) refl)

pub batch-long : (n : ℕ) (zs : List ℤ) → 0 < n → n ≤ length zs → length (printed (Request.Batch n) zs) ≡ 6 + 2 * n
batch-long n zs h g =
    let k : length (take n zs) ≡ n = length-take-le n zs g in
    omega (arith, batch-line n zs, file-long (take n zs) (omega (arith, k)), k)

file-short : (zs : List ℤ) → length (spaced (hex_words zs)) ≤ 1 + 2 * length zs
file-short [] = omega (arith, file-empty [] refl)
file-short (z ∷ zs) = omega (arith, file-long (z ∷ zs) (omega arith))

pub batch-short : (n : ℕ) (zs : List ℤ) → length (printed (Request.Batch n) zs) ≤ 6 + 2 * length zs
batch-short n zs = omega (arith, batch-line n zs, file-short (take n zs), length-take n zs)

-- One by one.

pub hex_first : (zs : List ℤ) (i : ℕ) (z : ℤ) → i < length zs → z ≡ get_or zs i (pos 0)
    → hex_bytes (drop i zs) ≡ hex_byte z ++ hex_bytes (drop (i + 1) zs)
unfolding hex_bytes
hex_first zs i z h e = let k : drop i zs ≡ z ∷ drop (i + 1) zs = rw (e, add-one i) (drop-cons zs i (pos 0) h) in rw k

pub hex_done : (zs : List ℤ) (i : ℕ) → length zs ≤ i → hex_bytes (drop i zs) ≡ []
unfolding hex_bytes
hex_done zs i h = rw (drop_of_length-le zs h)

-- the word of a file that has bytes, and none of an empty one

pub some_file : (zs : List ℤ) → 0 < length zs → hex_words zs ≡ hex_bytes zs ∷ []
unfolding hex_words
some_file [] h = absurd (omega arith)
some_file (z ∷ zs) h = refl

pub no_file : (zs : List ℤ) → length zs ≡ 0 → hex_words zs ≡ []
unfolding hex_words
no_file [] h = refl
no_file (z ∷ zs) h = absurd (omega arith)
