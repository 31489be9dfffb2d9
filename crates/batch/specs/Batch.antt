-- A batch: the file of one month for all participants. Paper 02, Ask 1. What both accounts of the book share of it is here: what its bytes say,
-- and whether they are a batch at all.
-- Assumes nothing.
use Rattle.std.specs.Prelude.{ℕ, zero, suc, ◌+◌, ◌*◌, ◌-◌, min, Bool, false, not, cond, ◌&&◌, ◌||◌, List, leb, ltb, eqb, length, get_or, Option, Some, None, Result, Ok, Err, ℤ}
use Rattle.laws.specs.Least.{least}
use Rattle.laws.specs.Lists.{table}
use Rattle.refusal.specs.declared.Refusal.{Refusal}
use Rattle.refusal.specs.declared.Refusal.TheVariants.{BatchTooShort, PartsMisplaced, WrongPart}
use Rattle.batch.specs.declared.Misfit.{Misfit}
use Rattle.batch.specs.Bytes.{number_at, signed_of}

-- "month (2 bytes), count n (2 bytes, 1 to 64)"
unfoldable pub month_in : List ℕ → ℕ
month_in file = number_at file 0 2

unfoldable pub count_in : List ℕ → ℕ
count_in file = number_at file 2 2

-- "then n pairs of offset and length (4 bytes each)": those of pair i.
unfoldable pub offset_at : List ℕ → ℕ → ℕ
offset_at file i = number_at file (4 + 8 * i) 4

unfoldable pub length_at : List ℕ → ℕ → ℕ
length_at file i = number_at file (8 + 8 * i) 4

-- Where part i ends.
unfoldable pub end_at : List ℕ → ℕ → ℕ
end_at file i = offset_at file i + length_at file i

-- "The first part begins at 4 + 8 × n, each next one where the last ended": where part i must begin.
unfoldable pub begins_at : List ℕ → ℕ → ℕ
begins_at file zero = 4 + 8 * count_in file
begins_at file (suc i) = end_at file i

-- "Each part holds a participant (1 byte), a row count r (1 byte) and r signed 8-byte cents".
unfoldable pub participant_at : List ℕ → ℕ → ℕ
participant_at file i = get_or file (offset_at file i) 0

unfoldable pub rows_at : List ℕ → ℕ → ℕ
rows_at file i = get_or file (offset_at file i + 1) 0

-- .. so many figures, behind the first two bytes of the part at an offset.
unfoldable pub figures_behind : List ℕ → (offset rows : ℕ) → List ℤ
figures_behind file offset rows = table rows (λ k. signed_of (number_at file (offset + 2 + 8 * k) 8))

unfoldable pub figures_at : List ℕ → ℕ → List ℤ
figures_at file i = figures_behind file (offset_at file i) (rows_at file i)

-- Cause 20: "file too short for its pairs or n outside 1 to 64".
unfoldable pub too_short : List ℕ → Bool
too_short file =
    ltb (length file) 4
    || (not (leb 1 (count_in file) && leb (count_in file) 64) || ltb (length file) (4 + 8 * count_in file))

-- Cause 21: "the parts don't follow on as said": a part does not begin where it must, or "the last ends with the file" does not hold.
unfoldable pub misplaced : List ℕ → ℕ → Bool
misplaced file i = not (eqb (offset_at file i) (begins_at file i))

unfoldable pub first_misplaced : List ℕ → ℕ
first_misplaced file = least (misplaced file) (count_in file)

unfoldable pub not_following : List ℕ → Bool
not_following file =
    ltb (first_misplaced file) (count_in file) || not (eqb (end_at file (count_in file - 1)) (length file))

-- Cause 22: "a wrong part length or a participant twice". Whether a participant is that of a pair before pair i.
unfoldable pub is_before : List ℕ → ℕ → ℕ → Bool
is_before file zero p = false
is_before file (suc i) p = eqb (participant_at file i) p || is_before file i p

-- ".. so its length is 2 + 8 × r", r being in the part only where that has two bytes.
unfoldable pub wrong_length : List ℕ → ℕ → Bool
wrong_length file i = ltb (length_at file i) 2 || not (eqb (length_at file i) (2 + 8 * rows_at file i))

unfoldable pub wrong_part : List ℕ → ℕ → Bool
wrong_part file i = wrong_length file i || is_before file i (participant_at file i)

unfoldable pub first_wrong : List ℕ → ℕ
first_wrong file = least (wrong_part file) (count_in file)

-- A cause with the pair whose index its refusal has.
unfoldable pub refused_if : Refusal → (pair : ℕ) → Bool → Result ℕ Misfit → Result ℕ Misfit
refused_if refusal pair holds form = cond holds (Err (record { refusal = refusal; pair = pair })) form

-- What a file is: a batch of n parts, or refused: "all three come before any settlement, in that order". "The index is 0 for answer 20, n − 1
-- where only the end of the file is wrong, and the later pair's for a participant twice."
unfoldable pub form_of : List ℕ → Result ℕ Misfit
form_of file =
    refused_if BatchTooShort 0 (too_short file)
    (refused_if PartsMisplaced (min (first_misplaced file) (count_in file - 1)) (not_following file)
    (refused_if WrongPart (first_wrong file) (ltb (first_wrong file) (count_in file)) (Ok (count_in file))))

-- A place below n, or none where it is n.
abbrev pub below : ℕ → ℕ → Option ℕ
below k n = cond (ltb k n) (Some k) None
