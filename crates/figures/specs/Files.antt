-- The bytes of a month's file, and whether they are a batch, at their bounds (paper 02, Ask 1). The parts of most files here have no figures, so
-- that the files are short: 2 bytes a part.
-- Assumes nothing.
use Rattle.std.specs.Prelude.{ℕ, ◌+◌, ◌≡◌, true, cond, List, [], ◌∷◌, eqb, ltb, replicate, Result, Ok, Err, ℤ, pos, negsuc}
use Rattle.laws.specs.Least.{least}
use Rattle.laws.specs.Lists.{table}
use Rattle.file.specs.Answer.{Answer, refused, done, covered, batched, refused_pair}
use Rattle.refusal.specs.declared.Refusal.{Refusal}
use Rattle.refusal.specs.declared.Refusal.TheVariants.{BatchTooShort, PartsMisplaced, WrongPart}
use Rattle.batch.specs.declared.Misfit.{Misfit}
use Rattle.batch.specs.Bytes.{number_at, signed_of}
use Rattle.batch.specs.Batch.{month_in, count_in, offset_at, length_at, end_at, begins_at, participant_at, rows_at, figures_at, form_of}
use Rattle.book.specs.Call.{refusal_of, first_refused, batch_says}
use Rattle.figures.specs.Written.{part, file}
use Rattle.figures.specs.History.{five}

-- Twenty bytes, each its own place: the header and two pairs.
abbrev pub by_place : List ℕ
by_place = 0 ∷ 1 ∷ 2 ∷ 3 ∷ 4 ∷ 5 ∷ 6 ∷ 7 ∷ 8 ∷ 9 ∷ 10 ∷ 11 ∷ 12 ∷ 13 ∷ 14 ∷ 15 ∷ 16 ∷ 17 ∷ 18 ∷ 19 ∷ []

-- Month 0, one part, of participant 0, with five figures: 100, 0, 0, 0 and 0.
abbrev pub one_of100 : List ℕ
one_of100 =
    0 ∷ 0 ∷ 1 ∷ 0
    ∷ 12 ∷ 0 ∷ 0 ∷ 0 ∷ 42 ∷ 0 ∷ 0 ∷ 0
    ∷ 0 ∷ 5
    ∷ 100 ∷ 0 ∷ 0 ∷ 0 ∷ 0 ∷ 0 ∷ 0 ∷ 0
    ∷ 0 ∷ 0 ∷ 0 ∷ 0 ∷ 0 ∷ 0 ∷ 0 ∷ 0
    ∷ 0 ∷ 0 ∷ 0 ∷ 0 ∷ 0 ∷ 0 ∷ 0 ∷ 0
    ∷ 0 ∷ 0 ∷ 0 ∷ 0 ∷ 0 ∷ 0 ∷ 0 ∷ 0
    ∷ 0 ∷ 0 ∷ 0 ∷ 0 ∷ 0 ∷ 0 ∷ 0 ∷ 0
    ∷ []

-- Month 7, two parts: participant 63 with the one figure 256, and participant 1 with 1, −1, −256, 0, 10^12 and −10^12.
abbrev pub two_parts : List ℕ
two_parts =
    7 ∷ 0 ∷ 2 ∷ 0
    ∷ 20 ∷ 0 ∷ 0 ∷ 0 ∷ 10 ∷ 0 ∷ 0 ∷ 0
    ∷ 30 ∷ 0 ∷ 0 ∷ 0 ∷ 50 ∷ 0 ∷ 0 ∷ 0
    ∷ 63 ∷ 1
    ∷ 0 ∷ 1 ∷ 0 ∷ 0 ∷ 0 ∷ 0 ∷ 0 ∷ 0
    ∷ 1 ∷ 6
    ∷ 1 ∷ 0 ∷ 0 ∷ 0 ∷ 0 ∷ 0 ∷ 0 ∷ 0
    ∷ 255 ∷ 255 ∷ 255 ∷ 255 ∷ 255 ∷ 255 ∷ 255 ∷ 255
    ∷ 0 ∷ 255 ∷ 255 ∷ 255 ∷ 255 ∷ 255 ∷ 255 ∷ 255
    ∷ 0 ∷ 0 ∷ 0 ∷ 0 ∷ 0 ∷ 0 ∷ 0 ∷ 0
    ∷ 0 ∷ 16 ∷ 165 ∷ 212 ∷ 232 ∷ 0 ∷ 0 ∷ 0
    ∷ 0 ∷ 240 ∷ 90 ∷ 43 ∷ 23 ∷ 255 ∷ 255 ∷ 255
    ∷ []

-- The figures of its second part.
abbrev pub six_figures : List ℤ
six_figures = pos 1 ∷ negsuc 0 ∷ negsuc 255 ∷ pos 0 ∷ pos 1000000000000 ∷ negsuc 999999999999 ∷ []

-- Three settlements' answers, of which the second and the third are refused.
abbrev pub second_refused : ℕ → Answer
second_refused k = cond (ltb k 1) (covered (pos 5)) (refused (10 + k))

-- A file that is no batch: why, and the pair that it concerns. The three causes are 20, 21 and 22.
abbrev pub misfit : Refusal → ℕ → Result ℕ Misfit
misfit refusal pair = Err (record { refusal = refusal; pair = pair })

pub record Files : Type 0 where
  -- ---- "least byte first"
  pub two_bytes : number_at (1 ∷ 2 ∷ []) 0 2 ≡ 513
  pub low_byte : number_at (255 ∷ 0 ∷ []) 0 2 ≡ 255
  pub high_byte : number_at (0 ∷ 1 ∷ []) 0 2 ≡ 256
  pub from-a-place : number_at (9 ∷ 1 ∷ 2 ∷ 9 ∷ []) 1 2 ≡ 513
  pub four_bytes : number_at (255 ∷ 255 ∷ 255 ∷ 255 ∷ 255 ∷ []) 0 4 ≡ 4294967295
  pub eight-bytes : number_at (0 ∷ 0 ∷ 0 ∷ 0 ∷ 0 ∷ 0 ∷ 0 ∷ 128 ∷ []) 0 8 ≡ 9223372036854775808
  -- "month (2 bytes), count n (2 bytes, 1 to 64), then n pairs of offset and length (4 bytes each)"
  pub month : month_in by_place ≡ 256
  pub count : count_in by_place ≡ 770
  pub first-offset : offset_at by_place 0 ≡ 117835012
  pub first-length : length_at by_place 0 ≡ 185207048
  pub second-offset : offset_at by_place 1 ≡ 252579084
  pub second-length : length_at by_place 1 ≡ 319951120
  pub first-end : end_at by_place 0 ≡ 303042060
  -- "signed 8-byte cents"
  pub cents-0 : signed_of 0 ≡ pos 0
  pub cents-1 : signed_of 1 ≡ pos 1
  pub cents-255 : signed_of 255 ≡ pos 255
  pub cents-256 : signed_of 256 ≡ pos 256
  pub cents-largest : signed_of 9223372036854775807 ≡ pos 9223372036854775807
  pub cents-least : signed_of 9223372036854775808 ≡ negsuc 9223372036854775807
  pub cents-minus-256 : signed_of 18446744073709551360 ≡ negsuc 255
  pub cents-minus-1 : signed_of 18446744073709551615 ≡ negsuc 0
  -- "Each part holds a participant (1 byte), a row count r (1 byte) and r signed 8-byte cents"
  pub month-of-two : month_in two_parts ≡ 7
  pub count-of-two : count_in two_parts ≡ 2
  pub participant-of-first : participant_at two_parts 0 ≡ 63
  pub participant-of-second : participant_at two_parts 1 ≡ 1
  pub rows-of-first : rows_at two_parts 0 ≡ 1
  pub rows-of-second : rows_at two_parts 1 ≡ 6
  pub figures-of-first : figures_at two_parts 0 ≡ pos 256 ∷ []
  pub figures-of-second : figures_at two_parts 1 ≡ six_figures
  -- "The first part begins at 4 + 8 × n, each next one where the last ended"
  pub first-begins : begins_at two_parts 0 ≡ 20
  pub second-begins : begins_at two_parts 1 ≡ 30
  -- The two files with each byte written out are batches, and as the other facts write them
  pub one-is-batch : form_of one_of100 ≡ Ok 1
  pub two-is-batch : form_of two_parts ≡ Ok 2
  pub one_written : file 0 (part 0 (five 100) ∷ []) ≡ one_of100
  pub two-written : file 7 (part 63 (pos 256 ∷ []) ∷ part 1 six_figures ∷ []) ≡ two_parts
  -- ---- "20 file too short for its pairs or n outside 1 to 64"; "The index is 0 for answer 20"
  -- no month and count
  pub no_bytes : form_of [] ≡ misfit BatchTooShort 0
  pub three-bytes : form_of (0 ∷ 0 ∷ 1 ∷ []) ≡ misfit BatchTooShort 0
  -- n is 0, and 1
  pub count-0 : form_of (0 ∷ 0 ∷ 0 ∷ 0 ∷ []) ≡ misfit BatchTooShort 0
  pub count-1 : form_of (0 ∷ 0 ∷ 1 ∷ 0 ∷ 12 ∷ 0 ∷ 0 ∷ 0 ∷ 2 ∷ 0 ∷ 0 ∷ 0 ∷ 7 ∷ 0 ∷ []) ≡ Ok 1
  -- n is 257, of which the low byte is 1
  pub count-257 : form_of (0 ∷ 0 ∷ 1 ∷ 1 ∷ 12 ∷ 0 ∷ 0 ∷ 0 ∷ 2 ∷ 0 ∷ 0 ∷ 0 ∷ 7 ∷ 0 ∷ []) ≡ misfit BatchTooShort 0
  -- n is 64 and 65, and no pair is there
  pub no-64-pairs : form_of (0 ∷ 0 ∷ 64 ∷ 0 ∷ []) ≡ misfit BatchTooShort 0
  pub no-65-pairs : form_of (0 ∷ 0 ∷ 65 ∷ 0 ∷ []) ≡ misfit BatchTooShort 0
  -- one pair ends at byte 12: a file of 4, of 11 and of 12 bytes, the last with a part of length 0
  pub no-pair : form_of (0 ∷ 0 ∷ 1 ∷ 0 ∷ []) ≡ misfit BatchTooShort 0
  pub pair-too-short : form_of (0 ∷ 0 ∷ 1 ∷ 0 ∷ 12 ∷ 0 ∷ 0 ∷ 0 ∷ 0 ∷ 0 ∷ 0 ∷ []) ≡ misfit BatchTooShort 0
  pub pair-just-there : form_of (0 ∷ 0 ∷ 1 ∷ 0 ∷ 12 ∷ 0 ∷ 0 ∷ 0 ∷ 0 ∷ 0 ∷ 0 ∷ 0 ∷ []) ≡ misfit WrongPart 0
  -- two pairs end at byte 20
  pub second-pair-too-short :
      form_of (0 ∷ 0 ∷ 2 ∷ 0 ∷ 20 ∷ 0 ∷ 0 ∷ 0 ∷ 0 ∷ 0 ∷ 0 ∷ 0 ∷ 20 ∷ 0 ∷ 0 ∷ 0 ∷ 0 ∷ 0 ∷ 0 ∷ []) ≡ misfit BatchTooShort 0
  pub second-pair-just-there :
      form_of (0 ∷ 0 ∷ 2 ∷ 0 ∷ 20 ∷ 0 ∷ 0 ∷ 0 ∷ 0 ∷ 0 ∷ 0 ∷ 0 ∷ 20 ∷ 0 ∷ 0 ∷ 0 ∷ 0 ∷ 0 ∷ 0 ∷ 0 ∷ []) ≡ misfit WrongPart 0
  -- ---- "21 the parts don't follow on as said"
  -- the first offset one less and one more than 12, the part's end being the file's
  pub first-before : form_of (0 ∷ 0 ∷ 1 ∷ 0 ∷ 11 ∷ 0 ∷ 0 ∷ 0 ∷ 3 ∷ 0 ∷ 0 ∷ 0 ∷ 7 ∷ 0 ∷ []) ≡ misfit PartsMisplaced 0
  pub first-behind : form_of (0 ∷ 0 ∷ 1 ∷ 0 ∷ 13 ∷ 0 ∷ 0 ∷ 0 ∷ 1 ∷ 0 ∷ 0 ∷ 0 ∷ 7 ∷ 0 ∷ []) ≡ misfit PartsMisplaced 0
  -- two parts that follow on
  pub follow :
      form_of (0 ∷ 0 ∷ 2 ∷ 0 ∷ 20 ∷ 0 ∷ 0 ∷ 0 ∷ 2 ∷ 0 ∷ 0 ∷ 0 ∷ 22 ∷ 0 ∷ 0 ∷ 0 ∷ 2 ∷ 0 ∷ 0 ∷ 0 ∷ 7 ∷ 0 ∷ 8 ∷ 0 ∷ []) ≡ Ok 2
  -- the second offset one less and one more than 22
  pub second-before :
      form_of (0 ∷ 0 ∷ 2 ∷ 0 ∷ 20 ∷ 0 ∷ 0 ∷ 0 ∷ 2 ∷ 0 ∷ 0 ∷ 0 ∷ 21 ∷ 0 ∷ 0 ∷ 0 ∷ 3 ∷ 0 ∷ 0 ∷ 0 ∷ 7 ∷ 0 ∷ 8 ∷ 0 ∷ []) ≡ misfit PartsMisplaced 1
  pub second-behind :
      form_of (0 ∷ 0 ∷ 2 ∷ 0 ∷ 20 ∷ 0 ∷ 0 ∷ 0 ∷ 2 ∷ 0 ∷ 0 ∷ 0 ∷ 23 ∷ 0 ∷ 0 ∷ 0 ∷ 1 ∷ 0 ∷ 0 ∷ 0 ∷ 7 ∷ 0 ∷ 8 ∷ 0 ∷ []) ≡ misfit PartsMisplaced 1
  -- the first offset one less, the second where the first part then ends; and both wrong
  pub first-of-two :
      form_of (0 ∷ 0 ∷ 2 ∷ 0 ∷ 19 ∷ 0 ∷ 0 ∷ 0 ∷ 3 ∷ 0 ∷ 0 ∷ 0 ∷ 22 ∷ 0 ∷ 0 ∷ 0 ∷ 2 ∷ 0 ∷ 0 ∷ 0 ∷ 7 ∷ 0 ∷ 8 ∷ 0 ∷ []) ≡ misfit PartsMisplaced 0
  pub both-offsets :
      form_of (0 ∷ 0 ∷ 2 ∷ 0 ∷ 19 ∷ 0 ∷ 0 ∷ 0 ∷ 2 ∷ 0 ∷ 0 ∷ 0 ∷ 22 ∷ 0 ∷ 0 ∷ 0 ∷ 2 ∷ 0 ∷ 0 ∷ 0 ∷ 7 ∷ 0 ∷ 8 ∷ 0 ∷ []) ≡ misfit PartsMisplaced 0
  -- "the last ends with the file"; ".. n − 1 where only the end of the file is wrong": a byte too few and a byte too many, of one part and of two
  pub one-byte-less : form_of (0 ∷ 0 ∷ 1 ∷ 0 ∷ 12 ∷ 0 ∷ 0 ∷ 0 ∷ 2 ∷ 0 ∷ 0 ∷ 0 ∷ 7 ∷ []) ≡ misfit PartsMisplaced 0
  pub one-byte-more : form_of (0 ∷ 0 ∷ 1 ∷ 0 ∷ 12 ∷ 0 ∷ 0 ∷ 0 ∷ 2 ∷ 0 ∷ 0 ∷ 0 ∷ 7 ∷ 0 ∷ 0 ∷ []) ≡ misfit PartsMisplaced 0
  pub two-byte-less :
      form_of (0 ∷ 0 ∷ 2 ∷ 0 ∷ 20 ∷ 0 ∷ 0 ∷ 0 ∷ 2 ∷ 0 ∷ 0 ∷ 0 ∷ 22 ∷ 0 ∷ 0 ∷ 0 ∷ 2 ∷ 0 ∷ 0 ∷ 0 ∷ 7 ∷ 0 ∷ 8 ∷ []) ≡ misfit PartsMisplaced 1
  pub two-byte-more :
      form_of (0 ∷ 0 ∷ 2 ∷ 0 ∷ 20 ∷ 0 ∷ 0 ∷ 0 ∷ 2 ∷ 0 ∷ 0 ∷ 0 ∷ 22 ∷ 0 ∷ 0 ∷ 0 ∷ 2 ∷ 0 ∷ 0 ∷ 0 ∷ 7 ∷ 0 ∷ 8 ∷ 0 ∷ 0 ∷ []) ≡ misfit PartsMisplaced 1
  -- the second of three parts, of length 1,000, runs past the file's 34 bytes, and the third follows on it: only the end is wrong
  pub middle-past-the-end :
      form_of (0 ∷ 0 ∷ 3 ∷ 0 ∷ 28 ∷ 0 ∷ 0 ∷ 0 ∷ 2 ∷ 0 ∷ 0 ∷ 0 ∷ 30 ∷ 0 ∷ 0 ∷ 0 ∷ 232 ∷ 3 ∷ 0 ∷ 0 ∷ 6 ∷ 4 ∷ 0 ∷ 0 ∷ 2 ∷ 0 ∷ 0 ∷ 0
      ∷ 7 ∷ 0 ∷ 8 ∷ 0 ∷ 9 ∷ 0 ∷ [])
      ≡ misfit PartsMisplaced 2
  -- 20 + (2^32 − 1) is not 19, where the second part begins; nor is (2^31 + 20) + (2^31 + 4) 24, the file's length
  pub offset-past-2-32 :
      form_of (0 ∷ 0 ∷ 2 ∷ 0 ∷ 20 ∷ 0 ∷ 0 ∷ 0 ∷ 255 ∷ 255 ∷ 255 ∷ 255 ∷ 19 ∷ 0 ∷ 0 ∷ 0 ∷ 5 ∷ 0 ∷ 0 ∷ 0 ∷ 7 ∷ 0 ∷ 8 ∷ 0 ∷ [])
      ≡ misfit PartsMisplaced 1
  pub end-past-2-32 :
      form_of (0 ∷ 0 ∷ 2 ∷ 0 ∷ 20 ∷ 0 ∷ 0 ∷ 0 ∷ 0 ∷ 0 ∷ 0 ∷ 128 ∷ 20 ∷ 0 ∷ 0 ∷ 128 ∷ 4 ∷ 0 ∷ 0 ∷ 128 ∷ 7 ∷ 0 ∷ 8 ∷ 0 ∷ [])
      ≡ misfit PartsMisplaced 1
  -- ---- "22 a wrong part length or a participant twice": "its length is 2 + 8 × r"
  -- a length of 0 is `pair-just-there`; of 1, 2 and 3, r being 0
  pub length-1 : form_of (0 ∷ 0 ∷ 1 ∷ 0 ∷ 12 ∷ 0 ∷ 0 ∷ 0 ∷ 1 ∷ 0 ∷ 0 ∷ 0 ∷ 7 ∷ []) ≡ misfit WrongPart 0
  pub length-3 : form_of (0 ∷ 0 ∷ 1 ∷ 0 ∷ 12 ∷ 0 ∷ 0 ∷ 0 ∷ 3 ∷ 0 ∷ 0 ∷ 0 ∷ 7 ∷ 0 ∷ 0 ∷ []) ≡ misfit WrongPart 0
  -- r is 1: 9, 10 and 11 bytes; the byte behind r is no part of it
  pub length-9 : form_of (0 ∷ 0 ∷ 1 ∷ 0 ∷ 12 ∷ 0 ∷ 0 ∷ 0 ∷ 9 ∷ 0 ∷ 0 ∷ 0 ∷ 7 ∷ 1 ∷ replicate 7 0) ≡ misfit WrongPart 0
  pub length-10 : form_of (0 ∷ 0 ∷ 1 ∷ 0 ∷ 12 ∷ 0 ∷ 0 ∷ 0 ∷ 10 ∷ 0 ∷ 0 ∷ 0 ∷ 7 ∷ 1 ∷ 1 ∷ replicate 7 0) ≡ Ok 1
  pub length-11 : form_of (0 ∷ 0 ∷ 1 ∷ 0 ∷ 12 ∷ 0 ∷ 0 ∷ 0 ∷ 11 ∷ 0 ∷ 0 ∷ 0 ∷ 7 ∷ 1 ∷ replicate 9 0) ≡ misfit WrongPart 0
  -- r is 2, and 255, whose part has 2,042 bytes
  pub length-of-2 : form_of (0 ∷ 0 ∷ 1 ∷ 0 ∷ 12 ∷ 0 ∷ 0 ∷ 0 ∷ 10 ∷ 0 ∷ 0 ∷ 0 ∷ 7 ∷ 2 ∷ replicate 8 0) ≡ misfit WrongPart 0
  pub length-of-255 : form_of (0 ∷ 0 ∷ 1 ∷ 0 ∷ 12 ∷ 0 ∷ 0 ∷ 0 ∷ 250 ∷ 7 ∷ 0 ∷ 0 ∷ 7 ∷ 255 ∷ replicate 2040 0) ≡ Ok 1
  -- the second part's length
  pub second-length-1 :
      form_of (0 ∷ 0 ∷ 2 ∷ 0 ∷ 20 ∷ 0 ∷ 0 ∷ 0 ∷ 2 ∷ 0 ∷ 0 ∷ 0 ∷ 22 ∷ 0 ∷ 0 ∷ 0 ∷ 1 ∷ 0 ∷ 0 ∷ 0 ∷ 7 ∷ 0 ∷ 8 ∷ []) ≡ misfit WrongPart 1
  pub second-length-3 :
      form_of (0 ∷ 0 ∷ 2 ∷ 0 ∷ 20 ∷ 0 ∷ 0 ∷ 0 ∷ 2 ∷ 0 ∷ 0 ∷ 0 ∷ 22 ∷ 0 ∷ 0 ∷ 0 ∷ 3 ∷ 0 ∷ 0 ∷ 0 ∷ 7 ∷ 0 ∷ 8 ∷ 0 ∷ 0 ∷ []) ≡ misfit WrongPart 1
  -- a participant twice: "the later pair's" index
  pub twice :
      form_of (0 ∷ 0 ∷ 2 ∷ 0 ∷ 20 ∷ 0 ∷ 0 ∷ 0 ∷ 2 ∷ 0 ∷ 0 ∷ 0 ∷ 22 ∷ 0 ∷ 0 ∷ 0 ∷ 2 ∷ 0 ∷ 0 ∷ 0 ∷ 7 ∷ 0 ∷ 7 ∷ 0 ∷ []) ≡ misfit WrongPart 1
  -- .. once with no figure and once with one
  pub twice-other-rows :
      form_of (0 ∷ 0 ∷ 2 ∷ 0 ∷ 20 ∷ 0 ∷ 0 ∷ 0 ∷ 2 ∷ 0 ∷ 0 ∷ 0 ∷ 22 ∷ 0 ∷ 0 ∷ 0 ∷ 10 ∷ 0 ∷ 0 ∷ 0 ∷ 7 ∷ 0 ∷ 7 ∷ 1 ∷ replicate 8 0)
      ≡ misfit WrongPart 1
  -- .. of three parts the third's that of the first; that of the second; the second's that of the first; all three; and none
  pub third-is-first : form_of (file 0 (part 7 [] ∷ part 8 [] ∷ part 7 [] ∷ [])) ≡ misfit WrongPart 2
  pub third-is-second : form_of (file 0 (part 7 [] ∷ part 8 [] ∷ part 8 [] ∷ [])) ≡ misfit WrongPart 2
  pub second-is-first : form_of (file 0 (part 7 [] ∷ part 7 [] ∷ part 8 [] ∷ [])) ≡ misfit WrongPart 1
  pub all-the-same : form_of (file 0 (part 7 [] ∷ part 7 [] ∷ part 7 [] ∷ [])) ≡ misfit WrongPart 1
  pub three-others : form_of (file 0 (part 7 [] ∷ part 8 [] ∷ part 9 [] ∷ [])) ≡ Ok 3
  -- a wrong length at pair 1 and a participant again at pair 2; and the other way round
  pub length-then-twice : form_of (file 0 (part 7 [] ∷ (8 ∷ 0 ∷ 0 ∷ []) ∷ part 7 [] ∷ [])) ≡ misfit WrongPart 1
  pub twice-then-length : form_of (file 0 (part 7 [] ∷ part 7 [] ∷ (8 ∷ 0 ∷ 0 ∷ []) ∷ [])) ≡ misfit WrongPart 1
  -- a participant above 63 is no cause of 20 to 22
  pub any-participant : form_of (file 0 (part 255 [] ∷ part 64 [] ∷ [])) ≡ Ok 2
  -- ---- "all three come before any settlement, in that order"
  -- 20 before 21 is `count-64-too-short` and `count-65`, whose offsets are wrong too; before 22 `pair-too-short`, whose length is 0
  -- 21 at pair 1, where pair 0's length is 3, r being 0
  pub form-21-before-22 :
      form_of (0 ∷ 0 ∷ 2 ∷ 0 ∷ 20 ∷ 0 ∷ 0 ∷ 0 ∷ 3 ∷ 0 ∷ 0 ∷ 0 ∷ 22 ∷ 0 ∷ 0 ∷ 0 ∷ 3 ∷ 0 ∷ 0 ∷ 0 ∷ 7 ∷ 0 ∷ 0 ∷ 8 ∷ 0 ∷ []) ≡ misfit PartsMisplaced 1
  -- .. and at the file's end, where pair 0's length is 3
  pub end-before-22 :
      form_of (0 ∷ 0 ∷ 2 ∷ 0 ∷ 20 ∷ 0 ∷ 0 ∷ 0 ∷ 3 ∷ 0 ∷ 0 ∷ 0 ∷ 23 ∷ 0 ∷ 0 ∷ 0 ∷ 2 ∷ 0 ∷ 0 ∷ 0 ∷ 7 ∷ 0 ∷ 0 ∷ 8 ∷ 0 ∷ 0 ∷ [])
      ≡ misfit PartsMisplaced 1
  -- ---- "The first refusal is answered with its pair's index, from 0 ..; an accepted batch answers n"
  pub least_first : least (λ k. true) 3 ≡ 0
  pub least-last : least (λ k. eqb k 2) 3 ≡ 2
  pub least-of-two : least (λ k. ltb 0 k) 3 ≡ 1
  pub least-none : least (λ k. eqb k 3) 3 ≡ 3
  pub first-refused : first_refused second_refused 3 ≡ 1
  pub none-refused : first_refused (λ k. done) 3 ≡ 3
  pub number-of-refusal : refusal_of (refused 12) ≡ 12
  pub says-refused-file : batch_says (misfit PartsMisplaced 4) (λ k. refused 2) ≡ refused_pair 21 4
  pub says-refused-pair : batch_says (Ok 3) second_refused ≡ refused_pair 11 1
  pub says-last-pair : batch_says (Ok 2) second_refused ≡ refused_pair 11 1
  pub says-accepted : batch_says (Ok 1) second_refused ≡ batched 1
  pub says-n : batch_says (Ok 64) (λ k. done) ≡ batched 64
  -- ---- "count n (2 bytes, 1 to 64)": the largest
  -- n is 64, whose pairs end at byte 516, and 65, whose pairs end at byte 524; an offset of 0 is no first part's
  pub count-64 : form_of (0 ∷ 0 ∷ 64 ∷ 0 ∷ replicate 512 0) ≡ misfit PartsMisplaced 0
  pub count-64-too-short : form_of (0 ∷ 0 ∷ 64 ∷ 0 ∷ replicate 511 0) ≡ misfit BatchTooShort 0
  pub count-65 : form_of (0 ∷ 0 ∷ 65 ∷ 0 ∷ replicate 520 0) ≡ misfit BatchTooShort 0
  -- .. 64 parts, of the participants 0 to 63, and 65
  pub parts-64 : form_of (file 0 (table 64 (λ p. part p []))) ≡ Ok 64
  pub parts-65 : form_of (file 0 (table 65 (λ p. part p []))) ≡ misfit BatchTooShort 0
