-- Batches in short histories: what the reading decides of them and makes of them, and what the book answers (paper 02, Ask 1).
-- Assumes nothing.
use Rattle.std.specs.Prelude.{ℕ, ◌≡◌, List, [], ◌∷◌, ◌++◌, replicate, ℤ, pos, negsuc}
use Rattle.file.specs.Answer.{annual, stated, counted, batched, refused_pair}
use Rattle.book.specs.Call.{admit, settle, Call, on, statement, calls_made, batch}
use Rattle.book.specs.Rule.{history}
use Rattle.book.specs.Account.{run}
use Rattle.book.specs.Reading.Events.{did, day_opened, act}
use Rattle.figures.specs.History.{decides, answers, happened, happened_to, admits, letter, five, runs_annual, to_day}
use Rattle.figures.specs.Written.{part, file}
use Rattle.figures.specs.Files.{one_of100, two_parts}

-- The load of a month's file with these parts.
abbrev pub loads : ℕ → List (List ℕ) → Call
loads month parts = batch (file month parts)

-- One part, of participant 0, with these figures of January 2020; and two, of 0 and 1, with these totals.
abbrev pub loads_one : List ℤ → Call
loads_one figures = loads 0 (part 0 figures ∷ [])

abbrev pub loads_two : ℕ → ℕ → Call
loads_two e f = loads 0 (part 0 (five e) ∷ part 1 (five f) ∷ [])

-- Two Producers.
abbrev pub producers : List Call
producers = admits 3 ∷ on 1 (admit 3) ∷ []

-- Participant 1 with three and with four open calls.
abbrev pub second_with_three : List Call
second_with_three = producers ++ on 1 (settle 0 (five 100)) ∷ on 1 (settle 0 (five 200)) ∷ on 1 (settle 0 (five 300)) ∷ []

abbrev pub second_with_four : List Call
second_with_four = second_with_three ++ on 1 (settle 0 (five 400)) ∷ []

-- Figures with the total 243.
abbrev pub of243 : List ℤ
of243 = pos 500 ∷ negsuc 0 ∷ negsuc 255 ∷ pos 0 ∷ pos 0 ∷ []

-- Day 60 is 1 March 2020, when January, month 0, is P − 2.
pub record Batches : Type 0 where
  -- ---- "an accepted batch answers n"
  pub one : decides 60 (admits 3 ∷ []) (batch one_of100) ≡ batched 1
  pub two : decides 60 producers (loads_two 100 200) ≡ batched 2
  -- ---- "The first refusal is answered with its pair's index, from 0"
  pub second-refused : decides 60 (admits 3 ∷ []) (loads_two 100 200) ≡ refused_pair 2 1
  pub first-refused : decides 60 (on 1 (admit 3) ∷ []) (loads_two 100 200) ≡ refused_pair 2 0
  pub both-refused : decides 60 [] (loads_two 100 200) ≡ refused_pair 2 0
  -- .. the first pair, not the least number or participant
  pub pair-order : decides 60 [] (loads 0 (part 1 (five 1) ∷ part 64 (five 1) ∷ part 0 (five 1) ∷ [])) ≡ refused_pair 2 0
  pub pair-order-64 : decides 60 [] (loads 0 (part 64 (five 1) ∷ part 0 (five 1) ∷ [])) ≡ refused_pair 1 0
  -- "participant above 63", "participant not admitted"
  pub participant-64 : decides 60 [] (loads 0 (part 64 (five 1) ∷ [])) ≡ refused_pair 1 0
  pub participant-255 : decides 60 [] (loads 0 (part 255 (five 1) ∷ [])) ≡ refused_pair 1 0
  pub participant-63 : decides 60 [] (loads 0 (part 63 (five 1) ∷ [])) ≡ refused_pair 2 0
  pub second-participant-64 : decides 60 (admits 3 ∷ []) (loads 0 (part 0 (five 1) ∷ part 64 (five 1) ∷ [])) ≡ refused_pair 1 1
  pub participant-63-admitted : decides 60 (on 63 (admit 3) ∷ []) (loads 0 (part 63 (five 1) ∷ [])) ≡ batched 1
  -- "month outside P − 14 to P − 2": every part's month is the file's, so that the first is refused
  pub month-p-1 : decides 60 producers (loads 1 (part 0 (five 1) ∷ part 1 (five 1) ∷ [])) ≡ refused_pair 12 0
  -- .. of two bytes: day 7,944 is 1 October 2041, and month 259, August 2041, is P − 2
  pub month-259 : decides 7944 (admits 3 ∷ []) (loads 259 (part 0 (five 1) ∷ [])) ≡ batched 1
  pub month-3 : decides 7944 (admits 3 ∷ []) (loads 3 (part 0 (five 1) ∷ [])) ≡ refused_pair 12 0
  -- "figures fewer than 5 or more than 16"
  pub rows-0 : decides 60 (admits 3 ∷ []) (loads_one []) ≡ refused_pair 10 0
  pub rows-4 : decides 60 (admits 3 ∷ []) (loads_one (replicate 4 (pos 1))) ≡ refused_pair 10 0
  pub rows-5 : decides 60 (admits 3 ∷ []) (loads_one (replicate 5 (pos 1))) ≡ batched 1
  pub rows-16 : decides 60 (admits 3 ∷ []) (loads_one (replicate 16 (pos 1))) ≡ batched 1
  pub rows-17 : decides 60 (admits 3 ∷ []) (loads_one (replicate 17 (pos 1))) ≡ refused_pair 10 0
  pub second-rows-4 : decides 60 producers (loads 0 (part 0 (five 1) ∷ part 1 (replicate 4 (pos 1)) ∷ [])) ≡ refused_pair 10 1
  -- .. of a file with each byte written out: on day 274, 1 October 2020, its month 7 is P − 2, and its first part has one figure
  pub rows-1 : decides 274 (on 63 (admit 3) ∷ on 1 (admit 3) ∷ []) (batch two_parts) ≡ refused_pair 10 0
  -- "a figure .. out of its range": the last one
  pub figure-largest : decides 60 (admits 3 ∷ []) (loads_one (replicate 4 (pos 0) ++ pos 1000000000000 ∷ [])) ≡ batched 1
  pub figure-above : decides 60 (admits 3 ∷ []) (loads_one (replicate 4 (pos 0) ++ pos 1000000000001 ∷ [])) ≡ refused_pair 11 0
  pub figure-least : decides 60 (admits 3 ∷ []) (loads_one (replicate 4 (pos 0) ++ negsuc 999999999999 ∷ [])) ≡ batched 1
  pub figure-below : decides 60 (admits 3 ∷ []) (loads_one (replicate 4 (pos 0) ++ negsuc 1000000000000 ∷ [])) ≡ refused_pair 11 0
  pub second-figure-above :
      decides 60 producers (loads 0 (part 0 (five 1) ∷ part 1 (replicate 4 (pos 0) ++ pos 1000000000001 ∷ []) ∷ [])) ≡ refused_pair 11 1
  -- "the call would be a fifth open one": of the second part; one that makes no call is not refused, nor a fourth call
  pub fifth-call : decides 60 second_with_four (loads_two 100 500) ≡ refused_pair 13 1
  pub fifth-covered : decides 60 second_with_four (loads_two 100 400) ≡ batched 2
  pub fourth-call : decides 60 second_with_three (loads_two 100 500) ≡ batched 2
  pub fourth-made : decides 60 (second_with_three ++ loads_two 100 500 ∷ []) calls_made ≡ counted 5
  -- settle's order: "1, 2, 12, 10, 11, 13"
  pub settle-1-before-12 : decides 60 [] (loads 1 (part 64 (five 1) ∷ [])) ≡ refused_pair 1 0
  pub settle-2-before-12 : decides 60 [] (loads 1 (part 0 (five 1) ∷ [])) ≡ refused_pair 2 0
  pub settle-12-before-10 : decides 60 (admits 3 ∷ []) (loads 1 (part 0 [] ∷ [])) ≡ refused_pair 12 0
  pub settle-10-before-11 : decides 60 (admits 3 ∷ []) (loads_one (replicate 4 (pos 1000000000001))) ≡ refused_pair 10 0
  pub settle-11-before-13 :
      decides 60 second_with_four (loads 0 (part 1 (replicate 4 (pos 1000) ++ pos 1000000000001 ∷ []) ∷ [])) ≡ refused_pair 11 0
  -- ---- "all three come before any settlement": participant 64 at pair 0
  pub form-20-before-1 : decides 60 [] (batch []) ≡ refused_pair 20 0
  pub form-21-before-1 : decides 60 [] (batch (file 0 (part 64 (five 1) ∷ []) ++ 0 ∷ [])) ≡ refused_pair 21 0
  pub form-22-before-1 : decides 60 [] (loads 0 (part 64 (five 1) ∷ part 64 (five 1) ∷ [])) ≡ refused_pair 22 1
  -- .. a participant is twice in a file, not in two files
  pub another-file : decides 60 (admits 3 ∷ batch one_of100 ∷ []) (batch one_of100) ≡ batched 1
  -- ---- What its settlements did
  -- calls made: of two parts both called, one did, none did, and the batch was refused
  pub two_made : decides 60 (producers ++ loads_two 100 200 ∷ []) calls_made ≡ counted 2
  pub one-made : decides 60 (producers ++ loads_two 0 200 ∷ []) calls_made ≡ counted 1
  pub none_made : decides 60 (producers ++ loads_two 0 0 ∷ []) calls_made ≡ counted 0
  pub refused-made : decides 60 (admits 3 ∷ loads_two 100 200 ∷ []) calls_made ≡ counted 0
  -- .. paper 02, Ask 2: a letter in force on day 71 is deposited, and one until day 70 is not
  pub deposited-made : decides 60 (admits 3 ∷ letter 0 100 60 71 ∷ batch one_of100 ∷ []) calls_made ≡ counted 0
  pub not-deposited-made : decides 60 (admits 3 ∷ letter 0 100 60 70 ∷ batch one_of100 ∷ []) calls_made ≡ counted 1
  -- the call's last free day is day 70
  pub last-free-day : decides 60 (admits 3 ∷ batch one_of100 ∷ to_day 70 ∷ []) (statement 0) ≡ stated 0 0 0 0 0 1
  pub firm : decides 60 (admits 3 ∷ batch one_of100 ∷ to_day 71 ∷ []) (statement 0) ≡ stated 100 0 100 1 100000000 1
  pub second-firm : decides 60 (producers ++ loads_two 100 200 ∷ to_day 71 ∷ []) (statement 1) ≡ stated 200 0 200 1 100000000 1
  pub refused-firm : decides 60 (admits 3 ∷ loads_two 100 200 ∷ to_day 71 ∷ []) (statement 0) ≡ stated 0 0 0 0 0 0
  -- the total is recorded for the file's month: day 244 is 1 September 2020, and June is month 5
  pub recorded : decides 244 (admits 3 ∷ loads 5 (part 0 of243 ∷ []) ∷ []) runs_annual ≡ annual 243 1
  -- ---- "A batch counts in the history as its settlements, all or none": made today
  pub first-happened : happened_to 0 60 (producers ++ loads_two 100 200 ∷ []) ≡ act 60 (settle 0 (five 100)) ∷ act 60 (admit 3) ∷ []
  pub second-happened : happened_to 1 60 (producers ++ loads_two 100 200 ∷ []) ≡ act 60 (settle 0 (five 200)) ∷ act 60 (admit 3) ∷ []
  pub other-happened : happened_to 1 60 (producers ++ batch one_of100 ∷ []) ≡ act 60 (admit 3) ∷ []
  pub happened-today :
      happened_to 0 60 (admits 3 ∷ to_day 62 ∷ batch one_of100 ∷ [])
      ≡ act 62 (settle 0 (five 100)) ∷ day_opened 62 ∷ day_opened 61 ∷ act 60 (admit 3) ∷ []
  -- .. "Parts are settled in pair order": the events are the newest first
  pub in-pair-order :
      happened 60 (producers ++ loads_two 100 200 ∷ [])
      ≡ did 60 1 (settle 0 (five 200)) ∷ did 60 0 (settle 0 (five 100)) ∷ did 60 1 (admit 3) ∷ did 60 0 (admit 3) ∷ []
  -- .. none where participant 1 is not admitted
  pub none-happened : happened 60 (admits 3 ∷ loads_two 100 200 ∷ []) ≡ did 60 0 (admit 3) ∷ []
  -- ---- The same of the book, computed from its account
  pub book-one : answers 60 (admits 3 ∷ []) (batch one_of100) ≡ batched 1
  pub book-two : answers 60 producers (loads_two 100 200) ≡ batched 2
  pub book-second-refused : answers 60 (admits 3 ∷ []) (loads_two 100 200) ≡ refused_pair 2 1
  pub book-first-refused : answers 60 (on 1 (admit 3) ∷ []) (loads_two 100 200) ≡ refused_pair 2 0
  pub book-participant-64 : answers 60 [] (loads 0 (part 64 (five 1) ∷ [])) ≡ refused_pair 1 0
  pub book-participant-63 : answers 60 [] (loads 0 (part 63 (five 1) ∷ [])) ≡ refused_pair 2 0
  pub book-month-p-1 : answers 60 producers (loads 1 (part 0 (five 1) ∷ part 1 (five 1) ∷ [])) ≡ refused_pair 12 0
  pub book-rows-0 : answers 60 (admits 3 ∷ []) (loads_one []) ≡ refused_pair 10 0
  pub book-rows-4 : answers 60 (admits 3 ∷ []) (loads_one (replicate 4 (pos 1))) ≡ refused_pair 10 0
  pub book-rows-16 : answers 60 (admits 3 ∷ []) (loads_one (replicate 16 (pos 1))) ≡ batched 1
  pub book-rows-17 : answers 60 (admits 3 ∷ []) (loads_one (replicate 17 (pos 1))) ≡ refused_pair 10 0
  pub book-figure-above : answers 60 (admits 3 ∷ []) (loads_one (replicate 4 (pos 0) ++ pos 1000000000001 ∷ [])) ≡ refused_pair 11 0
  pub book-fifth-call : answers 60 second_with_four (loads_two 100 500) ≡ refused_pair 13 1
  pub book-22-before-1 : answers 60 [] (loads 0 (part 64 (five 1) ∷ part 64 (five 1) ∷ [])) ≡ refused_pair 22 1
  pub book-two-made : answers 60 (producers ++ loads_two 100 200 ∷ []) calls_made ≡ counted 2
  pub book-one-made : answers 60 (producers ++ loads_two 0 200 ∷ []) calls_made ≡ counted 1
  pub book-refused-made : answers 60 (admits 3 ∷ loads_two 100 200 ∷ []) calls_made ≡ counted 0
  pub book-firm : answers 60 (admits 3 ∷ batch one_of100 ∷ to_day 71 ∷ []) (statement 0) ≡ stated 100 0 100 1 100000000 1
  pub book-recorded : answers 244 (admits 3 ∷ loads 5 (part 0 of243 ∷ []) ∷ []) runs_annual ≡ annual 243 1
  -- ".. and the book is then as before"
  pub book-as-before : run 60 (history [] (loads_two 100 200 ∷ admits 3 ∷ [])) ≡ run 60 (history [] (admits 3 ∷ []))
