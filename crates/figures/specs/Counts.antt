-- Calls counted by participant, at every bound. Paper 02, Ask 6: "The accountants of two participants compare their call references and can tell how
-- many others were called. Replace the book's one count with a count in each file, shown in its statement. It equals the number of calls made in the
-- reading of that participant's own calls and the days opened, its admission's and deletion's included. The old question is answered with the sum of
-- the counts." What the reading decides of the last call of a short history, most often a statement, whose sixth figure is the count;
-- `Decisions.both` and `RetirementLaws.{both_behind, both_first}` have the same of the book.
-- Assumes nothing.
use Rattle.std.specs.Prelude.{ℕ, ◌+◌, ◌≤◌, ◌≡◌, true, false, List, [], ◌∷◌, ◌++◌, map, replicate, pos}
use Rattle.laws.specs.Lists.{table}
use Rattle.file.specs.declared.File.{File}
use Rattle.file.specs.declared.Position.{Position}
use Rattle.file.specs.declared.Position.TheVariants.{Empty, Cash}
use Rattle.file.specs.Answer.{stated, counted}
use Rattle.file.specs.Position.{slot_of}
use Rattle.file.specs.Calls.{call_of}
use Rattle.file.specs.Totals.{no_total}
use Rattle.file.specs.Fields.{unset}
use Rattle.file.specs.Statement.{file_statement}
use Rattle.file.specs.Sound.{Sound}
use Rattle.book.specs.Call.{Act, admit, lodge, release, settle, annual_run, Call, on, advance, statement, calls_made}
use Rattle.book.specs.Rule.{MadeCall}
use Rattle.book.specs.Account.{file_at, run}
use Rattle.book.specs.OneCount.{count_before}
use Rattle.book.specs.Private.{AgreeOn, TellsAlike, concerning, NoBatch}
use Rattle.book.specs.Reading.Events.{Own, day_opened, act}
use Rattle.book.specs.Reading.Calls.{made_in}
use Rattle.figures.specs.History.{in_turn, decides, answers, decides_behind}
use Rattle.figures.specs.History.{admits, cash, letter, releases, five, settles, runs_annual, deletes, to_day}
use Rattle.figures.specs.Decisions.{four_calls}
use Rattle.figures.specs.Batches.{loads_two, producers, second_with_four}
use Rattle.figures.specs.Deletions.{three_open, four_open, four_months}

-- A Supplier that was called for June's €30,000 on day 213, 1 August 2020, after which June's total is €25,000. That is the annual run's amount,
-- which is firm on 1 October, day 274.
abbrev pub lowered : List Call
lowered = admits 0 ∷ settles 5 3000000 ∷ settles 5 2500000 ∷ to_day 244 ∷ runs_annual ∷ to_day 274 ∷ []

-- Two Producers with €1 each in cash.
abbrev pub with_a_euro : List Call
with_a_euro = producers ++ cash 0 100 ∷ on 1 (lodge 0 (Cash 100)) ∷ []

-- Participant 0, a Supplier, with its admission's call; 31, a Producer, with three; and 63, a Trader, with one beside its admission's.
abbrev pub three_called : List Call
three_called =
    admits 0 ∷ on 31 (admit 3) ∷ on 31 (settle 0 (five 100)) ∷ on 31 (settle 0 (five 200)) ∷ on 31 (settle 0 (five 300)) ∷ on 63 (admit 2)
    ∷ on 63 (settle 0 (five 1000001)) ∷ []

-- A Supplier, participant 0, that is called for €30,000 on day 60, and the calls of others between its own; and day 71, on which what was called is
-- firm.
abbrev pub beside : List Call → List Call
beside others = admits 0 ∷ on 1 (admit 3) ∷ others ++ settles 0 3000000 ∷ to_day 71 ∷ []

-- .. those of participant 1, a Producer, that is called never, once and four times.
abbrev pub four_times : List Call
four_times = on 1 (settle 0 (five 100)) ∷ on 1 (settle 0 (five 200)) ∷ on 1 (settle 0 (five 300)) ∷ on 1 (settle 0 (five 400)) ∷ []

abbrev pub never_once_four : List (List Call)
never_once_four = [] ∷ (on 1 (settle 0 (five 100)) ∷ []) ∷ four_times ∷ []

-- A Producer's file with two open calls, whose last free day is day 10, and this count of calls made.
abbrev pub counting : ℕ → File
counting n =
    record {
      admitted = true;
      leaving = false;
      role = 3;
      firm = 0;
      slots = replicate 8 (slot_of Empty);
      calls = call_of 100 10 ∷ call_of 200 10 ∷ call_of 0 0 ∷ call_of 0 0 ∷ [];
      count = 2;
      next = unset;
      totals = replicate 16 no_total;
      charged = 0;
      accrued = 0;
      made = n;
    }

-- Of day 60, 1 March 2020, January, month 0, is P − 2.
pub record Counts : Type 0 where
  -- ---- "a count in each file, shown in its statement"
  pub shown : (f : File) (t : ℕ) → (file_statement f t).made ≡ f.made
  pub in-file-63 : (file_at (run 60 (in_turn [] three_called)) 63).made ≡ 2
  -- .. none of one that isn't admitted
  pub in-file-30 : (file_at (run 60 (in_turn [] three_called)) 30).made ≡ 0
  -- ---- "its admission's .. included": a minimum above 0 is called, and roles 3 to 5 have none
  pub role-0 : decides 0 (admits 0 ∷ []) (statement 0) ≡ stated 0 0 0 0 0 1
  pub role-2 : decides 0 (admits 2 ∷ []) (statement 0) ≡ stated 0 0 0 0 0 1
  pub roles-3-to-5 : map (λ (role : ℕ). decides 0 (admits role ∷ []) (statement 0)) (3 ∷ 4 ∷ 5 ∷ [])
      ≡ stated 0 0 0 0 0 0 ∷ stated 0 0 0 0 0 0 ∷ stated 0 0 0 0 0 0 ∷ []
  -- .. role 1's in a first stretch; since, its admission is refused, and it may be admitted with another role
  pub first-role-1 : decides_behind 0 (admits 1 ∷ []) [] (statement 0) ≡ stated 0 0 0 0 0 1
  pub refused-role-1 : decides 0 (admits 1 ∷ admits 3 ∷ []) (statement 0) ≡ stated 0 0 0 0 0 0
  -- .. a second admission is refused and adds none
  pub admitted-twice : decides 0 (admits 0 ∷ admits 0 ∷ []) (statement 0) ≡ stated 0 0 0 0 0 1
  pub admitted-otherwise : decides 0 (admits 3 ∷ admits 0 ∷ []) (statement 0) ≡ stated 0 0 0 0 0 0
  -- ---- The "number of calls made": "A call is made when E > D, 5 × E ≥ 6 × D"
  pub at-zero : decides 60 (admits 3 ∷ settles 0 0 ∷ []) (statement 0) ≡ stated 0 0 0 0 0 0
  pub above-zero : decides 60 (admits 3 ∷ settles 0 1 ∷ []) (statement 0) ≡ stated 0 0 0 0 0 1
  pub within : decides 60 (admits 3 ∷ cash 0 100 ∷ settles 0 119 ∷ []) (statement 0) ≡ stated 0 100 0 0 0 0
  pub at-20 : decides 60 (admits 3 ∷ cash 0 100 ∷ settles 0 120 ∷ []) (statement 0) ≡ stated 0 100 0 0 0 1
  -- ".. E exceeds the firm amount": a Supplier's minimum, firm on day 71
  pub at-firm : decides 60 (admits 0 ∷ to_day 71 ∷ settles 0 2000000 ∷ []) (statement 0) ≡ stated 2000000 0 2000000 1 100000000 1
  pub above-firm : decides 60 (admits 0 ∷ to_day 71 ∷ settles 0 2000001 ∷ []) (statement 0) ≡ stated 2000000 0 2000000 1 100000000 2
  -- ".. and E exceeds every open call": the minimum, open on day 60
  pub at-call : decides 60 (admits 0 ∷ settles 0 2000000 ∷ []) (statement 0) ≡ stated 0 0 0 0 0 1
  pub above-call : decides 60 (admits 0 ∷ settles 0 2000001 ∷ []) (statement 0) ≡ stated 0 0 0 0 0 2
  -- "recorded only (E) where no check was due": of P − 3 in April, and of P − 2 in September, beside P − 2 in April and in October
  pub april-p-3 : decides 91 (admits 3 ∷ settles 0 100 ∷ []) (statement 0) ≡ stated 0 0 0 0 0 0
  pub april-p-2 : decides 91 (admits 3 ∷ settles 1 100 ∷ []) (statement 0) ≡ stated 0 0 0 0 0 1
  pub september-p-2 : decides 273 (admits 3 ∷ settles 6 100 ∷ []) (statement 0) ≡ stated 0 0 0 0 0 0
  pub october-p-2 : decides 274 (admits 3 ∷ settles 7 100 ∷ []) (statement 0) ≡ stated 0 0 0 0 0 1
  -- .. settled again with a higher total it is called again, and with none that is higher it isn't
  pub again-higher : decides 60 (admits 3 ∷ settles 0 100 ∷ settles 0 101 ∷ []) (statement 0) ≡ stated 0 0 0 0 0 2
  pub again-no-higher : decides 60 (admits 3 ∷ settles 0 100 ∷ settles 0 99 ∷ settles 0 100 ∷ []) (statement 0) ≡ stated 0 0 0 0 0 1
  -- .. a refused settlement adds none: 12, 10 and 11; and 13, "the call would be a fifth open one"
  pub refused-settlements :
      decides 60 (admits 3 ∷ settles 1 100 ∷ on 0 (settle 0 (replicate 4 (pos 100))) ∷ settles 0 1000000000001 ∷ []) (statement 0)
      ≡ stated 0 0 0 0 0 0
  pub fourth : decides 60 four_calls (statement 0) ≡ stated 0 0 0 0 0 4
  pub fifth : decides 60 (four_calls ++ settles 0 500 ∷ []) (statement 0) ≡ stated 0 0 0 0 0 4
  -- .. on day 71 the four are firm, and it is called
  pub fifth-later : decides 60 (four_calls ++ to_day 71 ∷ settles 0 500 ∷ []) (statement 0) ≡ stated 400 0 400 1 100000000 5
  -- ---- ".. and deletion's included": Ask 4: "If it exceeds the firm amount and every open call it becomes an open call .. and is counted among the
  -- calls made": of 700 and of 0; of a Supplier's minimum and a cent more, while it is open; and of the minimum where it is firm, a cent more being
  -- `UnderDeletion.stated-after`
  pub placed : decides 244 (four_months ++ deletes ∷ []) (statement 0) ≡ stated 0 0 0 0 0 1
  pub placed-for-none : decides 244 (admits 3 ∷ deletes ∷ []) (statement 0) ≡ stated 0 0 0 0 0 0
  pub placed-at-call : decides 244 (admits 0 ∷ settles 6 2000000 ∷ deletes ∷ []) (statement 0) ≡ stated 0 0 0 0 0 1
  pub placed-above-call : decides 244 (admits 0 ∷ settles 6 2000001 ∷ deletes ∷ []) (statement 0) ≡ stated 0 0 0 0 0 2
  pub placed-at-firm : decides 233 (admits 0 ∷ to_day 244 ∷ settles 6 2000000 ∷ deletes ∷ []) (statement 0)
      ≡ stated 2000000 0 2000000 1 100000000 1
  -- .. a refused one adds none: 24, on 31 July, and already in the status; 13, of the fifth open call, beside the fourth
  pub july-31 : decides 212 (admits 3 ∷ settles 3 500 ∷ deletes ∷ []) (statement 0) ≡ stated 0 0 0 0 0 0
  pub august-1 : decides 213 (admits 3 ∷ settles 3 500 ∷ deletes ∷ []) (statement 0) ≡ stated 0 0 0 0 0 1
  pub placed-twice : decides 213 (admits 3 ∷ settles 3 500 ∷ deletes ∷ settles 4 900 ∷ deletes ∷ []) (statement 0) ≡ stated 0 0 0 0 0 1
  pub placed-fourth : decides 213 (three_open ++ settles 4 500 ∷ deletes ∷ []) (statement 0) ≡ stated 0 0 0 0 0 4
  pub placed-fifth : decides 213 (four_open ++ settles 4 500 ∷ deletes ∷ []) (statement 0) ≡ stated 0 0 0 0 0 4
  -- .. on day 224 the four are firm, and it is called
  pub placed-later : decides 213 (four_open ++ settles 4 500 ∷ deletes ∷ to_day 224 ∷ deletes ∷ []) (statement 0) ≡ stated 400 0 400 1 100000000 5
  -- ---- The calls made, and not the open ones: on the last free day of four, on the day after; and after "1 October .. on which a next amount took
  -- effect", where there is one more. Of `lowered` the days 224 to 274 are fifty-one, of 100,000,000 mills each
  pub last-free-day : decides 60 (four_calls ++ to_day 70 ∷ []) (statement 0) ≡ stated 0 0 0 0 0 4
  pub day-after : decides 60 (four_calls ++ to_day 71 ∷ []) (statement 0) ≡ stated 400 0 400 1 100000000 4
  pub on-october : decides 213 lowered (statement 0) ≡ stated 2500000 0 2500000 51 5100000000 2
  pub since-october : decides 213 (lowered ++ settles 7 2500001 ∷ []) (statement 0) ≡ stated 2500000 0 2500000 51 5100000000 3
  -- ---- Nothing else adds to it. Of the book: lodgings, a release, an annual run, an opened day, questions, and what is refused with 8, 7, 17 and 1
  pub book-lodged : answers 244 (admits 0 ∷ cash 0 2000001 ∷ letter 1 5 244 300 ∷ []) (statement 0) ≡ stated 0 2000006 0 0 0 1
  pub book-released : answers 244 (admits 0 ∷ cash 0 2000001 ∷ releases 0 1 ∷ []) (statement 0) ≡ stated 0 2000000 0 0 0 1
  pub book-annual-run : answers 244 (admits 0 ∷ runs_annual ∷ []) (statement 0) ≡ stated 0 0 0 0 0 1
  pub book-day : answers 244 (admits 0 ∷ advance 245 1 ∷ []) (statement 0) ≡ stated 0 0 0 0 0 1
  pub book-asked : answers 244 (admits 0 ∷ statement 0 ∷ calls_made ∷ []) (statement 0) ≡ stated 0 0 0 0 0 1
  pub book-refused : answers 244 (admits 0 ∷ cash 0 0 ∷ releases 7 1 ∷ advance 243 1 ∷ statement 64 ∷ []) (statement 0) ≡ stated 0 0 0 0 0 1
  -- .. by the reading, after every history; and none of a participant's calls adds more than one
  pub lodge-adds-none : (d k : ℕ) (h : Position) (own : List Own) → made_in (act d (lodge k h) ∷ own) ≡ made_in own
  pub release-adds-none : (d k a : ℕ) (own : List Own) → made_in (act d (release k a) ∷ own) ≡ made_in own
  pub annual-adds-none : (d : ℕ) (own : List Own) → made_in (act d annual_run ∷ own) ≡ made_in own
  pub day-adds-none : (d : ℕ) (own : List Own) → made_in (day_opened d ∷ own) ≡ made_in own
  pub none-or-one : (d : ℕ) (a : Act) (own : List Own) → (made_in own ≤ made_in (act d a ∷ own)) × (made_in (act d a ∷ own) ≤ made_in own + 1)
  -- ---- "A batch counts in the history as its settlements, all or none": both are called; of two with 100 in cash the one of 120 and not the one of
  -- 119; and none, where participant 1 is refused with 2 and with 13
  pub both-first : decides 60 (producers ++ loads_two 100 200 ∷ []) (statement 0) ≡ stated 0 0 0 0 0 1
  pub both-second : decides 60 (producers ++ loads_two 100 200 ∷ []) (statement 1) ≡ stated 0 0 0 0 0 1
  pub one-first : decides 60 (with_a_euro ++ loads_two 119 120 ∷ []) (statement 0) ≡ stated 0 100 0 0 0 0
  pub one-second : decides 60 (with_a_euro ++ loads_two 119 120 ∷ []) (statement 1) ≡ stated 0 100 0 0 0 1
  pub refused-batch : decides 60 (admits 3 ∷ loads_two 100 200 ∷ []) (statement 0) ≡ stated 0 0 0 0 0 0
  pub refused-first : decides 60 (second_with_four ++ loads_two 100 500 ∷ []) (statement 0) ≡ stated 0 0 0 0 0 0
  pub refused-second : decides 60 (second_with_four ++ loads_two 100 500 ∷ []) (statement 1) ≡ stated 0 0 0 0 0 4
  -- ---- "The old question is answered with the sum of the counts": of three participants, of none, and of all
  pub of-0 : decides 60 three_called (statement 0) ≡ stated 0 0 0 0 0 1
  pub of-31 : decides 60 three_called (statement 31) ≡ stated 0 0 0 0 0 3
  pub of-63 : decides 60 three_called (statement 63) ≡ stated 0 0 0 0 0 2
  pub sum-of-three : decides 60 three_called calls_made ≡ counted 6
  pub sum-of-none : decides 0 [] calls_made ≡ counted 0
  pub sum-of-all : decides 0 (table 64 (λ p. on p (admit 0))) calls_made ≡ counted 64
  -- .. which is what the book's one count was; of two parts of a batch each adds its own
  pub before-three : count_before 60 (in_turn [] three_called) ≡ 6
  pub before-batch : count_before 60 (in_turn [] (producers ++ loads_two 100 200 ∷ [])) ≡ 2
  -- ---- "The accountants of two participants .. can tell how many others were called": no longer by their statements. Participant 0 is called twice,
  -- while participant 1 is called never, once and four times: its statement stays, and participant 1's doesn't
  pub own-statement : map (λ (others : List Call). decides 60 (beside others) (statement 0)) never_once_four
      ≡ stated 3000000 0 3000000 1 100000000 2 ∷ stated 3000000 0 3000000 1 100000000 2 ∷ stated 3000000 0 3000000 1 100000000 2 ∷ []
  pub book-own-statement : map (λ (others : List Call). answers 60 (beside others) (statement 0)) never_once_four
      ≡ stated 3000000 0 3000000 1 100000000 2 ∷ stated 3000000 0 3000000 1 100000000 2 ∷ stated 3000000 0 3000000 1 100000000 2 ∷ []
  pub other-statement : map (λ (others : List Call). decides 60 (beside others) (statement 1)) never_once_four
      ≡ stated 0 0 0 0 0 0 ∷ stated 100 0 100 1 100000000 1 ∷ stated 400 0 400 1 100000000 4 ∷ []
  pub their-sum : map (λ (others : List Call). decides 60 (beside others) calls_made) never_once_four ≡ counted 2 ∷ counted 3 ∷ counted 6 ∷ []
  -- .. nor by the answers to its calls, as of any two histories in which its own calls and the days opened are the same
  pub agree : AgreeOn 60 0 (in_turn [] (beside [])) (in_turn [] (beside four_times))
  pub told-alike : TellsAlike 60 0 (in_turn [] (beside [])) (in_turn [] (beside four_times))
  pub always-alike : (s p : ℕ) (one other : List MadeCall) → s ≤ 29219 → AgreeOn s p one other → TellsAlike s p one other
  -- .. and where no batch is among them its own calls and the advances alone tell it the same
  pub own-calls : concerning 0 (in_turn [] (beside four_times)) ≡ in_turn [] (admits 0 ∷ settles 0 3000000 ∷ to_day 71 ∷ [])
  pub told-alone : (s p : ℕ) (calls : List MadeCall) → s ≤ 29219 → NoBatch calls → TellsAlike s p calls (concerning p calls)
  -- ---- Its bounds: the open calls, and those that ended, at most four on each day that was opened. On day 71 four ended and four are open, and a
  -- fifth adds none; of a file with two open calls on day 10, 2 to 4 × 10 + 2, and on day 0, which no day opened before, 2
  pub four-and-four :
      decides 60 (four_calls ++ to_day 71 ∷ settles 0 500 ∷ settles 0 600 ∷ settles 0 700 ∷ settles 0 800 ∷ settles 0 900 ∷ []) (statement 0)
      ≡ stated 400 0 400 1 100000000 8
  pub below-fewest : Sound 10 (counting 1) → ⊥
  pub fewest : Sound 10 (counting 2)
  pub most : Sound 10 (counting 42)
  pub above-most : Sound 10 (counting 43) → ⊥
  pub most-on-day-0 : Sound 0 (counting 2)
  pub above-on-day-0 : Sound 0 (counting 3) → ⊥
  -- ---- The same of the book, computed from its account
  pub book-role-0 : answers 0 (admits 0 ∷ []) (statement 0) ≡ stated 0 0 0 0 0 1
  pub book-within : answers 60 (admits 3 ∷ cash 0 100 ∷ settles 0 119 ∷ []) (statement 0) ≡ stated 0 100 0 0 0 0
  pub book-at-20 : answers 60 (admits 3 ∷ cash 0 100 ∷ settles 0 120 ∷ []) (statement 0) ≡ stated 0 100 0 0 0 1
  pub book-fifth : answers 60 (four_calls ++ settles 0 500 ∷ []) (statement 0) ≡ stated 0 0 0 0 0 4
  pub book-placed-at-call : answers 244 (admits 0 ∷ settles 6 2000000 ∷ deletes ∷ []) (statement 0) ≡ stated 0 0 0 0 0 1
  pub book-placed-above-call : answers 244 (admits 0 ∷ settles 6 2000001 ∷ deletes ∷ []) (statement 0) ≡ stated 0 0 0 0 0 2
  pub book-placed-fifth : answers 213 (four_open ++ settles 4 500 ∷ deletes ∷ []) (statement 0) ≡ stated 0 0 0 0 0 4
  pub book-day-after : answers 60 (four_calls ++ to_day 71 ∷ []) (statement 0) ≡ stated 400 0 400 1 100000000 4
  pub book-one-first : answers 60 (with_a_euro ++ loads_two 119 120 ∷ []) (statement 0) ≡ stated 0 100 0 0 0 0
  pub book-one-second : answers 60 (with_a_euro ++ loads_two 119 120 ∷ []) (statement 1) ≡ stated 0 100 0 0 0 1
  pub book-refused-second : answers 60 (second_with_four ++ loads_two 100 500 ∷ []) (statement 1) ≡ stated 0 0 0 0 0 4
  pub book-of-0 : answers 60 three_called (statement 0) ≡ stated 0 0 0 0 0 1
  pub book-of-31 : answers 60 three_called (statement 31) ≡ stated 0 0 0 0 0 3
  pub book-of-63 : answers 60 three_called (statement 63) ≡ stated 0 0 0 0 0 2
  pub book-sum-of-three : answers 60 three_called calls_made ≡ counted 6
  pub book-sum-of-none : answers 0 [] calls_made ≡ counted 0
  pub book-sum-of-all : answers 0 (table 64 (λ p. on p (admit 0))) calls_made ≡ counted 64
