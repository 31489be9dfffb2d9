-- Deletions, at every bound. Paper 02, Ask 4: "A new call puts an admitted participant into that status. Its amount is the
-- largest total of its three latest recorded months among P − 14 to P − 2, of fewer if fewer are recorded, and 0 if none or negative. If it exceeds the
-- firm amount and every open call it becomes an open call with last free day t + 10, whatever the cover, and is counted among the calls made. .. The
-- annual run no longer takes such a file; a next amount already set stays. A fifth open call gives 13 here too." What the reading decides of the last call
-- of a short history; `Decisions.both` and `RetirementLaws.both_first` have the same of the book.
-- Assumes nothing.
use Rattle.std.specs.Prelude.{ℕ, ◌≡◌, true, false, List, [], ◌∷◌, ◌++◌, map, pos, negsuc}
use Rattle.calendar.specs.Civil.{in_deletion_months}
use Rattle.manual.specs.Deletion.{deletion_amount}
use Rattle.file.specs.Answer.{refused, annual, counted, deletion}
use Rattle.file.specs.Calls.{call_of}
use Rattle.book.specs.Call.{admit, settle, delete, Call, on, calls_made}
use Rattle.book.specs.Reading.Calls.{calls_in, open_in}
use Rattle.figures.specs.History.{decides, decides_first, happened_to}
use Rattle.figures.specs.History.{admits, cash, settles, runs_annual, deletes, to_day}
use Rattle.figures.specs.Decisions.{credit}

-- A Producer on day 213, 1 August 2020, with three or four open calls, of June's rising totals, month 5 being P − 2. May's total, month 4, is recorded
-- behind them in the facts, without a check.
abbrev pub three_open : List Call
three_open = admits 3 ∷ settles 5 100 ∷ settles 5 200 ∷ settles 5 300 ∷ []

abbrev pub four_open : List Call
four_open = three_open ++ settles 5 400 ∷ []

-- A Producer on day 244, 1 September 2020, P being 8, with the totals of four months, 0 and 1 to 3: January's is the largest, and no longer among the three
-- latest.
abbrev pub four_months : List Call
four_months = admits 3 ∷ settles 0 900 ∷ settles 1 500 ∷ settles 2 700 ∷ settles 3 600 ∷ []

-- A Producer on day 244 whose annual run set January's €1,000,000 as the next amount; of its three latest months, May to July, €600,000 is the largest.
abbrev pub higher_next : List Call
higher_next = admits 3 ∷ settles 0 100000000 ∷ settles 4 50000000 ∷ settles 5 40000000 ∷ settles 6 60000000 ∷ runs_annual ∷ []

-- A deletion on a day.
abbrev pub leaves_on : ℕ → List Call
leaves_on d = to_day d ∷ deletes ∷ []

-- A Producer that was called for June's €800,000 on day 213, after which June's total is €100,000; the call is firm on day 224.
abbrev pub called_high : List Call
called_high = admits 3 ∷ settles 5 80000000 ∷ settles 5 10000000 ∷ to_day 224 ∷ []

pub record Deletions : Type 0 where
  -- ---- "in August or September": 31 July, 1 and 31 August, 1 and 30 September, 1 October of 2020, of 2021 and of 2099, the last
  pub days-2020 : map in_deletion_months (212 ∷ 213 ∷ 243 ∷ 244 ∷ 273 ∷ 274 ∷ []) ≡ false ∷ true ∷ true ∷ true ∷ true ∷ false ∷ []
  -- .. and the first day of every month of 2020
  pub months-2020 : map in_deletion_months (0 ∷ 31 ∷ 60 ∷ 91 ∷ 121 ∷ 152 ∷ 182 ∷ 213 ∷ 244 ∷ 274 ∷ 305 ∷ 335 ∷ [])
      ≡ false ∷ false ∷ false ∷ false ∷ false ∷ false ∷ false ∷ true ∷ true ∷ false ∷ false ∷ false ∷ []
  pub days-2021 : map in_deletion_months (577 ∷ 578 ∷ 638 ∷ 639 ∷ []) ≡ false ∷ true ∷ true ∷ false ∷ []
  pub days-2099 : map in_deletion_months (29066 ∷ 29067 ∷ 29127 ∷ 29128 ∷ 29220 ∷ []) ≡ false ∷ true ∷ true ∷ false ∷ false ∷ []
  -- ---- "the largest total .., and 0 if none or negative", from the totals
  pub amount-none : deletion_amount [] ≡ 0
  pub amount-negative : deletion_amount (negsuc 4 ∷ []) ≡ 0
  pub amount-all-negative : deletion_amount (negsuc 4 ∷ negsuc 0 ∷ negsuc 9 ∷ []) ≡ 0
  pub amount-zero : deletion_amount (pos 0 ∷ negsuc 0 ∷ []) ≡ 0
  pub amount-one : deletion_amount (negsuc 8 ∷ pos 1 ∷ []) ≡ 1
  pub amount-in-front : deletion_amount (pos 9 ∷ pos 7 ∷ pos 8 ∷ []) ≡ 9
  pub amount-between : deletion_amount (pos 7 ∷ pos 9 ∷ pos 8 ∷ []) ≡ 9
  pub amount-at-end : deletion_amount (pos 7 ∷ pos 8 ∷ pos 9 ∷ []) ≡ 9
  -- ---- the causes, "24 .. after 2", "13 comes after 24": 1, 2, 24, 13
  pub participant-64 : decides 213 [] (on 64 delete) ≡ refused 1
  pub participant-63 : decides 213 (on 63 (admit 3) ∷ []) (on 63 delete) ≡ deletion 0 false
  pub not-admitted : decides 213 [] deletes ≡ refused 2
  pub one-before-24 : decides 212 [] (on 64 delete) ≡ refused 1
  pub two-before-24 : decides 212 [] deletes ≡ refused 2
  -- "24 outside August and September"
  pub july-31 : decides 212 (admits 3 ∷ []) deletes ≡ refused 24
  pub august-1 : decides 213 (admits 3 ∷ []) deletes ≡ deletion 0 false
  pub august-31 : decides 243 (admits 3 ∷ []) deletes ≡ deletion 0 false
  pub september-1 : decides 244 (admits 3 ∷ []) deletes ≡ deletion 0 false
  pub september-30 : decides 273 (admits 3 ∷ []) deletes ≡ deletion 0 false
  pub october-1 : decides 274 (admits 3 ∷ []) deletes ≡ refused 24
  pub march-1 : decides 60 (admits 3 ∷ []) deletes ≡ refused 24
  pub last-september : decides 29127 (admits 3 ∷ []) deletes ≡ deletion 0 false
  -- ".. or already in the status", which never ends
  pub already : decides 213 (admits 3 ∷ deletes ∷ []) deletes ≡ refused 24
  pub already-next-month : decides 213 (admits 3 ∷ leaves_on 243 ++ to_day 244 ∷ []) deletes ≡ refused 24
  pub already-next-year : decides 213 (admits 3 ∷ deletes ∷ to_day 578 ∷ []) deletes ≡ refused 24
  -- .. and is the participant's alone; a refused one doesn't count
  pub another : decides 213 (admits 3 ∷ on 1 (admit 3) ∷ deletes ∷ []) (on 1 delete) ≡ deletion 0 false
  pub refused-before : decides 212 (admits 3 ∷ deletes ∷ to_day 213 ∷ []) deletes ≡ deletion 0 false
  pub refused-happened : happened_to 0 212 (admits 3 ∷ deletes ∷ []) ≡ happened_to 0 212 (admits 3 ∷ [])
  -- "A fifth open call gives 13 here too": May's 500 exceeds the four of 100 to 400; with three open it is the fourth
  pub fifth : decides 213 (four_open ++ settles 4 500 ∷ []) deletes ≡ refused 13
  pub fourth : decides 213 (three_open ++ settles 4 500 ∷ []) deletes ≡ deletion 500 true
  -- .. also on the last free day of the four
  pub fifth-last-day : decides 213 (four_open ++ settles 4 500 ∷ to_day 223 ∷ []) deletes ≡ refused 13
  -- .. one that makes no call is not refused
  pub fifth-uncalled : decides 213 (four_open ++ settles 4 400 ∷ []) deletes ≡ deletion 400 false
  -- .. "13 comes after 24": the same on 31 July, day 212, of May and April, and where the participant is in the status already
  pub twentyfour-before-13 :
      decides 212 (admits 3 ∷ settles 4 100 ∷ settles 4 200 ∷ settles 4 300 ∷ settles 4 400 ∷ settles 3 500 ∷ []) deletes ≡ refused 24
  pub already-before-13 : decides 213 (admits 3 ∷ deletes ∷ settles 5 100 ∷ settles 5 200 ∷ settles 5 300 ∷ settles 5 400 ∷ settles 4 500 ∷ []) deletes
      ≡ refused 24
  -- .. then the status isn't taken and nothing is called; on day 224 the four are firm and it can be placed under deletion
  pub fifth-made : decides 213 (four_open ++ settles 4 500 ∷ deletes ∷ []) calls_made ≡ counted 4
  pub fifth-later : decides 213 (four_open ++ settles 4 500 ∷ deletes ∷ to_day 224 ∷ []) deletes ≡ deletion 500 true
  -- .. and an annual run is not refused: the calls of 31 August are open until 10 September
  pub fifth-annual : decides 243 (four_open ++ settles 4 500 ∷ to_day 244 ∷ deletes ∷ []) runs_annual ≡ annual 500 2
  -- .. and its own call is one of the four that a settlement finds open
  pub fifth-settlement : decides 213 (three_open ++ settles 4 500 ∷ deletes ∷ []) (settles 5 600) ≡ refused 13
  -- ---- "the largest total of its three latest recorded months": 700 of 500, 700 and 600, and not January's 900
  pub three-latest : decides 244 four_months deletes ≡ deletion 700 true
  -- .. by the months' numbers and not by the order in which they were settled
  pub not-last-settled : decides 244 (admits 3 ∷ settles 3 600 ∷ settles 2 700 ∷ settles 1 500 ∷ settles 0 900 ∷ []) deletes ≡ deletion 700 true
  -- .. of the recorded ones, so not P − 4 to P − 2: of the months 0, 2, 4 and 6 the last three
  pub with-gaps : decides 244 (admits 3 ∷ settles 0 900 ∷ settles 2 700 ∷ settles 4 500 ∷ settles 6 600 ∷ []) deletes ≡ deletion 700 true
  -- "of fewer if fewer are recorded, and 0 if none"
  pub three-months : decides 244 (admits 3 ∷ settles 0 900 ∷ settles 2 700 ∷ settles 6 600 ∷ []) deletes ≡ deletion 900 true
  pub two-months : decides 244 (admits 3 ∷ settles 2 700 ∷ settles 6 600 ∷ []) deletes ≡ deletion 700 true
  pub one-month : decides 244 (admits 3 ∷ settles 0 900 ∷ []) deletes ≡ deletion 900 true
  pub no-month : decides 244 (admits 0 ∷ []) deletes ≡ deletion 0 false
  -- ".. or negative": −5; beside it 1; and three credits in the months after one of 900
  pub negative : decides 244 (admits 3 ∷ on 0 (settle 6 credit) ∷ []) deletes ≡ deletion 0 false
  pub beside-negative : decides 244 (admits 3 ∷ settles 4 1 ∷ on 0 (settle 6 credit) ∷ []) deletes ≡ deletion 1 true
  pub behind-negative :
      decides 244 (admits 3 ∷ settles 3 900 ∷ on 0 (settle 4 credit) ∷ on 0 (settle 5 credit) ∷ on 0 (settle 6 credit) ∷ []) deletes ≡ deletion 0 false
  -- .. a recorded total of 0 is one of the three
  pub behind-zero : decides 244 (admits 3 ∷ settles 3 900 ∷ settles 4 0 ∷ settles 5 0 ∷ settles 6 0 ∷ []) deletes ≡ deletion 0 false
  -- "A month's total is that of its last accepted settlement"
  pub replaced : decides 244 (admits 3 ∷ settles 6 900 ∷ settles 6 100 ∷ []) deletes ≡ deletion 100 true
  -- "among P − 14 to P − 2": in August 2021, P being 19, month 5 is in the window and month 4, settled in July, is not
  pub p-14 : decides 547 (admits 3 ∷ settles 5 900 ∷ to_day 578 ∷ []) deletes ≡ deletion 900 true
  pub p-15 : decides 547 (admits 3 ∷ settles 4 900 ∷ to_day 578 ∷ []) deletes ≡ deletion 0 false
  pub p-14-beside-p-15 : decides 547 (admits 3 ∷ settles 4 900 ∷ settles 5 700 ∷ to_day 578 ∷ []) deletes ≡ deletion 700 true
  -- .. and in September 2021, P being 20, month 6 is in the window and month 5, settled on 31 August, is not
  pub september-p-14 : decides 609 (admits 3 ∷ settles 6 700 ∷ []) deletes ≡ deletion 700 true
  pub september-p-15 : decides 608 (admits 3 ∷ settles 5 900 ∷ to_day 609 ∷ []) deletes ≡ deletion 0 false
  -- .. thirteen months, where the annual run has twelve: in September 2021 month 6 is P − 14 and month 18 P − 2, which it doesn't see
  pub p_2 : decides 609 (admits 3 ∷ settles 6 700 ∷ settles 18 900 ∷ []) deletes ≡ deletion 900 true
  pub annual-p-2 : decides 609 (admits 3 ∷ settles 6 700 ∷ settles 18 900 ∷ []) runs_annual ≡ annual 700 1
  -- .. in September 2020 months 0 to 6, there being none before month 0
  pub month-0 : decides 244 (admits 3 ∷ settles 0 5 ∷ settles 1 4 ∷ settles 2 3 ∷ []) deletes ≡ deletion 5 true
  -- ---- "If it exceeds the firm amount": a Supplier's minimum, firm on day 244
  pub at-firm : decides 233 (admits 0 ∷ to_day 244 ∷ settles 6 2000000 ∷ []) deletes ≡ deletion 2000000 false
  pub above-firm : decides 233 (admits 0 ∷ to_day 244 ∷ settles 6 2000001 ∷ []) deletes ≡ deletion 2000001 true
  -- ".. and every open call": the minimum, open on day 244
  pub at_call : decides 244 (admits 0 ∷ settles 6 2000000 ∷ []) deletes ≡ deletion 2000000 false
  pub above-call : decides 244 (admits 0 ∷ settles 6 2000001 ∷ []) deletes ≡ deletion 2000001 true
  -- .. a Trader's 1,000,000 and a call of 3,000,000 in August, after which June's total is 1,500,000: above one of the two
  pub between-calls : decides 213 (admits 2 ∷ settles 5 3000000 ∷ settles 5 1500000 ∷ []) deletes ≡ deletion 1500000 false
  -- .. above the firm amount of 1,000,000 on day 224, and below a call of that day
  pub firm-and-call : decides 213 (admits 2 ∷ to_day 224 ∷ settles 5 3000000 ∷ settles 5 1500000 ∷ []) deletes ≡ deletion 1500000 false
  -- .. and above both, each by itself: 3,000,001 beside 1,000,000 firm and 3,000,000 open
  pub above-each : decides 213 (admits 2 ∷ to_day 224 ∷ settles 5 3000000 ∷ settles 4 3000001 ∷ []) deletes ≡ deletion 3000001 true
  -- .. the firm amount of that day: 10,000,000 since 1 October 2020, and no longer the 80,000,000 that were called before
  pub lowered-firm : decides 213 (called_high ++ to_day 244 ∷ runs_annual ∷ to_day 578 ∷ settles 10 10000001 ∷ []) deletes ≡ deletion 10000001 true
  -- .. no minimum is an amount: a Supplier's and a Trader's total of 1, and a Supplier's of none (`no-month`)
  pub below-minimum : decides 244 (admits 0 ∷ settles 6 1 ∷ []) deletes ≡ deletion 1 false
  pub below-trader-minimum : decides 244 (admits 2 ∷ settles 6 1 ∷ []) deletes ≡ deletion 1 false
  -- ".. whatever the cover", and with no tolerance: 600 beside 10^12 in cash; nor is the next amount looked at
  pub whatever-the-cover : decides 244 (admits 3 ∷ cash 0 1000000000000 ∷ settles 6 600 ∷ []) deletes ≡ deletion 600 true
  pub below_next : decides 244 higher_next deletes ≡ deletion 60000000 true
  -- .. "and is counted among the calls made"
  pub counts : decides 244 (admits 0 ∷ settles 6 2000001 ∷ deletes ∷ []) calls_made ≡ counted 2
  pub counts-not : decides 244 (admits 0 ∷ settles 6 2000000 ∷ deletes ∷ []) calls_made ≡ counted 1
  -- ".. an open call with last free day t + 10", behind the others
  pub open-call : open_in 244 (happened_to 0 244 (admits 0 ∷ settles 6 2000001 ∷ deletes ∷ [])) ≡ call_of 2000000 254 ∷ call_of 2000001 254 ∷ []
  pub open-call-made : calls_in (happened_to 0 244 (four_months ++ deletes ∷ [])) ≡ call_of 700 254 ∷ []
  -- ---- In a first stretch, too (Ask 3): a Self-Supplied Customer leaves
  pub first-stretch : decides_first 213 (admits 1 ∷ []) deletes ≡ deletion 0 false
  pub first-stretch-24 : decides_first 212 (admits 1 ∷ []) deletes ≡ refused 24
  pub first-stretch-annual : decides_first 244 (admits 1 ∷ deletes ∷ []) runs_annual ≡ refused 25
