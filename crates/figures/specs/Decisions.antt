-- Paper 01's calls at every bound and for every two causes of refusal that can hold at once: what the reading decides of the last call of a
-- short history. `both` has the same of the book.
-- Assumes nothing.
use Rattle.std.specs.Prelude.{ℕ, ◌≤◌, ◌≡◌, List, [], ◌∷◌, ◌++◌, replicate, ℤ, pos, negsuc}
use Rattle.file.specs.declared.Position.TheVariants.{Empty, Cash}
use Rattle.file.specs.Answer.{refused, done, called, covered, recorded, annual, days_opened, stated, counted}
use Rattle.book.specs.Call.{admit, lodge, release, settle, annual_run, Call, on, advance, statement, calls_made}
use Rattle.book.specs.Account.{fresh_answer, fresh_book_beside}
use Rattle.figures.specs.History.{decides, answers, admits, cash, letter, releases, five, settles, runs_annual, to_day}

-- A Producer with four open calls on day 60, 1 March 2020, each of its total: the fifth would be above them.
abbrev pub four_calls : List Call
four_calls = admits 3 ∷ settles 0 100 ∷ settles 0 200 ∷ settles 0 300 ∷ settles 0 400 ∷ []

-- A Supplier admitted on day 0 that lodged nothing until its minimum was firm, on day 11.
abbrev pub firm_supplier : List Call
firm_supplier = admits 0 ∷ to_day 11 ∷ []

-- A Producer with a next amount of 500 from the annual run on day 244, 1 September 2020, June 2020 being month 5.
abbrev pub next_of500 : List Call
next_of500 = admits 3 ∷ settles 5 500 ∷ runs_annual ∷ []

-- A Producer with a call of 500 on day 213, 1 August 2020, whose June total is then 100, and the annual run on 1 September.
abbrev pub lower_october : List Call
lower_october = admits 3 ∷ settles 5 500 ∷ settles 5 100 ∷ to_day 244 ∷ runs_annual ∷ []

-- Five figures with a total of −5.
abbrev pub credit : List ℤ
credit = pos 10 ∷ negsuc 14 ∷ pos 0 ∷ pos 0 ∷ pos 0 ∷ []

pub record Decisions : Type 0 where
  -- What the reading decides, the book answers.
  pub both : (s : ℕ) (calls : List Call) (c : Call) → s ≤ 29219 → answers s calls c ≡ decides s calls c
  -- ---- 'Fresh book' and 'Advance'
  -- "day above 29,219" is 17
  pub fresh-last-day : fresh_answer 29219 ≡ done
  pub fresh-past : fresh_answer 29220 ≡ refused 17
  -- "if fresh: a book on day 0 with no participants stands beside the number"
  pub fresh-on-its-day : (fresh_book_beside 29219).today.0 ≡ 29219
  pub fresh-beside : (fresh_book_beside 29220).today.0 ≡ 0
  pub advance-last-day : decides 29218 [] (advance 29219 100) ≡ days_opened 1
  pub advance-past : decides 29218 [] (advance 29220 100) ≡ refused 17
  -- ".. or T before t"; T = t opens no day
  pub advance-back : decides 10 [] (advance 9 100) ≡ refused 17
  pub advance-today : decides 10 [] (advance 10 100) ≡ days_opened 0
  -- "the smaller of B and T − t"
  pub advance-budget-less : decides 10 [] (advance 15 4) ≡ days_opened 4
  pub advance-budget-equal : decides 10 [] (advance 15 5) ≡ days_opened 5
  pub advance-budget-more : decides 10 [] (advance 15 6) ≡ days_opened 5
  pub advance-none : decides 10 [] (advance 15 0) ≡ days_opened 0
  -- today is the last day opened
  pub today : decides 10 (advance 15 4 ∷ []) (advance 13 1) ≡ refused 17
  -- ---- 'Admit': "1, 3, 4"; paper 02's 23, "after 4", is in `Retirement`
  -- "participant above 63"
  pub participant-63 : decides 0 [] (on 63 (admit 0)) ≡ done
  pub participant-64 : decides 0 [] (on 64 (admit 0)) ≡ refused 1
  pub admitted-already : decides 0 (admits 3 ∷ []) (admits 3) ≡ refused 3
  -- .. another one is not
  pub another : decides 0 (admits 3 ∷ []) (on 1 (admit 3)) ≡ done
  -- "role above 5"
  pub role-5 : decides 0 [] (admits 5) ≡ done
  pub role-6 : decides 0 [] (admits 6) ≡ refused 4
  pub admit-1-before-4 : decides 0 [] (on 64 (admit 6)) ≡ refused 1
  pub admit-3-before-4 : decides 0 (admits 3 ∷ []) (admits 6) ≡ refused 3
  -- ---- 'Lodge': "1, 2, 5, 6, 8, 9"
  pub lodge-participant : decides 0 [] (on 64 (lodge 0 (Cash 1))) ≡ refused 1
  pub lodge-not-admitted : decides 0 [] (cash 0 1) ≡ refused 2
  -- "position above 7"
  pub position-7 : decides 0 (admits 3 ∷ []) (cash 7 1) ≡ done
  pub position-8 : decides 0 (admits 3 ∷ []) (cash 8 1) ≡ refused 5
  -- "lodging at a filled position"
  pub filled : decides 0 (admits 3 ∷ cash 0 1 ∷ []) (cash 0 1) ≡ refused 6
  pub other-position : decides 0 (admits 3 ∷ cash 0 1 ∷ []) (cash 1 1) ≡ done
  -- "it is empty if that is nothing or a letter whose last day is before today"
  pub letter-last-day : decides 0 (admits 3 ∷ letter 0 5 0 3 ∷ to_day 3 ∷ []) (cash 0 1) ≡ refused 6
  pub letter-lapsed : decides 0 (admits 3 ∷ letter 0 5 0 3 ∷ to_day 4 ∷ []) (cash 0 1) ≡ done
  pub released-whole : decides 0 (admits 3 ∷ cash 0 5 ∷ releases 0 5 ∷ []) (cash 0 1) ≡ done
  pub released-in-part : decides 0 (admits 3 ∷ cash 0 5 ∷ releases 0 4 ∷ []) (cash 0 1) ≡ refused 6
  -- "lodged .. amount outside 1 to 10^12"
  pub lodge-0 : decides 0 (admits 3 ∷ []) (cash 0 0) ≡ refused 8
  pub lodge-largest : decides 0 (admits 3 ∷ []) (cash 0 1000000000000) ≡ done
  pub lodge-above : decides 0 (admits 3 ∷ []) (cash 0 1000000000001) ≡ refused 8
  pub lodge-letter-above : decides 0 (admits 3 ∷ []) (letter 0 1000000000001 0 9) ≡ refused 8
  pub lodge-nothing : decides 0 (admits 3 ∷ []) (on 0 (lodge 0 Empty)) ≡ refused 8
  -- "letter days against the rule", on day 10
  pub letter-backward : decides 10 (admits 3 ∷ []) (letter 0 5 16 15) ≡ refused 9
  pub letter-one-day : decides 10 (admits 3 ∷ []) (letter 0 5 15 15) ≡ done
  pub letter-past : decides 10 (admits 3 ∷ []) (letter 0 5 5 9) ≡ refused 9
  pub letter-until-today : decides 10 (admits 3 ∷ []) (letter 0 5 5 10) ≡ done
  pub letter-until-2099 : decides 10 (admits 3 ∷ []) (letter 0 5 5 29219) ≡ done
  pub letter-until-2100 : decides 10 (admits 3 ∷ []) (letter 0 5 5 29220) ≡ refused 9
  pub lodge-2-before-5 : decides 0 [] (cash 8 1) ≡ refused 2
  pub lodge-5-before-8 : decides 0 (admits 3 ∷ []) (cash 8 0) ≡ refused 5
  pub lodge-5-before-9 : decides 10 (admits 3 ∷ []) (letter 8 5 16 15) ≡ refused 5
  pub lodge-6-before-8 : decides 0 (admits 3 ∷ cash 0 1 ∷ []) (cash 0 0) ≡ refused 6
  pub lodge-6-before-9 : decides 10 (admits 3 ∷ cash 0 1 ∷ []) (letter 0 5 16 15) ≡ refused 6
  pub lodge-8-before-9 : decides 10 (admits 3 ∷ []) (letter 0 0 16 15) ≡ refused 8
  -- ---- 'Release': "1, 2, 5, 7, 8, 15, 16"
  pub release-participant : decides 0 [] (on 64 (release 0 1)) ≡ refused 1
  pub release-not-admitted : decides 0 [] (releases 0 1) ≡ refused 2
  pub release-position-8 : decides 0 (admits 3 ∷ []) (releases 8 1) ≡ refused 5
  -- "release at an empty position"
  pub release-empty : decides 0 (admits 3 ∷ []) (releases 7 1) ≡ refused 7
  pub release-lapsed : decides 0 (admits 3 ∷ letter 0 5 0 3 ∷ to_day 4 ∷ []) (releases 0 5) ≡ refused 7
  -- ".. released amount outside 1 to 10^12"
  pub release-0 : decides 0 (admits 3 ∷ cash 0 5 ∷ []) (releases 0 0) ≡ refused 8
  -- "release above what is held, or a letter in part"
  pub release-part : decides 0 (admits 3 ∷ cash 0 5 ∷ []) (releases 0 4) ≡ done
  pub release-whole : decides 0 (admits 3 ∷ cash 0 5 ∷ []) (releases 0 5) ≡ done
  pub release-above : decides 0 (admits 3 ∷ cash 0 5 ∷ []) (releases 0 6) ≡ refused 15
  pub release-above-rest : decides 0 (admits 3 ∷ cash 0 5 ∷ releases 0 4 ∷ []) (releases 0 2) ≡ refused 15
  pub release-rest : decides 0 (admits 3 ∷ cash 0 5 ∷ releases 0 4 ∷ []) (releases 0 1) ≡ done
  pub release-letter-part : decides 0 (admits 3 ∷ letter 0 5 0 3 ∷ []) (releases 0 4) ≡ refused 15
  pub release-letter : decides 0 (admits 3 ∷ letter 0 5 0 3 ∷ []) (releases 0 5) ≡ done
  -- "the cover left today must be at least the largest of .. all open calls": a Supplier's minimum
  pub open-call-left : decides 0 (admits 0 ∷ cash 0 2000001 ∷ []) (releases 0 1) ≡ done
  pub open-call-short : decides 0 (admits 0 ∷ cash 0 2000001 ∷ []) (releases 0 2) ≡ refused 16
  -- ".. the firm amount"
  pub firm-left : decides 0 (admits 0 ∷ cash 0 2000001 ∷ to_day 11 ∷ []) (releases 0 1) ≡ done
  pub firm-short : decides 0 (admits 0 ∷ cash 0 2000001 ∷ to_day 11 ∷ []) (releases 0 2) ≡ refused 16
  -- ".. and the next amount"
  pub next-left : decides 244 (next_of500 ++ cash 0 501 ∷ []) (releases 0 1) ≡ done
  pub next-short : decides 244 (next_of500 ++ cash 0 501 ∷ []) (releases 0 2) ≡ refused 16
  -- the largest of them, not their sum: open calls of 2,000,000 and 3,000,000
  pub largest-left : decides 60 (admits 0 ∷ settles 0 3000000 ∷ cash 0 3000001 ∷ []) (releases 0 1) ≡ done
  pub largest-short : decides 60 (admits 0 ∷ settles 0 3000000 ∷ cash 0 3000001 ∷ []) (releases 0 2) ≡ refused 16
  -- .. nor of the firm amount and an open call: 2,000,000 is firm on day 71, and 3,000,000 open
  pub firm-and-call-left : decides 60 (admits 0 ∷ to_day 71 ∷ settles 0 3000000 ∷ cash 0 3000001 ∷ []) (releases 0 1) ≡ done
  pub firm-and-call-short : decides 60 (admits 0 ∷ to_day 71 ∷ settles 0 3000000 ∷ cash 0 3000001 ∷ []) (releases 0 2) ≡ refused 16
  -- .. nor of an open call and the next amount, here each a Supplier's minimum
  pub next-and-call-left : decides 244 (admits 0 ∷ runs_annual ∷ cash 0 2000001 ∷ []) (releases 0 1) ≡ done
  pub next-and-call-short : decides 244 (admits 0 ∷ runs_annual ∷ cash 0 2000001 ∷ []) (releases 0 2) ≡ refused 16
  -- "It becomes the next amount, replacing an earlier one": 900 after 500
  pub next-replaced-left : decides 244 (next_of500 ++ settles 5 900 ∷ runs_annual ∷ cash 0 901 ∷ []) (releases 0 1) ≡ done
  pub next-replaced : decides 244 (next_of500 ++ settles 5 900 ∷ runs_annual ∷ cash 0 901 ∷ []) (releases 0 2) ≡ refused 16
  -- "the cover left today": a letter that has not begun is no cover today, so its release leaves as much
  pub unbegun-short : decides 0 (admits 0 ∷ letter 0 2000000 1 9 ∷ cash 1 1 ∷ []) (releases 1 1) ≡ refused 16
  pub release-2-before-5 : decides 0 [] (releases 8 1) ≡ refused 2
  pub release-5-before-7 : decides 0 (admits 3 ∷ []) (releases 8 0) ≡ refused 5
  pub release-7-before-8 : decides 0 (admits 3 ∷ []) (releases 0 0) ≡ refused 7
  pub release-8-before-15 : decides 0 (admits 3 ∷ cash 0 5 ∷ []) (releases 0 1000000000001) ≡ refused 8
  pub release-8-before-16 : decides 0 (admits 0 ∷ cash 0 5 ∷ []) (releases 0 0) ≡ refused 8
  pub release-15-before-16 : decides 0 (admits 0 ∷ cash 0 5 ∷ []) (releases 0 6) ≡ refused 15
  -- ---- 'Settle': "1, 2, 12, 10, 11, 13"
  pub settle-participant : decides 60 [] (on 64 (settle 0 (five 1))) ≡ refused 1
  pub settle-not-admitted : decides 60 [] (settles 0 1) ≡ refused 2
  -- "month outside P − 14 to P − 2": day 639 is 1 October 2021, P is 21
  pub settle-p-15 : decides 639 (admits 3 ∷ []) (settles 6 1) ≡ refused 12
  pub settle-p-14 : decides 639 (admits 3 ∷ []) (settles 7 1) ≡ recorded (pos 1)
  pub settle-p-2 : decides 639 (admits 3 ∷ []) (settles 19 1) ≡ called 1 1 649
  pub settle-p-1 : decides 639 (admits 3 ∷ []) (settles 20 1) ≡ refused 12
  -- "figures fewer than 5 or more than 16"
  pub settle-4-figures : decides 60 (admits 3 ∷ []) (on 0 (settle 0 (replicate 4 (pos 1)))) ≡ refused 10
  pub settle-16-figures : decides 60 (admits 3 ∷ []) (on 0 (settle 0 (replicate 16 (pos 1)))) ≡ called 16 16 70
  pub settle-17-figures : decides 60 (admits 3 ∷ []) (on 0 (settle 0 (replicate 17 (pos 1)))) ≡ refused 10
  -- "a figure .. out of its range"
  pub settle-figure-largest : decides 60 (admits 3 ∷ []) (settles 0 1000000000000) ≡ called 1000000000000 1000000000000 70
  pub settle-figure-above : decides 60 (admits 3 ∷ []) (settles 0 1000000000001) ≡ refused 11
  -- "If M = P − 2 and P isn't a September": 30 September and 1 October 2020 are the days 273 and 274
  pub settle-september : decides 273 (admits 3 ∷ []) (settles 6 1) ≡ recorded (pos 1)
  pub settle-october : decides 274 (admits 3 ∷ []) (settles 7 1) ≡ called 1 1 284
  pub settle-p-3 : decides 274 (admits 3 ∷ []) (settles 6 1) ≡ recorded (pos 1)
  -- a credit is covered, or recorded only
  pub settle-credit : decides 60 (admits 3 ∷ []) (on 0 (settle 0 credit)) ≡ covered (negsuc 4)
  pub settle-credit-recorded : decides 244 (admits 3 ∷ []) (on 0 (settle 4 credit)) ≡ recorded (negsuc 4)
  -- "A call is made when E > D, 5 × E ≥ 6 × D"; what D is: `Deposits`
  pub settle-at-cover : decides 60 (admits 3 ∷ cash 0 100 ∷ []) (settles 0 100) ≡ covered (pos 100)
  pub settle-within : decides 60 (admits 3 ∷ cash 0 100 ∷ []) (settles 0 119) ≡ covered (pos 119)
  pub settle-at-20 : decides 60 (admits 3 ∷ cash 0 100 ∷ []) (settles 0 120) ≡ called 120 20 70
  -- ".. E exceeds the firm amount": day 71 of a Supplier admitted on day 60, whose minimum is firm and no longer open
  pub settle-at-firm : decides 60 (admits 0 ∷ to_day 71 ∷ []) (settles 0 2000000) ≡ covered (pos 2000000)
  pub settle-above-firm : decides 60 (admits 0 ∷ to_day 71 ∷ []) (settles 0 2000001) ≡ called 2000001 2000001 81
  -- ".. and E exceeds every open call": the minimum, open from day 60 to day 70
  pub settle-at-call : decides 60 (admits 0 ∷ []) (settles 0 2000000) ≡ covered (pos 2000000)
  pub settle-above-call : decides 60 (admits 0 ∷ []) (settles 0 2000001) ≡ called 2000001 2000001 70
  pub settle-last-open-day : decides 60 (admits 0 ∷ to_day 70 ∷ []) (settles 0 2000000) ≡ covered (pos 2000000)
  -- "the call would be a fifth open one"
  pub fourth-call : decides 60 (admits 3 ∷ settles 0 100 ∷ settles 0 200 ∷ settles 0 300 ∷ []) (settles 0 400) ≡ called 400 400 70
  pub fifth-call : decides 60 four_calls (settles 0 500) ≡ refused 13
  -- .. one that makes no call is not refused
  pub fifth-covered : decides 60 four_calls (settles 0 400) ≡ covered (pos 400)
  -- .. and on day 71 the four are firm
  pub fifth-later : decides 60 (four_calls ++ to_day 71 ∷ []) (settles 0 500) ≡ called 500 500 81
  pub settle-2-before-12 : decides 60 [] (settles 1 1) ≡ refused 2
  pub settle-12-before-10 : decides 60 (admits 3 ∷ []) (on 0 (settle 1 [])) ≡ refused 12
  pub settle-12-before-11 : decides 60 (admits 3 ∷ []) (settles 1 1000000000001) ≡ refused 12
  pub settle-10-before-11 : decides 60 (admits 3 ∷ []) (on 0 (settle 0 (pos 1000000000001 ∷ []))) ≡ refused 10
  pub settle-11-before-13 : decides 60 four_calls (settles 0 1000000000001) ≡ refused 11
  -- ---- 'Annual run': "1, 2, 14"; 25 behind them, since paper 02, Ask 4, has its facts in `UnderDeletion`
  pub annual-participant : decides 244 [] (on 64 annual_run) ≡ refused 1
  pub annual-not-admitted : decides 244 [] runs_annual ≡ refused 2
  pub annual-2-before-14 : decides 243 [] runs_annual ≡ refused 2
  pub annual-before : decides 243 (admits 2 ∷ []) runs_annual ≡ refused 14
  pub annual-first-day : decides 244 (admits 2 ∷ []) runs_annual ≡ annual 1000000 0
  pub annual-last-day : decides 253 (admits 2 ∷ []) runs_annual ≡ annual 1000000 0
  pub annual-after : decides 254 (admits 2 ∷ []) runs_annual ≡ refused 14
  -- "The largest recorded total of months P − 14 to P − 3": P is 20, September 2021; months 5 and 18 are outside
  pub annual-window :
      decides 274 (admits 3 ∷ settles 5 900 ∷ settles 6 700 ∷ to_day 609 ∷ settles 17 600 ∷ settles 18 800 ∷ []) runs_annual
      ≡ annual 700 2
  -- "E .. is recorded for M, replacing an earlier total", also where no check is due
  pub annual-replaced : decides 244 (admits 3 ∷ settles 5 500 ∷ settles 5 100 ∷ []) runs_annual ≡ annual 100 1
  -- "totals may be negative (a credit)": of −5 and 3 the larger is 3
  pub annual-credit : decides 244 (admits 3 ∷ on 0 (settle 4 credit) ∷ settles 5 3 ∷ []) runs_annual ≡ annual 3 2
  -- .. and not where the settlement was refused with 13
  pub annual-not-recorded : decides 60 (four_calls ++ settles 0 500 ∷ to_day 244 ∷ []) runs_annual ≡ annual 400 1
  -- ---- 'Statement': "1, 2"; opening a day
  pub statement-participant : decides 0 [] (statement 64) ≡ refused 1
  pub statement-not-admitted : decides 0 [] (statement 63) ≡ refused 2
  -- "A minimum above 0 becomes an open call with last free day t + 10": day 10 is free, day 11 is charged
  pub last-free-day : decides 0 (admits 0 ∷ to_day 10 ∷ []) (statement 0) ≡ stated 0 0 0 0 0 1
  pub first-charged-day : decides 0 firm_supplier (statement 0) ≡ stated 2000000 0 2000000 1 100000000 1
  -- "firm amount less cover, never below 0"
  pub no-shortfall : decides 0 (admits 0 ∷ cash 0 2000001 ∷ to_day 11 ∷ []) (statement 0) ≡ stated 2000000 2000001 0 0 0 1
  pub one-cent-short : decides 0 (admits 0 ∷ cash 0 1999999 ∷ to_day 11 ∷ []) (statement 0) ≡ stated 2000000 1999999 1 1 100000000 1
  -- what is lodged today counts from now on, and at the next opening
  pub paid-today : decides 0 (firm_supplier ++ cash 0 2000000 ∷ []) (statement 0) ≡ stated 2000000 2000000 0 1 100000000 1
  pub day-after-payment : decides 0 (firm_supplier ++ cash 0 2000000 ∷ to_day 12 ∷ []) (statement 0) ≡ stated 2000000 2000000 0 1 100000000 1
  -- a letter covers its last day, and not the day after
  pub letter-covers : decides 0 (admits 0 ∷ letter 0 2000000 0 11 ∷ to_day 11 ∷ []) (statement 0) ≡ stated 2000000 2000000 0 0 0 1
  pub letter-no-longer :
      decides 0 (admits 0 ∷ letter 0 2000000 0 11 ∷ to_day 12 ∷ []) (statement 0) ≡ stated 2000000 0 2000000 1 100000000 1
  -- 'Readings that 002 tempts one into': "Letting a new call put off an older one": the minimum of day 60 is firm on day 71, though a call
  -- was made on day 65
  pub not-put-off : decides 60 (admits 0 ∷ to_day 65 ∷ settles 0 3000000 ∷ to_day 71 ∷ []) (statement 0)
      ≡ stated 2000000 0 2000000 1 100000000 2
  -- ".. and the firm amount raised to it if lower": on day 76 to the other
  pub raised : decides 60 (admits 0 ∷ to_day 65 ∷ settles 0 3000000 ∷ to_day 76 ∷ []) (statement 0)
      ≡ stated 3000000 0 3000000 6 600000000 2
  -- "if d is 1 October and the next amount is set, the firm amount becomes it, even if lower": on 30 September 500 is firm, on 1 October 100
  pub before-october : decides 213 (lower_october ++ to_day 273 ∷ []) (statement 0) ≡ stated 500 0 500 50 5000000000 1
  pub on-october : decides 213 (lower_october ++ to_day 274 ∷ []) (statement 0) ≡ stated 100 0 100 51 5100000000 1
  -- ".. and it is unset": a call of 960 in October 2020 is firm on day 285, and still on 1 October 2021, when there is no next amount
  pub taken-once :
      decides 244 (next_of500 ++ cash 0 800 ∷ to_day 274 ∷ settles 7 960 ∷ cash 1 160 ∷ to_day 639 ∷ []) (statement 0)
      ≡ stated 960 960 0 0 0 1
  -- ---- "one count of calls made, admissions' calls included", which since paper 02, Ask 6 is the sum of the counts: `Counts`
  pub none_made : decides 0 (admits 3 ∷ []) calls_made ≡ counted 0
  pub admission-made : decides 0 (admits 0 ∷ []) calls_made ≡ counted 1
  pub settlement-made : decides 60 (admits 0 ∷ settles 0 3000000 ∷ []) calls_made ≡ counted 2
  pub not_made : decides 60 (admits 0 ∷ settles 0 2000000 ∷ []) calls_made ≡ counted 1
  pub participant-63-made : decides 0 (on 63 (admit 0) ∷ []) calls_made ≡ counted 1
