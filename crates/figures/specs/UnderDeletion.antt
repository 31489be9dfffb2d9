-- Participants under deletion over their lives, to mid October and later. Paper 02, Ask 4: "These calls stand in demand 3's list, and the participant's
-- figures over its life follow them like any others." "The annual run no longer takes such a file; a next amount already set stays." What the reading
-- decides of the last call of a short history; `Decisions.both` has the same of the book.
-- Assumes nothing.
use Rattle.std.specs.Prelude.{◌≡◌, true, false, List, [], ◌∷◌, ◌++◌, pos}
use Rattle.file.specs.Answer.{refused, done, called, covered, recorded, annual, stated, counted, deletion}
use Rattle.file.specs.Calls.{call_of}
use Rattle.book.specs.Call.{admit, annual_run, Call, on, statement, calls_made}
use Rattle.book.specs.Reading.Calls.{open_in}
use Rattle.figures.specs.History.{decides, happened_to, shortfalls}
use Rattle.figures.specs.History.{admits, cash, releases, settles, runs_annual, deletes, to_day}
use Rattle.figures.specs.Deletions.{four_months, higher_next, leaves_on, called_high}

-- A worked September, of a Producer: on day 244, 1 September 2020, June's €1,000,000 and July's €1,600,000 are recorded, and the annual run sets June's
-- as the next amount, since July is P − 2.
abbrev pub lower_next : List Call
lower_next = admits 3 ∷ settles 5 100000000 ∷ settles 6 160000000 ∷ runs_annual ∷ []

-- The same of a Producer with June's €1,000,000 alone, of which the annual run and the deletion are.
abbrev pub equal_next : List Call
equal_next = admits 3 ∷ settles 5 100000000 ∷ runs_annual ∷ []

pub record UnderDeletion : Type 0 where
  -- "an open call with last free day t + 10": firm, and charged, from day t + 11 on
  pub last-free-day : decides 244 (four_months ++ deletes ∷ to_day 254 ∷ []) (statement 0) ≡ stated 0 0 0 0 0 1
  pub first-charged-day : decides 244 (four_months ++ deletes ∷ to_day 255 ∷ []) (statement 0) ≡ stated 700 0 700 1 100000000 1
  pub paid : decides 244 (four_months ++ deletes ∷ to_day 254 ∷ cash 0 700 ∷ to_day 255 ∷ []) (statement 0) ≡ stated 700 700 0 0 0 1
  -- .. without a next amount also on 1 October, day 274: one of 20 September, day 263, is firm then
  pub firm-on-october : decides 244 (four_months ++ leaves_on 263 ++ to_day 274 ∷ []) (statement 0) ≡ stated 700 0 700 1 100000000 1
  -- The statement is as it was before, also with figures that aren't 0; and nobody under deletion is admitted anew
  pub stated-before : decides 233 (admits 0 ∷ to_day 244 ∷ settles 6 2000001 ∷ []) (statement 0) ≡ stated 2000000 0 2000000 1 100000000 1
  pub stated-after : decides 233 (admits 0 ∷ to_day 244 ∷ settles 6 2000001 ∷ deletes ∷ []) (statement 0) ≡ stated 2000000 0 2000000 1 100000000 2
  pub not-admitted-again : decides 213 (admits 3 ∷ deletes ∷ []) (admits 3) ≡ refused 3
  -- .. whatever is settled after it of the month that it was of
  pub lower-after : decides 244 (four_months ++ deletes ∷ settles 2 1 ∷ to_day 255 ∷ []) (statement 0) ≡ stated 700 0 700 1 100000000 1
  pub higher-after : decides 244 (four_months ++ deletes ∷ settles 2 9999 ∷ to_day 255 ∷ []) (statement 0) ≡ stated 700 0 700 1 100000000 1
  -- .. and kept by the release rule meanwhile
  pub release-left : decides 244 (four_months ++ cash 0 701 ∷ deletes ∷ []) (releases 0 1) ≡ done
  pub release-short : decides 244 (four_months ++ cash 0 701 ∷ deletes ∷ []) (releases 0 2) ≡ refused 16
  -- ---- "The annual run no longer takes such a file .. 25 annual run for such a file, after 14": 1, 2, 14, 25
  pub no-annual-run : decides 244 (admits 3 ∷ deletes ∷ []) runs_annual ≡ refused 25
  pub no-annual-run-later : decides 213 (admits 3 ∷ deletes ∷ to_day 253 ∷ []) runs_annual ≡ refused 25
  pub fourteen-before-25 : decides 213 (admits 3 ∷ deletes ∷ to_day 243 ∷ []) runs_annual ≡ refused 14
  pub fourteen-behind : decides 244 (admits 3 ∷ deletes ∷ to_day 254 ∷ []) runs_annual ≡ refused 14
  pub no-annual-run-next-year : decides 244 (admits 3 ∷ deletes ∷ to_day 609 ∷ []) runs_annual ≡ refused 25
  pub no-annual-run-in-2022 : decides 244 (admits 3 ∷ deletes ∷ to_day 974 ∷ []) runs_annual ≡ refused 25
  -- .. and sets no next amount: the 700 stay firm on 1 October, day 274, the twentieth charged day, and January's 900 doesn't become firm
  pub sets-none : decides 244 (four_months ++ deletes ∷ runs_annual ∷ to_day 274 ∷ []) (statement 0) ≡ stated 700 0 700 20 2000000000 1
  pub two-before-25 : decides 244 (admits 3 ∷ deletes ∷ []) (on 1 annual_run) ≡ refused 2
  pub annual-of-another : decides 244 (admits 3 ∷ on 1 (admit 2) ∷ deletes ∷ []) (on 1 annual_run) ≡ annual 1000000 0
  -- "a next amount already set stays": 100,000,000 must be left in September, above the call of 60,000,000 ..
  pub next-kept : decides 244 (higher_next ++ cash 0 100000001 ∷ leaves_on 263) (releases 0 1) ≡ done
  pub next-kept-short : decides 244 (higher_next ++ cash 0 100000001 ∷ leaves_on 263) (releases 0 2) ≡ refused 16
  -- .. and are firm on 1 October, when a call of 20 September has ended; one of 21 September is open, and its 160,000,000 must be left
  pub next-left : decides 244 (lower_next ++ cash 0 160000001 ∷ leaves_on 263 ++ to_day 274 ∷ []) (releases 0 60000001) ≡ done
  pub next-short : decides 244 (lower_next ++ cash 0 160000001 ∷ leaves_on 263 ++ to_day 274 ∷ []) (releases 0 60000002) ≡ refused 16
  pub call-left : decides 244 (lower_next ++ cash 0 160000001 ∷ leaves_on 264 ++ to_day 274 ∷ []) (releases 0 1) ≡ done
  pub call-short : decides 244 (lower_next ++ cash 0 160000001 ∷ leaves_on 264 ++ to_day 274 ∷ []) (releases 0 2) ≡ refused 16
  -- ---- The worked September. "R ≤ last free day < d": a call of 20 September, day 263, has last free day R − 1, day 273, and is gone when the next amount
  -- comes on 1 October, day 274: 100,000,000 are firm, and short. To 11 October, day 284, eleven days of 100,000,000 mills, and fifteen to 15 October
  pub placed-20 : decides 244 (lower_next ++ to_day 263 ∷ []) deletes ≡ deletion 160000000 true
  pub before-october-20 : decides 244 (lower_next ++ leaves_on 263 ++ to_day 273 ∷ []) (statement 0) ≡ stated 0 0 0 0 0 1
  pub on-october-20 : decides 244 (lower_next ++ leaves_on 263 ++ to_day 274 ∷ []) (statement 0) ≡ stated 100000000 0 100000000 1 100000000 1
  pub open-on-october-20 : open_in 274 (happened_to 0 244 (lower_next ++ leaves_on 263 ++ to_day 274 ∷ [])) ≡ []
  pub mid-october-20 : decides 244 (lower_next ++ leaves_on 263 ++ to_day 284 ∷ []) (statement 0) ≡ stated 100000000 0 100000000 11 1100000000 1
  pub october-15-of-20 : decides 244 (lower_next ++ leaves_on 263 ++ to_day 288 ∷ []) (statement 0) ≡ stated 100000000 0 100000000 15 1500000000 1
  -- .. of 21 September, day 264, last free day R: open on 1 October, and firm from day 275 on. 100,000,000 mills for day 274, then ten days of
  -- 160,000,000: 1,700,000,000, and fourteen to 15 October: 2,340,000,000
  pub placed-21 : decides 244 (lower_next ++ to_day 264 ∷ []) deletes ≡ deletion 160000000 true
  pub on-october-21 : decides 244 (lower_next ++ leaves_on 264 ++ to_day 274 ∷ []) (statement 0) ≡ stated 100000000 0 100000000 1 100000000 1
  pub open-on-october-21 : open_in 274 (happened_to 0 244 (lower_next ++ leaves_on 264 ++ to_day 274 ∷ [])) ≡ call_of 160000000 274 ∷ []
  pub second-october-21 : decides 244 (lower_next ++ leaves_on 264 ++ to_day 275 ∷ []) (statement 0) ≡ stated 160000000 0 160000000 2 260000000 1
  pub mid-october-21 : decides 244 (lower_next ++ leaves_on 264 ++ to_day 284 ∷ []) (statement 0) ≡ stated 160000000 0 160000000 11 1700000000 1
  pub day-by-day-21 : shortfalls 244 (lower_next ++ leaves_on 264 ++ to_day 284 ∷ []) (273 ∷ 274 ∷ 275 ∷ 284 ∷ []) ≡ 0 ∷ 100000000 ∷ 160000000 ∷ 160000000 ∷ []
  pub october-15-of-21 : decides 244 (lower_next ++ leaves_on 264 ++ to_day 288 ∷ []) (statement 0) ≡ stated 160000000 0 160000000 15 2340000000 1
  -- .. of 30 September, day 273, last free day R + 9, day 283: ten days of 100,000,000, then one of 160,000,000, and five to 15 October
  pub tenth-october-30 : decides 244 (lower_next ++ leaves_on 273 ++ to_day 283 ∷ []) (statement 0) ≡ stated 100000000 0 100000000 10 1000000000 1
  pub mid-october-30 : decides 244 (lower_next ++ leaves_on 273 ++ to_day 284 ∷ []) (statement 0) ≡ stated 160000000 0 160000000 11 1160000000 1
  pub october-15-of-30 : decides 244 (lower_next ++ leaves_on 273 ++ to_day 288 ∷ []) (statement 0) ≡ stated 160000000 0 160000000 15 1800000000 1
  -- .. 60,000,000 below a next amount of 100,000,000: on 1 October the open call is below the firm amount, and where it ends it raises nothing
  pub higher-on-october : decides 244 (higher_next ++ leaves_on 264 ++ to_day 274 ∷ []) (statement 0) ≡ stated 100000000 0 100000000 1 100000000 1
  pub higher-open : open_in 274 (happened_to 0 244 (higher_next ++ leaves_on 264 ++ to_day 274 ∷ [])) ≡ call_of 60000000 274 ∷ []
  pub higher-not-raised : decides 244 (higher_next ++ leaves_on 264 ++ to_day 275 ∷ []) (statement 0) ≡ stated 100000000 0 100000000 2 200000000 1
  -- .. of 30 September, open to 10 October, day 283: the last day on which an open call may be below the firm amount
  pub higher-open-30 : open_in 283 (happened_to 0 244 (higher_next ++ leaves_on 273 ++ to_day 283 ∷ [])) ≡ call_of 60000000 283 ∷ []
  pub higher-not-raised-30 : decides 244 (higher_next ++ leaves_on 273 ++ to_day 284 ∷ []) (statement 0) ≡ stated 100000000 0 100000000 11 1100000000 1
  -- .. and one of the next amount itself, which is at the firm amount
  pub equal-on-october : decides 244 (equal_next ++ leaves_on 264 ++ to_day 274 ∷ []) (statement 0) ≡ stated 100000000 0 100000000 1 100000000 1
  pub equal-open : open_in 274 (happened_to 0 244 (equal_next ++ leaves_on 264 ++ to_day 274 ∷ [])) ≡ call_of 100000000 274 ∷ []
  pub higher-closed : open_in 275 (happened_to 0 244 (higher_next ++ leaves_on 264 ++ to_day 275 ∷ [])) ≡ []
  -- ---- Settlements are still checked: August, month 7, on 1 October. Above the firm amount of 100,000,000 and not above the open call of 160,000,000;
  -- above the open call of 60,000,000 and not above the firm amount; above both, which is then the second open call
  pub settle-below-call : decides 244 (lower_next ++ leaves_on 264 ++ to_day 274 ∷ []) (settles 7 160000000) ≡ covered (pos 160000000)
  pub settle-above-call : decides 244 (lower_next ++ leaves_on 264 ++ to_day 274 ∷ []) (settles 7 160000001) ≡ called 160000001 160000001 284
  pub settle-below-firm : decides 244 (higher_next ++ leaves_on 264 ++ to_day 274 ∷ []) (settles 7 100000000) ≡ covered (pos 100000000)
  pub settle-above-firm : decides 244 (higher_next ++ leaves_on 264 ++ to_day 274 ∷ []) (settles 7 100000001) ≡ called 100000001 100000001 284
  pub settle-second : open_in 274 (happened_to 0 244 (higher_next ++ leaves_on 264 ++ to_day 274 ∷ settles 7 100000001 ∷ []))
      ≡ call_of 60000000 274 ∷ call_of 100000001 284 ∷ []
  -- .. with no call open: on the day of the deletion, June's 100, and 119 with 100 in cash, which is within the tolerance; September's 160,000,001 on
  -- 1 November, day 305, where the deletion's call is firm. None in September, as for anybody
  pub settle-same-day : decides 213 (admits 3 ∷ deletes ∷ []) (settles 5 100) ≡ called 100 100 223
  pub settle-tolerance : decides 213 (admits 3 ∷ cash 0 100 ∷ deletes ∷ []) (settles 5 119) ≡ covered (pos 119)
  pub settle-november : decides 244 (lower_next ++ leaves_on 264 ++ to_day 305 ∷ []) (settles 8 160000001) ≡ called 160000001 160000001 315
  pub settle-september : decides 244 (four_months ++ deletes ∷ []) (settles 6 9999) ≡ recorded (pos 9999)
  pub settle-september-made : decides 244 (four_months ++ deletes ∷ settles 6 9999 ∷ []) calls_made ≡ counted 1
  -- ---- A deletion in August: no annual run, so that nothing takes effect on 1 October. May's 50,000,000 are firm from day 224 on; to 1 October, day 274,
  -- 51 days of 100,000,000 mills
  pub august-called : decides 213 (admits 3 ∷ settles 4 50000000 ∷ []) deletes ≡ deletion 50000000 true
  pub august-october : decides 213 (admits 3 ∷ settles 4 50000000 ∷ deletes ∷ to_day 274 ∷ []) (statement 0) ≡ stated 50000000 0 50000000 51 5100000000 1
  -- .. one that was called for more keeps that firm amount; the same that isn't leaving is let down by its annual run
  pub august-uncalled : decides 213 called_high deletes ≡ deletion 10000000 false
  pub august-stays : decides 213 (called_high ++ deletes ∷ to_day 274 ∷ []) (statement 0) ≡ stated 80000000 0 80000000 51 5100000000 1
  pub august-falls : decides 213 (called_high ++ to_day 244 ∷ runs_annual ∷ to_day 274 ∷ []) (statement 0) ≡ stated 10000000 0 10000000 51 5100000000 1
