-- The role that is retired, at its bounds and over a life. Paper 02, Ask 3: "The regulator no longer registers Self-Supplied Customers. Files that
-- have the role keep it, their minimum and their annual runs. Only admission changes; a history from a fresh book may still have a first stretch of
-- calls made under the old admission rule, and its figures are read as ever. Answers: 23 role 1 at admission, after 4." What the reading decides of
-- the last call of a short history; `RetirementLaws.{both_behind, both_first}` have the same of the book.
-- Assumes nothing.
use Rattle.std.specs.Prelude.{ℕ, ◌≡◌, List, [], ◌∷◌, ◌++◌, map, pos}
use Rattle.manual.specs.Minimum.{minimum_of}
use Rattle.manual.specs.Charge.{day_charge}
use Rattle.file.specs.Answer.{refused, done, called, covered, recorded, annual, days_opened, stated, counted, batched, refused_pair}
use Rattle.file.specs.Calls.{call_of}
use Rattle.book.specs.Call.{admit, settle, Call, on, advance, statement, calls_made, batch}
use Rattle.book.specs.Reading.Events.{role_in}
use Rattle.book.specs.Reading.Calls.{open_in}
use Rattle.figures.specs.History.{decides, decides_behind, decides_first, happened, own_behind, shortfalls_behind}
use Rattle.figures.specs.History.{admits, cash, letter, releases, settles, runs_annual, to_day}
use Rattle.figures.specs.Decisions.{credit}
use Rattle.figures.specs.Files.{one_of100}

-- The first stretch of a worked life, on day 213, 1 August 2020: participant 0 is admitted with role 1 and lodges €5,000 of its €20,000.
abbrev pub began_in_part : List Call
began_in_part = admits 1 ∷ cash 0 500000 ∷ []

-- The calls since: on day 226 June's total is settled, month 5, and calls; on day 237, when that call is firm, €1,200,000 are lodged; on day 244,
-- 1 September, June is settled again, below the minimum, and the annual run is made.
abbrev pub called_since : List Call
called_since = to_day 226 ∷ settles 5 122000000 ∷ []

abbrev pub paid_since : List Call
paid_since = called_since ++ to_day 237 ∷ cash 1 120000000 ∷ []

abbrev pub september : List Call
september = paid_since ++ to_day 244 ∷ settles 5 1500000 ∷ []

abbrev pub ran_since : List Call
ran_since = september ++ runs_annual ∷ []

-- A first stretch on day 244, 1 September 2020, with June's total, more cash than that, and an annual run of it.
abbrev pub before_run : List Call
before_run = admits 1 ∷ settles 5 3000000 ∷ cash 0 3000001 ∷ []

abbrev pub ran_first : List Call
ran_first = before_run ++ runs_annual ∷ []

pub record Retirement : Type 0 where
  -- ---- "Answers: 23 role 1 at admission": the roles on both sides, and the others
  pub role-0 : decides 0 [] (admits 0) ≡ done
  pub role-1 : decides 0 [] (admits 1) ≡ refused 23
  pub role-2 : decides 0 [] (admits 2) ≡ done
  pub roles-3-to-5 : map (λ (role : ℕ). decides 0 [] (admits role)) (3 ∷ 4 ∷ 5 ∷ []) ≡ done ∷ done ∷ done ∷ []
  pub role-6 : decides 0 [] (admits 6) ≡ refused 4
  pub participant-63 : decides 0 [] (on 63 (admit 1)) ≡ refused 23
  -- .. "the old admission rule": paper 01's causes are 1, 3 and 4
  pub first-role-0 : decides_first 0 [] (admits 0) ≡ done
  pub first-role-1 : decides_first 0 [] (admits 1) ≡ done
  pub first-role-2 : decides_first 0 [] (admits 2) ≡ done
  pub first-roles-3-to-5 : map (λ (role : ℕ). decides_first 0 [] (admits role)) (3 ∷ 4 ∷ 5 ∷ []) ≡ done ∷ done ∷ done ∷ []
  pub first-role-6 : decides_first 0 [] (admits 6) ≡ refused 4
  pub first-participant-63 : decides_first 0 [] (on 63 (admit 1)) ≡ done
  -- ---- ".. after 4", so that an admission's causes are 1, 3, 4, 23; no role is 1 and above 5
  pub admit-1-before-23 : decides 0 [] (on 64 (admit 1)) ≡ refused 1
  pub admit-3-before-23 : decides 0 (admits 3 ∷ []) (admits 1) ≡ refused 3
  -- .. also of a participant that has the role
  pub kept-3-before-23 : decides_behind 0 (admits 1 ∷ []) [] (admits 1) ≡ refused 3
  pub kept-3 : decides_behind 0 (admits 1 ∷ []) [] (admits 0) ≡ refused 3
  pub kept-3-before-4 : decides_behind 0 (admits 1 ∷ []) [] (admits 6) ≡ refused 3
  -- .. in the first stretch
  pub first-1 : decides_first 0 [] (on 64 (admit 1)) ≡ refused 1
  pub first-3 : decides_first 0 (admits 1 ∷ []) (admits 1) ≡ refused 3
  pub first-1-before-4 : decides_first 0 [] (on 64 (admit 6)) ≡ refused 1
  pub first-3-before-4 : decides_first 0 (admits 1 ∷ []) (admits 6) ≡ refused 3
  -- ---- "a first stretch of calls": the calls are told apart by their place, and not by a day. On day 100 participant 0 is admitted by the last call
  -- of the first stretch, and participant 1 isn't by the next one
  pub last-of-first : decides_first 100 [] (admits 1) ≡ done
  pub first-since : decides_behind 100 (admits 1 ∷ []) [] (on 1 (admit 1)) ≡ refused 23
  -- .. today being still day 100: an advance to it opens no day, and one to day 101 opens one
  pub same-day : decides_behind 100 (admits 1 ∷ []) [] (advance 100 9) ≡ days_opened 0
  pub same-day-next : decides_behind 100 (admits 1 ∷ []) [] (advance 101 9) ≡ days_opened 1
  -- .. as a call of the first stretch it is done, on that day and on later ones
  pub still-first : decides_first 100 (admits 1 ∷ []) (on 1 (admit 1)) ≡ done
  pub later-days : decides_first 100 (admits 1 ∷ to_day 130 ∷ []) (on 1 (admit 1)) ≡ done
  pub later-since : decides_behind 100 (admits 1 ∷ to_day 130 ∷ []) [] (on 1 (admit 1)) ≡ refused 23
  -- .. on the calendar's last day a first stretch admits, and on its first one a call since doesn't (`role-1`)
  pub last-day : decides_first 29219 [] (admits 1) ≡ done
  pub last-day-since : decides 29219 [] (admits 1) ≡ refused 23
  -- .. one that was refused is refused again; and an empty first stretch is none
  pub refused-again : decides 0 (admits 1 ∷ []) (admits 1) ≡ refused 23
  pub empty-first : decides_behind 0 [] (admits 1 ∷ []) (statement 0) ≡ refused 2
  -- ---- "Only admission changes": other calls of a first stretch, one of each
  pub first-lodge : decides_first 0 [] (cash 0 1) ≡ refused 2
  pub first-release : decides_first 0 (admits 1 ∷ cash 0 2000001 ∷ []) (releases 0 2) ≡ refused 16
  pub first-advance : decides_first 10 [] (advance 9 100) ≡ refused 17
  pub first-annual : decides_first 243 (admits 1 ∷ []) runs_annual ≡ refused 14
  pub first-statement : decides_first 0 [] (statement 0) ≡ refused 2
  -- .. Ask 2's D: on day 60 a letter until day 70 isn't deposited, and one until day 71 is
  pub first-settle : decides_first 60 (admits 3 ∷ letter 0 100 60 70 ∷ []) (settles 0 100) ≡ called 100 100 70
  pub first-covered : decides_first 60 (admits 3 ∷ letter 0 100 60 71 ∷ []) (settles 0 100) ≡ covered (pos 100)
  -- .. Ask 1's batch, in the first stretch and since
  pub first-batch : decides_first 60 (admits 1 ∷ []) (batch one_of100) ≡ batched 1
  pub first-batch-refused : decides_first 60 [] (batch one_of100) ≡ refused_pair 2 0
  pub kept-batch : decides_behind 60 (admits 1 ∷ []) [] (batch one_of100) ≡ batched 1
  -- ---- a refused admission leaves the participant not admitted, and makes no call
  pub refused-statement : decides 0 (admits 1 ∷ []) (statement 0) ≡ refused 2
  pub refused-lodge : decides 0 (admits 1 ∷ []) (cash 0 1) ≡ refused 2
  pub refused-batch : decides 60 (admits 1 ∷ []) (batch one_of100) ≡ refused_pair 2 0
  pub refused-made : decides 0 (admits 1 ∷ []) calls_made ≡ counted 0
  pub refused-happened : happened 0 (admits 1 ∷ []) ≡ []
  -- .. and free to be admitted with another role: a Trader's minimum, €10,000, is firm on day 11
  pub refused-then : decides 0 (admits 1 ∷ []) (admits 2) ≡ done
  pub refused-then-firm : decides 0 (admits 1 ∷ admits 2 ∷ to_day 11 ∷ []) (statement 0) ≡ stated 1000000 0 1000000 1 100000000 1
  -- ---- "Files that have the role keep it, their minimum": €20,000, an open call of day 213 with last free day t + 10, day 223
  pub made : decides_first 213 (admits 1 ∷ []) calls_made ≡ counted 1
  pub made-since : decides_behind 213 began_in_part [] calls_made ≡ counted 1
  pub two_made : decides_behind 213 (admits 1 ∷ on 1 (admit 1) ∷ []) [] calls_made ≡ counted 2
  pub open-call : open_in 213 (own_behind 0 213 began_in_part []) ≡ call_of 2000000 223 ∷ []
  pub open-last-day : open_in 223 (own_behind 0 213 began_in_part (to_day 223 ∷ [])) ≡ call_of 2000000 223 ∷ []
  pub open-no-longer : open_in 224 (own_behind 0 213 began_in_part (to_day 224 ∷ [])) ≡ []
  pub role_kept : role_in (own_behind 0 213 began_in_part ran_since) ≡ 1
  -- "the cover left today must be at least the largest of .. all open calls": 2,000,000 of 2,000,001, and 1,999,999
  pub release-left : decides_behind 213 (admits 1 ∷ cash 0 2000001 ∷ []) [] (releases 0 1) ≡ done
  pub release-short : decides_behind 213 (admits 1 ∷ cash 0 2000001 ∷ []) [] (releases 0 2) ≡ refused 16
  pub release-in-part : decides_behind 213 began_in_part [] (releases 0 1) ≡ refused 16
  -- .. the firm amount, on day 224
  pub release-firm-left : decides_behind 213 (admits 1 ∷ cash 0 2000001 ∷ []) (to_day 224 ∷ []) (releases 0 1) ≡ done
  pub release-firm-short : decides_behind 213 (admits 1 ∷ cash 0 2000001 ∷ []) (to_day 224 ∷ []) (releases 0 2) ≡ refused 16
  -- ---- "its figures are read as ever": the worked life, by its six figures. €5,000 are lodged; day 223 is free, and on day 224 2,000,000 is firm,
  -- with a shortfall of 2,000,000 − 500,000 = 1,500,000, whose day charge is the least one, 100,000,000 mills
  pub began : decides_behind 213 began_in_part [] (statement 0) ≡ stated 0 500000 0 0 0 1
  pub last-free-day : decides_behind 213 began_in_part (to_day 223 ∷ []) (statement 0) ≡ stated 0 500000 0 0 0 1
  pub first-charged-day : decides_behind 213 began_in_part (to_day 224 ∷ []) (statement 0) ≡ stated 2000000 500000 1500000 1 100000000 1
  -- .. the days 224, 225 and 226: 3 × 100,000,000
  pub third-charged-day : decides_behind 213 began_in_part (to_day 226 ∷ []) (statement 0) ≡ stated 2000000 500000 1500000 3 300000000 1
  -- .. had the rest been lodged then, day 227 would cost nothing
  pub had-it-paid : decides_behind 213 began_in_part (to_day 226 ∷ cash 1 1500000 ∷ to_day 227 ∷ []) (statement 0)
      ≡ stated 2000000 2000000 0 3 300000000 1
  -- On day 226, in August, June is P − 2. "A call is made when E > D, 5 × E ≥ 6 × D, E exceeds the firm amount and E exceeds every open call": D is
  -- 500,000, 2,000,000 is firm and no call is open; asked 122,000,000 − 500,000, last free day 236
  pub settle-at-firm : decides_behind 213 began_in_part (to_day 226 ∷ []) (settles 5 2000000) ≡ covered (pos 2000000)
  pub settle-above-firm : decides_behind 213 began_in_part (to_day 226 ∷ []) (settles 5 2000001) ≡ called 2000001 1500001 236
  pub settle-calls : decides_behind 213 began_in_part (to_day 226 ∷ []) (settles 5 122000000) ≡ called 122000000 121500000 236
  pub settle-made : decides_behind 213 began_in_part called_since calls_made ≡ counted 2
  -- .. the days 224 to 236 are thirteen, of 100,000,000 each; on day 237 the shortfall is 122,000,000 − 500,000 = 121,500,000, and so is the day
  -- charge in mills: 1,300,000,000 + 121,500,000
  pub before-firm : decides_behind 213 began_in_part (called_since ++ to_day 236 ∷ []) (statement 0) ≡ stated 2000000 500000 1500000 13 1300000000 2
  pub called-firm : decides_behind 213 began_in_part (called_since ++ to_day 237 ∷ []) (statement 0)
      ≡ stated 122000000 500000 121500000 14 1421500000 2
  -- .. €1,200,000 lodged on day 237 leave 122,000,000 − 120,500,000 = 1,500,000 short; day 238 adds 100,000,000
  pub paid-today : decides_behind 213 began_in_part paid_since (statement 0) ≡ stated 122000000 120500000 1500000 14 1421500000 2
  pub day-after : decides_behind 213 began_in_part (paid_since ++ to_day 238 ∷ []) (statement 0)
      ≡ stated 122000000 120500000 1500000 15 1521500000 2
  -- A check on day 237: D is 120,500,000, and 5 × 144,600,000 = 723,000,000 = 6 × D; asked 24,100,000, last free day 247
  pub settle-covered : decides_behind 213 began_in_part paid_since (settles 5 144599999) ≡ covered (pos 144599999)
  pub settle-at-20 : decides_behind 213 began_in_part paid_since (settles 5 144600000) ≡ called 144600000 24100000 247
  -- .. the opening shortfalls of the days 223 to 226 and 236 to 238, and the day charges of their three amounts
  pub day-by-day : shortfalls_behind 213 began_in_part (paid_since ++ to_day 238 ∷ []) (223 ∷ 224 ∷ 225 ∷ 226 ∷ 236 ∷ 237 ∷ 238 ∷ [])
      ≡ 0 ∷ 1500000 ∷ 1500000 ∷ 1500000 ∷ 1500000 ∷ 121500000 ∷ 1500000 ∷ []
  pub day-charges : map day_charge (0 ∷ 1500000 ∷ 121500000 ∷ []) ≡ 0 ∷ 100000000 ∷ 121500000 ∷ []
  -- ---- ".. and their annual runs". In the worked life June's 122,000,000 is the largest total. In September June is P − 3, so
  -- that 1,500,000 replaces it without a check, recorded only (P − 2 isn't checked in a September either); then the run's amount is the minimum
  pub annual-largest : decides_behind 213 began_in_part (paid_since ++ to_day 244 ∷ []) runs_annual ≡ annual 122000000 1
  pub annual-recorded : decides_behind 213 began_in_part (paid_since ++ to_day 244 ∷ []) (settles 5 1500000) ≡ recorded (pos 1500000)
  pub annual-raised : decides_behind 213 began_in_part september runs_annual ≡ annual 2000000 1
  -- .. the days 224 to 273 are fifty, day 237 of 121,500,000 and 49 of 100,000,000: 5,021,500,000. On day 274, 1 October, "the firm amount becomes
  -- it, even if lower"
  pub before-october : decides_behind 213 began_in_part (ran_since ++ to_day 273 ∷ []) (statement 0)
      ≡ stated 122000000 120500000 1500000 50 5021500000 2
  pub on-october : decides_behind 213 began_in_part (ran_since ++ to_day 274 ∷ []) (statement 0) ≡ stated 2000000 120500000 0 50 5021500000 2
  -- .. and 118,500,000 of the 120,500,000 may be released
  pub october-left : decides_behind 213 began_in_part (ran_since ++ to_day 274 ∷ []) (releases 1 118500000) ≡ done
  pub october-short : decides_behind 213 began_in_part (ran_since ++ to_day 274 ∷ []) (releases 1 118500001) ≡ refused 16
  -- "the minimum if none is recorded", from 1 to 10 September, the days 244 to 253, of a participant admitted on 31 August
  pub annual-before : decides_behind 243 (admits 1 ∷ []) [] runs_annual ≡ refused 14
  pub annual-first-day : decides_behind 243 (admits 1 ∷ []) (to_day 244 ∷ []) runs_annual ≡ annual 2000000 0
  pub annual-last-day : decides_behind 243 (admits 1 ∷ []) (to_day 253 ∷ []) runs_annual ≡ annual 2000000 0
  pub annual-after : decides_behind 243 (admits 1 ∷ []) (to_day 254 ∷ []) runs_annual ≡ refused 14
  -- .. and the September after, day 609
  pub annual-next-year : decides_behind 243 (admits 1 ∷ []) (to_day 609 ∷ []) runs_annual ≡ annual 2000000 0
  -- "raised to the role's minimum if below it": May's and June's totals, a credit; one above it isn't
  pub annual-below : decides_behind 244 (admits 1 ∷ []) (settles 4 1 ∷ settles 5 1999999 ∷ []) runs_annual ≡ annual 2000000 2
  pub annual-credit : decides_behind 244 (admits 1 ∷ []) (on 0 (settle 4 credit) ∷ []) runs_annual ≡ annual 2000000 1
  pub annual-above : decides_behind 244 (admits 1 ∷ []) (settles 4 1 ∷ settles 5 2000001 ∷ []) runs_annual ≡ annual 2000001 2
  -- A month that was recorded in the first stretch, and an annual run that was made there: its 3,000,000 are the next amount since
  pub annual-of-first : decides_first 244 before_run runs_annual ≡ annual 3000000 1
  pub annual-of-first-month : decides_behind 244 before_run [] runs_annual ≡ annual 3000000 1
  pub next-left : decides_behind 244 ran_first [] (releases 0 1) ≡ done
  pub next-short : decides_behind 244 ran_first [] (releases 0 2) ≡ refused 16
  -- .. the minimum is firm from day 255 on, and on 1 October the next amount
  pub next-september : decides_behind 244 ran_first (to_day 273 ∷ []) (statement 0) ≡ stated 2000000 3000001 0 0 0 1
  pub next-october : decides_behind 244 ran_first (to_day 274 ∷ []) (statement 0) ≡ stated 3000000 3000001 0 0 0 1
  -- .. unless one since replaces it
  pub next-replaced : decides_behind 244 ran_first (settles 5 2500000 ∷ []) runs_annual ≡ annual 2500000 1
  pub next-replaced-october : decides_behind 244 ran_first (settles 5 2500000 ∷ runs_annual ∷ to_day 274 ∷ []) (statement 0)
      ≡ stated 2500000 3000001 0 0 0 1
  -- ---- Roles 0 and 1 are otherwise alike: "0 Supplier and 1 Self-Supplied Customer €20,000"
  pub same-minimum : minimum_of 1 ≡ minimum_of 0
  pub minimum-1 : minimum_of 1 ≡ 2000000
