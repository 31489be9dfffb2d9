-- D of a check at its bounds. Paper 02, Ask 2: "From now on D in the check is the amount in force today that will still be in force on day t + 11. A
-- letter that starts later doesn't count. The release rule and the day charge keep today's cover." What the reading decides of the last call of a
-- short history; `Decisions.both` has the same of the book.
-- Assumes nothing.
use Rattle.std.specs.Prelude.{ℕ, ◌≡◌, true, false, List, [], ◌∷◌, pos, negsuc}
use Rattle.file.specs.declared.Position.TheVariants.{Empty, Cash}
use Rattle.file.specs.Answer.{refused, done, called, covered, stated, counted}
use Rattle.book.specs.Call.{settle, Call, on, statement, calls_made}
use Rattle.book.specs.Reading.Holdings.{stays_in_force}
use Rattle.figures.specs.History.{decides, admits, cash, letter, releases, settles, to_day}
use Rattle.figures.specs.Positions.{letter_with}
use Rattle.figures.specs.Decisions.{credit}

-- A Producer that was called for this amount on day 60, 1 March 2020, and paid it in cash: on day 71 it is firm, and no call is open.
abbrev pub paid : ℕ → List Call
paid d = admits 3 ∷ settles 0 d ∷ cash 0 d ∷ to_day 71 ∷ []

-- A Producer with a letter of 1,000 from day 60 to this one, and four totals of January, the last of them 400.
abbrev pub four_totals : ℕ → List Call
four_totals last = admits 3 ∷ letter 0 1000 60 last ∷ settles 0 100 ∷ settles 0 200 ∷ settles 0 300 ∷ settles 0 400 ∷ []

-- Of day 60 January, month 0, is P − 2; t + 11 is day 71.
pub record Deposits : Type 0 where
  -- ---- "A letter with three days left counted as deposited in a check, so no call went out"
  pub three-days-left : decides 60 (admits 3 ∷ letter 0 100 50 63 ∷ []) (settles 0 100) ≡ called 100 100 70
  -- a letter of three days; one far above E, so that the cover today is too
  pub three-days : decides 60 (admits 3 ∷ letter 0 100 60 62 ∷ []) (settles 0 100) ≡ called 100 100 70
  pub cover-above : decides 60 (admits 3 ∷ letter 0 500 60 62 ∷ []) (settles 0 100) ≡ called 100 100 70
  -- "still be in force on day t + 11": letters whose last day is t + 11 and t + 10, beside cash; D is 100 and 40
  pub last-t-11 : decides 60 (admits 3 ∷ cash 0 40 ∷ letter 1 60 60 71 ∷ []) (settles 0 119) ≡ covered (pos 119)
  pub last-t-11-at-20 : decides 60 (admits 3 ∷ cash 0 40 ∷ letter 1 60 60 71 ∷ []) (settles 0 120) ≡ called 120 20 70
  pub last-t-10 : decides 60 (admits 3 ∷ cash 0 40 ∷ letter 1 60 60 70 ∷ []) (settles 0 119) ≡ called 119 79 70
  -- "asked E − D": 80, where E less the cover today is 20
  pub asked-more : decides 60 (admits 3 ∷ cash 0 40 ∷ letter 1 60 60 70 ∷ []) (settles 0 120) ≡ called 120 80 70
  -- "A letter that starts later doesn't count": one from today on does
  pub from-today : decides 60 (admits 3 ∷ letter 0 100 60 99 ∷ []) (settles 0 100) ≡ covered (pos 100)
  pub from-tomorrow : decides 60 (admits 3 ∷ letter 0 100 61 99 ∷ []) (settles 0 100) ≡ called 100 100 70
  -- .. so D is not the smaller of two covers: each of the days 60 and 71 has a cover of 100, by another letter
  pub not-the-smaller : decides 60 (admits 3 ∷ letter 0 100 60 70 ∷ letter 1 100 61 99 ∷ []) (settles 0 100) ≡ called 100 100 70
  -- t + 11 past the calendar, whose last day is 29,219: from day 29,209 on no letter counts, and cash still does; October 2099, month 957, is P − 2
  pub day-29208 : decides 29208 (admits 3 ∷ letter 0 100 29208 29219 ∷ []) (settles 957 100) ≡ covered (pos 100)
  pub day-29209 : decides 29209 (admits 3 ∷ letter 0 100 29208 29219 ∷ []) (settles 957 100) ≡ called 100 100 29219
  pub cash-on-29219 : decides 29219 (admits 3 ∷ cash 0 100 ∷ []) (settles 957 100) ≡ covered (pos 100)
  -- ---- "lodgings less .. releases, by the dates, a release of a letter taking that letter's dates"
  pub letter-released : decides 60 (admits 3 ∷ cash 0 40 ∷ letter 1 60 60 71 ∷ releases 1 60 ∷ []) (settles 0 48) ≡ called 48 8 70
  -- .. one that didn't count takes nothing with it
  pub short-letter-released : decides 60 (admits 3 ∷ cash 0 100 ∷ letter 1 60 60 70 ∷ releases 1 60 ∷ []) (settles 0 100) ≡ covered (pos 100)
  pub cash-released : decides 60 (admits 3 ∷ cash 0 100 ∷ releases 0 60 ∷ []) (settles 0 48) ≡ called 48 8 70
  -- ---- "The reading of the history takes the new D for whether a settlement called": the calls made, cause 13 and the firm amount
  pub made : decides 60 (admits 3 ∷ letter 0 100 60 70 ∷ settles 0 100 ∷ []) calls_made ≡ counted 1
  pub not_made : decides 60 (admits 3 ∷ letter 0 100 60 71 ∷ settles 0 100 ∷ []) calls_made ≡ counted 0
  pub fifth-call : decides 60 (four_totals 70) (settles 0 500) ≡ refused 13
  pub no-fifth-call : decides 60 (four_totals 71) (settles 0 500) ≡ covered (pos 500)
  pub firm : decides 60 (admits 3 ∷ letter 0 100 60 70 ∷ settles 0 100 ∷ to_day 71 ∷ []) (statement 0) ≡ stated 100 0 100 1 100000000 1
  pub not-firm : decides 60 (admits 3 ∷ letter 0 100 60 71 ∷ settles 0 100 ∷ to_day 71 ∷ []) (statement 0) ≡ stated 0 100 0 0 0 0
  -- ---- "The release rule and the day charge keep today's cover", and so does a statement: a letter until today counts
  pub release-rule : decides 60 (admits 0 ∷ letter 0 2000000 60 60 ∷ cash 1 1 ∷ []) (releases 1 1) ≡ done
  pub cover-today : decides 60 (admits 3 ∷ letter 0 100 60 60 ∷ []) (statement 0) ≡ stated 0 100 0 0 0 0
  pub not-charged : decides 60 (admits 0 ∷ letter 0 2000000 60 71 ∷ to_day 71 ∷ []) (statement 0) ≡ stated 2000000 2000000 0 0 0 1
  -- ---- "the starred check figures hold for cash": "In the checks the firm amount is D and no call is open."
  pub starred-covered : decides 60 (paid 77372900) (settles 0 75446400) ≡ covered (pos 75446400)
  pub starred-called : decides 60 (paid 77372900) (settles 0 93679500) ≡ called 93679500 16306600 81
  pub starred-at-20 : decides 60 (paid 1000000) (settles 0 1200000) ≡ called 1200000 200000 81
  pub starred-below-20 : decides 60 (paid 1000000) (settles 0 1199999) ≡ covered (pos 1199999)
  pub starred-none : decides 60 (admits 3 ∷ []) (settles 0 0) ≡ covered (pos 0)
  pub starred-credit : decides 60 (admits 3 ∷ []) (on 0 (settle 0 credit)) ≡ covered (negsuc 4)
  -- ---- whether a position counts on day 10: its last day is t + 11, day 21, or one less; it begins today or tomorrow
  pub stays-to-t-11 : stays_in_force 10 (letter_with 5 10 21) ≡ true
  pub stays-to-t-10 : stays_in_force 10 (letter_with 5 10 20) ≡ false
  pub stays-begun : stays_in_force 10 (letter_with 5 0 29219) ≡ true
  pub stays-from-tomorrow : stays_in_force 10 (letter_with 5 11 29219) ≡ false
  pub stays-none : stays_in_force 10 Empty ≡ false
  -- .. on the last days of the calendar: cash does, and no letter from day 29,209 on
  pub stays-29208 : stays_in_force 29208 (letter_with 5 0 29219) ≡ true
  pub stays-29209 : stays_in_force 29209 (letter_with 5 0 29219) ≡ false
  pub stays-cash : stays_in_force 29219 (Cash 5) ≡ true
