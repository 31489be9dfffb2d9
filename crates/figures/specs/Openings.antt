-- Which openings change more of a file than its charges, and the charges after the others, at their bounds (paper 01, 'Advance'; paper 02, Ask 5).
-- Assumes nothing.
use Rattle.std.specs.Prelude.{ℕ, suc, ◌≡◌, true, false, List, [], ◌∷◌, map, length}
use Rattle.file.specs.declared.Position.{Position}
use Rattle.file.specs.declared.Position.TheVariants.{Empty, Cash}
use Rattle.file.specs.declared.OpenCall.{OpenCall}
use Rattle.file.specs.declared.NextAmount.{NextAmount}
use Rattle.file.specs.declared.File.{File}
use Rattle.file.specs.Position.{slot_of}
use Rattle.file.specs.Calls.{call_of, in_places}
use Rattle.file.specs.Fields.{unset, set_to}
use Rattle.file.specs.Charges.{changes_on, charges_after}
use Rattle.figures.specs.Positions.{letter_with}

-- An admitted Producer's file with this firm amount, these positions, these open calls and this next amount, charged for two days; besides the open
-- calls one was made, that of the firm amount.
abbrev pub with_parts : ℕ → List Position → List OpenCall → NextAmount → File
with_parts firm positions calls next =
    record {
      admitted = true;
      leaving = false;
      role = 3;
      firm = firm;
      slots = map slot_of positions;
      calls = in_places calls;
      count = length calls;
      next = next;
      totals = [];
      charged = 2;
      accrued = 250000000;
      made = suc (length calls);
    }

-- .. with these positions alone, and with these open calls alone.
abbrev pub with_positions : List Position → File
with_positions positions = with_parts 100 positions [] unset

abbrev pub with_open_calls : List OpenCall → File
with_open_calls calls = with_parts 100 [] calls unset

-- .. with this next amount alone.
abbrev pub with_next_amount : NextAmount → File
with_next_amount next = with_parts 100 [] [] next

pub record Openings : Type 0 where
  pub nothing : changes_on 639 (with_parts 100 (Empty ∷ Cash 5 ∷ []) [] unset) ≡ false
  -- "letters with last day before d are emptied"
  pub on-its-last-day : changes_on 20 (with_positions (letter_with 5 10 20 ∷ [])) ≡ false
  pub after-its-last-day : changes_on 21 (with_positions (letter_with 5 10 20 ∷ [])) ≡ true
  pub another-position : changes_on 21 (with_positions (Cash 5 ∷ letter_with 5 10 21 ∷ letter_with 5 10 20 ∷ [])) ≡ true
  -- .. one that begins changes nothing of the file
  pub on-its-first-day : changes_on 10 (with_positions (letter_with 5 10 20 ∷ [])) ≡ false
  -- "each open call with last free day d − 1 is removed"
  pub on-its-last-free-day : changes_on 20 (with_open_calls (call_of 5 20 ∷ [])) ≡ false
  pub after-its-last-free-day : changes_on 21 (with_open_calls (call_of 5 20 ∷ [])) ≡ true
  pub fourth-call : changes_on 24 (with_open_calls (call_of 5 20 ∷ call_of 6 21 ∷ call_of 7 22 ∷ call_of 8 23 ∷ [])) ≡ true
  -- .. a place behind the open calls holds none
  pub no-call : changes_on 1 (with_open_calls []) ≡ false
  -- "if d is 1 October and the next amount is set": 1 October 2021 is day 639, 1 October 2020 day 274
  pub next-on-30-september : changes_on 638 (with_next_amount (set_to 5)) ≡ false
  pub next-on-1-october : changes_on 639 (with_next_amount (set_to 5)) ≡ true
  pub next-on-2-october : changes_on 640 (with_next_amount (set_to 5)) ≡ false
  pub next-in-leap-year : changes_on 274 (with_next_amount (set_to 5)) ≡ true
  pub unset-on-1-october : changes_on 639 (with_next_amount unset) ≡ false
  -- "then the day is charged": no shortfall, of one cent, and of 100,000,000 and 100,000,001 cents
  pub covered : charges_after (with_positions (Cash 60 ∷ letter_with 40 10 20 ∷ [])) 15 ≡ record { charged = 2; accrued = 250000000 }
  pub one-cent : charges_after (with_positions (Cash 60 ∷ letter_with 39 10 20 ∷ [])) 15 ≡ record { charged = 3; accrued = 350000000 }
  pub at-least : charges_after (with_parts 100000000 [] [] unset) 15 ≡ record { charged = 3; accrued = 350000000 }
  pub above-least : charges_after (with_parts 100000001 [] [] unset) 15 ≡ record { charged = 3; accrued = 350000001 }
  -- .. by the cover on that day: a letter counts from its first day through its last
  pub day-before-first : charges_after (with_positions (letter_with 100 10 20 ∷ [])) 9 ≡ record { charged = 3; accrued = 350000000 }
  pub first-day : charges_after (with_positions (letter_with 100 10 20 ∷ [])) 10 ≡ record { charged = 2; accrued = 250000000 }
  pub last-day : charges_after (with_positions (letter_with 100 10 20 ∷ [])) 20 ≡ record { charged = 2; accrued = 250000000 }
  pub day-after-last : charges_after (with_positions (letter_with 100 10 20 ∷ [])) 21 ≡ record { charged = 3; accrued = 350000000 }
