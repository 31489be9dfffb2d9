-- Opening a day changes no earlier day's opening shortfall: the days charged and the accrued charge grow by that day's alone.
-- Assumes nothing.
use Prim.Native.Nat.{ℕ, ◌+◌, ◌-◌, ◌≤◌, ◌<◌}
use native.Mathlib.Nat.{add_comm}
use native.Mathlib.Omega.{arith}
use mathlib.Core.Path.{◌≡◌, refl}
use mathlib.Core.Bool.{true, cond}
use mathlib.Core.List.{List, ◌∷◌}
use lib.Dec.{eqb}
use borrow.Author.Tests.{eq-eqb, ne_eqb}
use Rattle.laws.specs.Prefixes.{all_weaker}
use Rattle.manual.specs.Charge.{day_charge}
use Rattle.book.specs.Reading.Events.{Own, day_opened, admitted_in}
use Rattle.book.specs.Reading.Holdings.{cover_in}
use Rattle.book.specs.Reading.Calls.{firm_in}
use Rattle.book.specs.Reading.Charges.{before, opening_shortfall, days_since, count_short, sum_charges, charged_in, accrued_in}
use Rattle.book.proofs.Participant.Lawful.{today_in, Lawful}
use Rattle.book.proofs.Participant.Bases.{next_day, with_next_day, firm-before}
use Rattle.book.proofs.Participant.Charges.{Agree, days-past, count_same, sum_same}

-- Opening a later day changes no opening shortfall.
pub shortfall-before : (d e : ℕ) (own : List Own) → d < e → opening_shortfall d (day_opened e ∷ own) ≡ opening_shortfall d own
unfolding opening_shortfall before
shortfall-before d e own h = rw (firm-before d e own h, ne_eqb e d (λ q. omega arith))

-- The opening shortfall of the day opened: its cover is that of what stood before.
pub shortfall-opened : (d : ℕ) (own : List Own) → opening_shortfall d (day_opened d ∷ own) ≡ firm_in d (day_opened d ∷ own) - cover_in d own
unfolding opening_shortfall before
shortfall-opened d own = rw (eq-eqb d d refl)

-- Opening the next day changes no opening shortfall of the days opened since the admission.
pub shortfalls-kept : (s : ℕ) (own : List Own) → Lawful s own
    → Agree (days_since own) (with_next_day s own) own
shortfalls-kept s own lw =
    all_weaker
    (λ (d : ℕ). d ≤ today_in s own)
    (λ (d : ℕ). opening_shortfall d (with_next_day s own) ≡ opening_shortfall d own)
    (λ d h. shortfall-before d (next_day s own) own (omega arith))
    (days_since own)
    (days-past s own lw)

-- The days charged after the next day was opened.
pub charged-opened : (s : ℕ) (own : List Own) → Lawful s own → admitted_in own ≡ true
    → charged_in (with_next_day s own)
    ≡ charged_in own + cond (eqb (firm_in (next_day s own) (with_next_day s own) - cover_in (next_day s own) own) 0) 0 1
unfolding charged_in count_short days_since
charged-opened s own lw h =
    let d = next_day s own in
    rw (h, shortfall-opened d own, count_same (days_since own) (day_opened d ∷ own) own (shortfalls-kept s own lw)) (add_comm _ _)

-- The accrued charge after it.
pub accrued-opened : (s : ℕ) (own : List Own) → Lawful s own → admitted_in own ≡ true
    → accrued_in (with_next_day s own)
    ≡ accrued_in own + day_charge (firm_in (next_day s own) (with_next_day s own) - cover_in (next_day s own) own)
unfolding accrued_in sum_charges days_since
accrued-opened s own lw h =
    let d = next_day s own in
    rw (h, shortfall-opened d own, sum_same (days_since own) (day_opened d ∷ own) own (shortfalls-kept s own lw)) (add_comm _ _)
