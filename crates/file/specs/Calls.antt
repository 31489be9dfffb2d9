-- Open calls, oldest first (paper 01, 'One participant's file'), and the largest of amounts.
-- Assumes nothing.
use Rattle.std.specs.Prelude.{ℕ, suc, ◌-◌, max, Bool, cond, not, List, [], ◌∷◌, ◌++◌, map, eqb, length, replicate}
use Rattle.file.specs.declared.OpenCall.{OpenCall}

-- The largest of an amount and a list of them.
unfoldable pub largest : ℕ → List ℕ → ℕ
largest a [] = a
largest a (b ∷ rest) = max b (largest a rest)

-- The amounts of calls.
abbrev pub amounts_of : List OpenCall → List ℕ
amounts_of calls = map (λ (c : OpenCall). c.amount) calls

-- A call of an amount with a last free day.
abbrev pub call_of : ℕ → ℕ → OpenCall
call_of amount last = record { amount = amount; last = record { 0 = last } }

-- The file's four places: the open calls, with zeros behind them.
unfoldable pub in_places : List OpenCall → List OpenCall
in_places calls = calls ++ replicate (4 - length calls) (call_of 0 0)

-- The calls that pass a test, in their order.
unfoldable pub keep : (OpenCall → Bool) → List OpenCall → List OpenCall
keep test [] = []
keep test (c ∷ calls) = cond (test c) (c ∷ keep test calls) (keep test calls)

-- 'Advance': "each open call with last free day d − 1".
abbrev pub ends_at : ℕ → OpenCall → Bool
ends_at d c = eqb (suc c.last.0) d

abbrev pub stays_at : ℕ → OpenCall → Bool
stays_at d c = not (ends_at d c)
