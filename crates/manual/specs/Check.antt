-- The monthly check of paper 01, 'Settle' (002, 2.2).
-- Assumes nothing.
use Rattle.std.specs.Prelude.{ℕ, ◌*◌, ◌-◌, Bool, true, cond, ◌&&◌, List, [], ◌∷◌, Option, Some, None, ℤ, pos, nat_abs, ◌*ℤ◌}
use Rattle.std.specs.Int.Signed.{lt_z, le_z}
use Rattle.manual.specs.declared.Call.{Call}

-- "A call is made when E > D, 5 × E ≥ 6 × D": E exceeds the deposited guarantee D, by at least 20%.
unfoldable pub exceeds_tolerance : ℤ → ℕ → Bool
exceeds_tolerance e d = lt_z (pos d) e && le_z (pos (6 * d)) (pos 5 *ℤ e)

-- E exceeds each amount of a list.
unfoldable pub exceeds_each : ℤ → List ℕ → Bool
exceeds_each e [] = true
exceeds_each e (a ∷ rest) = lt_z (pos a) e && exceeds_each e rest

-- ".. E exceeds the firm amount and E exceeds every open call": whether a call is made.
unfoldable pub call_is_made : ℤ → ℕ → ℕ → List ℕ → Bool
call_is_made e d firm opens = exceeds_tolerance e d && exceeds_each e (firm ∷ opens)

-- The check's outcome: ".. amount E, .. asked E − D", or none: covered.
unfoldable pub checked : ℤ → ℕ → ℕ → List ℕ → Option Call
checked e d firm opens = cond (call_is_made e d firm opens) (Some (record { amount = nat_abs e; asked = nat_abs e - d })) None
