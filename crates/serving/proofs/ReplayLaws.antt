-- A journal replayed: its lines taken, and what is left of it passed over.
-- Assumes nothing.
use Rattle.std.proofs.Common.{◌≡◌, ◌<◌, ℕ, Bool, true, List, length, take, sym, ap, ◌∙◌, arith, length-take-le}
use Rattle.std.specs.Prelude.{Result, Ok, Err, OnOk}
use Rattle.std.specs.Result.{is_ok}
use Rattle.dialogue.specs.declared.Way.{Way}
use Rattle.dialogue.specs.Turns.{State}
use Rattle.serving.specs.Input.{InputCounted}
use Rattle.serving.specs.Replay.{passes, Replayed}

-- What holds where a test is met holds of a result that is there just then.
when-ok : {T E P : Type 0} (r : Result T E) (b : Bool) → is_ok r ≡ b → (b ≡ true → P) → OnOk r P
when-ok (Ok x) b e f = f (sym e)
when-ok (Err x) b e f = tt

pub replayed : {T E : Type 0} (way : Way) (room most : ℕ) (s t : State) (used before after : ℕ) (buffer rest : List ℕ) (r : Result T E)
    → InputCounted way room s most t used buffer before after → most ≡ 65536 → used < length buffer
    → (s.place.refused ≡ 0 → way.replays ≡ true → t.place.refused ≡ 0)
    → rest ≡ take used buffer → is_ok r ≡ passes t.place (length rest) → OnOk r (Replayed way room s t used buffer before after)
replayed way room most s t used before after buffer rest r x m h o k e =
    when-ok r (passes t.place (length rest)) e
    (λ p.
    record {
      taken = rw m at x;
      rest = sym (ap (passes t.place) (ap length k ∙ length-take-le used buffer (omega arith))) ∙ p;
      on = λ silent none. o none silent;
    })
