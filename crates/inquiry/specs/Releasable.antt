-- What may be released at a position: "the most that a release there would be accepted for now, 0 if none; its equation: every amount up to it
-- that the position allows is accepted, and none above it."
-- Assumes nothing.
use Rattle.std.specs.Prelude.{ℕ, zero, suc, ◌≤◌, ◌<◌, ◌≡◌, Bool, true, false, cond, not, ltb, Result, Ok, Err}
use Rattle.refusal.specs.declared.Refusal.{Refusal}
use Rattle.refusal.specs.declared.Refusal.TheVariants.{NoSuchParticipant, NotAdmitted, NoSuchPosition}
use Rattle.file.specs.declared.File.{File}
use Rattle.file.specs.declared.Position.{Position}
use Rattle.file.specs.Answer.{accepted}
use Rattle.file.specs.Position.{amount_of, not_releasable, position_at}
use Rattle.file.specs.Release.{release_answer}
use Rattle.layout.specs.Book.{Book}
use Rattle.book.specs.Call.{release, on}
use Rattle.book.specs.Rule.{new_rule}
use Rattle.book.specs.Account.{file_at, answer}

-- Whether a release of amount a on day t at place k of a file is accepted.
abbrev pub is_accepted : File → ℕ → ℕ → ℕ → Bool
is_accepted f t k a = accepted (release_answer f t k a)

-- The greatest amount from n downwards that passes a test, 0 if none from n to 1 does.
unfoldable pub greatest : (ℕ → Bool) → ℕ → ℕ
greatest test zero = zero
greatest test (suc n) = cond (test (suc n)) (suc n) (greatest test n)

-- "The most that a release there would be accepted for": the greatest amount, from what is held at the position downwards.
unfoldable pub releasable_at : File → ℕ → ℕ → ℕ
releasable_at f t k = greatest (is_accepted f t k) (amount_of (position_at f.slots k))

-- What the question answers of participant p and position k: the most, or which of the causes 1, 2 and 5 refuses it.
unfoldable pub releasable_in : Book → ℕ → ℕ → Result ℕ Refusal
releasable_in b p k =
    cond (ltb 63 p) (Err NoSuchParticipant)
    (cond (not (file_at b p).admitted) (Err NotAdmitted)
    (cond (ltb 7 k) (Err NoSuchPosition) (Ok (releasable_at (file_at b p) b.today.0 k))))

-- That n is the most of the amounts that are accepted at a position: "every amount up to it that the position allows is accepted, and none above
-- it", and it is itself one that is accepted, or 0.
pub record MostAccepted (held : Position) (accepts : ℕ → Bool) (n : ℕ) : Type 0 where
  pub within : (a : ℕ) → 1 ≤ a → a ≤ n → not_releasable a held ≡ false → accepts a ≡ true
  pub above : (a : ℕ) → n < a → accepts a ≡ false
  pub itself : 1 ≤ n → accepts n ≡ true

-- .. of the releases of a file, at its place k on day t.
abbrev pub Releasable : File → ℕ → ℕ → ℕ → Type 0
Releasable f t k n = MostAccepted (position_at f.slots k) (is_accepted f t k) n

-- Whether the call that releases amount a at position k of participant p is accepted, by what the book answers to it.
abbrev pub is_released : Book → ℕ → ℕ → ℕ → Bool
is_released b p k a = accepted (answer new_rule b (on p (release k a)))

-- That n is the most, of the releases of the participant's file, and of the calls on the book.
pub record Most (b : Book) (p k n : ℕ) : Type 0 where
  pub file : Releasable (file_at b p) b.today.0 k n
  pub calls : MostAccepted (position_at (file_at b p).slots k) (is_released b p k) n
