-- The file of a batch: its word, what is wrong with it, and its bytes.
-- Assumes nothing.
use Rattle.std.proofs.Common.{ℕ, ◌/◌, ◌≤◌, ◌<◌, ◌≡◌, refl, sym, ◌∙◌, Bool, true, false, List, [], ◌∷◌, length, ℤ, Option, Some, None, MatchOption, unwrap_or, arith}
use borrow.Author.Tests.{le-leb, lt-leb}
use denote.Ref.{Bor}
use lib.Seq.{sets}
use Rattle.words.specs.Hex.{hexadecimal, bytes_of_hex}
use Rattle.words.proofs.HexLaws.{bytes-long}
use Rattle.journal.specs.Fields.{more, file_of, faulted, checked_file, ended, closed}
use Rattle.journal.specs.Grammar.{filed, batch_of}
use Rattle.journal.specs.Steps.{ParsedIs}
use Rattle.journal.specs.declared.Reason.{Reason}
use Rattle.journal.specs.declared.Request.{Request}

-- a word too many
rest-more : (rest : List (List ℕ)) (n : ℕ) (zs e : List ℤ) (why : Reason) → Request.Error why ≡ closed (more rest) (Request.Batch n)
    → ParsedIs (filed (ended (more rest)) zs) e (Request.Error why) e
unfolding closed ended filed
rest-more [] n zs e why q = let z : ◌≡◌ {A = ℕ} 0 1 = cc in absurd (omega arith)
rest-more (w ∷ rest) n zs e why q = record { request = q; numbers = refl }

-- the word of a file, which is empty where no word is left
pub file_is : (o : Option (Bor (List ℕ))) (d f : Bor (List ℕ)) (ws rest : List (List ℕ))
    → MatchOption o ((ws ≡ []) × (rest ≡ [])) (λ x. ws ≡ x.now ∷ rest) → f ≡ unwrap_or o d → d.now ≡ []
    → (f.now ≡ (file_of (more ws)).word) × (more rest ≡ (file_of (more ws)).left)
unfolding file_of
file_is (Some x) d f ws rest m e z = rw (m, e) (refl, refl)
file_is None d f ws rest m e z = rw (m.0, m.1, e) (z, refl)

module _ (w : List ℕ) (ws rest : List (List ℕ)) (is : (w ≡ (file_of (more ws)).word) × (more rest ≡ (file_of (more ws)).left)) (e : List ℤ)
    (t : Bool) (known : t ≡ hexadecimal w) where
  pub batch_not_hex : t ≡ false → ParsedIs (batch_of (length e) (more ws)) e (Request.Error Reason.NotHex) e
  unfolding batch_of checked_file faulted ended filed
  batch_not_hex v = rw (← is.0, ← is.1, sym known ∙ v) (record { request = refl; numbers = refl })

  module _ (v : t ≡ true) where
    pub batch_long : length e < length w / 2 → ParsedIs (batch_of (length e) (more ws)) e (Request.Error Reason.TooLong) e
    unfolding batch_of checked_file faulted ended filed
    batch_long h =
        rw (← is.0, ← is.1, sym known ∙ v, lt-leb (length (bytes_of_hex w)) (length e) (omega (arith, bytes-long w)))
        (record { request = refl; numbers = refl })

    module _ (h : length w / 2 ≤ length e) where
      sound : batch_of (length e) (more ws) ≡ filed (ended (more rest)) (bytes_of_hex w)
      unfolding batch_of checked_file
      sound = rw (← is.0, ← is.1, sym known ∙ v, le-leb (length (bytes_of_hex w)) (length e) (omega (arith, bytes-long w)))

      pub batch_more : (n : ℕ) (why : Reason) → Request.Error why ≡ closed (more rest) (Request.Batch n)
          → ParsedIs (batch_of (length e) (more ws)) e (Request.Error why) e
      batch_more n why q = rw sound (rest-more rest n (bytes_of_hex w) e why q)

      pub batch_is : (r : Request) (g : List ℤ) → r ≡ closed (more rest) (Request.Batch (length w / 2)) → rest ≡ []
          → g ≡ sets e 0 (bytes_of_hex w) → ParsedIs (batch_of (length e) (more ws)) e r g
      unfolding closed ended filed
      batch_is r g q z k =
          let f : r ≡ Request.Batch (length (bytes_of_hex w)) = rw (z, ← bytes-long w) at q in
          rw (sound, z) (record { request = f; numbers = k })
