-- A line that is a batch asks for the file of its own bytes: each number of it is a byte, and there is room for all of them.
-- Assumes nothing.
use Prim.Native.Nat.{ℕ, ◌%◌, ◌≤◌, ◌<◌, min}
use mathlib.Core.Path.{◌≡◌, refl, sym, ap, ap₂, subst, ◌∙◌}
use mathlib.Core.List.{List, [], ◌∷◌, map}
use native.Mathlib.Omega.{arith}
use lib.IntN.{ℤ, pos, negsuc}
use lib.ListN.{take}
use lib.Seq.{take_all}
use Rattle.laws.specs.Lists.{All}
use Rattle.journal.specs.Grammar.{parsed}
use Rattle.journal.specs.declared.Request.{Request}
use Rattle.journal.proofs.Counts.{IsCall}
use Rattle.journal.proofs.Room.{parsed-fits}
use Rattle.printing.specs.Lines.{IsByte, Fitting}
use Rattle.printing.proofs.ParsedFits.{parsed-fitting}
use Rattle.answering.specs.Asked.{byte_of, batch_bytes}

-- Numbers that are bytes are the bytes of their file.
byte-same : (n : ℕ) → n < 256 → n % 256 ≡ n
byte-same n h = omega arith

bytes_same : (zs : List ℤ) → All IsByte zs → map pos (map byte_of zs) ≡ zs
bytes_same [] a = refl
bytes_same (pos n ∷ zs) a = ap₂ (λ (z : ℤ) (w : List ℤ). z ∷ w) (ap pos (byte-same n a.0)) (bytes_same zs a.1)
bytes_same (negsuc n ∷ zs) a = absurd a.0

-- The file of a batch's line, where there is room for at most 32,768 numbers, as in the ledger.
pub parsed-file : (room : ℕ) (line : List ℕ) (n : ℕ) → room ≤ 32768 → (parsed room line).request ≡ Request.Batch n
    → map pos (batch_bytes n (parsed room line).numbers) ≡ (parsed room line).numbers
unfolding batch_bytes
parsed-file room line n h e =
    let zs = (parsed room line).numbers in
    let c : IsCall (parsed room line).request = subst IsCall (sym e) tt in
    let f : Fitting (Request.Batch n) zs = subst (λ (r : Request). Fitting r zs) e (parsed-fitting room line (omega arith) c) in
    let all : take (min n 32768) zs ≡ zs = take_all (min n 32768) zs (omega (arith, f.0, parsed-fits room line)) in
    ap (λ (w : List ℤ). map pos (map byte_of w)) all ∙ bytes_same zs f.1
