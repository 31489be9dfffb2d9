-- The name of a lock, put together in a buffer.
-- Assumes nothing.
use Rattle.std.proofs.Common.{◌≡◌, ℕ, ◌+◌, ◌≤◌, List, ◌++◌, length, take, min, arith, ap, ◌∙◌, length-append, length-take}
use Rattle.std.proofs.lemmas.List.{take_min, take_at}
use Rattle.std.proofs.lemmas.Slice.{take-put_mid}
use borrow.Rule.Slice.PartMut.{put_mid}
use Rattle.storage.specs.Texts.{lock_ending}

pub lock-name : (s x y rest : List ℕ) (n m k : ℕ) → n ≡ min (length s) 8187 → x ≡ take n s → y ≡ lock_ending → m ≡ n + 5
    → take m (put_mid n k (x ++ rest) y) ≡ take 8187 s ++ lock_ending
lock-name s x y rest n m k e p q r =
    let short : n ≤ length s = omega arith in
    let many : length x ≡ n = rw p (simp length-take (omega arith)) in
    let five : length y ≡ 5 = ap length q in
    let inside : n ≤ length (x ++ rest) = omega (arith, length-append x rest) in
    let front : take n (x ++ rest) ≡ x = take_at x rest n many in
    let same : n ≡ min 8187 (length s) = omega arith in
    let whole : take n s ≡ take 8187 s = rw same (take_min 8187 s) in
    take-put_mid n k (x ++ rest) y m (omega arith) inside ∙ rw (front, q, p, whole)
