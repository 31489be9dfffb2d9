-- A text cut at its first blank, in the buffer where it stands.
-- Assumes nothing.
use Rattle.std.proofs.Common.{◌≡◌, ℕ, ◌+◌, ◌≤◌, ◌<◌, ◌==◌, List, length, take, set, get_or, arith, length-take, eq-eqb, ne_eqb}
use Rattle.std.proofs.lemmas.List.{take-take, take_more_set}
use Rattle.std.proofs.lemmas.List.Sums.{position_or_len_is}
use Rattle.std.specs.List.{position_or_len}
use Rattle.std.specs.Prelude.{◌≢◌, slice_index}
use Rattle.storage.specs.Locks.{number_line}

-- The text is the first n bytes of s, and p counts those before its first blank.
pub line_cut : (s : List ℕ) (n p : ℕ) → n < length s → p ≤ length (take n s) → ((k : ℕ) → k < p → slice_index (take n s) k ≢ 32)
    → (p < length (take n s) → slice_index (take n s) p ≡ 32) → take (p + 1) (set s p 10) ≡ number_line (take n s)
line_cut s n p h within before found =
    let short : p ≤ n = omega (arith, length-take n s) in
    let inside : p < length s = omega arith in
    let first : position_or_len (λ b. b == 32) (take n s) ≡ p =
    position_or_len_is (λ b. b == 32) (take n s) p 0 within (λ k q. ne_eqb (get_or (take n s) k 0) 32 (before k q)) (λ q. eq-eqb (get_or (take n s) p 0) 32 (found q)) in
    rw (first, take-take p n s short) (take_more_set s p 10 inside)
