-- A process number taken digit by digit: what a loop at place i knows of what is left of a text.
-- Assumes nothing.
use Rattle.std.proofs.Common.{◌≡◌, ℕ, suc, ◌+◌, ◌<◌, ◌≤◌, List, ◌∷◌, length, get_or, drop, add-one, drop_of_length-le, drop-cons, eq-eqb, ne_eqb, not, ◌==◌, Some, None}
use Rattle.std.specs.Bool.{then_some}
use Rattle.storage.specs.Texts.{digit_more, process_from}

module _ (s : List ℕ) (n i : ℕ) (known : process_from n (drop i s) ≡ process_from 0 s) where
  pub number-later : (m : ℕ) → i < length s → (get_or s i 0 ≡ 10 → ⊥) → digit_more n (get_or s i 0) ≡ Some m → process_from m (drop (i + 1) s) ≡ process_from 0 s
  unfolding process_from
  number-later m h e q =
      let k : process_from n (get_or s i 0 ∷ drop (suc i) s) ≡ process_from 0 s = rw (drop-cons s i 0 h) at known in
      rw (add-one i) (rw (ne_eqb (get_or s i 0) 10 e, q) at k)

  pub number-bad : i < length s → (get_or s i 0 ≡ 10 → ⊥) → digit_more n (get_or s i 0) ≡ None → None ≡ process_from 0 s
  unfolding process_from
  number-bad h e q =
      let k : process_from n (get_or s i 0 ∷ drop (suc i) s) ≡ process_from 0 s = rw (drop-cons s i 0 h) at known in
      rw (ne_eqb (get_or s i 0) 10 e, q) at k

  pub number-here : i < length s → get_or s i 0 ≡ 10 → then_some (not (n == 0)) n ≡ process_from 0 s
  unfolding process_from
  number-here h e =
      let k : process_from n (get_or s i 0 ∷ drop (suc i) s) ≡ process_from 0 s = rw (drop-cons s i 0 h) at known in
      rw (eq-eqb (get_or s i 0) 10 e) at k

  pub number-none : length s ≤ i → None ≡ process_from 0 s
  unfolding process_from
  number-none h = rw (drop_of_length-le s h) at known
