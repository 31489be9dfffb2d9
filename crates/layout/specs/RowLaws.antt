-- The rows of a file stand one after the other.
-- Assumes nothing.
use Rattle.std.specs.Prelude.{ℕ, ◌+◌, ◌*◌, ◌≡◌, List, get_or}
use Rattle.std.proofs.Common.{arith}
use Rattle.laws.specs.Lists.{table}
use Rattle.laws.specs.Tabulated.{table-ext}
use Rattle.layout.specs.Parts.{slot_of_words, open_call_of_words, total_of_words}
use Rattle.layout.specs.Files.{slot_in, call_in, month_total_in, slots_of_words, calls_of_words, totals_of_words, words_at}

module _ (l : List ℕ) (at : ℕ) where
  pub slots-table : slots_of_words (words_at l at) ≡ table 8 (λ k. slot_in l (at + (10 + 4 * k)))
  unfolding slots_of_words
  slots-table =
      table-ext 8 (λ k. slot_of_words (words_at l at (10 + 4 * k)) (words_at l at (11 + 4 * k)) (words_at l at (12 + 4 * k)) (words_at l at (13 + 4 * k)))
      (λ k. slot_in l (at + (10 + 4 * k)))
      (λ k h.
      let first : at + (11 + 4 * k) ≡ at + (10 + 4 * k) + 1 = omega arith in
      let second : at + (12 + 4 * k) ≡ at + (10 + 4 * k) + 2 = omega arith in
      let third : at + (13 + 4 * k) ≡ at + (10 + 4 * k) + 3 = omega arith in
      λ i. slot_of_words (get_or l (at + (10 + 4 * k)) 0) (get_or l (first i) 0) (get_or l (second i) 0) (get_or l (third i) 0))

  pub calls-table : calls_of_words (words_at l at) ≡ table 4 (λ k. call_in l (at + (42 + 2 * k)))
  unfolding calls_of_words
  calls-table =
      table-ext 4 (λ k. open_call_of_words (words_at l at (42 + 2 * k)) (words_at l at (43 + 2 * k))) (λ k. call_in l (at + (42 + 2 * k)))
      (λ k h.
      let first : at + (43 + 2 * k) ≡ at + (42 + 2 * k) + 1 = omega arith in
      λ i. open_call_of_words (get_or l (at + (42 + 2 * k)) 0) (get_or l (first i) 0))

  pub totals-table : totals_of_words (words_at l at) ≡ table 16 (λ k. month_total_in l (at + (50 + 3 * k)))
  unfolding totals_of_words
  totals-table =
      table-ext 16 (λ k. total_of_words (words_at l at (50 + 3 * k)) (words_at l at (51 + 3 * k)) (words_at l at (52 + 3 * k)))
      (λ k. month_total_in l (at + (50 + 3 * k)))
      (λ k h.
      let first : at + (51 + 3 * k) ≡ at + (50 + 3 * k) + 1 = omega arith in
      let second : at + (52 + 3 * k) ≡ at + (50 + 3 * k) + 2 = omega arith in
      λ i. total_of_words (get_or l (at + (50 + 3 * k)) 0) (get_or l (first i) 0) (get_or l (second i) 0))
