-- A part from its bytes, and its figures.
-- Assumes nothing.
use Prim.Native.Nat.{ℕ, ◌+◌, ◌*◌, ◌≤◌, ◌<◌}
use native.Mathlib.Omega.{arith}
use mathlib.Core.Path.{◌≡◌, sym, ap, ◌∙◌}
use mathlib.Core.List.{List}
use lib.IntN.{ℤ, pos}
use lib.ListN.{length, get_or, get_or-eq_default}
use Rattle.laws.specs.Tabulated.{length-table, get_d-table}
use Rattle.batch.specs.Bytes.{number_at, signed_of}
use Rattle.batch.specs.Batch.{offset_at, participant_at, rows_at, figures_behind}
use Rattle.batch.specs.Parts.{part_of, PartIs}

-- A part, from its offset and its two bytes.
pub part-is : (file : List ℕ) (i p r o : ℕ) → o ≡ offset_at file i → p ≡ get_or file o 0 → r ≡ get_or file (o + 1) 0 → r < 256
    → o < 4294967296 → PartIs file i (record { participant = p; rows = r; offset = o })
unfolding part_of participant_at rows_at
part-is file i p r o e f g h l =
    let first : p ≡ get_or file (offset_at file i) 0 = f ∙ ap (λ (k : ℕ). get_or file k 0) e in
    let second : r ≡ get_or file (offset_at file i + 1) 0 = g ∙ ap (λ (k : ℕ). get_or file (k + 1) 0) e in
    record {
      same = λ j. record { participant = first j; rows = second j; offset = e j };
      participant = first;
      rows = second;
      offset = e;
      few = omega arith;
      low = l;
    }

-- ---- the figures

module _ (file : List ℕ) (offset rows : ℕ) where
  pub many_figures : length (figures_behind file offset rows) ≡ rows
  unfolding figures_behind
  many_figures = length-table rows (λ k. signed_of (number_at file (offset + 2 + 8 * k) 8))

  pub figure_is : (k : ℕ) (x : ℤ) → k < rows → x ≡ signed_of (number_at file (offset + 2 + 8 * k) 8)
      → x ≡ get_or (figures_behind file offset rows) k (pos 0)
  unfolding figures_behind
  figure_is k x h e = e ∙ sym (get_d-table rows (λ k. signed_of (number_at file (offset + 2 + 8 * k) 8)) k (pos 0) h)

  pub no_figure : (k : ℕ) → rows ≤ k → pos 0 ≡ get_or (figures_behind file offset rows) k (pos 0)
  no_figure k h = sym (get_or-eq_default (figures_behind file offset rows) (pos 0) (rw many_figures h))
