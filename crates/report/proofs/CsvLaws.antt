-- The lines of the comma-separated values, as they are written one after the other.
-- Assumes nothing.
use Prim.Native.Nat.{ℕ, ◌+◌}
use mathlib.Core.Path.{◌≡◌, refl, sym, ap, ◌∙◌}
use mathlib.Core.List.{List, [], ◌∷◌, ◌++◌, append-nil, append_assoc}
use native.Mathlib.Numerals.{add-one}
use Rattle.layout.specs.Book.{Book}
use Rattle.printing.specs.Written.{Sheet, followed}
use Rattle.printing.specs.WrittenLaws.{followed_none, followed_twice}
use Rattle.report.specs.Csv.{behind_commas, csv_line, csv_row, csv_rows}

pub comma_one : (t : List ℕ) → behind_commas (t ∷ []) ≡ (44 ∷ []) ++ t
unfolding behind_commas
comma_one t = append-nil (44 ∷ t)

commas-append : (a b : List (List ℕ)) → behind_commas (a ++ b) ≡ behind_commas a ++ behind_commas b
unfolding behind_commas
commas-append [] b = refl
commas-append (t ∷ a) b =
    ap (λ (u : List ℕ). (44 ∷ t) ++ u) (commas-append a b) ∙ sym (append_assoc (44 ∷ t) (behind_commas a) (behind_commas b))

-- more values behind values
pub commas_more : (s u v : Sheet) (a b : List (List ℕ)) → u ≡ followed s (behind_commas a) → v ≡ followed u (behind_commas b)
    → v ≡ followed s (behind_commas (a ++ b))
commas_more s u v a b x y = rw (y, x, followed_twice, commas-append a b)

-- three values
pub three_values : (s t u v : Sheet) (a b c : List ℕ) → t ≡ followed s (behind_commas (a ∷ [])) → u ≡ followed t (behind_commas (b ∷ []))
    → v ≡ followed u (behind_commas (c ∷ [])) → v ≡ followed s (behind_commas (a ∷ b ∷ c ∷ []))
three_values s t u v a b c e f g =
    commas_more s u v (a ∷ b ∷ []) (c ∷ []) (commas_more s t u (a ∷ []) (b ∷ []) e f) g

-- the first value, those behind it, and the end of the line
pub csv_line_put : (s t u v : Sheet) (w : List ℕ) (ws : List (List ℕ)) → t ≡ followed s w → u ≡ followed t (behind_commas ws) → v ≡ followed u (10 ∷ [])
    → v ≡ followed s (csv_line w ws)
unfolding csv_line
csv_line_put s t u v w ws e f g =
    let two : u ≡ followed s (w ++ behind_commas ws) = rw (f, e, followed_twice) in
    rw (g, two, followed_twice)

module _ (b : Book) (s u v : Sheet) where
  pub csv_none : s ≡ followed s (csv_rows 0 b)
  unfolding csv_rows
  csv_none = sym (followed_none s)

  pub csv_more : (i : ℕ) → u ≡ followed s (csv_rows i b) → v ≡ followed u (csv_row b i) → v ≡ followed s (csv_rows (i + 1) b)
  unfolding csv_rows
  csv_more i x y = rw (y, x, followed_twice, add-one i)
