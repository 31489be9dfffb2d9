-- The lines of entries, as they are written one below the other.
-- Assumes nothing.
use Rattle.std.proofs.Common.{◌≡◌, ℕ, ◌+◌, List, [], ◌∷◌, ◌++◌, refl, sym, ap, ◌∙◌, append-nil, append_assoc, add-one}
use Rattle.file.specs.declared.File.{File}
use Rattle.file.specs.Position.{position_at}
use Rattle.printing.specs.Written.{Sheet, followed}
use Rattle.printing.specs.WrittenLaws.{followed_none, followed_twice}
use Rattle.entries.specs.Lines.{entry_line, lines_of}
use Rattle.entries.specs.Openings.{lapse_of, lapses_below}
use Rattle.entries.specs.declared.entry.Entry.{Entry}

-- Without a reference the lines of entries are those of the first and then those of the others.
line_first : (d : ℕ) (e : Entry) (es : List Entry) → lines_of d [] (e ∷ es) ≡ entry_line d [] e ++ lines_of d [] es
unfolding lines_of
line_first d e [] = sym (append-nil (entry_line d [] e))
line_first d e (f ∷ es) = refl

lines_both : (d : ℕ) (es fs : List Entry) → lines_of d [] (es ++ fs) ≡ lines_of d [] es ++ lines_of d [] fs
unfolding lines_of
lines_both d [] fs = refl
lines_both d (e ∷ es) fs =
    line_first d e (es ++ fs)
    ∙ ap (λ (t : List ℕ). entry_line d [] e ++ t) (lines_both d es fs)
    ∙ sym (append_assoc (entry_line d [] e) (lines_of d [] es) (lines_of d [] fs))
    ∙ ap (λ (t : List ℕ). t ++ lines_of d [] fs) (sym (line_first d e es))

module _ (s u v : Sheet) (d : ℕ) where
  -- entries, and then others
  pub both_put : (es fs : List Entry) → u ≡ followed s (lines_of d [] es) → v ≡ followed u (lines_of d [] fs) → v ≡ followed s (lines_of d [] (es ++ fs))
  both_put es fs x y = rw (y, x, followed_twice, lines_both d es fs)

  -- the lapses of the positions, one by one
  pub lapses_none : (f : File) → s ≡ followed s (lines_of d [] (lapses_below 0 f d))
  unfolding lapses_below lines_of
  lapses_none f = sym (followed_none s)

  pub lapses_more : (f : File) (k : ℕ) → u ≡ followed s (lines_of d [] (lapses_below k f d))
      → v ≡ followed u (lines_of d [] (lapse_of d k (position_at f.slots k))) → v ≡ followed s (lines_of d [] (lapses_below (k + 1) f d))
  unfolding lapses_below
  lapses_more f k x y = rw (add-one k) (both_put (lapses_below k f d) (lapse_of d k (position_at f.slots k)) x y)
