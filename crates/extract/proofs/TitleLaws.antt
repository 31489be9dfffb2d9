-- The title of an extract says whose it is.
-- Assumes nothing.
use Prim.Native.Nat.{ℕ, ◌≤◌}
use mathlib.Core.Path.{◌≡◌, refl}
use mathlib.Core.Bool.{true, false}
use mathlib.Core.List.{List, append-nil}
use lib.Dec.{eqb}
use lib.ListN.{take, drop}
use Rattle.std.specs.Prelude.{Some, None}
use Rattle.std.specs.Cmp.Lexicographic.{pointwise}
use Rattle.words.specs.Bytes.{same, some, uncommented}
use Rattle.words.specs.Words.{words}
use Rattle.words.specs.Numerals.{natural_of}
use Rattle.words.proofs.WordLaws.{same_is}
use Rattle.printing.specs.Decimals.{decimal, spaced, joined}
use Rattle.printing.proofs.DecimalLaws.{natural-back}
use Rattle.journal.specs.Grammar.{plain, words_of, parsed}
use Rattle.journal.specs.declared.Request.{Request}
use Rattle.extract.specs.Lines.{title_text, title_mark, titled}
use Rattle.extract.specs.Asks.{TitleOf}

module _ (line : List ℕ) where
  pub titled_number : (name : List ℕ) → pointwise eqb (take 25 line) title_mark ≡ true → name ≡ drop 25 line → natural_of name ≡ titled line
  unfolding titled
  titled_number name e f = rw (f, ← same_is (take 25 line) title_mark, e) refl

  pub untitled : pointwise eqb (take 25 line) title_mark ≡ false → None ≡ titled line
  unfolding titled
  untitled e = rw (← same_is (take 25 line) title_mark, e) refl

-- The title of P's extract says P.
title-back : (p : ℕ) → p ≤ 18446744073709551615 → titled (title_text p) ≡ Some p
unfolding titled title_text joined spaced same
title-back p h = rw (append-nil (decimal p)) (natural-back p h)

-- It is a comment alone.
title-empty : (p room : ℕ) → parsed room (title_text p) ≡ plain Request.Nothing
unfolding parsed title_text joined uncommented some words words_of
title-empty p room = refl

pub title-of : (p room : ℕ) → p ≤ 18446744073709551615 → TitleOf p room
title-of p room h = record { names = title-back p h; empty = title-empty p room }
