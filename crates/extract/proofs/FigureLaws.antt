-- The figures of a part of a batch, read from its bytes and written one after the other.
-- Assumes nothing.
use Prim.Native.Nat.{ℕ, zero, suc, ◌+◌, ◌*◌}
use native.Mathlib.Omega.{arith}
use mathlib.Core.Path.{◌≡◌, refl, sym, ap, ◌∙◌}
use mathlib.Core.List.{List, [], ◌∷◌, ◌++◌, map}
use native.Mathlib.Numerals.{add-one}
use mir.Syntax.{w64}
use mir.Val.{to_z}
use lib.IntN.{ℤ}
use lib.ListN.{get_or}
use Rattle.std.proofs.lemmas.List.{map-append}
use Rattle.std.specs.Int.{from_le_bytes}
use Rattle.batch.specs.Bytes.{number_at, signed_of}
use Rattle.batch.specs.Batch.{month_in, figures_at, figures_behind}
use Rattle.batch.specs.Parts.{PartIs}
use Rattle.batch.specs.declared.parts.Part.{Part}
use Rattle.batch.proofs.ByteLaws.{signed-bits}
use Rattle.laws.specs.Lists.{table}
use Rattle.words.specs.Text.{text}
use Rattle.printing.specs.Decimals.{decimal, integer, spaced, joined}
use Rattle.printing.specs.Lines.{call_words, printed}
use Rattle.printing.specs.Written.{Sheet, followed}
use Rattle.printing.specs.WrittenLaws.{followed_none, spaced_more, joined_more}
use Rattle.extract.specs.Lines.{settle_line}

-- ---- a signed number of eight bytes

module _ (file : List ℕ) (at : ℕ) where
  -- a byte, where its place is counted up
  behind : (x i k : ℕ) → x ≡ get_or file (at + i) 0 → at + i ≡ k → x ≡ get_or file k 0
  behind x i k e f = e ∙ ap (λ (m : ℕ). get_or file m 0) f

  number-is : (a b c d e f g h : ℕ) → a ≡ get_or file at 0 → b ≡ get_or file (at + 1) 0 → c ≡ get_or file (at + 2) 0
      → d ≡ get_or file (at + 3) 0 → e ≡ get_or file (at + 4) 0 → f ≡ get_or file (at + 5) 0 → g ≡ get_or file (at + 6) 0
      → h ≡ get_or file (at + 7) 0 → from_le_bytes w64 (a ∷ b ∷ c ∷ d ∷ e ∷ f ∷ g ∷ h ∷ []) ≡ number_at file at 8
  unfolding number_at
  number-is a b c d e f g h p0 p1 p2 p3 p4 p5 p6 p7 =
      let b1 = behind b 1 (suc at) p1 (omega arith) in
      let b2 = behind c 2 (suc (suc at)) p2 (omega arith) in
      let b3 = behind d 3 (suc (suc (suc at))) p3 (omega arith) in
      let b4 = behind e 4 (suc (suc (suc (suc at)))) p4 (omega arith) in
      let b5 = behind f 5 (suc (suc (suc (suc (suc at))))) p5 (omega arith) in
      let b6 = behind g 6 (suc (suc (suc (suc (suc (suc at)))))) p6 (omega arith) in
      let b7 = behind h 7 (suc (suc (suc (suc (suc (suc (suc at))))))) p7 (omega arith) in
      omega arith

  pub eight_bytes : (a b c d e f g h : ℕ) → a ≡ get_or file at 0 → b ≡ get_or file (at + 1) 0 → c ≡ get_or file (at + 2) 0
      → d ≡ get_or file (at + 3) 0 → e ≡ get_or file (at + 4) 0 → f ≡ get_or file (at + 5) 0 → g ≡ get_or file (at + 6) 0
      → h ≡ get_or file (at + 7) 0 → to_z w64 (from_le_bytes w64 (a ∷ b ∷ c ∷ d ∷ e ∷ f ∷ g ∷ h ∷ [])) ≡ signed_of (number_at file at 8)
  eight_bytes a b c d e f g h p0 p1 p2 p3 p4 p5 p6 p7 =
      signed-bits (from_le_bytes w64 (a ∷ b ∷ c ∷ d ∷ e ∷ f ∷ g ∷ h ∷ [])) ∙ ap signed_of (number-is a b c d e f g h p0 p1 p2 p3 p4 p5 p6 p7)

-- ---- the figures one after the other

-- One more element of a table.
table-last : (n : ℕ) (f : ℕ → ℤ) → table (suc n) f ≡ table n f ++ (f n ∷ [])
table-last zero f = refl
table-last (suc n) f = ap (λ (l : List ℤ). f zero ∷ l) (table-last n (λ k. f (suc k)))

module _ (file : List ℕ) (offset : ℕ) where
  pub figures_first : (s : Sheet) → s ≡ followed s (spaced (map integer (figures_behind file offset 0)))
  unfolding figures_behind spaced
  figures_first s = sym (followed_none s)

  figures-more : (k : ℕ)
      → figures_behind file offset (k + 1) ≡ figures_behind file offset k ++ (signed_of (number_at file (offset + 2 + 8 * k) 8) ∷ [])
  unfolding figures_behind
  figures-more k = rw (add-one k) (table-last k (λ j. signed_of (number_at file (offset + 2 + 8 * j) 8)))

  pub figures_next : (k : ℕ) (x : ℤ) (s u v : Sheet) → u ≡ followed s (spaced (map integer (figures_behind file offset k)))
      → x ≡ signed_of (number_at file (offset + 2 + 8 * k) 8) → v ≡ followed u (spaced (integer x ∷ []))
      → v ≡ followed s (spaced (map integer (figures_behind file offset (k + 1))))
  figures_next k x s u v e f g =
      rw (figures-more k, map-append integer (figures_behind file offset k) (signed_of (number_at file (offset + 2 + 8 * k) 8) ∷ []), ← f)
      (spaced_more s u v (map integer (figures_behind file offset k)) (integer x ∷ []) e g)

-- ---- the settlement of a part

pub settlement_put : (p k : ℕ) (file : List ℕ) (part : Part) (m : ℕ) (s u v : Sheet) → m ≡ month_in file → PartIs file k part
    → u ≡ followed s (joined (text "settle" ∷ decimal p ∷ decimal m ∷ []))
    → v ≡ followed u (spaced (map integer (figures_behind file part.offset part.rows)))
    → v ≡ followed s (printed (settle_line p file k).request (settle_line p file k).numbers)
unfolding printed call_words figures_at
settlement_put p k file part m s u v e is f g =
    rw (← e, ← is.offset, ← is.rows)
    (joined_more s u v (text "settle") (decimal p ∷ decimal m ∷ []) (map integer (figures_behind file part.offset part.rows)) f g)
