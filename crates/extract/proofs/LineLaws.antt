-- A line of an extract asks what the journal's line asks of the participant, and its text is parsed to what it says.
-- Assumes nothing.
use Prim.Native.Nat.{ℕ}
use native.Mathlib.Omega.{arith}
use mathlib.Core.Path.{◌≡◌, refl, sym, ap, subst}
use mathlib.Core.Bool.{Bool, true, false, cond}
use mathlib.Core.List.{List, [], ◌∷◌, ◌++◌, map}
use borrow.Author.Tests.{eq-eqb}
use lib.Dec.{eqb}
use lib.IntN.{ℤ}
use lib.ListN.{take}
use lib.Seq.{take_all, take-take}
use Rattle.std.specs.Prelude.{Option, Some, None}
use Rattle.std.proofs.Common.{append_assoc}
use Rattle.laws.specs.Cases.{split, clash}
use Rattle.batch.specs.Batch.{month_in, offset_at, rows_at, figures_at}
use Rattle.batch.proofs.PartLaws.{many_figures}
use Rattle.book.specs.Call.{settle, on}
use Rattle.journal.specs.Grammar.{Parsed}
use Rattle.journal.specs.declared.Request.{Request}
use Rattle.printing.specs.Lines.{printed}
use Rattle.answering.specs.Asked.{call, asked, batch_bytes}
use Rattle.extract.specs.Extract.{own_part, settlement, own_calls}
use Rattle.extract.specs.Lines.{stays, stands_for, own_numbers, settle_line, part_line, own_line, commented, behind_call, line_with, extracted_line}
use Rattle.extract.specs.Asks.{own_asks, line_asks, line_text, LineOf}

-- ---- what it asks

-- The figures of a part are as many as its rows.
figures-all : (file : List ℕ) (k : ℕ) → take (rows_at file k) (figures_at file k) ≡ figures_at file k
unfolding figures_at
figures-all file k = take_all (rows_at file k) (figures_at file k) (omega (arith, many_figures file (offset_at file k) (rows_at file k)))

part-asks : (p : ℕ) (file : List ℕ) (part : Option ℕ) → line_asks (part_line p file part) ≡ map call (settlement p file part)
part-asks p file (Some k) = ap (λ (zs : List ℤ). call (on p (settle (month_in file) zs)) ∷ []) (figures-all file k)
part-asks p file None = refl

asks : (p : ℕ) (r : Request) (zs : List ℤ) → line_asks (own_line p r zs) ≡ own_asks p (asked r zs)
unfolding own_line own_asks own_calls
asks p (Request.Admit q role) zs = split (eqb q p) (λ t. rw t refl) (λ t. rw t refl)
asks p (Request.LodgeCash q k a) zs = split (eqb q p) (λ t. rw t refl) (λ t. rw t refl)
asks p (Request.LodgeLetter q k a f l) zs = split (eqb q p) (λ t. rw t refl) (λ t. rw t refl)
asks p (Request.Release q k a) zs = split (eqb q p) (λ t. rw t refl) (λ t. rw t refl)
asks p (Request.Settle q m n) zs =
    split (eqb q p) (λ t. rw (t, take-take n n zs (omega arith)) refl) (λ t. rw t refl)
asks p (Request.Annual q) zs = split (eqb q p) (λ t. rw t refl) (λ t. rw t refl)
asks p (Request.Delete q) zs = split (eqb q p) (λ t. rw t refl) (λ t. rw t refl)
asks p (Request.Batch n) zs = part-asks p (batch_bytes n zs) (own_part p (batch_bytes n zs))
asks p r zs = refl

-- ---- it may stand in an extract

-- A line that is there is what a test keeps, where it holds.
pub kept : (t : Bool) (x c : Parsed) → cond t (Some x) None ≡ Some c → (t ≡ true) × (x ≡ c)
kept true x c e = (refl, some e)
  where
    some : Some x ≡ Some c → x ≡ c
    some e = cc
kept false x c e = absurd (none e)
  where
    none : None ≡ Some c → ⊥
    none e = cc

stays-stands : (p : ℕ) (r : Request) → stays p r ≡ true → stands_for p r ≡ true
stays-stands p Request.Nothing e = refl
stays-stands p (Request.Statement q) e = clash {t = false} e refl
stays-stands p r e = e

part-stands : (p : ℕ) (file : List ℕ) (part : Option ℕ) (c : Parsed) → part_line p file part ≡ Some c → stands_for p c.request ≡ true
part-stands p file (Some k) c e = subst (λ (x : Parsed). stands_for p x.request ≡ true) (kept true (settle_line p file k) c e).1 (eq-eqb p p refl)
part-stands p file None c e = clash {t = true} refl (sym (kept false c c e).0)

stands : (p : ℕ) (r : Request) (zs : List ℤ) (c : Parsed) → own_line p r zs ≡ Some c → stands_for p c.request ≡ true
unfolding own_line
stands p (Request.Batch n) zs c e = part-stands p (batch_bytes n zs) (own_part p (batch_bytes n zs)) c e
stands p r zs c e =
    let k = kept (stays p r) (record { request = r; numbers = own_numbers r zs }) c e in
    subst (λ (x : Parsed). stands_for p x.request ≡ true) k.1 (stays-stands p r k.0)

-- ---- its text

text : (p : ℕ) (r : Request) (zs : List ℤ) (c : Parsed) (reference : List ℕ) → own_line p r zs ≡ Some c
    → extracted_line p r zs reference ≡ line_text c reference ++ (10 ∷ [])
unfolding extracted_line line_with line_text behind_call
text p r zs c reference e = rw e (sym (append_assoc (printed c.request c.numbers) (commented reference) (10 ∷ [])))

pub line-of : (p : ℕ) (r : Request) (zs : List ℤ) → LineOf p r zs
line-of p r zs = record { asks = asks p r zs; stands = stands p r zs; text = text p r zs }
