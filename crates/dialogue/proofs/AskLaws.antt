-- What a line asks: its text behind a byte order mark, held back where only questions are answered or the newline lacks.
-- Assumes nothing.
use Rattle.std.proofs.Common.{◌≡◌, ℕ, Bool, cond, ◌&&◌, eqb, List, [], ◌∷◌, length, get_or, take, ℤ, sym, refl, ap, ◌∙◌, subst}
use mathlib.Core.Bool.{and-true}
use lib.Pointwise.{pointwise}
use Rattle.laws.specs.Cases.{split}
use Rattle.journal.specs.Grammar.{parsed}
use Rattle.journal.proofs.Counts.{IsCall}
use Rattle.journal.specs.declared.Reason.{Reason}
use Rattle.journal.specs.declared.Request.{Request}
use Rattle.answering.specs.Asked.{asked}
use Rattle.answering.specs.Kept.{changes}
use Rattle.answering.specs.Lines.{line_request, line_asks, LineIs}
use Rattle.dialogue.specs.declared.Way.{Way}
use Rattle.dialogue.specs.declared.Place.{Place}
use Rattle.dialogue.specs.Asks.{text_of, held_back, request_of, asks, LineAsked}

-- ---- held back

-- A request that is held back asks the same whatever the numbers; any other asks what it asked.
pub held_asks : (way : Way) (r : Request) (zs ys : List ℤ) → asked r zs ≡ asked r ys → asked (held_back way r) zs ≡ asked (held_back way r) ys
unfolding held_back
held_asks way r zs ys e =
    split way.torn (λ t. rw t refl) (λ t. rw t (split (way.reads && changes r) (λ u. rw u refl) (λ u. rw u e)))

-- ---- the line

pub line_asked : (way : Way) (p : Place) (l text : List ℕ) (e f : List ℤ) (q r : Request) → LineIs p.long p.kept text e q f → text ≡ text_of p.line l
    → r ≡ held_back way q → LineAsked way p l e r f
unfolding request_of asks line_asks
line_asked way p l text e f q r x is h =
    let u = text_of p.line l in
    let y : LineIs p.long p.kept u e q f = subst (λ (z : List ℕ). LineIs p.long p.kept z e q f) is x in
    let g : r ≡ held_back way (line_request p.long p.kept (length e) u) = h ∙ ap (held_back way) y.request in
    let z : asked (line_request p.long p.kept (length e) u) f
    ≡ asked (line_request p.long p.kept (length e) u) (parsed (length e) u).numbers =
    ap (λ (k : Request). asked k f) (sym y.request) ∙ y.asks in
    record {
      request = g;
      same =
          ap (λ (k : Request). asked k f) g
          ∙ held_asks way (line_request p.long p.kept (length e) u) f (parsed (length e) u).numbers z;
      line = record { request = refl; numbers = y.numbers; asks = z };
    }

-- A request that is a call is not held back.
pub held-call : (way : Way) (q : Request) → IsCall (held_back way q) → held_back way q ≡ q
unfolding held_back
held-call way q c =
    split way.torn (λ t. let d : IsCall (Request.Error Reason.NoNewline) = rw t at c in absurd d)
    (λ t.
    let d : IsCall (cond (way.reads && changes q) (Request.Error Reason.ReadOnly) q) = rw t at c in
    rw t (split (way.reads && changes q) (λ u. let e : IsCall (Request.Error Reason.ReadOnly) = rw u at d in absurd e) (λ u. rw u refl)))

-- ---- the byte order mark

-- The three bytes of a mark, compared with the front of a line.
pub mark_test : (l : List ℕ) → pointwise eqb (take 3 l) (239 ∷ 187 ∷ 191 ∷ [])
    ≡ (eqb (get_or l 0 0) 239 && (eqb (get_or l 1 0) 187 && eqb (get_or l 2 0) 191))
mark_test [] = refl
mark_test (a ∷ []) = refl
mark_test (a ∷ b ∷ []) = refl
mark_test (a ∷ b ∷ c ∷ l) = ap (λ (t : Bool). eqb a 239 && (eqb b 187 && t)) (and-true (eqb c 191))
