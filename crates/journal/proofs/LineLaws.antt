-- A line: what is lodged and which call it is, by the names that a word may be.
-- Assumes nothing.
use Rattle.std.proofs.Common.{ℕ, suc, ◌≡◌, refl, sym, ap, ◌∙◌, Bool, true, false, cond, List, [], ◌∷◌, length, ℤ}
use Rattle.std.specs.Cmp.Lexicographic.{pointwise}
use lib.Dec.{eqb}
use Rattle.words.specs.Text.{text}
use Rattle.words.specs.Bytes.{control, some, uncommented}
use Rattle.words.specs.Words.{words, place_in}
use Rattle.words.proofs.WordLaws.{same_is}
use Rattle.journal.specs.Names.{call_names, lodged_names, lodged_in}
use Rattle.journal.specs.Fields.{Left, more, fault, next_of, faulted, taken, field_of, lodged_field}
use Rattle.journal.specs.Grammar.{plain, cash_of, letter_of, lodge_of, calls_of, named_call, words_of, parsed}
use Rattle.journal.specs.Steps.{ParsedIs}
use Rattle.journal.specs.declared.Reason.{Reason}
use Rattle.journal.specs.declared.Request.{Request}
use Rattle.journal.specs.declared.fields.Kind.{Kind}
use Rattle.journal.proofs.FieldLaws.{taken_fault, field_fault, closed_fault}

-- The place of a word among names: the first that it is.

pub here : (w n : List ℕ) (ns : List (List ℕ)) (t : Bool) → t ≡ pointwise eqb w n → t ≡ true → place_in w (n ∷ ns) ≡ 0
unfolding place_in
here w n ns t e f = rw (sym (same_is w n) ∙ sym e ∙ f)

pub later : (w n : List ℕ) (ns : List (List ℕ)) (k : ℕ) (t : Bool) → t ≡ pointwise eqb w n → t ≡ false → place_in w ns ≡ k → place_in w (n ∷ ns) ≡ suc k
unfolding place_in
later w n ns k t e f g = rw (sym (same_is w n) ∙ sym e ∙ f) (ap suc g)

pub no_more : (w : List ℕ) → place_in w [] ≡ 0
unfolding place_in
no_more w = refl

-- What is lodged.

lodged-fault : (l : Left) (e : Reason) → l ≡ fault e → (lodged_field l).left ≡ fault e
unfolding lodged_field next_of
lodged-fault l e q = rw q (taken_fault (lodged_in []) Reason.NotCashOrLetter e)

cash-fault : (p q : ℕ) (l : Left) (e : Reason) → l ≡ fault e → cash_of p q l ≡ Request.Error e
unfolding cash_of
cash-fault p q l e h = closed_fault _ _ e (field_fault Kind.Amount l e h)

letter-fault : (p q : ℕ) (l : Left) (e : Reason) → l ≡ fault e → letter_of p q l ≡ Request.Error e
unfolding letter_of
letter-fault p q l e h =
    closed_fault _ _ e
    (field_fault Kind.Day _ e (field_fault Kind.Day _ e (field_fault Kind.Amount l e h)))

either-fault : (b : Bool) (p q : ℕ) (l : Left) (e : Reason) → l ≡ fault e → cond b (cash_of p q l) (letter_of p q l) ≡ Request.Error e
either-fault true p q l e h = cash-fault p q l e h
either-fault false p q l e h = letter-fault p q l e h

pub lodge_fault : (l : Left) (e : Reason) → (field_of Kind.Natural (field_of Kind.Natural l).left).left ≡ fault e → lodge_of l ≡ Request.Error e
unfolding lodge_of
lodge_fault l e h =
    let k = lodged_field (field_of Kind.Natural (field_of Kind.Natural l).left).left in
    either-fault (eqb k.value 0) _ _ k.left e (lodged-fault _ e h)

module _ (l : Left) (p q : ℕ) (ws : List (List ℕ)) (first : p ≡ (field_of Kind.Natural l).value)
    (second : q ≡ (field_of Kind.Natural (field_of Kind.Natural l).left).value)
    (rest : more ws ≡ (field_of Kind.Natural (field_of Kind.Natural l).left).left) where
  opened : lodge_of l
      ≡ cond (eqb (lodged_field (more ws)).value 0) (cash_of p q (lodged_field (more ws)).left) (letter_of p q (lodged_field (more ws)).left)
  unfolding lodge_of
  opened = rw (first, second, rest)

  pub lodge_none : (e : Reason) → ws ≡ [] → e ≡ Reason.TooFewWords → lodge_of l ≡ Request.Error e
  unfolding lodged_field next_of
  lodge_none e h g =
      opened
      ∙ either-fault _ p q _ e
      (rw (h, g) (taken_fault (lodged_in []) Reason.NotCashOrLetter Reason.TooFewWords))

  module _ (w : List ℕ) (ms : List (List ℕ)) (h : ws ≡ w ∷ ms) (t : Bool) (is : t ≡ pointwise eqb w (text "cash")) where
    pub lodge_cash : t ≡ true → lodge_of l ≡ cash_of p q (more ms)
    unfolding lodged_field next_of taken lodged_in lodged_names
    lodge_cash e = opened ∙ rw (h, here w (text "cash") (text "letter" ∷ []) t is e)

    module _ (u : Bool) (or : u ≡ pointwise eqb w (text "letter")) (not : t ≡ false) where
      pub lodge_letter : u ≡ true → lodge_of l ≡ letter_of p q (more ms)
      unfolding lodged_field next_of taken lodged_in lodged_names
      lodge_letter e = opened ∙ rw (h, later w (text "cash") (text "letter" ∷ []) 0 t is not (here w (text "letter") [] u or e))

      pub lodge_other : u ≡ false → lodge_of l ≡ Request.Error Reason.NotCashOrLetter
      unfolding lodged_field next_of taken faulted lodged_in lodged_names
      lodge_other e =
          opened
          ∙ rw (h, later w (text "cash") (text "letter" ∷ []) 1 t is not (later w (text "letter") [] 0 u or e (no_more w)))
          (cash-fault p q (fault Reason.NotCashOrLetter) Reason.NotCashOrLetter refl)

-- The call by the place of its name.

pub call_at : (k n : ℕ) (l : Left) (e g : List ℤ) (r : Request) → n ≡ k → ParsedIs (named_call (length e) k l) e r g
    → ParsedIs (named_call (length e) n l) e r g
call_at k n l e g r q h = rw q h

-- no name
pub no_call : (l : Left) (n : ℕ) (e : List ℤ) → n ≡ 17 → ParsedIs (named_call (length e) n l) e (Request.Error Reason.NoCall) e
unfolding named_call calls_of
no_call l n e q = rw q (record { request = refl; numbers = refl })

-- The line without its comment.

module _ (line s : List ℕ) (cut : s ≡ uncommented line) (e : List ℤ) (t : Bool) (known : t ≡ some control s) where
  pub line_control : t ≡ true → ParsedIs (parsed (length e) line) e (Request.Error Reason.ControlByte) e
  unfolding parsed
  line_control v =
      let q : some control (uncommented line) ≡ true = ap (some control) (sym cut) ∙ sym known ∙ v in
      rw q (record { request = refl; numbers = refl })

  module _ (v : t ≡ false) where
    clean : some control (uncommented line) ≡ false
    clean = ap (some control) (sym cut) ∙ sym known ∙ v

    pub line_nothing : words s ≡ [] → ParsedIs (parsed (length e) line) e Request.Nothing e
    unfolding parsed words_of
    line_nothing h = rw (clean, ← cut, h) (record { request = refl; numbers = refl })

    pub line_call : (w : List ℕ) (ws : List (List ℕ)) (r : Request) (g : List ℤ) → words s ≡ w ∷ ws
        → ParsedIs (named_call (length e) (place_in w call_names) (more ws)) e r g → ParsedIs (parsed (length e) line) e r g
    unfolding parsed words_of
    line_call w ws r g h x = rw (clean, ← cut, h) x

-- a call without lists
pub plain_is : (x r : Request) (e : List ℤ) → r ≡ x → ParsedIs (plain x) e r e
plain_is x r e h = record { request = h; numbers = refl }
