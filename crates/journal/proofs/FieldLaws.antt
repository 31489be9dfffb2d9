-- The words of a line taken one by one.
-- Assumes nothing.
use Rattle.std.proofs.Common.{ℕ, ◌≡◌, refl, sym, ap, ◌∙◌, List, [], ◌∷◌, Option, Some, None, Result, Ok, Err, IsErrAnd, ok_or}
use lib.Dec.{ltb}
use Rattle.laws.specs.Cases.{split}
use Rattle.words.specs.Bytes.{blank}
use Rattle.words.specs.Text.{text}
use Rattle.words.specs.Words.{apart, onto, words, left, place_in, place_of}
use Rattle.words.specs.declared.line.Words.{Words}
use Rattle.words.specs.Numerals.{natural_of}
use Rattle.journal.specs.Names.{role_names, role_of_word, read_as, why_not}
use Rattle.journal.specs.Fields.{Left, more, fault, next_of, faulted, taken, field_of, budget_of, closed}
use Rattle.journal.specs.Steps.{IsField, said}
use Rattle.journal.specs.declared.Reason.{Reason}
use Rattle.journal.specs.declared.Request.{Request}
use Rattle.journal.specs.declared.plain.Call.{Call}
use Rattle.journal.specs.declared.fields.Kind.{Kind}

-- Roles.

abbrev role_text : List ℕ
role_text = text "supplier self-supplied trader producer res-aggregator demand-response"

role-words : words role_text ≡ role_names
unfolding words apart onto blank role_names
role-words = refl

role-is : (w : List ℕ) → place_of w (words role_text) ≡ place_of w role_names
role-is w = ap (place_of w) role-words

module _ (w : List ℕ) where
  pub role_named : (k : ℕ) → place_of w (words role_text) ≡ Some k → Some k ≡ role_of_word w
  unfolding role_of_word place_in role_names
  role_named k e =
      split (ltb (place_in w role_names) 6)
      (λ t.
      let f : ◌≡◌ {A = Option ℕ} (Some (place_in w role_names)) (Some k) = rw t at (sym (role-is w) ∙ e) in
      rw t (sym f))
      (λ t. let f : ◌≡◌ {A = Option ℕ} None (Some k) = rw t at (sym (role-is w) ∙ e) in cc)

  pub role_other : place_of w (words role_text) ≡ None → natural_of w ≡ role_of_word w
  unfolding role_of_word place_in role_names
  role_other e =
      split (ltb (place_in w role_names) 6)
      (λ t. let f : ◌≡◌ {A = Option ℕ} (Some (place_in w role_names)) None = rw t at (sym (role-is w) ∙ e) in cc)
      (λ t. rw t)

-- A field.

field-cases : (v : Option ℕ) (why : Reason) (s : Words) → IsField (taken v why (more (left s))) (ok_or v why) s
unfolding taken faulted
field-cases (Some n) why s = (refl, refl)
field-cases None why s = refl

pub field_is : (k : Kind) (ws rest : List (List ℕ)) (w : List ℕ) (v : Option ℕ) (s : Words) → ws ≡ w ∷ rest → left s ≡ rest → v ≡ read_as k w
    → IsField (field_of k (more ws)) (ok_or v (why_not k)) s
unfolding field_of next_of taken faulted
field_is k ws rest w v s e f g = rw (e, ← f, ← g) (field-cases v (why_not k) s)

pub taken_fault : (v : Option ℕ) (why e : Reason) → (taken v why (fault e)).left ≡ fault e
unfolding taken faulted
taken_fault (Some n) why e = refl
taken_fault None why e = refl

-- no word is left
pub field_none : (k : Kind) (ws : List (List ℕ)) (e : Reason) → ws ≡ [] → e ≡ Reason.TooFewWords → (field_of k (more ws)).left ≡ fault e
unfolding field_of next_of
field_none k ws e q r = rw (q, r) (taken_fault (read_as k []) (why_not k) Reason.TooFewWords)

-- A fault is kept.

pub field_fault : (k : Kind) (l : Left) (e : Reason) → l ≡ fault e → (field_of k l).left ≡ fault e
unfolding field_of next_of
field_fault k l e q = rw q (taken_fault (read_as k []) (why_not k) e)

-- how many days an advance may open
pub budget_fault : (l : Left) (e : Reason) → l ≡ fault e → (budget_of l).left ≡ fault e
unfolding budget_of
budget_fault l e q = rw q (field_fault Kind.Natural (fault e) e refl)

pub budget_is : (ws rest : List (List ℕ)) (w : List ℕ) (v : Option ℕ) (s : Words) → ws ≡ w ∷ rest → left s ≡ rest → v ≡ natural_of w
    → IsField (budget_of (more ws)) (ok_or v Reason.NotNumber) s
unfolding budget_of
budget_is ws rest w v s e f g = rw e (field_is Kind.Natural (w ∷ rest) rest w v s refl f g)

pub budget_none : (ws rest : List (List ℕ)) → ws ≡ [] → rest ≡ [] → (29219 ≡ (budget_of (more ws)).value) × (more rest ≡ (budget_of (more ws)).left)
unfolding budget_of
budget_none ws rest e f = rw (e, f) (refl, refl)

pub closed_fault : (l : Left) (r : Request) (e : Reason) → l ≡ fault e → closed l r ≡ Request.Error e
unfolding closed
closed_fault l r e q = rw q

-- A fault that is passed on.

pub said_err : (r : Result Call Reason) (why : Reason) → IsErrAnd r (λ y. y ≡ why) → said r ≡ Request.Error why
said_err (Ok q) why e = absurd e
said_err (Err y) why e = ap Request.Error e

pub field_err : (k : Kind) (l : Left) (r : Result ℕ Reason) (why : Reason) (s : Words) → IsErrAnd r (λ y. y ≡ why) → (field_of k l).left ≡ fault why
    → IsField (field_of k l) r s
field_err k l (Ok n) why s e f = absurd e
field_err k l (Err y) why s e f = f ∙ sym (ap fault e)

-- The end of a call's words.

pub closed_end : (ws : List (List ℕ)) (r : Request) → ws ≡ [] → r ≡ closed (more ws) r
unfolding closed
closed_end ws r e = rw e

pub closed_more : (ws rest : List (List ℕ)) (w : List ℕ) (r : Request) → ws ≡ w ∷ rest → Request.Error Reason.TooManyWords ≡ closed (more ws) r
unfolding closed
closed_more ws rest w r e = rw e

-- a fault that is passed on before the end of a call's words
pub closed_late : (r : Result Call Reason) (why : Reason) (l : Left) (q : Request) → IsErrAnd r (λ y. y ≡ why) → l ≡ fault why → said r ≡ closed l q
closed_late r why l q e f = said_err r why e ∙ sym (closed_fault l q why f)
