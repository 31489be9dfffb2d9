-- What holds of a participant's extract of every list of calls.
-- Assumes nothing.
use Prim.Native.Nat.{ℕ, ◌-◌, ◌≤◌, ◌<◌, min}
use mathlib.Core.Path.{◌≡◌, refl, sym, ap, subst, ◌∙◌}
use mathlib.Core.Bool.{Bool, true, false, cond, ◌||◌}
use mathlib.Core.List.{List, [], ◌∷◌, ◌++◌, map}
use borrow.Author.Tests.{eq-eqb, eqb-true}
use lib.Dec.{ltb, eqb}
use Rattle.std.specs.Prelude.{Option, Some, None}
use Rattle.laws.specs.Cases.{split, clash, by-test}
use Rattle.laws.specs.Lists.{All, all_append}
use Rattle.file.specs.Answer.{Answer, refused, days_opened, accepted, decide}
use Rattle.layout.specs.Book.{Book}
use Rattle.book.specs.Call.{Call, on, advance, batch}
use Rattle.book.specs.Rule.{Rule, MadeCall, under}
use Rattle.book.specs.Account.{file_at, run}
use Rattle.book.specs.Reading.Events.{Event, mine, today_of}
use Rattle.book.specs.Reading.Decisions.{cause, decision, events_of}
use Rattle.book.specs.Kept.{file_in}
use Rattle.book.specs.Life.{answers_of}
use Rattle.book.specs.Private.{concerns, concerning, is_batch, NoBatch}
use Rattle.book.proofs.History.Events.{same-today, decided-alike}
use Rattle.book.proofs.History.Lift.{file-at, run_is, decided}
use Rattle.book.proofs.History.Life.{life}
use Rattle.extract.specs.Extract.{settlement, own_part, own_calls, extract_of, decided_of, OnlyOf, Extracted}
use Rattle.extract.proofs.Extracting.{Follows, follows}

-- ---- no call names another participant

settlement-only : (p : ℕ) (rule : Rule) (file : List ℕ) (part : Option ℕ) → OnlyOf p (map (under rule) (settlement p file part))
settlement-only p rule file (Some k) = (eq-eqb p p refl, tt)
settlement-only p rule file None = tt

own-only : (p : ℕ) (rule : Rule) (c : Call) → OnlyOf p (map (under rule) (own_calls p c))
unfolding own_calls
own-only p rule (on q a) = by-test (eqb q p) (on q a ∷ []) [] (λ own. OnlyOf p (map (under rule) own)) (λ t. (t, tt)) (λ f. tt)
own-only p rule (advance day budget) = (refl, tt)
own-only p rule (batch file) = settlement-only p rule file (own_part p file)
own-only p rule c = tt

only : (s p : ℕ) (calls : List MadeCall) → OnlyOf p (extract_of p s calls)
unfolding extract_of
only s p [] = tt
only s p (e ∷ before) =
    let own = map (under e.rule) (own_calls p e.call) in
    by-test (accepted (decision e.rule s (events_of s before) e.call)) (own ++ extract_of p s before) (extract_of p s before) (OnlyOf p)
    (λ t. all_append (λ (c : MadeCall). concerns p c.call ≡ true) own (extract_of p s before) (own-only p e.rule e.call) (only s p before))
    (λ f. only s p before)

-- ---- accepted calls of the participant alone are their own extract

own-itself : (p : ℕ) (c : Call) → concerns p c ≡ true → own_calls p c ≡ c ∷ []
unfolding own_calls
own-itself p (on q a) e = rw e
own-itself p (advance day budget) e = refl
own-itself p c e = clash {t = false} e refl

itself : (s p : ℕ) (calls : List MadeCall) → s ≤ 29219 → OnlyOf p calls → All (λ (x : Answer). accepted x ≡ true) (answers_of s calls)
    → extract_of p s calls ≡ calls
unfolding extract_of answers_of
itself s p [] h o a = refl
itself s p (e ∷ before) h o a =
    let good : accepted (decision e.rule s (events_of s before) e.call) ≡ true = ap accepted (sym (decided s before h e.rule e.call)) ∙ a.0 in
    rw (good, own-itself p e.call o.0) (ap (λ (l : List MadeCall). e ∷ l) (itself s p before h o.1 a.1))

-- ---- without batches it hangs on the participant's own calls and the advances alone

-- What is decided of such a call is the same after two histories with the same part of the participant.
same-decision : (s p : ℕ) (rule : Rule) (c : Call) (one other : List Event) → mine p one ≡ mine p other → concerns p c ≡ true
    → decision rule s one c ≡ decision rule s other c
unfolding decision
same-decision s p rule (on q a) one other agree e =
    decided-alike rule s q a one other (subst (λ (k : ℕ). mine k one ≡ mine k other) (sym (eqb-true q p e)) agree)
same-decision s p rule (advance day budget) one other agree e =
    let same-day = same-today s p one other agree in
    λ i. decide refused (cause 17 (ltb 29219 day || ltb day (same-day i)) ∷ []) (days_opened (min budget (day - same-day i)))
same-decision s p rule c one other agree e = clash {t = false} e refl

-- Nothing is taken of the others.
own-none : (p : ℕ) (c : Call) → concerns p c ≡ false → is_batch c ≡ false → own_calls p c ≡ []
unfolding own_calls
own-none p (on q a) e none = rw e
own-none p (advance day budget) e none = clash {t = true} refl e
own-none p (batch file) e none = clash {t = true} refl none
own-none p c e none = refl

either : (t : Bool) (l : List MadeCall) → cond t l l ≡ l
either true l = refl
either false l = refl

alone : (s p : ℕ) (calls : List MadeCall) → s ≤ 29219 → NoBatch calls → extract_of p s calls ≡ extract_of p s (concerning p calls)
unfolding extract_of concerning
alone s p [] h none = refl
alone s p (e ∷ before) h none =
    let rest = extract_of p s before in
    let same = alone s p before h none.1 in
    let agree : mine p (events_of s before) ≡ mine p (events_of s (concerning p before)) =
    (follows s p before h).agree ∙ ap (λ (l : List MadeCall). mine p (events_of s l)) same ∙ sym (follows s p (concerning p before) h).agree in
    split (concerns p e.call)
    (λ t.
    rw (t, ← same, same-decision s p e.rule e.call (events_of s before) (events_of s (concerning p before)) agree t) refl)
    (λ f.
    rw (f, own-none p e.call f none.0)
    (either (accepted (decision e.rule s (events_of s before) e.call)) rest ∙ same))

-- ---- the whole

module _ (s p : ℕ) (calls : List MadeCall) (h : s ≤ 29219) where
  abbrev own : List MadeCall
  own = extract_of p s calls

  all : Follows s p (events_of s calls) own (decided_of p s calls)
  all = follows s p calls h

  same-day : today_of s (events_of s calls) ≡ today_of s (events_of s own)
  same-day = same-today s p (events_of s calls) (events_of s own) all.agree

  same-file : p < 64 → file_at (run s calls) p ≡ file_at (run s own) p
  same-file k =
      ap (λ (b : Book). file_at b p) (run_is s calls h)
      ∙ file-at s p (events_of s calls) k
      ∙ (λ i. file_in (same-day i) (all.agree i))
      ∙ sym (file-at s p (events_of s own) k)
      ∙ sym (ap (λ (b : Book). file_at b p) (run_is s own h))

  pub extracted : Extracted s p calls
  extracted =
      record {
        agrees = all.agree;
        tells = (life s calls h).private p own all.agree;
        file = same-file;
        today = (life s calls h).today ∙ same-day ∙ sym (life s own h).today;
        answers = all.answers;
        each = subst (λ (l : List Answer). All (λ (x : Answer). accepted x ≡ true) l) (sym all.answers) all.each;
        only = only s p calls;
        again = itself s p own h (only s p calls)
            (subst (λ (l : List Answer). All (λ (x : Answer). accepted x ≡ true) l) (sym all.answers) all.each);
        alone = alone s p calls h;
      }
