-- Each participant's part of the events of a list of calls is lawful, and today is the same in all of them.
-- Assumes nothing.
use Prim.Native.Nat.{ℕ, zero, suc, ◌+◌, ◌-◌, ◌≤◌, min}
use native.Mathlib.Omega.{arith}
use mathlib.Core.Path.{◌≡◌, refl, sym, ap, subst, ◌∙◌}
use mathlib.Core.Bool.{true, ◌||◌}
use mathlib.Core.List.{List, [], ◌∷◌, ◌++◌}
use borrow.Author.Tests.{eqb-true, eqb-false}
use lib.Dec.{eqb, ltb}
use Rattle.laws.specs.Cases.{by-test}
use Rattle.file.specs.Answer.{refused, days_opened, decide, accepted}
use Rattle.book.specs.Call.{Act, advance}
use Rattle.book.specs.Rule.{Rule}
use Rattle.book.specs.Reading.Events as E
use Rattle.book.specs.Reading.Events.{Event, did, Own, act, mine, today_of, with_days}
use Rattle.book.specs.Reading.Decisions.{cause, own_causes, own_answer, retirement, decision_on, decision}
use Rattle.book.proofs.Participant.Lawful.{today_in, NoneHolds, Lawful}
use Rattle.file.specs.DecideLaws.{none-holds}
use Rattle.book.proofs.History.Advances.{days-fit}

-- What holds of every participant's part after a call of participant q: of q's with the call added, and of each other's as it was.
pub mine-did : (P : ℕ → List Own → Type 0) (d q p : ℕ) (a : Act) (events : List Event) → P q (act d a ∷ mine q events)
    → ((q ≡ p → ⊥) → P p (mine p events)) → P p (mine p (did d q a ∷ events))
unfolding mine
mine-did P d q p a events named other =
    by-test (eqb q p) (act d a ∷ mine p events) (mine p events) (P p)
    (λ e. subst (λ (k : ℕ). P k (act d a ∷ mine k events)) (eqb-true q p e) named)
    (λ e. other (eqb-false q p e))

-- So q's part has one more act, and every other's is as it was.
pub mine-named : (d q : ℕ) (a : Act) (events : List Event) → act d a ∷ mine q events ≡ mine q (did d q a ∷ events)
mine-named d q a events = mine-did (λ k own. act d a ∷ mine k events ≡ own) d q q a events refl (λ ne. absurd (ne refl))

pub mine-other : (d q p : ℕ) (a : Act) (events : List Event) → (p ≡ q → ⊥) → mine p events ≡ mine p (did d q a ∷ events)
mine-other d q p a events ne =
    mine-did (λ k own. (k ≡ q → ⊥) → mine k events ≡ own) d q p a events (λ n. absurd (n refl)) (λ m n. refl) ne

-- Today, by the events and by each participant's part.
pub today-mine : (s p : ℕ) (events : List Event) → today_in s (mine p events) ≡ today_of s events
unfolding mine today_of today_in
today-mine s p [] = refl
today-mine s p (E.opened d ∷ events) = refl
today-mine s p (did d q a ∷ events) =
    mine-did (λ k own. today_in s own ≡ today_of s events) d q p a events (today-mine s q events) (λ ne. today-mine s p events)

-- Two histories with the same part of a participant have the same today, and what is decided of its calls is the same.
pub same-today : (s p : ℕ) (one other : List Event) → mine p one ≡ mine p other → today_of s one ≡ today_of s other
same-today s p one other agree = sym (today-mine s p one) ∙ ap (today_in s) agree ∙ today-mine s p other

pub decided-alike : (rule : Rule) (s p : ℕ) (a : Act) (one other : List Event) → mine p one ≡ mine p other
    → decision_on rule s one p a ≡ decision_on rule s other p a
decided-alike rule s p a one other agree =
    let today = same-today s p one other agree in
    λ i.
    decide refused (cause 1 (ltb 63 p) ∷ (own_causes (today i) (agree i) a ++ retirement rule a)) (own_answer (today i) (agree i) a)

-- The day after n more were opened.
pub today-days : (s n : ℕ) (events : List Event) → today_of s (with_days n (today_of s events) events) ≡ today_of s events + n
unfolding today_of with_days
today-days s zero events = omega arith
today-days s (suc n) events = refl

-- Every participant's part is lawful.
abbrev pub LawfulAll : ℕ → List Event → Type 0
LawfulAll s events = (p : ℕ) → Lawful s (mine p events)

-- .. with one more day opened.
pub lawful-opened : (s d : ℕ) (events : List Event) → LawfulAll s events → d ≡ suc (today_of s events) → d ≤ 29219
    → LawfulAll s (E.opened d ∷ events)
unfolding mine
lawful-opened s d events lw e le p = (e ∙ ap suc (sym (today-mine s p events)), le, lw p)

-- .. with n more days opened.
pub lawful-days : (s n : ℕ) (events : List Event) → LawfulAll s events → today_of s events + n ≤ 29219
    → LawfulAll s (with_days n (today_of s events) events)
unfolding with_days
lawful-days s zero events lw le = lw
lawful-days s (suc n) events lw le =
    lawful-opened s (today_of s events + suc n) (with_days n (today_of s events) events)
    (lawful-days s n events lw (omega arith))
    (let e = today-days s n events in omega arith)
    le

-- .. with one more call accepted.
pub lawful-did : (s q : ℕ) (a : Act) (events : List Event) → LawfulAll s events
    → NoneHolds (own_causes (today_of s events) (mine q events) a) → LawfulAll s (did (today_of s events) q a ∷ events)
lawful-did s q a events lw none p =
    mine-did (λ k own. Lawful s own) (today_of s events) q p a events (sym (today-mine s q events), none, lw q) (λ ne. lw p)

-- The days that an accepted advance opens stay within the calendar.
pub days-within : (rule : Rule) (s day budget : ℕ) (events : List Event) → accepted (decision rule s events (advance day budget)) ≡ true
    → today_of s events + min budget (day - today_of s events) ≤ 29219
unfolding decision
days-within rule s day budget events e =
    let t = today_of s events in
    days-fit day t budget (none-holds (cause 17 (ltb 29219 day || ltb day t) ∷ []) (days_opened (min budget (day - t))) e).0
