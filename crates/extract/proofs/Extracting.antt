-- A participant's extract agrees with the whole list of calls on its own calls and the days opened: each call that it takes is decided as it was,
-- and what it leaves out is no part of the participant's history.
-- Assumes nothing.
use Prim.Native.Nat.{ℕ, zero, suc, ◌+◌, ◌-◌, ◌≤◌, ◌<◌, min}
use native.Mathlib.Omega.{arith}
use mathlib.Core.Path.{◌≡◌, refl, sym, ap, subst, ◌∙◌}
use mathlib.Core.Bool.{Bool, true, ◌||◌}
use mathlib.Core.List.{List, [], ◌∷◌, ◌++◌, map}
use borrow.Author.Tests.{eqb-true, eqb-false, ltb-true, ltb-false}
use lib.Dec.{ltb, eqb}
use Rattle.std.specs.Prelude.{Option, Some, None, Ok}
use Rattle.laws.specs.Cases.{split, cond-true, cond-false, by-test}
use Rattle.laws.specs.Least.{least, none_below}
use Rattle.laws.specs.Lists.{All, all_append}
use Rattle.batch.specs.Batch.{count_in, participant_at}
use Rattle.batch.specs.FormLaws.{Whole, participants-differ}
use Rattle.file.specs.Answer.{Answer, refused, days_opened, accepted, decide}
use Rattle.book.specs.Call.{Act, Call, on, advance, batch, part_act}
use Rattle.book.specs.Rule.{Rule, old_rule, new_rule, MadeCall, under}
use Rattle.book.specs.Reading.Events.{Event, did, Own, day_opened, act, mine, today_of, with_days}
use Rattle.book.specs.Reading.Decisions.{cause, decision_on, part_decision, decision, with_parts, with_call, events_of}
use Rattle.book.specs.Life.{answers_of}
use Rattle.book.proofs.History.Events.{mine-named, mine-other, same-today, decided-alike}
use native.Mathlib.Nat.{le_refl}
use Rattle.book.proofs.History.Parts.{NotAmong, Accepted, batch-accepted}
use Rattle.book.proofs.History.PartEvents.{mine-parts}
use Rattle.book.proofs.History.Lift.{decided}
use Rattle.extract.specs.Extract.{part_in, own_part, settlement, own_calls, extract_of, decided_of}

-- ---- the part of a batch that is a participant's

-- At the least place below the bound the test holds.
least-holds : (test : ℕ → Bool) (n : ℕ) → least test n < n → test (least test n) ≡ true
unfolding least
least-holds test zero h = absurd (omega arith)
least-holds test (suc n) h =
    let later = least (λ k. test (suc k)) n in
    split (test zero)
    (λ e. ap test (cond-true (test zero) zero (suc later) e) ∙ e)
    (λ e.
    let same = cond-false (test zero) zero (suc later) e in
    ap test same ∙ least-holds (λ k. test (suc k)) n (omega arith))

-- What holds of a participant's part: it lies below the count of parts and is the participant's; and where there is none, none of the parts is.
pub record Found (p : ℕ) (file : List ℕ) (k : ℕ) : Type 0 where
  pub low : k < count_in file
  pub named : participant_at file k ≡ p

pub data Search (p : ℕ) (file : List ℕ) : Option ℕ → Type 0 where
  found : (k : ℕ) → Found p file k → Search p file (Some k)
  missing : NotAmong file (count_in file) p → Search p file None

searched : (p : ℕ) (file : List ℕ) → Search p file (part_in p file (Ok (count_in file)))
searched p file =
    let test : ℕ → Bool = λ k. eqb (participant_at file k) p in
    let n = count_in file in
    let k = least test n in
    by-test (ltb k n) (Some k) None (Search p file)
    (λ t. let h : k < n = ltb-true k n t in found k (record { low = h; named = eqb-true (participant_at file k) p (least-holds test n h) }))
    (λ f. missing (λ j l. eqb-false (participant_at file j) p (none_below test n (ltb-false k n f) j l)))

pub own-search : (p : ℕ) (file : List ℕ) → Whole file → Search p file (own_part p file)
unfolding own_part
own-search p file w = rw w.form (searched p file)

-- ---- the events of a batch

-- What is below k + 1 and is not k is below k.
below-other : (j k : ℕ) → (j ≡ k → ⊥) → j < suc k → j < k
below-other j k ne h = split (ltb j k) (ltb-true j k) (λ f. absurd (ne (let not = ltb-false j k f in omega arith)))

-- A part's participant stands in no other part.
not-other : (file : List ℕ) (j k p : ℕ) → Whole file → j < k → k < count_in file → participant_at file j ≡ p → participant_at file k ≡ p → ⊥
not-other file j k p w l h e f = participants-differ file w j k l h (e ∙ sym f)

-- The first k settlements of which one, that of part j, is the participant's.
mine-with : (t : ℕ) (file : List ℕ) (k j p : ℕ) (events : List Event) → Whole file → k ≤ count_in file → j < k → participant_at file j ≡ p
    → mine p (with_parts t file k events) ≡ act t (part_act file j) ∷ mine p events
unfolding with_parts
mine-with t file zero j p events w h l e = absurd (omega arith)
mine-with t file (suc k) j p events w h l e =
    split (eqb j k)
    (λ same.
    let is : j ≡ k = eqb-true j k same in
    let named : participant_at file k ≡ p = ap (participant_at file) (sym is) ∙ e in
    ap (λ (q : ℕ). mine p (did t q (part_act file k) ∷ with_parts t file k events)) named
    ∙ sym (mine-named t p (part_act file k) (with_parts t file k events))
    ∙ ap (λ (own : List Own). act t (part_act file k) ∷ own)
    (mine-parts t file k p events (λ i m f. not-other file i k p w m (omega arith) f named))
    ∙ ap (λ (i : ℕ). act t (part_act file i) ∷ mine p events) (sym is))
    (λ other.
    let ne = eqb-false j k other in
    let before : j < k = below-other j k ne l in
    sym (mine-other t (participant_at file k) p (part_act file k) (with_parts t file k events)
    (λ f. not-other file j k p w before (omega arith) e (sym f)))
    ∙ mine-with t file k j p events w (omega arith) before e)

-- ---- one accepted call

-- What the calls `own`, made under a rule, do before those of the extract, where the whole history goes from `one` to `after`: they make the same
-- of the participant's history, and each is answered what is decided of it after `one`, and accepted.
pub record Taken (s p : ℕ) (rule : Rule) (one after : List Event) (own : List Call) (rest : List MadeCall) : Type 0 where
  pub agree : mine p after ≡ mine p (events_of s (map (under rule) own ++ rest))
  pub answers : answers_of s (map (under rule) own ++ rest) ≡ map (decision rule s one) own ++ answers_of s rest
  pub each : All (λ (x : Answer). accepted x ≡ true) (map (decision rule s one) own)

-- The same days opened.
same-days : (p n t : ℕ) (one other : List Event) → mine p one ≡ mine p other → mine p (with_days n t one) ≡ mine p (with_days n t other)
unfolding with_days mine
same-days p zero t one other agree = agree
same-days p (suc n) t one other agree = ap (λ (own : List Own). day_opened (t + suc n) ∷ own) (same-days p n t one other agree)

-- A settlement is decided alike under both rules.
either-rule : (rule : Rule) (s : ℕ) (events : List Event) (p : ℕ) (file : List ℕ) (k : ℕ)
    → decision_on new_rule s events p (part_act file k) ≡ decision_on rule s events p (part_act file k)
either-rule old_rule s events p file k = refl
either-rule new_rule s events p file k = refl

module _ (s p : ℕ) (h : s ≤ 29219) (rule : Rule) (one : List Event) (rest : List MadeCall) (agree : mine p one ≡ mine p (events_of s rest)) where
  abbrev other : List Event
  other = events_of s rest

  same-day : today_of s one ≡ today_of s other
  same-day = same-today s p one other agree

  -- Nothing is taken of a call that leaves the participant's history as it is.
  none : (after : List Event) → mine p after ≡ mine p one → Taken s p rule one after [] rest
  none after same = record { agree = same ∙ agree; answers = refl; each = tt }

  -- One call is taken.
  single : (after : List Event) (c : Call) → decision rule s one c ≡ decision rule s other c → accepted (decision rule s one c) ≡ true
      → mine p after ≡ mine p (with_call s other c) → Taken s p rule one after (c ∷ []) rest
  unfolding events_of answers_of
  single after c same good alike =
      record {
        agree = alike
            ∙ ap (mine p) (sym (cond-true (accepted (decision rule s other c)) (with_call s other c) other (ap accepted (sym same) ∙ good)));
        answers = ap (λ (x : Answer). x ∷ answers_of s rest) (decided s rest h rule c ∙ sym same);
        each = (good, tt);
      }

  -- A call on the participant's file.
  own-call : (a : Act) → accepted (decision rule s one (on p a)) ≡ true → Taken s p rule one (did (today_of s one) p a ∷ one) (on p a ∷ []) rest
  unfolding decision with_call
  own-call a good =
      single (did (today_of s one) p a ∷ one) (on p a) (decided-alike rule s p a one other agree) good
      (sym (mine-named (today_of s one) p a one)
      ∙ (λ i. act (same-day i) a ∷ agree i)
      ∙ mine-named (today_of s other) p a other)

  -- An advance.
  advanced : (day budget : ℕ) → accepted (decision rule s one (advance day budget)) ≡ true
      → Taken s p rule one (with_call s one (advance day budget)) (advance day budget ∷ []) rest
  unfolding decision with_call
  advanced day budget good =
      let t = today_of s other in
      single (with_call s one (advance day budget)) (advance day budget)
      (λ i. decide refused (cause 17 (ltb 29219 day || ltb day (same-day i)) ∷ []) (days_opened (min budget (day - same-day i))))
      good
      ((λ i. mine p (with_days (min budget (day - same-day i)) (same-day i) one)) ∙ same-days p (min budget (day - t)) t one other agree)

  -- The part of a batch, or none.
  parted : (file : List ℕ) (part : Option ℕ) → Search p file part → Whole file
      → ((k : ℕ) → k < count_in file → accepted (part_decision s one file k) ≡ true)
      → Taken s p rule one (with_parts (today_of s one) file (count_in file) one) (settlement p file part) rest
  unfolding part_decision decision with_call
  parted file (Some k) (found i f) w each =
      let t = today_of s one in
      let a = part_act file k in
      single (with_parts t file (count_in file) one) (on p a) (decided-alike rule s p a one other agree)
      (ap accepted (sym (either-rule rule s one p file k))
      ∙ ap (λ (q : ℕ). accepted (decision_on new_rule s one q a)) (sym f.named)
      ∙ each k f.low)
      (mine-with t file (count_in file) k p one w (le_refl (count_in file)) f.low f.named
      ∙ (λ i. act (same-day i) a ∷ agree i)
      ∙ mine-named (today_of s other) p a other)
  parted file None (missing n) w each =
      none (with_parts (today_of s one) file (count_in file) one) (mine-parts (today_of s one) file (count_in file) p one n)

  -- Any accepted call.
  pub taken : (c : Call) → accepted (decision rule s one c) ≡ true → Taken s p rule one (with_call s one c) (own_calls p c) rest
  unfolding own_calls decision with_call
  taken (on q a) good =
      by-test (eqb q p) (on q a ∷ []) [] (λ own. Taken s p rule one (did (today_of s one) q a ∷ one) own rest)
      (λ e.
      subst (λ (k : ℕ). accepted (decision rule s one (on k a)) ≡ true → Taken s p rule one (did (today_of s one) k a ∷ one) (on k a ∷ []) rest)
      (sym (eqb-true q p e)) (own-call a) good)
      (λ e. none (did (today_of s one) q a ∷ one) (sym (mine-other (today_of s one) q p a one (λ f. eqb-false q p e (sym f)))))
  taken (advance day budget) good = advanced day budget good
  taken (batch file) good = filed (batch-accepted file (part_decision s one file) good)
    where
      filed : Accepted file (part_decision s one file)
          → Taken s p rule one (with_parts (today_of s one) file (count_in file) one) (settlement p file (own_part p file)) rest
      filed all = parted file (own_part p file) (own-search p file all.whole) all.whole all.each
  taken c good = none one refl

-- ---- the whole list

-- The calls of an extract and their answers, where the whole history has these events.
pub record Follows (s p : ℕ) (events : List Event) (own : List MadeCall) (decided : List Answer) : Type 0 where
  pub agree : mine p events ≡ mine p (events_of s own)
  pub answers : answers_of s own ≡ decided
  pub each : All (λ (x : Answer). accepted x ≡ true) decided

-- The calls of one more, taken before those of the extract.
taken-more : (s p : ℕ) (rule : Rule) (one after : List Event) (own : List Call) (rest : List MadeCall) (answers : List Answer)
    → Taken s p rule one after own rest → Follows s p one rest answers
    → Follows s p after (map (under rule) own ++ rest) (map (decision rule s one) own ++ answers)
taken-more s p rule one after own rest answers k all =
    let now = map (decision rule s one) own in
    record {
      agree = k.agree;
      answers = k.answers ∙ ap (λ (x : List Answer). now ++ x) all.answers;
      each = all_append (λ (x : Answer). accepted x ≡ true) now answers k.each all.each;
    }

pub follows : (s p : ℕ) (calls : List MadeCall) → s ≤ 29219 → Follows s p (events_of s calls) (extract_of p s calls) (decided_of p s calls)
unfolding extract_of decided_of events_of answers_of
follows s p [] h = record { agree = refl; answers = refl; each = tt }
follows s p (e ∷ before) h =
    let one = events_of s before in
    let rest = extract_of p s before in
    let all = follows s p before h in
    split (accepted (decision e.rule s one e.call))
    (λ t.
    rw t
    (taken-more s p e.rule one (with_call s one e.call) (own_calls p e.call) rest (decided_of p s before)
    (taken s p h e.rule one rest all.agree e.call t) all))
    (λ f. rw f all)
