-- The retired role in every history and every book.
-- Assumes nothing.
use Prim.Native.Nat.{ℕ, zero, suc, ◌≤◌, ◌-◌, min}
use mathlib.Core.Path.{◌≡◌, refl, sym, ap, ◌∙◌}
use mathlib.Core.Bool.{Bool, true, false, cond, ◌&&◌}
use mathlib.Core.List.{List, [], ◌∷◌, ◌++◌}
use lib.Dec.{eqb, ltb}
use lib.IntN.{ℤ}
use Rattle.laws.specs.Causes.{decide}
use Rattle.laws.specs.Cases.{clash, cond-false, and-refused, by-test}
use Rattle.laws.specs.Lists.{All}
use Rattle.manual.specs.Annual.{annual_amount}
use Rattle.manual.specs.Minimum.{minimum_of}
use Rattle.file.specs.Answer.{Answer, refused, done, accepted}
use Rattle.file.specs.DecideLaws.{none-holds}
use Rattle.layout.specs.Book.{Book}
use Rattle.batch.specs.Batch.{month_in, count_in, participant_at, figures_at}
use Rattle.book.specs.Call.{Act, admit, lodge, release, settle, annual_run, delete, Call, on, advance, statement, calls_made, batch, part_act}
use Rattle.book.specs.Rule.{Rule, old_rule, new_rule, MadeCall, under, history}
use Rattle.book.specs.Account.{file_at, if_numbered, file_answer, answer, applied, step}
use Rattle.book.specs.Life.{answers_of, decisions_of}
use Rattle.book.specs.Reading.Calls.{calls_in}
use Rattle.book.specs.Reading.Decisions.{cause, own_causes, own_answer, retirement, decision, with_parts, with_call, events_of}
use Rattle.book.specs.Reading.Events.{Event, Own, day_opened, act, mine, today_of, with_days, admitted_in, leaving_in, role_in}
use Rattle.book.proofs.Participant.Lawful.{NoneHolds}
use Rattle.book.proofs.Participant.Decide.{decide-false, none_before}
use Rattle.book.proofs.History.Events.{mine-did}
use Rattle.book.proofs.History.Life.{life}
use Rattle.figures.specs.History.{in_turn, decides_behind, answers_behind, decides_first, answers_first}
use Rattle.figures.specs.RetirementLaws.{admits_role1, RetirementLaws}
use Rattle.figures.proofs.Decisions.{newest}

-- What the reading decides, the book answers: the claim about the list with this call.
both_behind : (s : ℕ) (first since : List Call) (c : Call) → s ≤ 29219 → answers_behind s first since c ≡ decides_behind s first since c
unfolding answers_behind decides_behind answers_of decisions_of newest
both_behind s first since c h = ap newest (life s (under new_rule c ∷ in_turn first since) h).answers

both_first : (s : ℕ) (first : List Call) (c : Call) → s ≤ 29219 → answers_first s first c ≡ decides_first s first c
unfolding answers_first decides_first answers_of decisions_of newest
both_first s first c h = ap newest (life s (under old_rule c ∷ in_turn first []) h).answers

-- An admission with role 1 under both rules, by the tests of its causes 1 and 3.
by-causes : (a b : Bool)
    → cond a (refused 1) (cond b (refused 3) (refused 23))
    ≡ cond (accepted (cond a (refused 1) (cond b (refused 3) done))) (refused 23) (cond a (refused 1) (cond b (refused 3) done))
by-causes true b = refl
by-causes false true = refl
by-causes false false = refl

behind : (s : ℕ) (events : List Event) (p : ℕ)
    → decision new_rule s events (on p (admit 1))
    ≡ cond (accepted (decision old_rule s events (on p (admit 1)))) (refused 23) (decision old_rule s events (on p (admit 1)))
unfolding decide own_causes own_answer decision
behind s events p = by-causes (ltb 63 p) (admitted_in (mine p events))

-- .. so it is never accepted under the new one.
none-accepted : (a b : Bool) → accepted (cond a (refused 1) (cond b (refused 3) (refused 23))) ≡ false
none-accepted true b = refl
none-accepted false true = refl
none-accepted false false = refl

never : (s : ℕ) (events : List Event) (p : ℕ) → accepted (decision new_rule s events (on p (admit 1))) ≡ false
unfolding decide own_causes own_answer decision
never s events p = none-accepted (ltb 63 p) (admitted_in (mine p events))

none-answered : (a b : Bool)
    → accepted (cond a (refused 1) (cond (accepted (cond b (refused 3) done)) (refused 23) (cond b (refused 3) done))) ≡ false
none-answered true b = refl
none-answered false true = refl
none-answered false false = refl

never-in-book : (b : Book) (p : ℕ) → accepted (answer new_rule b (on p (admit 1))) ≡ false
unfolding decide if_numbered file_answer answer
never-in-book b p = none-answered (ltb 63 p) (file_at b p).admitted

left : (b : Book) (p : ℕ) → step new_rule b (on p (admit 1)) ≡ b
unfolding step
left b p = cond-false (accepted (answer new_rule b (on p (admit 1)))) (applied b (on p (admit 1))) b (never-in-book b p)

-- Any other call is decided and answered alike.
decided-alike : (s : ℕ) (events : List Event) (c : Call) → admits_role1 c ≡ false → decision old_rule s events c ≡ decision new_rule s events c
unfolding decide own_causes own_answer decision
decided-alike s events (on p (admit role)) e =
    ap (decide refused (cause 1 (ltb 63 p) ∷ own_causes (today_of s events) (mine p events) (admit role)))
    (sym (decide-false (cause 23 (eqb role 1)) [] done e))
decided-alike s events (on p (lodge k h)) e = refl
decided-alike s events (on p (release k a)) e = refl
decided-alike s events (on p (settle m figures)) e = refl
decided-alike s events (on p annual_run) e = refl
decided-alike s events (on p delete) e = refl
decided-alike s events (advance day budget) e = refl
decided-alike s events (statement p) e = refl
decided-alike s events calls_made e = refl
decided-alike s events (batch file) e = refl

answered-alike : (b : Book) (c : Call) → admits_role1 c ≡ false → answer old_rule b c ≡ answer new_rule b c
unfolding answer
answered-alike b (on p (admit role)) e =
    let x = file_answer (file_at b p) b.today.0 (admit role) in
    ap (if_numbered p) (sym (cond-false (eqb role 1 && accepted x) (refused 23) x (and-refused (eqb role 1) (accepted x) e)))
answered-alike b (on p (lodge k h)) e = refl
answered-alike b (on p (release k a)) e = refl
answered-alike b (on p (settle m figures)) e = refl
answered-alike b (on p annual_run) e = refl
answered-alike b (on p delete) e = refl
answered-alike b (advance day budget) e = refl
answered-alike b (statement p) e = refl
answered-alike b calls_made e = refl
answered-alike b (batch file) e = refl

-- The events with a call's, where it is accepted.
abbrev taken : Rule → ℕ → Call → List Event → List Event
taken rule s c events = cond (accepted (decision rule s events c)) (with_call s events c) events

taken-alike : (s : ℕ) (c : Call) (events : List Event) → admits_role1 c ≡ false → taken old_rule s c events ≡ taken new_rule s c events
taken-alike s c events e = ap (λ (x : Answer). cond (accepted x) (with_call s events c) events) (decided-alike s events c e)

-- A first stretch without such an admission is read as calls since.
first_alike : (s : ℕ) (first : List Call) → All (λ (c : Call). admits_role1 c ≡ false) first
    → events_of s (history first []) ≡ events_of s (history [] first)
unfolding events_of
first_alike s [] all = refl
first_alike s (c ∷ first) all =
    ap (taken old_rule s c) (first_alike s first all.1) ∙ taken-alike s c (events_of s (history [] first)) all.0

stretch-alike : (s : ℕ) (first since : List Call) → All (λ (c : Call). admits_role1 c ≡ false) first
    → events_of s (history first since) ≡ events_of s (history [] (since ++ first))
unfolding events_of
stretch-alike s first [] all = first_alike s first all
stretch-alike s first (c ∷ since) all = ap (taken new_rule s c) (stretch-alike s first since all)

-- .. and calls since without one as calls of the first stretch.
since-alike : (s : ℕ) (first since : List Call) → All (λ (c : Call). admits_role1 c ≡ false) since
    → events_of s (history first since) ≡ events_of s (history (since ++ first) [])
unfolding events_of
since-alike s first [] all = refl
since-alike s first (c ∷ since) all =
    ap (taken new_rule s c) (since-alike s first since all.1) ∙ sym (taken-alike s c (events_of s (history (since ++ first) [])) all.0)

-- What neither a day nor a settlement changes is the same after an advance and after a batch.
after-days : {X : Type 0} (f : List Own → X) → ((d : ℕ) (own : List Own) → f (day_opened d ∷ own) ≡ f own) → (p n t : ℕ) (events : List Event)
    → f (mine p (with_days n t events)) ≡ f (mine p events)
unfolding with_days mine
after-days f same p zero t events = refl
after-days f same p (suc n) t events = same _ (mine p (with_days n t events)) ∙ after-days f same p n t events

after-parts : {X : Type 0} (f : List Own → X)
    → ((d m : ℕ) (figures : List ℤ) (own : List Own) → f (act d (settle m figures) ∷ own) ≡ f own)
    → (p t : ℕ) (file : List ℕ) (k : ℕ) (events : List Event) → f (mine p (with_parts t file k events)) ≡ f (mine p events)
unfolding with_parts
after-parts f same p t file zero events = refl
after-parts f same p t file (suc k) events =
    mine-did (λ q own. f own ≡ f (mine q (with_parts t file k events))) t (participant_at file k) p (part_act file k) (with_parts t file k events)
    (same t (month_in file) (figures_at file k) (mine (participant_at file k) (with_parts t file k events)))
    (λ ne. refl)
    ∙ after-parts f same p t file k events

-- Whoever is admitted stays so, with its role.
abbrev Stays : List Own → List Own → Type 0
Stays old new = admitted_in old ≡ true → (admitted_in new ≡ true) × (role_in new ≡ role_in old)

act-stays : (t : ℕ) (a : Act) (own : List Own) → NoneHolds (own_causes t own a) → Stays own (act t a ∷ own)
unfolding own_causes admitted_in leaving_in role_in
act-stays t (admit role) own none h = clash h none.0
act-stays t (lodge k x) own none h = (h, refl)
act-stays t (release k a) own none h = (h, refl)
act-stays t (settle m figures) own none h = (h, refl)
act-stays t annual_run own none h = (h, refl)
act-stays t delete own none h = (h, refl)

days-stay : (p n t : ℕ) (events : List Event) → Stays (mine p events) (mine p (with_days n t events))
unfolding admitted_in leaving_in role_in
days-stay p n t events h = (
  after-days admitted_in (λ d own. refl) p n t events ∙ h,
  after-days role_in (λ d own. refl) p n t events,
)

parts_stay : (p t : ℕ) (file : List ℕ) (k : ℕ) (events : List Event) → Stays (mine p events) (mine p (with_parts t file k events))
unfolding admitted_in leaving_in role_in
parts_stay p t file k events h = (
  after-parts admitted_in (λ d m figures own. refl) p t file k events ∙ h,
  after-parts role_in (λ d m figures own. refl) p t file k events,
)

call_stays : (rule : Rule) (s : ℕ) (events : List Event) (c : Call) (p : ℕ) → accepted (decision rule s events c) ≡ true
    → Stays (mine p events) (mine p (with_call s events c))
unfolding decision with_call
call_stays rule s events (on q a) p made =
    let t = today_of s events in
    mine-did (λ k own. Stays (mine k events) own) t q p a events
    (act-stays t a (mine q events)
    (none_before (cause 1 (ltb 63 q)) (own_causes t (mine q events) a) (retirement rule a) (own_answer t (mine q events) a) made).1)
    (λ ne h. (h, refl))
call_stays rule s events (advance day budget) p made = days-stay p (min budget (day - today_of s events)) (today_of s events) events
call_stays rule s events (statement q) p made = λ h. (h, refl)
call_stays rule s events calls_made p made = λ h. (h, refl)
call_stays rule s events (batch file) p made = parts_stay p (today_of s events) file (count_in file) events

later-stays : (s : ℕ) (later before : List MadeCall) (p : ℕ) → Stays (mine p (events_of s before)) (mine p (events_of s (later ++ before)))
unfolding events_of
later-stays s [] before p h = (h, refl)
later-stays s (e ∷ later) before p h =
    let events = events_of s (later ++ before) in
    let so_far = later-stays s later before p h in
    by-test (accepted (decision e.rule s events e.call)) (with_call s events e.call) events
    (λ x. (admitted_in (mine p x) ≡ true) × (role_in (mine p x) ≡ role_in (mine p (events_of s before))))
    (λ made.
    let now = call_stays e.rule s events e.call p made so_far.0 in
    (now.0, now.1 ∙ so_far.1))
    (λ no. so_far)

-- Whoever has another role doesn't get role 1 under the new rule.
abbrev Other : List Own → Type 0
Other own = eqb (role_in own) 1 ≡ false

act-other : (s : ℕ) (events : List Event) (q : ℕ) (a : Act) → accepted (decision new_rule s events (on q a)) ≡ true → Other (mine q events)
    → Other (act (today_of s events) a ∷ mine q events)
unfolding decision own_causes own_answer role_in
act-other s events q (admit role) made h =
    let causes = own_causes (today_of s events) (mine q events) (admit role) ++ retirement new_rule (admit role) in
    (none-holds (cause 1 (ltb 63 q) ∷ causes) done made).1.1.1.0
act-other s events q (lodge k x) made h = h
act-other s events q (release k a) made h = h
act-other s events q (settle m figures) made h = h
act-other s events q annual_run made h = h
act-other s events q delete made h = h

call-other : (s : ℕ) (events : List Event) (c : Call) (p : ℕ) → accepted (decision new_rule s events c) ≡ true
    → Other (mine p events) → Other (mine p (with_call s events c))
unfolding with_call role_in
call-other s events (on q a) p made h =
    mine-did (λ k own. Other (mine k events) → Other own) (today_of s events) q p a events (act-other s events q a made) (λ ne k. k) h
call-other s events (advance day budget) p made h =
    let t = today_of s events in
    ap (λ (role : ℕ). eqb role 1) (after-days role_in (λ d own. refl) p (min budget (day - t)) t events) ∙ h
call-other s events (statement q) p made h = h
call-other s events calls_made p made h = h
call-other s events (batch file) p made h =
    ap (λ (role : ℕ). eqb role 1) (after-parts role_in (λ d m figures own. refl) p (today_of s events) file (count_in file) events) ∙ h

none-gets : (s : ℕ) (first since : List Call) (p : ℕ) → Other (mine p (events_of s (history first [])))
    → Other (mine p (events_of s (history first since)))
unfolding events_of
none-gets s first [] p h = h
none-gets s first (c ∷ since) p h =
    let events = events_of s (history first since) in
    by-test (accepted (decision new_rule s events c)) (with_call s events c) events (λ x. Other (mine p x))
    (λ made. call-other s events c p made (none-gets s first since p h))
    (λ no. none-gets s first since p h)

-- Roles 0 and 1 have one minimum.
annual-alike : (totals : List ℤ) → annual_amount 1 totals ≡ annual_amount 0 totals
unfolding annual_amount minimum_of
annual-alike [] = refl
annual-alike (x ∷ totals) = refl

pub retirement-laws : RetirementLaws
unfolding minimum_of calls_in
retirement-laws =
    record {
      both_behind = both_behind;
      both_first = both_first;
      never-admitted = λ s first since. never s (events_of s (history first since));
      never-admitted-book = never-in-book;
      left-as-it-was = left;
      none-gets-it = none-gets;
      role-stays = λ s later before p h. (later-stays s later before p h).1;
      behind-4 = behind;
      alike = decided-alike;
      alike-book = answered-alike;
      read_alike = stretch-alike;
      read-as-ever = since-alike;
      same-call = λ d own. refl;
      same-annual = annual-alike;
    }
