-- What holds of the retired role in every history and every book (paper 02, Ask 3).
-- Assumes nothing.
use Rattle.std.specs.Prelude.{ℕ, ◌≤◌, ◌≡◌, Bool, true, false, cond, List, [], ◌∷◌, ◌++◌, eqb, ℤ}
use Rattle.laws.specs.Lists.{All}
use Rattle.manual.specs.Annual.{annual_amount}
use Rattle.file.specs.Answer.{refused, accepted}
use Rattle.layout.specs.Book.{Book}
use Rattle.book.specs.Call.{admit, lodge, release, settle, annual_run, delete, Call, on, advance, statement, calls_made, batch}
use Rattle.book.specs.Rule.{old_rule, new_rule, MadeCall, history}
use Rattle.book.specs.Account.{answer, step}
use Rattle.book.specs.Reading.Events.{Event, Own, act, mine, admitted_in, role_in}
use Rattle.book.specs.Reading.Calls.{calls_in}
use Rattle.book.specs.Reading.Decisions.{decision, events_of}
use Rattle.figures.specs.History.{decides_behind, answers_behind, decides_first, answers_first}

-- Whether a call admits a Self-Supplied Customer.
abbrev pub admits_role1 : Call → Bool
admits_role1 (on p (admit role)) = eqb role 1
admits_role1 (on p (lodge k h)) = false
admits_role1 (on p (release k a)) = false
admits_role1 (on p (settle m figures)) = false
admits_role1 (on p annual_run) = false
admits_role1 (on p delete) = false
admits_role1 (advance day budget) = false
admits_role1 (statement p) = false
admits_role1 calls_made = false
admits_role1 (batch file) = false

pub record RetirementLaws : Type 0 where
  -- What the reading decides, the book answers: behind a first stretch, and in it.
  pub both_behind : (s : ℕ) (first since : List Call) (c : Call) → s ≤ 29219 → answers_behind s first since c ≡ decides_behind s first since c
  pub both_first : (s : ℕ) (first : List Call) (c : Call) → s ≤ 29219 → answers_first s first c ≡ decides_first s first c
  -- "The regulator no longer registers Self-Supplied Customers"
  pub never-admitted : (s : ℕ) (first since : List Call) (p : ℕ)
      → accepted (decision new_rule s (events_of s (history first since)) (on p (admit 1))) ≡ false
  pub never-admitted-book : (b : Book) (p : ℕ) → accepted (answer new_rule b (on p (admit 1))) ≡ false
  pub left-as-it-was : (b : Book) (p : ℕ) → step new_rule b (on p (admit 1)) ≡ b
  -- .. no file gets the role since
  pub none-gets-it : (s : ℕ) (first since : List Call) (p : ℕ) → eqb (role_in (mine p (events_of s (history first [])))) 1 ≡ false
      → eqb (role_in (mine p (events_of s (history first since)))) 1 ≡ false
  -- "Files that have the role keep it", and every other role: from the admission on, whatever is called later and under which rule
  pub role-stays : (s : ℕ) (later before : List MadeCall) (p : ℕ) → admitted_in (mine p (events_of s before)) ≡ true
      → role_in (mine p (events_of s (later ++ before))) ≡ role_in (mine p (events_of s before))
  -- "Answers: 23 role 1 at admission, after 4": where the old rule refuses, the same number; where it accepts, 23
  pub behind-4 : (s : ℕ) (events : List Event) (p : ℕ)
      → decision new_rule s events (on p (admit 1))
      ≡ cond (accepted (decision old_rule s events (on p (admit 1)))) (refused 23) (decision old_rule s events (on p (admit 1)))
  -- "Only admission changes": any call but an admission with role 1 is decided and answered alike under both rules
  pub alike : (s : ℕ) (events : List Event) (c : Call) → admits_role1 c ≡ false → decision old_rule s events c ≡ decision new_rule s events c
  pub alike-book : (b : Book) (c : Call) → admits_role1 c ≡ false → answer old_rule b c ≡ answer new_rule b c
  -- .. so that a first stretch that admits nobody with role 1 is read as if it were made since
  pub read_alike : (s : ℕ) (first since : List Call) → All (λ (c : Call). admits_role1 c ≡ false) first
      → events_of s (history first since) ≡ events_of s (history [] (since ++ first))
  -- "its figures are read as ever": where no call since admits with role 1, a history with its first stretch is read as under the old rule alone
  pub read-as-ever : (s : ℕ) (first since : List Call) → All (λ (c : Call). admits_role1 c ≡ false) since
      → events_of s (history first since) ≡ events_of s (history (since ++ first) [])
  -- Roles 0 and 1 are otherwise alike, "0 Supplier and 1 Self-Supplied Customer €20,000": the calls made, and the annual amount
  pub same-call : (d : ℕ) (own : List Own) → calls_in (act d (admit 1) ∷ own) ≡ calls_in (act d (admit 0) ∷ own)
  pub same-annual : (totals : List ℤ) → annual_amount 1 totals ≡ annual_amount 0 totals
