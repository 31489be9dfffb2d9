-- The counts that a call carries: a settlement and a batch have as many numbers as they say, and a special guarantee as many as its lists are
-- long.
-- Assumes nothing.
use Prim.Native.Nat.{ℕ, ◌-◌}
use mathlib.Core.Path.{◌≡◌, refl, ap, ◌∙◌}
use mathlib.Core.Bool.{Bool}
use mathlib.Core.List.{List, [], ◌∷◌}
use native.Mathlib.Omega.{arith}
use lib.Dec.{eqb}
use lib.IntN.{ℤ}
use lib.ListN.{length, length-append}
use Rattle.laws.specs.Cases.{split}
use Rattle.laws.specs.Lists.{all-default}
use Rattle.words.specs.Bytes.{control, some, uncommented}
use Rattle.words.specs.Words.{words, place_in}
use Rattle.words.specs.Hex.{bytes_of_hex}
use Rattle.journal.specs.Names.{call_names}
use Rattle.journal.specs.Fields.{Left, more, fault, field_of, lodged_field, budget_of, closed, figures_of, list_of, on_lists, lists_of, file_of, checked_file, ended}
use Rattle.journal.specs.Grammar.{Parsed, plain, are_marks, lengths_of, length_list, total, day_numbered, month_numbered}
use Rattle.journal.specs.Grammar.{fresh_of, admit_of, cash_of, letter_of, lodge_of, release_of, settle_of}
use Rattle.journal.specs.Grammar.{annual_of, advance_of, statement_of, delete_of, file_asked_of, releasable_of, special_of, filed, batch_of, calls_of, named_call, words_of, parsed}
use Rattle.journal.specs.declared.Reason.{Reason}
use Rattle.journal.specs.declared.Request.{Request}
use Rattle.journal.specs.declared.fields.Kind.{Kind}
use Rattle.journal.proofs.Room.{◌&◌}
use Rattle.journal.proofs.ListLaws.{lists-many}

-- how many numbers a call says that it has; none that has no list
abbrev pub count_of : Request → ℕ
count_of Request.Nothing = 0
count_of (Request.Fresh d) = 0
count_of (Request.Admit p r) = 0
count_of (Request.LodgeCash p q a) = 0
count_of (Request.LodgeLetter p q a f l) = 0
count_of (Request.Release p q a) = 0
count_of (Request.Settle p m n) = n
count_of (Request.Annual p) = 0
count_of (Request.Advance t b) = 0
count_of (Request.Statement p) = 0
count_of Request.Calls = 0
count_of (Request.Special n) = total (length_list n)
count_of (Request.Batch n) = n
count_of Request.RoleRetired = 0
count_of (Request.Delete p) = 0
count_of Request.Report = 0
count_of (Request.File p) = 0
count_of (Request.Releasable p q) = 0
count_of Request.Today = 0
count_of (Request.Error e) = 0

-- an error says nothing of its numbers
abbrev pub IsCall : Request → Type 0
IsCall Request.Nothing = Unit {0}
IsCall (Request.Fresh d) = Unit {0}
IsCall (Request.Admit p r) = Unit {0}
IsCall (Request.LodgeCash p q a) = Unit {0}
IsCall (Request.LodgeLetter p q a f l) = Unit {0}
IsCall (Request.Release p q a) = Unit {0}
IsCall (Request.Settle p m n) = Unit {0}
IsCall (Request.Annual p) = Unit {0}
IsCall (Request.Advance t b) = Unit {0}
IsCall (Request.Statement p) = Unit {0}
IsCall Request.Calls = Unit {0}
IsCall (Request.Special n) = Unit {0}
IsCall (Request.Batch n) = Unit {0}
IsCall Request.RoleRetired = Unit {0}
IsCall (Request.Delete p) = Unit {0}
IsCall Request.Report = Unit {0}
IsCall (Request.File p) = Unit {0}
IsCall (Request.Releasable p q) = Unit {0}
IsCall Request.Today = Unit {0}
IsCall (Request.Error e) = ⊥

Counted : Parsed → Type 0
Counted x = IsCall x.request → count_of x.request ≡ length x.numbers

-- a call whose words are not all read is an error
closed-counted : (l : Left) (r : Request) (zs : List ℤ) → count_of r ≡ length zs → IsCall (closed l r) → count_of (closed l r) ≡ length zs
unfolding closed
closed-counted (more []) r zs e c = e
closed-counted (more (w ∷ ws)) r zs e c = absurd c
closed-counted (fault d) r zs e c = absurd c

plain-counted : (l : Left) (r : Request) → count_of r ≡ 0 → Counted (plain (closed l r))
unfolding Counted
plain-counted l r e = closed-counted l r [] e

fresh-counted : (l : Left) → Counted (plain (fresh_of l))
unfolding fresh_of
fresh-counted l = let d = field_of Kind.Day l in plain-counted d.left (Request.Fresh (day_numbered d.value)) refl

admit-counted : (l : Left) → Counted (plain (admit_of l))
unfolding admit_of
admit-counted l =
    let p = field_of Kind.Natural l in
    let r = field_of Kind.Role p.left in
    plain-counted r.left (Request.Admit p.value r.value) refl

cash-counted : (p q : ℕ) (l : Left) → Counted (plain (cash_of p q l))
unfolding cash_of
cash-counted p q l = let a = field_of Kind.Amount l in plain-counted a.left (Request.LodgeCash p q a.value) refl

letter-counted : (p q : ℕ) (l : Left) → Counted (plain (letter_of p q l))
unfolding letter_of
letter-counted p q l =
    let a = field_of Kind.Amount l in
    let f = field_of Kind.Day a.left in
    let t = field_of Kind.Day f.left in
    plain-counted t.left (Request.LodgeLetter p q a.value (day_numbered f.value) (day_numbered t.value)) refl

lodge-counted : (l : Left) → Counted (plain (lodge_of l))
unfolding lodge_of
lodge-counted l =
    let p = field_of Kind.Natural l in
    let q = field_of Kind.Natural p.left in
    let k = lodged_field q.left in
    split (eqb k.value 0) (λ t. rw t (cash-counted p.value q.value k.left))
    (λ t. rw t (letter-counted p.value q.value k.left))

release-counted : (l : Left) → Counted (plain (release_of l))
unfolding release_of
release-counted l =
    let p = field_of Kind.Natural l in
    let q = field_of Kind.Natural p.left in
    let a = field_of Kind.Amount q.left in
    plain-counted a.left (Request.Release p.value q.value a.value) refl

annual-counted : (l : Left) → Counted (plain (annual_of l))
unfolding annual_of
annual-counted l = let p = field_of Kind.Natural l in plain-counted p.left (Request.Annual p.value) refl

advance-counted : (l : Left) → Counted (plain (advance_of l))
unfolding advance_of
advance-counted l =
    let t = field_of Kind.Day l in
    let b = budget_of t.left in
    plain-counted b.left (Request.Advance (day_numbered t.value) b.value) refl

statement-counted : (l : Left) → Counted (plain (statement_of l))
unfolding statement_of
statement-counted l = let p = field_of Kind.Natural l in plain-counted p.left (Request.Statement p.value) refl

delete-counted : (l : Left) → Counted (plain (delete_of l))
unfolding delete_of
delete-counted l = let p = field_of Kind.Natural l in plain-counted p.left (Request.Delete p.value) refl

file-counted : (l : Left) → Counted (plain (file_asked_of l))
unfolding file_asked_of
file-counted l = let p = field_of Kind.Natural l in plain-counted p.left (Request.File p.value) refl

releasable-counted : (l : Left) → Counted (plain (releasable_of l))
unfolding releasable_of
releasable-counted l =
    let p = field_of Kind.Natural l in
    let q = field_of Kind.Natural p.left in
    plain-counted q.left (Request.Releasable p.value q.value) refl

settle-counted : (room : ℕ) (l : Left) → Counted (settle_of room l)
unfolding settle_of Counted
settle-counted room l =
    let p = field_of Kind.Natural l in
    let m = field_of Kind.Month p.left in
    let f = figures_of room m.left in
    closed-counted f.left (Request.Settle p.value (month_numbered m.value) (length f.numbers)) f.numbers refl

-- the lengths of lists are those of their numbers
lists_total : (ms : List Bool) (room : ℕ) (l : Left) → total (lists_of ms room l).lengths ≡ length (lists_of ms room l).numbers
unfolding lists_of on_lists
lists_total [] room l = refl
lists_total (m ∷ ms) room l =
    let a = list_of m room l in
    let b = lists_of ms (room - length a.numbers) a.left in
    omega (arith, lists_total ms (room - length a.numbers) a.left, length-append a.numbers b.numbers)

-- the seven lengths, as a list
pub seven-lengths : (n : List ℕ) → length n ≡ 7 → length_list (lengths_of n) ≡ n
seven-lengths [] e = absurd (omega arith)
seven-lengths (a ∷ []) e = absurd (omega arith)
seven-lengths (a ∷ b ∷ []) e = absurd (omega arith)
seven-lengths (a ∷ b ∷ c ∷ []) e = absurd (omega arith)
seven-lengths (a ∷ b ∷ c ∷ d ∷ []) e = absurd (omega arith)
seven-lengths (a ∷ b ∷ c ∷ d ∷ f ∷ []) e = absurd (omega arith)
seven-lengths (a ∷ b ∷ c ∷ d ∷ f ∷ g ∷ []) e = absurd (omega arith)
seven-lengths (a ∷ b ∷ c ∷ d ∷ f ∷ g ∷ h ∷ []) e = refl
seven-lengths (a ∷ b ∷ c ∷ d ∷ f ∷ g ∷ h ∷ i ∷ n) e = absurd (omega arith)

special-counted : (room : ℕ) (l : Left) → Counted (special_of room l)
unfolding special_of Counted
special-counted room l =
    let t = lists_of are_marks room l in
    closed-counted t.left (Request.Special (lengths_of t.lengths)) t.numbers
    (ap total (seven-lengths t.lengths (lists-many are_marks room l)) ∙ lists_total are_marks room l)

filed-counted : (l : Left) (zs : List ℤ) → Counted (filed l zs)
unfolding filed Counted
filed-counted (more ws) zs c = refl
filed-counted (fault e) zs c = absurd c

batch-counted : (room : ℕ) (l : Left) → Counted (batch_of room l)
unfolding batch_of
batch-counted room l =
    let f = file_of l in filed-counted (ended (checked_file room f.word f.left)) (bytes_of_hex f.word)

call-counted : (room k : ℕ) (l : Left) → Counted (named_call room k l)
unfolding named_call calls_of Counted
call-counted room k l =
    all-default Counted (calls_of room l) k (plain (Request.Error Reason.NoCall)) (λ c. absurd c)
    (fresh-counted l & admit-counted l & lodge-counted l & release-counted l & settle-counted room l & annual-counted l
    & advance-counted l & statement-counted l & plain-counted l Request.Calls refl & special-counted room l
    & plain-counted l Request.Report refl & batch-counted room l & plain-counted l Request.RoleRetired refl
    & delete-counted l & file-counted l & releasable-counted l & plain-counted l Request.Today refl & tt)

words-counted : (room : ℕ) (ws : List (List ℕ)) → Counted (words_of room ws)
unfolding words_of Counted
words-counted room [] = λ c. refl
words-counted room (w ∷ ws) = call-counted room (place_in w call_names) (more ws)

-- a call has as many numbers as it says
pub parsed-counted : (room : ℕ) (line : List ℕ) → IsCall (parsed room line).request
    → count_of (parsed room line).request ≡ length (parsed room line).numbers
unfolding parsed Counted
parsed-counted room line =
    split (some control (uncommented line)) (λ t. rw t (λ c. absurd c)) (λ t. rw t (words-counted room (words (uncommented line))))
