-- The numbers of a call that a line is fit their types, so the round trip holds of every call that was parsed.
-- Assumes nothing.
use Prim.Native.Nat.{ℕ, zero, suc, ◌-◌, ◌≤◌, min}
use mathlib.Core.Path.{◌≡◌, refl, sym, subst}
use mathlib.Core.Bool.{Bool, true, false}
use mathlib.Core.List.{List, [], ◌∷◌, ◌++◌}
use native.Mathlib.Omega.{arith}
use borrow.Author.Tests.{ltb-true}
use lib.Dec.{ltb, eqb}
use lib.IntN.{ℤ, pos, neg_ℤ}
use lib.ListN.{length}
use lib.Seq.{take-append_seam, drop-append_seam}
use Rattle.laws.specs.Cases.{split}
use Rattle.laws.specs.Lists.{All, all-default}
use Rattle.words.specs.Bytes.{control, some, uncommented}
use Rattle.words.specs.Words.{words, place_in}
use Rattle.words.specs.Hex.{bytes_of_hex}
use Rattle.words.specs.Numerals.{natural, value, natural_of, unsigned_of, negative_of, signed_of}
use Rattle.words.specs.Euros.{is_euros, euros_of, amount_of, held, negated, figure_of}
use Rattle.std.specs.Prelude.{Option, Some, None}
use Rattle.journal.specs.Names.{call_names, role_names, role_of_word, read_number, why_not}
use Rattle.journal.specs.Fields.{Left, more, fault, next_of, taken, field_of, lodged_field, budget_of, closed, file_of, checked_file, ended}
use Rattle.journal.specs.Fields.{Numbers, with_number, next_numbers, words_left, figures_of, list_of, on_lists, lists_of}
use Rattle.journal.specs.Grammar.{Parsed, plain, are_marks, lengths_of, day_numbered, month_numbered}
use Rattle.journal.specs.Grammar.{fresh_of, admit_of, cash_of, letter_of, lodge_of, release_of, settle_of}
use Rattle.journal.specs.Grammar.{annual_of, advance_of, statement_of, delete_of, file_asked_of, releasable_of, special_of, filed, batch_of, calls_of, named_call}
use Rattle.journal.specs.Grammar.{words_of, parsed}
use Rattle.journal.specs.declared.Reason.{Reason}
use Rattle.journal.specs.declared.Request.{Request}
use Rattle.journal.specs.declared.fields.Kind.{Kind}
use Rattle.journal.specs.declared.lists.Listed.{Listed}
use Rattle.journal.proofs.Room.{◌&◌, parsed-fits}
use Rattle.journal.proofs.Counts.{count_of, IsCall, seven-lengths, parsed-counted}
use Rattle.journal.proofs.ListLaws.{lists-many}
use Rattle.printing.specs.Lines.{cut, Natural64, Natural32, Holds, Hold, IsByte, Fitting, printed}
use Rattle.printing.proofs.DecimalLaws.{is_mark}
use Rattle.printing.proofs.HexLaws.{bytes-are}
use Rattle.printing.proofs.RoundTrip.{round_trip}

-- ---- natural numbers and roles

Small : Option ℕ → Type 0
Small (Some n) = Natural64 n
Small None = Unit {0}

natural-small : (w : List ℕ) → Small (natural_of w)
unfolding natural_of Small
natural-small w = split (natural w) (λ t. rw t (omega arith)) (λ t. rw t tt)

euros-small : (w : List ℕ) → Small (euros_of w)
unfolding euros_of Small
euros-small w = split (is_euros w) (λ t. rw t (omega arith)) (λ t. rw t tt)

amount-small : (w : List ℕ) → Small (amount_of w)
unfolding amount_of
amount-small w = split (natural w) (λ t. rw t (natural-small w)) (λ t. rw t (euros-small w))

role-small : (w : List ℕ) → Small (role_of_word w)
unfolding role_of_word Small
role-small w =
    split (ltb (place_in w role_names) 6) (λ t. rw t (omega (arith, ltb-true (place_in w role_names) 6 t))) (λ t. rw t (natural-small w))

taken-small : (x : Option ℕ) (e : Reason) (l : Left) → Small x → Natural64 (taken x e l).value
unfolding taken Small
taken-small (Some n) e l h = h
taken-small None e l h = omega arith

field-natural : (l : Left) → Natural64 (field_of Kind.Natural l).value
unfolding field_of
field-natural l = taken-small (natural_of (next_of l).word) (why_not Kind.Natural) (next_of l).left (natural-small (next_of l).word)

field-amount : (l : Left) → Natural64 (field_of Kind.Amount l).value
unfolding field_of
field-amount l = taken-small (amount_of (next_of l).word) (why_not Kind.Amount) (next_of l).left (amount-small (next_of l).word)

field-budget : (l : Left) → Natural64 (budget_of l).value
unfolding budget_of
field-budget (more []) = omega arith
field-budget (more (w ∷ ws)) = field-natural (more (w ∷ ws))
field-budget (fault e) = field-natural (fault e)

field-role : (l : Left) → Natural64 (field_of Kind.Role l).value
unfolding field_of
field-role l = taken-small (role_of_word (next_of l).word) (why_not Kind.Role) (next_of l).left (role-small (next_of l).word)

day-small : (n : ℕ) → Natural32 (day_numbered n).0
day-small n = omega arith

month-small : (n : ℕ) → Natural32 (month_numbered n).0
month-small n = omega arith

-- ---- the numbers of lists

Held : Bool → Option ℤ → Type 0
Held m (Some z) = Holds m z
Held m None = Unit {0}

negative-holds : (n : ℕ) → n ≤ 9223372036854775808 → Holds false (neg_ℤ (pos n))
negative-holds zero h = omega arith
negative-holds (suc n) h = omega arith

unsigned-held : (m : Bool) (w : List ℕ) → Held m (unsigned_of w)
unfolding unsigned_of Held
unsigned-held true w = split (natural w) (λ t. rw t (omega arith)) (λ t. rw t tt)
unsigned-held false w = split (natural w) (λ t. rw t (omega arith)) (λ t. rw t tt)

negative-held : (w : List ℕ) → Held false (negative_of w)
unfolding negative_of Held
negative-held w =
    split (natural w) (λ t. rw t (negative-holds (min (value w) 9223372036854775808) (omega arith))) (λ t. rw t tt)

signed-held : (w : List ℕ) → Held false (signed_of w)
unfolding signed_of Held
signed-held [] = tt
signed-held (b ∷ w) = split (eqb b 45) (λ t. rw t (negative-held w)) (λ t. rw t (unsigned-held false (b ∷ w)))

held-held : (x : Option ℕ) → Held false (held x)
unfolding Held
held-held (Some n) = omega arith
held-held None = tt

negated-held : (x : Option ℕ) → Held false (negated x)
unfolding Held
negated-held (Some n) = negative-holds (min n 9223372036854775808) (omega arith)
negated-held None = tt

figure-held : (w : List ℕ) → Held false (figure_of w)
unfolding figure_of Held
figure-held [] = tt
figure-held (b ∷ w) = split (eqb b 45) (λ t. rw t (negated-held (amount_of w))) (λ t. rw t (held-held (amount_of (b ∷ w))))

read_held : (k : Listed) (w : List ℕ) → Held (is_mark k) (read_number k w)
unfolding read_number
read_held Listed.Mark w = unsigned-held true w
read_held Listed.Number w = signed-held w
read_held Listed.Figure w = figure-held w

with-held : (m : Bool) (room : ℕ) (x : Option ℤ) (l : Left) (rest : Numbers) → Held m x → All (Holds m) rest.numbers
    → All (Holds m) (with_number room x l rest).numbers
unfolding with_number Held
with-held m room (Some z) l rest h a = split (eqb room 0) (λ t. rw t tt) (λ t. rw t (h, a))
with-held m room None l rest h a = tt

numbers-held : (k : Listed) (room n : ℕ) (l : Left) → All (Holds (is_mark k)) (next_numbers k room n l).numbers
unfolding next_numbers
numbers-held k room zero l = tt
numbers-held k room (suc n) l =
    with-held (is_mark k) room (read_number k (next_of l).word) (next_of l).left (next_numbers k (room - 1) n (next_of l).left)
    (read_held k (next_of l).word) (numbers-held k (room - 1) n (next_of l).left)

figures-held : (room : ℕ) (l : Left) → All (Holds false) (figures_of room l).numbers
unfolding figures_of
figures-held room l = numbers-held Listed.Figure room (words_left l) l

list_held : (m : Bool) (room : ℕ) (l : Left) → All (Holds m) (list_of m room l).numbers
unfolding list_of
list_held true room l = numbers-held Listed.Mark room (field_of Kind.Natural l).value (field_of Kind.Natural l).left
list_held false room l = numbers-held Listed.Number room (field_of Kind.Natural l).value (field_of Kind.Natural l).left

-- A list before others is cut off again.
cut-first : (a b : List ℤ) (ks : List ℕ) → cut (length a ∷ ks) (a ++ b) ≡ a ∷ cut ks b
unfolding cut
cut-first a b ks = rw (take-append_seam a b, drop-append_seam a b) refl

lists-held : (ms : List Bool) (room : ℕ) (l : Left) → Hold ms (cut (lists_of ms room l).lengths (lists_of ms room l).numbers)
unfolding lists_of on_lists cut
lists-held [] room l = tt
lists-held (m ∷ ms) room l =
    let a = list_of m room l in
    let b = lists_of ms (room - length a.numbers) a.left in
    subst (Hold (m ∷ ms)) (sym (cut-first a.numbers b.numbers b.lengths))
    (list_held m room l, lists-held ms (room - length a.numbers) a.left)

-- ---- calls

-- A parsed call fits, where its numbers are not too many and as many as it says.
Fits : Parsed → Type 0
Fits x = Natural64 (length x.numbers) → count_of x.request ≡ length x.numbers → IsCall x.request → Fitting x.request x.numbers

closed-fits : (l : Left) (r : Request) (zs : List ℤ)
    → (Natural64 (length zs) → count_of r ≡ length zs → Fitting r zs)
    → Fits (record { request = closed l r; numbers = zs })
unfolding closed Fits
closed-fits (more []) r zs f n k c = f n k
closed-fits (more (w ∷ ws)) r zs f n k c = absurd c
closed-fits (fault e) r zs f n k c = absurd c

plain_fits : (l : Left) (r : Request) → Fitting r [] → Fits (plain (closed l r))
plain_fits l r f = closed-fits l r [] (λ n k. f)

fresh-fits : (l : Left) → Fits (plain (fresh_of l))
unfolding fresh_of
fresh-fits l =
    let d = field_of Kind.Day l in plain_fits d.left (Request.Fresh (day_numbered d.value)) (day-small d.value, refl)

admit-fits : (l : Left) → Fits (plain (admit_of l))
unfolding admit_of
admit-fits l =
    let p = field_of Kind.Natural l in
    let r = field_of Kind.Role p.left in
    plain_fits r.left (Request.Admit p.value r.value) (field-natural l, field-role p.left, refl)

cash-fits : (p q : ℕ) (l : Left) → Natural64 p → Natural64 q → Fits (plain (cash_of p q l))
unfolding cash_of
cash-fits p q l h k =
    let a = field_of Kind.Amount l in plain_fits a.left (Request.LodgeCash p q a.value) (h, k, field-amount l, refl)

letter-fits : (p q : ℕ) (l : Left) → Natural64 p → Natural64 q → Fits (plain (letter_of p q l))
unfolding letter_of
letter-fits p q l h k =
    let a = field_of Kind.Amount l in
    let f = field_of Kind.Day a.left in
    let t = field_of Kind.Day f.left in
    plain_fits t.left (Request.LodgeLetter p q a.value (day_numbered f.value) (day_numbered t.value))
    (h, k, field-amount l, day-small f.value, day-small t.value, refl)

lodge-fits : (l : Left) → Fits (plain (lodge_of l))
unfolding lodge_of
lodge-fits l =
    let p = field_of Kind.Natural l in
    let q = field_of Kind.Natural p.left in
    let k = lodged_field q.left in
    split (eqb k.value 0)
    (λ t. rw t (cash-fits p.value q.value k.left (field-natural l) (field-natural p.left)))
    (λ t. rw t (letter-fits p.value q.value k.left (field-natural l) (field-natural p.left)))

release-fits : (l : Left) → Fits (plain (release_of l))
unfolding release_of
release-fits l =
    let p = field_of Kind.Natural l in
    let q = field_of Kind.Natural p.left in
    let a = field_of Kind.Amount q.left in
    plain_fits a.left (Request.Release p.value q.value a.value)
    (field-natural l, field-natural p.left, field-amount q.left, refl)

annual-fits : (l : Left) → Fits (plain (annual_of l))
unfolding annual_of
annual-fits l = let p = field_of Kind.Natural l in plain_fits p.left (Request.Annual p.value) (field-natural l, refl)

advance-fits : (l : Left) → Fits (plain (advance_of l))
unfolding advance_of
advance-fits l =
    let t = field_of Kind.Day l in
    let b = budget_of t.left in
    plain_fits b.left (Request.Advance (day_numbered t.value) b.value) (day-small t.value, field-budget t.left, refl)

statement-fits : (l : Left) → Fits (plain (statement_of l))
unfolding statement_of
statement-fits l = let p = field_of Kind.Natural l in plain_fits p.left (Request.Statement p.value) (field-natural l, refl)

delete-fits : (l : Left) → Fits (plain (delete_of l))
unfolding delete_of
delete-fits l = let p = field_of Kind.Natural l in plain_fits p.left (Request.Delete p.value) (field-natural l, refl)

file-asked-fits : (l : Left) → Fits (plain (file_asked_of l))
unfolding file_asked_of
file-asked-fits l = let p = field_of Kind.Natural l in plain_fits p.left (Request.File p.value) (field-natural l, refl)

releasable-fits : (l : Left) → Fits (plain (releasable_of l))
unfolding releasable_of
releasable-fits l =
    let p = field_of Kind.Natural l in
    let q = field_of Kind.Natural p.left in
    plain_fits q.left (Request.Releasable p.value q.value) (field-natural l, field-natural p.left, refl)

settle-fits : (room : ℕ) (l : Left) → Fits (settle_of room l)
unfolding settle_of
settle-fits room l =
    let p = field_of Kind.Natural l in
    let m = field_of Kind.Month p.left in
    let f = figures_of room m.left in
    closed-fits f.left (Request.Settle p.value (month_numbered m.value) (length f.numbers)) f.numbers
    (λ n k. (field-natural l, month-small m.value, refl, figures-held room m.left))

special-fits : (room : ℕ) (l : Left) → Fits (special_of room l)
unfolding special_of
special-fits room l =
    let t = lists_of are_marks room l in
    let e = sym (seven-lengths t.lengths (lists-many are_marks room l)) in
    closed-fits t.left (Request.Special (lengths_of t.lengths)) t.numbers
    (λ n k. (n, k, subst (λ (ks : List ℕ). Hold are_marks (cut ks t.numbers)) e (lists-held are_marks room l)))

filed-fits : (l : Left) (zs : List ℤ) → All IsByte zs → Fits (filed l zs)
unfolding Fits filed
filed-fits (more ws) zs a n k c = (refl, a)
filed-fits (fault e) zs a n k c = absurd c

batch-fits : (room : ℕ) (l : Left) → Fits (batch_of room l)
unfolding batch_of
batch-fits room l =
    let f = file_of l in filed-fits (ended (checked_file room f.word f.left)) (bytes_of_hex f.word) (bytes-are f.word)

no-call-fits : Fits (plain (Request.Error Reason.NoCall))
unfolding Fits
no-call-fits n k c = absurd c

call_fits : (room k : ℕ) (l : Left) → Fits (named_call room k l)
unfolding named_call calls_of
call_fits room k l =
    all-default Fits (calls_of room l) k (plain (Request.Error Reason.NoCall)) no-call-fits
    (fresh-fits l & admit-fits l & lodge-fits l & release-fits l & settle-fits room l & annual-fits l & advance-fits l
    & statement-fits l & plain_fits l Request.Calls refl & special-fits room l & plain_fits l Request.Report refl
    & batch-fits room l & plain_fits l Request.RoleRetired refl & delete-fits l & file-asked-fits l & releasable-fits l
    & plain_fits l Request.Today refl & tt)

words-fitting : (room : ℕ) (ws : List (List ℕ)) → Fits (words_of room ws)
unfolding words_of Fits
words-fitting room [] = λ n k c. refl
words-fitting room (w ∷ ws) = call_fits room (place_in w call_names) (more ws)

line-fits : (room : ℕ) (line : List ℕ) → Fits (parsed room line)
unfolding parsed Fits
line-fits room line =
    split (some control (uncommented line)) (λ t. rw t (λ n k c. absurd c)) (λ t. rw t (words-fitting room (words (uncommented line))))

-- The numbers of a call that a line is fit their types.
pub parsed-fitting : (room : ℕ) (line : List ℕ) → Natural64 room → IsCall (parsed room line).request
    → Fitting (parsed room line).request (parsed room line).numbers
unfolding Fits
parsed-fitting room line h c =
    let n : Natural64 (length (parsed room line).numbers) = omega (arith, parsed-fits room line) in
    line-fits room line n (parsed-counted room line c) c

-- So every call that was parsed is printed to a line that is parsed to it again.
pub parsed-again : (room : ℕ) (line : List ℕ) → Natural64 room → IsCall (parsed room line).request
    → parsed room (printed (parsed room line).request (parsed room line).numbers) ≡ parsed room line
parsed-again room line h c =
    round_trip room (parsed room line).request (parsed room line).numbers (parsed-fitting room line h c) (parsed-fits room line)
