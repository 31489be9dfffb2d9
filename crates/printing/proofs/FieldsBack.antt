-- The words of a printed call, read again one by one.
-- Assumes nothing.
use Prim.Native.Nat.{ℕ, suc, ◌-◌, ◌≤◌, min}
use mathlib.Core.Path.{◌≡◌, refl, sym, ap, ◌∙◌}
use mathlib.Core.Bool.{Bool, true, false}
use mathlib.Core.List.{List, [], ◌∷◌, ◌++◌, map, append-nil}
use native.Mathlib.Omega.{arith}
use borrow.Author.Tests.{ne_eqb}
use lib.ListN.{length, take, drop, length-drop, length-map, take-append-drop}
use lib.Seq.{length-take-le}
use lib.IntN.{ℤ}
use Rattle.laws.specs.Lists.{All}
use Rattle.calendar.specs.declared.Day.{Day}
use Rattle.calendar.specs.declared.Month.{Month}
use Rattle.journal.specs.Names.{lodged_in, read_as, read_number}
use Rattle.journal.specs.Fields.{Left, more, next_of, taken, field_of, lodged_field, budget_of, closed}
use Rattle.journal.specs.Fields.{Numbers, with_number, next_numbers, words_left, figures_of, in_list, list_of, on_lists, lists_of}
use Rattle.journal.specs.Grammar.{day_numbered, month_numbered}
use Rattle.std.specs.Prelude.{Some}
use Rattle.journal.specs.declared.Request.{Request}
use Rattle.journal.specs.declared.fields.Kind.{Kind}
use Rattle.journal.specs.declared.lists.Listed.{Listed}
use Rattle.printing.specs.Decimals.{decimal, integer}
use Rattle.printing.specs.Lines.{Holds, Hold, list_words, cut}
use Rattle.journal.specs.Grammar.{total}
use Rattle.printing.proofs.DecimalLaws.{natural-back, amount-back, day-back, month-back, role-back, is_mark, number-back}

-- a word that is what is due
pub field_back : (k : Kind) (w : List ℕ) (ws : List (List ℕ)) (n : ℕ) → read_as k w ≡ Some n
    → field_of k (more (w ∷ ws)) ≡ record { value = n; left = more ws }
unfolding field_of next_of taken
field_back k w ws n e = rw e

-- a word that is what is lodged
pub lodged_back : (w : List ℕ) (ws : List (List ℕ)) (n : ℕ) → lodged_in w ≡ Some n
    → lodged_field (more (w ∷ ws)) ≡ record { value = n; left = more ws }
unfolding lodged_field next_of taken
lodged_back w ws n h = rw h

pub natural-field : (n : ℕ) (ws : List (List ℕ)) → n ≤ 18446744073709551615
    → field_of Kind.Natural (more (decimal n ∷ ws)) ≡ record { value = n; left = more ws }
natural-field n ws h = field_back Kind.Natural (decimal n) ws n (natural-back n h)

pub amount-field : (n : ℕ) (ws : List (List ℕ)) → n ≤ 18446744073709551615
    → field_of Kind.Amount (more (decimal n ∷ ws)) ≡ record { value = n; left = more ws }
amount-field n ws h = field_back Kind.Amount (decimal n) ws n (amount-back n h)

pub budget-field : (n : ℕ) (ws : List (List ℕ)) → n ≤ 18446744073709551615
    → budget_of (more (decimal n ∷ ws)) ≡ record { value = n; left = more ws }
unfolding budget_of
budget-field n ws h = natural-field n ws h

pub role-field : (n : ℕ) (ws : List (List ℕ)) → n ≤ 18446744073709551615
    → field_of Kind.Role (more (decimal n ∷ ws)) ≡ record { value = n; left = more ws }
role-field n ws h = field_back Kind.Role (decimal n) ws n (role-back n h)

pub day-field : (n : ℕ) (ws : List (List ℕ)) → n ≤ 4294967295
    → field_of Kind.Day (more (decimal n ∷ ws)) ≡ record { value = n; left = more ws }
day-field n ws h = field_back Kind.Day (decimal n) ws n (day-back n (omega arith))

pub month-field : (n : ℕ) (ws : List (List ℕ)) → n ≤ 4294967295
    → field_of Kind.Month (more (decimal n ∷ ws)) ≡ record { value = n; left = more ws }
month-field n ws h = field_back Kind.Month (decimal n) ws n (month-back n (omega arith))

pub closed-back : (r : Request) → closed (more []) r ≡ r
unfolding closed
closed-back r = refl

pub same-day : (d : Day) → d.0 ≤ 4294967295 → day_numbered d.0 ≡ d
same-day d h = let e : min d.0 4294967295 ≡ d.0 = omega arith in rw e

pub same-month : (m : Month) → m.0 ≤ 4294967295 → month_numbered m.0 ≡ m
same-month m h = let e : min m.0 4294967295 ≡ m.0 = omega arith in rw e

-- the numbers of a list
number_more : (due : Listed) (room n : ℕ) (z : ℤ) (ws : List (List ℕ)) (rest : Numbers) → Holds (is_mark due) z → suc n ≤ room
    → with_number room (read_number due (integer z)) (more ws) rest ≡ record { numbers = z ∷ rest.numbers; left = rest.left }
unfolding with_number
number_more due room n z ws rest h g = rw (number-back due z h, ne_eqb room 0 (λ e. omega arith))

numbers-next : (due : Listed) (room n : ℕ) (w : List ℕ) (ws : List (List ℕ))
    → next_numbers due room (suc n) (more (w ∷ ws)) ≡ with_number room (read_number due w) (more ws) (next_numbers due (room - 1) n (more ws))
unfolding next_numbers next_of
numbers-next due room n w ws = refl

pub numbers-back : (due : Listed) (room : ℕ) (zs : List ℤ) (ws : List (List ℕ)) → length zs ≤ room → All (Holds (is_mark due)) zs
    → next_numbers due room (length zs) (more (map integer zs ++ ws)) ≡ record { numbers = zs; left = more ws }
unfolding next_numbers
numbers-back due room [] ws h a = refl
numbers-back due room (z ∷ zs) ws h a =
    numbers-next due room (length zs) (integer z) (map integer zs ++ ws)
    ∙ number_more due room (length zs) z (map integer zs ++ ws) (next_numbers due (room - 1) (length zs) (more (map integer zs ++ ws))) a.0 h
    ∙ ap (λ (x : Numbers). record { numbers = z ∷ x.numbers; left = x.left }) (numbers-back due (room - 1) zs ws (omega arith) a.1)

-- a settlement's figures
pub figures-back : (room : ℕ) (zs : List ℤ) → length zs ≤ room → All (Holds false) zs
    → figures_of room (more (map integer zs)) ≡ record { numbers = zs; left = more [] }
unfolding figures_of words_left
figures-back room zs h a =
    ap (λ (n : ℕ). next_numbers Listed.Figure room n (more (map integer zs))) (length-map zs integer)
    ∙ ap (λ (ws : List (List ℕ)). next_numbers Listed.Figure room (length zs) (more ws)) (sym (append-nil (map integer zs)))
    ∙ numbers-back Listed.Figure room zs [] h a

-- the lists of a special guarantee
pub flat : List (List ℤ) → List ℤ
flat [] = []
flat (b ∷ bs) = b ++ flat bs

pub lengths : List (List ℤ) → List ℕ
lengths [] = []
lengths (b ∷ bs) = length b ∷ lengths bs

-- the numbers of a list of `special` fit as what they are
in-list-held : (marks : Bool) (zs : List ℤ) → All (Holds marks) zs → All (Holds (is_mark (in_list marks))) zs
in-list-held true zs h = h
in-list-held false zs h = h

list_back : (marks : Bool) (room : ℕ) (b : List ℤ) (ws : List (List ℕ)) → length b ≤ room → length b ≤ 18446744073709551615 → All (Holds marks) b
    → list_of marks room (more (decimal (length b) ∷ (map integer b ++ ws))) ≡ record { numbers = b; left = more ws }
unfolding list_of
list_back marks room b ws h g a = rw (natural-field (length b) (map integer b ++ ws) g) (numbers-back (in_list marks) room b ws h (in-list-held marks b a))

lists-next : (m : Bool) (ms : List Bool) (room : ℕ) (l : Left) (x : Numbers) → list_of m room l ≡ x
    → lists_of (m ∷ ms) room l ≡ on_lists x (lists_of ms (room - length x.numbers) x.left)
unfolding lists_of
lists-next m ms room l x e = rw e

pub lists_back : (ms : List Bool) (bs : List (List ℤ)) (room : ℕ) → Hold ms bs → total (lengths bs) ≤ room → total (lengths bs) ≤ 18446744073709551615
    → lists_of ms room (more (list_words bs)) ≡ record { lengths = lengths bs; numbers = flat bs; left = more [] }
unfolding list_words lists_of lengths flat on_lists
lists_back [] [] room a h g = refl
lists_back [] (b ∷ bs) room a h g = absurd a
lists_back (m ∷ ms) [] room a h g = absurd a
lists_back (m ∷ ms) (b ∷ bs) room a h g =
    lists-next m ms room (more (decimal (length b) ∷ (map integer b ++ list_words bs))) (record { numbers = b; left = more (list_words bs) })
    (list_back m room b (list_words bs) (omega arith) (omega arith) a.0)
    ∙ ap (on_lists (record { numbers = b; left = more (list_words bs) })) (lists_back ms bs (room - length b) a.1 (omega arith) (omega arith))

-- numbers cut into lists
empty : (zs : List ℤ) → 0 ≡ length zs → [] ≡ zs
empty [] e = refl
empty (z ∷ zs) e = absurd (omega arith)

pub cut-flat : (ks : List ℕ) (zs : List ℤ) → total ks ≡ length zs → flat (cut ks zs) ≡ zs
unfolding cut flat
cut-flat [] zs e = empty zs e
cut-flat (k ∷ ks) zs e =
    ap (λ (t : List ℤ). take k zs ++ t) (cut-flat ks (drop k zs) (omega (arith, length-drop k zs))) ∙ take-append-drop k zs

pub cut-lengths : (ks : List ℕ) (zs : List ℤ) → total ks ≡ length zs → lengths (cut ks zs) ≡ ks
unfolding cut lengths
cut-lengths [] zs e = refl
cut-lengths (k ∷ ks) zs e =
    let h : k ≤ length zs = omega arith in
    rw (length-take-le k zs h) (ap (◌∷◌ k) (cut-lengths ks (drop k zs) (omega (arith, length-drop k zs))))
