-- What the numbers of a line are in the slice that they are written to: there is room for them, they stand at its front, and the rest of it
-- is as before; and the counts that a call carries are theirs.
-- Assumes nothing.
use Prim.Native.Nat.{ℕ, zero, suc, ◌+◌, ◌-◌, ◌≤◌}
use mathlib.Core.Path.{◌≡◌, ap, ◌∙◌}
use mathlib.Core.Bool.{Bool}
use mathlib.Core.List.{List, [], ◌∷◌, ◌++◌}
use native.Mathlib.Omega.{arith}
use borrow.Author.Tests.{eqb-false, leb-true}
use lib.Dec.{eqb, leb}
use lib.ListN.{length, take, drop, length-append}
use lib.Seq.{sets-eq, take-append_seam, drop-append_seam}
use lib.IntN.{ℤ}
use Rattle.std.specs.Prelude.{Option, Some, None}
use Rattle.laws.specs.Cases.{split}
use Rattle.laws.specs.Lists.{all-default}
use Rattle.words.specs.Bytes.{control, some, uncommented}
use Rattle.words.specs.Words.{words, place_in}
use Rattle.words.specs.Hex.{hexadecimal, bytes_of_hex}
use Rattle.journal.specs.Names.{read_number, call_names}
use Rattle.journal.specs.Fields.{Left, more, fault, next_of, faulted, field_of, closed, file_of, checked_file, ended}
use Rattle.journal.specs.Fields.{Numbers, with_number, next_numbers, figures_of, words_left, in_list, list_of, Lists, on_lists, lists_of}
use Rattle.journal.specs.Grammar.{Parsed, plain, are_marks, fresh_of, admit_of, lodge_of, release_of}
use Rattle.journal.specs.Grammar.{settle_of, annual_of, advance_of, statement_of, delete_of, file_asked_of, releasable_of, special_of, filed, batch_of, calls_of, named_call, words_of, parsed}
use Rattle.journal.specs.Steps.{ParsedIs}
use Rattle.journal.specs.declared.Reason.{Reason}
use Rattle.journal.specs.declared.Request.{Request}
use Rattle.journal.specs.declared.fields.Kind.{Kind}
use Rattle.journal.specs.declared.lists.Listed.{Listed}

-- There is room.

with-fits : (room : ℕ) (v : Option ℤ) (l : Left) (rest : Numbers) → length rest.numbers ≤ room - 1
    → length (with_number room v l rest).numbers ≤ room
unfolding with_number
with-fits room None l rest h = omega arith
with-fits room (Some z) l rest h =
    split (eqb room 0) (λ t. rw t (omega arith)) (λ t. let n = eqb-false room 0 t in rw t (omega arith))

numbers_fit : (due : Listed) (room n : ℕ) (l : Left) → length (next_numbers due room n l).numbers ≤ room
unfolding next_numbers
numbers_fit due room zero l = omega arith
numbers_fit due room (suc n) l =
    with-fits room (read_number due (next_of l).word) (next_of l).left (next_numbers due (room - 1) n (next_of l).left)
    (numbers_fit due (room - 1) n (next_of l).left)

pub list-fits : (marks : Bool) (room : ℕ) (l : Left) → length (list_of marks room l).numbers ≤ room
unfolding list_of
list-fits marks room l = numbers_fit (in_list marks) room (field_of Kind.Natural l).value (field_of Kind.Natural l).left

on_fits : (room : ℕ) (a : Numbers) (b : Lists) → length a.numbers ≤ room → length b.numbers ≤ room - length a.numbers
    → length (on_lists a b).numbers ≤ room
unfolding on_lists
on_fits room a b h g = rw (length-append a.numbers b.numbers) (omega arith)

lists-fit : (ms : List Bool) (room : ℕ) (l : Left) → length (lists_of ms room l).numbers ≤ room
unfolding lists_of
lists-fit [] room l = omega arith
lists-fit (m ∷ ms) room l =
    on_fits room (list_of m room l) (lists_of ms (room - length (list_of m room l).numbers) (list_of m room l).left) (list-fits m room l)
    (lists-fit ms (room - length (list_of m room l).numbers) (list_of m room l).left)

-- facts of the elements of a list, one after the other
infixr 4 ◌&◌
pub ◌&◌ : {A B : Type 0} → A → B → A × B
a & b = (a, b)

Fits : ℕ → Parsed → Type 0
Fits room x = length x.numbers ≤ room

plain_fits : (room : ℕ) (r : Request) → Fits room (plain r)
unfolding Fits
plain_fits room r = omega arith

settle-fits : (room : ℕ) (l : Left) → Fits room (settle_of room l)
unfolding Fits settle_of figures_of
settle-fits room l =
    let p = field_of Kind.Natural l in
    let m = field_of Kind.Month p.left in
    numbers_fit Listed.Figure room (words_left m.left) m.left

special-fits : (room : ℕ) (l : Left) → Fits room (special_of room l)
unfolding Fits special_of
special-fits room l = lists-fit are_marks room l

-- a file has room where nothing is wrong with it
short-file : (room : ℕ) (l : Left) (zs : List ℤ) → length zs ≤ room → Fits room (filed l zs)
unfolding Fits filed
short-file room (more ws) zs h = h
short-file room (fault e) zs h = omega arith

wrong-file : (room : ℕ) (l : Left) (e : Reason) (zs : List ℤ) → Fits room (filed (ended (faulted l e)) zs)
unfolding Fits filed ended faulted
wrong-file room (more ws) e zs = omega arith
wrong-file room (fault d) e zs = omega arith

file-fits : (room : ℕ) (w : List ℕ) (l : Left) → Fits room (filed (ended (checked_file room w l)) (bytes_of_hex w))
unfolding checked_file
file-fits room w l =
    split (leb (length (bytes_of_hex w)) room)
    (λ t. short-file room (ended (checked_file room w l)) (bytes_of_hex w) (leb-true (length (bytes_of_hex w)) room t))
    (λ t.
    split (hexadecimal w) (λ u. rw (u, t) (wrong-file room l Reason.TooLong (bytes_of_hex w)))
    (λ u. rw u (wrong-file room l Reason.NotHex (bytes_of_hex w))))

batch-fits : (room : ℕ) (l : Left) → Fits room (batch_of room l)
unfolding batch_of
batch-fits room l = let f = file_of l in file-fits room f.word f.left

call_fits : (room k : ℕ) (l : Left) → Fits room (named_call room k l)
unfolding named_call calls_of
call_fits room k l =
    all-default (Fits room) (calls_of room l) k (plain (Request.Error Reason.NoCall)) (plain_fits room (Request.Error Reason.NoCall))
    (plain_fits room (fresh_of l) & plain_fits room (admit_of l) & plain_fits room (lodge_of l)
    & plain_fits room (release_of l) & settle-fits room l & plain_fits room (annual_of l) & plain_fits room (advance_of l)
    & plain_fits room (statement_of l) & plain_fits room (closed l Request.Calls) & special-fits room l
    & plain_fits room (closed l Request.Report) & batch-fits room l & plain_fits room (closed l Request.RoleRetired)
    & plain_fits room (delete_of l) & plain_fits room (file_asked_of l) & plain_fits room (releasable_of l)
    & plain_fits room (closed l Request.Today) & tt)

words-fit : (room : ℕ) (ws : List (List ℕ)) → Fits room (words_of room ws)
unfolding words_of
words-fit room [] = plain_fits room Request.Nothing
words-fit room (w ∷ ws) = call_fits room (place_in w call_names) (more ws)

-- a line has no more numbers than there is room for
pub parsed-fits : (room : ℕ) (line : List ℕ) → length (parsed room line).numbers ≤ room
unfolding parsed Fits
parsed-fits room line =
    split (some control (uncommented line)) (λ t. rw t (omega arith)) (λ t. rw t (words-fit room (words (uncommented line))))

-- They stand at the front, and the rest is as before.

module _ (line : List ℕ) (e f : List ℤ) (r : Request) (x : ParsedIs (parsed (length e) line) e r f) where
  written : f ≡ (parsed (length e) line).numbers ++ drop (length (parsed (length e) line).numbers) e
  written =
      let n = (parsed (length e) line).numbers in
      let z : 0 + length n ≡ length n = omega arith in
      x.numbers ∙ sets-eq n e 0 (omega (arith, parsed-fits (length e) line)) ∙ ap (λ (k : ℕ). n ++ drop k e) z

  pub parsed-front : take (length (parsed (length e) line).numbers) f ≡ (parsed (length e) line).numbers
  parsed-front = rw written (take-append_seam (parsed (length e) line).numbers (drop (length (parsed (length e) line).numbers) e))

  pub parsed-rest : drop (length (parsed (length e) line).numbers) f ≡ drop (length (parsed (length e) line).numbers) e
  parsed-rest = rw written (drop-append_seam (parsed (length e) line).numbers (drop (length (parsed (length e) line).numbers) e))
