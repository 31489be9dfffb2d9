-- What `journal::parse` leaves of a line, the request and the numbers at the front of the lent slice, asks what the line asks: the two
-- contracts, of `parse` and of `apply`, fit. And so does the line that is kept of it.
-- Assumes nothing.
use Prim.Native.Nat.{ℕ, ◌≤◌, min}
use mathlib.Core.Path.{◌≡◌, refl, sym, ap, subst, ◌∙◌}
use mathlib.Core.Bool.{Bool, true, false, ◌&&◌}
use mathlib.Core.List.{List}
use native.Mathlib.Omega.{arith}
use lib.IntN.{ℤ}
use lib.Dec.{ltb}
use lib.ListN.{length, take}
use lib.Seq.{length-sets}
use Rattle.laws.specs.Cases.{split}
use Rattle.journal.specs.Grammar.{parsed}
use Rattle.journal.specs.Steps.{ParsedIs}
use Rattle.journal.specs.declared.Reason.{Reason}
use Rattle.journal.specs.declared.Request.{Request}
use Rattle.journal.proofs.Room.{parsed-fits, parsed-front}
use Rattle.journal.proofs.Counts.{count_of, IsCall, parsed-counted}
use Rattle.answering.specs.Asked.{asked}
use Rattle.answering.specs.Kept.{numbers_in, is_fresh, fresh_first}
use Rattle.answering.specs.Lines.{line_request, line_asks, LineIs}
use Rattle.answering.proofs.OwnNumbers.{own, asked-cut}

-- The numbers of a request, clipped, are those that it says it has, clipped.
counts : (r : Request) (most : ℕ) → numbers_in r most ≡ min (count_of r) most
counts (Request.Settle p m n) most = refl
counts (Request.Special n) most = refl
counts (Request.Batch n) most = refl
counts r most = omega arith

-- Where the numbers of a call stand at the front of f, they are the request's own, and f asks what they ask.
front-own : (r : Request) (zs f : List ℤ) → count_of r ≡ length zs → length zs ≤ length f → take (length zs) f ≡ zs → own r f ≡ zs
front-own r zs f k h e =
    let n : numbers_in r (length f) ≡ length zs = counts r (length f) ∙ omega arith in
    ap (λ (m : ℕ). take m f) n ∙ e

front-asks : (r : Request) (zs f : List ℤ) → own r f ≡ zs → asked r f ≡ asked r zs
front-asks r zs f e = sym (asked-cut r f) ∙ ap (asked r) e

-- An error asks the same whatever the numbers.
call-or-error : (r : Request) (zs f : List ℤ) → (IsCall r → asked r f ≡ asked r zs) → asked r f ≡ asked r zs
call-or-error (Request.Error e) zs f h = refl
call-or-error r zs f h = h tt

-- The numbers of a parsed call, lent a slice e which is left as f, are its own in f.
pub parsed-own : (line : List ℕ) (e f : List ℤ) (r : Request) → ParsedIs (parsed (length e) line) e r f → IsCall (parsed (length e) line).request
    → own (parsed (length e) line).request f ≡ (parsed (length e) line).numbers
parsed-own line e f r x c =
    let zs = (parsed (length e) line).numbers in
    let long : length f ≡ length e = ap length x.numbers ∙ length-sets e 0 zs in
    let fits : length zs ≤ length f = omega (arith, parsed-fits (length e) line, long) in
    front-own (parsed (length e) line).request zs f (parsed-counted (length e) line c) fits (parsed-front line e f r x)

-- What `parse` gives of a line asks what the line's own request and numbers ask.
line-asks : (line : List ℕ) (e f : List ℤ) (r : Request) → ParsedIs (parsed (length e) line) e r f
    → asked r f ≡ asked (parsed (length e) line).request (parsed (length e) line).numbers
line-asks line e f r x =
    let zs = (parsed (length e) line).numbers in
    ap (λ (q : Request). asked q f) x.request
    ∙ call-or-error (parsed (length e) line).request zs f
    (λ c. front-asks (parsed (length e) line).request zs f (parsed-own line e f r x c))

-- .. also where a later `fresh` is an error.
first-asks : (kept : ℕ) (r : Request) (zs f : List ℤ) → asked r f ≡ asked r zs → asked (fresh_first kept r) f ≡ asked (fresh_first kept r) zs
unfolding fresh_first
first-asks kept r zs f e = split (is_fresh r && ltb 0 kept) (λ t. rw t refl) (λ t. rw t e)

-- A line whose beginning had no room.
pub long_line : (long : Bool) (kept : ℕ) (line : List ℕ) (e : List ℤ) → long ≡ true → LineIs long kept line e (Request.Error Reason.TooLong) e
unfolding line_request line_asks
long_line long kept line e t = record { request = rw t refl; numbers = rw t refl; asks = rw t refl }

-- A line that was parsed.
pub parsed_line : (long : Bool) (kept : ℕ) (line : List ℕ) (e f : List ℤ) (r q : Request) → long ≡ false → ParsedIs (parsed (length e) line) e r f
    → q ≡ fresh_first kept r → LineIs long kept line e q f
unfolding line_request line_asks
parsed_line long kept line e f r q t x h =
    let zs = (parsed (length e) line).numbers in
    let g : q ≡ fresh_first kept (parsed (length e) line).request = h ∙ ap (fresh_first kept) x.request in
    let a : asked (parsed (length e) line).request f ≡ asked (parsed (length e) line).request zs =
    ap (λ (z : Request). asked z f) (sym x.request) ∙ line-asks line e f r x in
    record {
      request = rw t g;
      numbers = rw t x.numbers;
      asks = rw (t, g) (first-asks kept (parsed (length e) line).request zs f a);
    }

-- ---- a kept line

-- A request that is a call is the parsed one: a later `fresh` is an error.
pub call-is-parsed : (kept : ℕ) (r q : Request) → q ≡ fresh_first kept r → IsCall q → q ≡ r
unfolding fresh_first
call-is-parsed kept r q e c =
    split (is_fresh r && ltb 0 kept)
    (λ t. let g : q ≡ Request.Error Reason.FreshLater = rw t at e in absurd (subst IsCall g c))
    (λ t. rw t at e)
