-- 'Two ways to run it': what a kept journal takes.
-- Assumes nothing.
use Rattle.std.specs.Prelude.{ℕ, min, Bool, true, false, cond, ◌&&◌, List, [], ◌∷◌, ◌++◌, ltb, length, take, ℤ}
use Rattle.words.specs.Comments.{commented}
use Rattle.journal.specs.Grammar.{length_list, total}
use Rattle.journal.specs.declared.Reason.{Reason}
use Rattle.journal.specs.declared.Request.{Request}
use Rattle.printing.specs.declared.Answer.{Answer}
use Rattle.printing.specs.Lines.{printed}

-- "each accepted call is appended", but for the questions, which change nothing: whether a call with this answer is kept. It is one that is
-- answered, neither refused nor an error, and not by what was asked for.
abbrev pub takes : Answer → Bool
takes Answer.Done = true
takes (Answer.Called e a d) = true
takes (Answer.Covered e) = true
takes (Answer.Recorded e) = true
takes (Answer.Annual a m) = true
takes (Answer.Opened d) = true
takes (Answer.Batch n) = true
takes (Answer.Deletion a c) = true
takes x = false

-- Whether an answer is a refusal or an error.
abbrev pub refuses : Answer → Bool
refuses (Answer.Refused n) = true
refuses (Answer.Error l e) = true
refuses (Answer.RefusedPair n i) = true
refuses x = false

-- Whether a request is a call that may change the book: all but the questions, an empty line, the line that ends a first stretch and an error.
abbrev pub changes : Request → Bool
changes (Request.Fresh d) = true
changes (Request.Admit p r) = true
changes (Request.LodgeCash p q a) = true
changes (Request.LodgeLetter p q a f l) = true
changes (Request.Release p q a) = true
changes (Request.Settle p m n) = true
changes (Request.Annual p) = true
changes (Request.Advance t b) = true
changes (Request.Batch n) = true
changes (Request.Delete p) = true
changes r = false

-- Whether a request asks for a fresh book.
abbrev pub is_fresh : Request → Bool
is_fresh (Request.Fresh d) = true
is_fresh r = false

-- Whether a request is the line that ends the first stretch of a journal (paper 02, Ask 3).
abbrev pub is_role_retired : Request → Bool
is_role_retired Request.RoleRetired = true
is_role_retired r = false

-- "In a kept journal `fresh` stands only as the first call; a later one is an error": a request where so many calls are kept.
unfoldable pub fresh_first : ℕ → Request → Request
fresh_first kept r = cond (is_fresh r && ltb 0 kept) (Request.Error Reason.FreshLater) r

-- How many numbers a request's lists have, where so many numbers stand in a row: a settlement's figures, the seven lists of a special
-- guarantee, and the bytes of a batch.
abbrev pub numbers_in : Request → ℕ → ℕ
numbers_in (Request.Settle p m n) most = min n most
numbers_in (Request.Special n) most = min (total (length_list n)) most
numbers_in (Request.Batch n) most = min n most
numbers_in r most = 0

-- A call as a line of the journal, in its numeric form, with a reference behind it and its newline. "A comment behind an accepted call is kept in the
-- journal behind the call's numeric form."
unfoldable pub kept_line : Request → List ℤ → (reference : List ℕ) → List ℕ
kept_line r zs reference = printed r (take (numbers_in r (length zs)) zs) ++ commented reference ++ (10 ∷ [])

-- That line, with its newline.
abbrev pub retired_line : List ℕ
retired_line = printed Request.RoleRetired [] ++ (10 ∷ [])
