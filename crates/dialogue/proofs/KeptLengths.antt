-- The most bytes of a kept line: it has at most 16 numbers, or the 8,836 bytes of a batch.
-- Assumes nothing.
use Rattle.std.proofs.Common.{◌≡◌, ℕ, ◌+◌, ◌*◌, ◌≤◌, min, Bool, true, false, List, [], ◌∷◌, ◌++◌, map, length, take, drop, ℤ, pos, negsuc, sym, refl, ap, ◌∙◌, arith, length-append, length-drop, length-take}
use lib.Signed.{mag}
use lib.ListN.{length-map}
use Rattle.laws.specs.Cases.{clash}
use Rattle.laws.specs.Lists.{All}
use Rattle.std.specs.Prelude.{Result, Ok, Err}
use Rattle.refusal.specs.declared.Refusal.{Refusal}
use Rattle.file.specs.Answer as Said
use Rattle.file.specs.Answer.{accepted}
use Rattle.layout.specs.Book.{Book}
use Rattle.book.specs.Rule.{Rule}
use Rattle.book.specs.Account.{answer}
use Rattle.book.specs.Call.{on, settle, batch}
use Rattle.journal.specs.Grammar.{are_marks, length_list}
use Rattle.journal.specs.declared.Request.{Request}
use Rattle.journal.proofs.Counts.{count_of}
use Rattle.printing.specs.Decimals.{decimal, integer, spaced, joined}
use Rattle.printing.specs.WrittenLaws.{spaced-append}
use Rattle.printing.specs.Lines.{cut, list_words, call_words, printed, Natural64, Holds, Hold, Fitting}
use Rattle.printing.proofs.HexLaws.{batch-short}
use Rattle.answering.specs.Asked.{asked, answer_to, guarantee_of, byte_of, batch_bytes}
use Rattle.answering.specs.Kept.{takes}
use Rattle.answering.specs.Shown.{shown, guarantee_shown}
use Rattle.dialogue.specs.Said.{Small}
use Rattle.dialogue.proofs.BatchLength.{settle-few, batch-length}
use Rattle.dialogue.proofs.Lengths.{number_short, integer-short}

-- ---- the words of a call

holds-small : (m : Bool) (z : ℤ) → Holds m z → Small (mag z)
holds-small false z h = omega arith
holds-small true (pos n) h = omega arith
holds-small true (negsuc n) h = absurd h

figures-short : (m : Bool) (zs : List ℤ) → All (Holds m) zs → length (spaced (map integer zs)) ≤ 22 * length zs
unfolding spaced
figures-short m [] h = omega arith
figures-short m (z ∷ zs) h =
    omega (arith, length-append (32 ∷ integer z) (spaced (map integer zs)), integer-short z (holds-small m z h.0), figures-short m zs h.1)

spaced-more : (w : List ℕ) (ws : List (List ℕ)) → spaced (w ∷ ws) ≡ (32 ∷ w) ++ spaced ws
unfolding spaced
spaced-more w ws = refl

spaced-none : spaced [] ≡ []
unfolding spaced
spaced-none = refl

lists-short : (ms : List Bool) (ks : List ℕ) (zs : List ℤ) → Hold ms (cut ks zs) → length zs ≤ 18446744073709551615
    → length (spaced (list_words (cut ks zs))) ≤ 21 * length ks + 22 * length zs
unfolding cut list_words
lists-short ms [] zs h n = none
  where
    none : length (spaced []) ≤ 21 * 0 + 22 * length zs
    none = rw spaced-none (omega arith)
lists-short [] (k ∷ ks) zs h n = absurd h
lists-short (m ∷ ms) (k ∷ ks) zs h n =
    let a = take k zs in
    let rest = list_words (cut ks (drop k zs)) in
    let e : spaced (decimal (length a) ∷ (map integer a ++ rest)) ≡ (32 ∷ decimal (length a)) ++ (spaced (map integer a) ++ spaced rest) =
    spaced-more (decimal (length a)) (map integer a ++ rest)
    ∙ ap (λ (t : List ℕ). (32 ∷ decimal (length a)) ++ t) (spaced-append (map integer a) rest) in
    rw e
    (omega (
      arith,
      length-append (32 ∷ decimal (length a)) (spaced (map integer a) ++ spaced rest),
      length-append (spaced (map integer a)) (spaced rest),
      length-take k zs,
      length-drop k zs,
      number_short (length a) (omega (arith, length-take k zs)),
      figures-short m a h.0,
      lists-short ms ks (drop k zs) h.1 (omega (arith, length-drop k zs)),
    ))

natural : (n : ℕ) → Natural64 n → length (decimal n) ≤ 20
natural n h = number_short n (omega arith)

-- A batch, as a line.
file-short : (n : ℕ) (zs : List ℤ) → length (printed (Request.Batch n) zs) ≤ 200 + 22 * length zs
file-short n zs = omega (arith, batch-short n zs)

-- A call whose numbers fit their types, as a line.
printed-short : (r : Request) (zs : List ℤ) → Fitting r zs → length (printed r zs) ≤ 200 + 22 * length zs
unfolding printed call_words joined spaced
printed-short (Request.Fresh d) zs f = simp length-append (omega (arith, natural d.0 (omega (arith, f.0))))
printed-short (Request.Admit p r) zs f = simp length-append (omega (arith, natural p f.0, natural r f.1))
printed-short (Request.LodgeCash p q a) zs f = simp length-append (omega (arith, natural p f.0, natural q f.1, natural a f.2))
printed-short (Request.LodgeLetter p q a b l) zs f =
    simp length-append
    (omega (arith, natural p f.0, natural q f.1, natural a f.2, natural b.0 (omega (arith, f.3)), natural l.0 (omega (arith, f.4))))
printed-short (Request.Release p q a) zs f = simp length-append (omega (arith, natural p f.0, natural q f.1, natural a f.2))
printed-short (Request.Settle p m n) zs f =
    simp length-append (omega (arith, natural p f.0, natural m.0 (omega (arith, f.1)), figures-short false zs f.3))
printed-short (Request.Annual p) zs f = simp length-append (omega (arith, natural p f.0))
printed-short (Request.Advance t b) zs f = simp length-append (omega (arith, natural t.0 (omega (arith, f.0)), natural b f.1))
printed-short (Request.Statement p) zs f = simp length-append (omega (arith, natural p f.0))
printed-short (Request.Special n) zs f = simp length-append (omega (arith, lists-short are_marks (length_list n) zs f.2 f.0))
printed-short (Request.Batch n) zs f = file-short n zs
printed-short (Request.Delete p) zs f = simp length-append (omega (arith, natural p f.0))
printed-short (Request.File p) zs f = simp length-append (omega (arith, natural p f.0))
printed-short (Request.Releasable p q) zs f = simp length-append (omega (arith, natural p f.0, natural q f.1))
printed-short (Request.Error e) zs f = absurd f
printed-short r zs f = omega arith

-- ---- a kept call's numbers

-- The answer of a special guarantee is not kept.
special-untaken : (x : Result ℕ Refusal) → takes (guarantee_shown x) ≡ false
special-untaken (Ok c) = refl
special-untaken (Err r) = refl

-- A call that is kept is accepted.
taken-accepted : (x : Said.Answer) → takes (shown x) ≡ true → accepted x ≡ true
taken-accepted (Said.refused n) h = h
taken-accepted Said.done h = refl
taken-accepted (Said.called e asked last) h = refl
taken-accepted (Said.covered e) h = refl
taken-accepted (Said.recorded e) h = refl
taken-accepted (Said.annual a n) h = refl
taken-accepted (Said.days_opened n) h = refl
taken-accepted (Said.stated f c s d a m) h = refl
taken-accepted (Said.counted n) h = refl
taken-accepted (Said.batched n) h = refl
taken-accepted (Said.refused_pair n i) h = h
taken-accepted (Said.deletion a c) h = refl

-- The bytes of an accepted batch.
batch-few : (rule : Rule) (b : Book) (n : ℕ) (zs : List ℤ) → n ≡ length zs → accepted (answer rule b (batch (batch_bytes n zs))) ≡ true
    → length zs ≤ 8836
unfolding batch_bytes
batch-few rule b n zs e h =
    omega (arith, batch-length rule b (batch_bytes n zs) h, length-map (take (min n 32768) zs) byte_of, length-take (min n 32768) zs)

-- A kept call has room: at most 16 figures of a settlement or 8,836 bytes of a batch are printed.
pub kept-short : (rule : Rule) (b : Book) (k : ℕ) (r : Request) (zs : List ℤ) → Fitting r zs → count_of r ≡ length zs
    → takes (answer_to rule b k (asked r zs)) ≡ true → length (printed r zs) ≤ 19000
kept-short rule b k (Request.Settle p m n) zs f e h =
    let x : accepted (answer rule b (on p (settle m.0 (take n zs)))) ≡ true =
    taken-accepted (answer rule b (on p (settle m.0 (take n zs)))) h in
    omega (arith, printed-short (Request.Settle p m n) zs f, settle-few rule b p m.0 (take n zs) x, length-take n zs)
kept-short rule b k (Request.Special n) zs f e h = clash {t = false} (sym (special-untaken (guarantee_of n zs)) ∙ h) refl
kept-short rule b k (Request.Batch n) zs f e h =
    omega (arith, batch-short n zs, batch-few rule b n zs e (taken-accepted (answer rule b (batch (batch_bytes n zs))) h))
kept-short rule b k (Request.Error w) zs f e h = absurd f
kept-short rule b k r zs f e h = omega (arith, printed-short r zs f)
