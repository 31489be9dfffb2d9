-- What stands behind the last newline: nothing of it is kept, and in the kept way it leaves the book.
-- Assumes nothing.
use Rattle.std.proofs.Common.{◌≡◌, ℕ, Bool, true, false, cond, ◌&&◌, List, [], ◌∷◌, ◌++◌, refl, ap, ◌∙◌, append-nil}
use Rattle.laws.specs.Cases.{split, cond-false}
use Rattle.journal.specs.Grammar.{parsed}
use Rattle.answering.specs.Asked.{Asked, asked, answer_to, book_after}
use Rattle.answering.specs.Kept.{takes, is_role_retired, retired_line}
use Rattle.journal.specs.declared.Reason.{Reason}
use Rattle.journal.specs.declared.Request.{Request}
use Rattle.dialogue.specs.declared.Way.{Way}
use Rattle.dialogue.specs.Asks.{text_of, held_back, request_of, asks, rule_at}
use Rattle.dialogue.specs.Turns.{State, next, ends_at, answer_of, is_kept, after, kept_text, journal_of, ended}
use Rattle.dialogue.specs.Whole.{state_before, stream_after, stream_journal, last_line, last_way}
use Rattle.dialogue.proofs.Streams.{ended-state, ended-kept, on-state, on-kept}

-- In the kept way it is an error.
torn-asks : (way : Way) (room : ℕ) (s : State) (l : List ℕ) → way.keeps ≡ true
    → asks (last_way way) room s.place l ≡ asked (Request.Error Reason.NoNewline) (parsed room (text_of s.place.line l)).numbers
unfolding asks request_of held_back
torn-asks way room s l e = rw e refl

torn-request : (way : Way) (room : ℕ) (s : State) (l : List ℕ) → way.keeps ≡ true
    → request_of (last_way way) room s.place l ≡ Request.Error Reason.NoNewline
unfolding request_of held_back
torn-request way room s l e = rw e refl

-- It is not kept: where lines are kept it is an error.
last-left : (way : Way) (room : ℕ) (s : State) (l : List ℕ) → is_kept (last_way way) room s l ≡ false
unfolding is_kept answer_of
last-left way room s l =
    split way.keeps
    (λ e.
    ap (λ (a : Asked). way.keeps && takes (answer_to (rule_at way s.place) s.book (next s.place.line) a)) (torn-asks way room s l e)
    ∙ ap (λ (t : Bool). t && false) e)
    (λ e. ap (λ (t : Bool). t && takes (answer_of (last_way way) room s l)) e)

-- Nor does it end the first stretch of a journal that is kept: it is no mark.
none-ends : (t u : Bool) → cond t (u && false) (u && false) ≡ false
none-ends true true = refl
none-ends true false = refl
none-ends false true = refl
none-ends false false = refl

torn-marks : (way : Way) (room : ℕ) (s : State) (l : List ℕ) → way.keeps ≡ true → ends_at (last_way way) room s l ≡ false
unfolding ends_at
torn-marks way room s l e =
    let u = s.place.early in
    ap (λ (t : Bool). cond way.replays (u && is_role_retired (request_of (last_way way) room s.place l)) (u && t)) (last-left way room s l)
    ∙ ap (λ (r : Request). cond way.replays (u && is_role_retired r) (u && false)) (torn-request way room s l e)
    ∙ none-ends way.replays u

last-early : (way : Way) (room : ℕ) (s : State) (l : List ℕ) → (way.keeps && ends_at (last_way way) room s l) ≡ false
last-early way room s l =
    split way.keeps
    (λ e. ap (λ (t : Bool). t && ends_at (last_way way) room s l) e ∙ torn-marks way room s l e)
    (λ e. ap (λ (t : Bool). t && ends_at (last_way way) room s l) e)

module _ (most : ℕ) (way : Way) (room : ℕ) (s : State) where
  -- Nothing of it is in the journal.
  pub last-journal : (rest : List ℕ) → stream_journal most (last_way way) room s (last_line rest) ≡ []
  unfolding stream_journal journal_of
  last-journal [] = refl
  last-journal (b ∷ r) =
      let t = state_before most s (b ∷ r) in
      let k = kept_text room s.place.line (b ∷ r) ++ (10 ∷ []) in
      split (ended (last_way way) s.place) (λ e. ended-kept most (last_way way) room s ((b ∷ r) ∷ []) e)
      (λ e.
      on-kept most (last_way way) room s (b ∷ r) [] e ∙ append-nil (journal_of (last_way way) room t (b ∷ r))
      ∙ ap (λ (z : Bool). cond z retired_line [] ++ cond (is_kept (last_way way) room t (b ∷ r)) k []) (last-early way room t (b ∷ r))
      ∙ cond-false (is_kept (last_way way) room t (b ∷ r)) k [] (last-left way room t (b ∷ r)))

  -- In the kept way it leaves the book.
  pub last-book : (rest : List ℕ) → way.keeps ≡ true → (stream_after most (last_way way) room s (last_line rest)).book ≡ s.book
  unfolding stream_after after
  last-book [] keeps = refl
  last-book (b ∷ r) keeps =
      let t = state_before most s (b ∷ r) in
      split (ended (last_way way) s.place) (λ e. ap (λ (z : State). z.book) (ended-state most (last_way way) room s ((b ∷ r) ∷ []) e))
      (λ e.
      ap (λ (z : State). z.book) (on-state most (last_way way) room s (b ∷ r) [] e)
      ∙ ap (book_after (rule_at way s.place) s.book) (torn-asks way room t (b ∷ r) keeps))
