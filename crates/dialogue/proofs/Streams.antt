-- The lines of a whole input, cut anywhere: the state, the answers and the journal are those of the parts.
-- Assumes nothing.
use Rattle.std.proofs.Common.{◌≡◌, ℕ, true, false, List, [], ◌∷◌, ◌++◌, sym, refl, ap, ◌∙◌, append_assoc}
use Rattle.laws.specs.Cases.{split}
use Rattle.dialogue.specs.declared.Way.{Way}
use Rattle.dialogue.specs.Split.{lines_in, rest_in}
use Rattle.dialogue.specs.Turns.{State, after, bytes_of, journal_of, ended}
use Rattle.dialogue.specs.Whole.{state_before, stream_after, stream_bytes, stream_journal}
use Rattle.dialogue.specs.Dialogue.{Cut}
use Rattle.dialogue.proofs.SplitLaws.{lines_cut, rest-cut}

module _ (most : ℕ) (way : Way) (room : ℕ) where
  -- ---- behind an end nothing more is taken

  pub ended-state : (s : State) (ls : List (List ℕ)) → ended way s.place ≡ true → stream_after most way room s ls ≡ s
  unfolding stream_after
  ended-state s [] e = refl
  ended-state s (l ∷ ls) e = rw e refl

  pub ended-answers : (s : State) (ls : List (List ℕ)) → ended way s.place ≡ true → stream_bytes most way room s ls ≡ []
  unfolding stream_bytes
  ended-answers s [] e = refl
  ended-answers s (l ∷ ls) e = rw e refl

  pub ended-kept : (s : State) (ls : List (List ℕ)) → ended way s.place ≡ true → stream_journal most way room s ls ≡ []
  unfolding stream_journal
  ended-kept s [] e = refl
  ended-kept s (l ∷ ls) e = rw e refl

  -- ---- before it, one line and then the others

  pub on-state : (s : State) (l : List ℕ) (ls : List (List ℕ)) → ended way s.place ≡ false
      → stream_after most way room s (l ∷ ls) ≡ stream_after most way room (after way room (state_before most s l) l) ls
  unfolding stream_after
  on-state s l ls e = rw e refl

  pub on-kept : (s : State) (l : List ℕ) (ls : List (List ℕ)) → ended way s.place ≡ false
      → stream_journal most way room s (l ∷ ls)
      ≡ journal_of way room (state_before most s l) l ++ stream_journal most way room (after way room (state_before most s l) l) ls
  unfolding stream_journal
  on-kept s l ls e = rw e refl

  -- ---- lines behind others

  pub state-append : (s : State) (a b : List (List ℕ))
      → stream_after most way room s (a ++ b) ≡ stream_after most way room (stream_after most way room s a) b
  unfolding stream_after
  state-append s [] b = refl
  state-append s (l ∷ a) b =
      split (ended way s.place) (λ e. rw e (sym (ended-state s b e)))
      (λ e. rw e (state-append (after way room (state_before most s l) l) a b))

  pub answers-append : (s : State) (a b : List (List ℕ))
      → stream_bytes most way room s (a ++ b) ≡ stream_bytes most way room s a ++ stream_bytes most way room (stream_after most way room s a) b
  unfolding stream_after stream_bytes
  answers-append s [] b = refl
  answers-append s (l ∷ a) b =
      let t = after way room (state_before most s l) l in
      let x = bytes_of way room (state_before most s l) l in
      split (ended way s.place) (λ e. rw e (sym (ended-answers s b e)))
      (λ e.
      rw e
      (ap (λ (z : List ℕ). x ++ z) (answers-append t a b)
      ∙ sym (append_assoc x (stream_bytes most way room t a) (stream_bytes most way room (stream_after most way room t a) b))))

  pub kept_append : (s : State) (a b : List (List ℕ))
      → stream_journal most way room s (a ++ b) ≡ stream_journal most way room s a ++ stream_journal most way room (stream_after most way room s a) b
  unfolding stream_after stream_journal
  kept_append s [] b = refl
  kept_append s (l ∷ a) b =
      let t = after way room (state_before most s l) l in
      let x = journal_of way room (state_before most s l) l in
      split (ended way s.place) (λ e. rw e (sym (ended-kept s b e)))
      (λ e.
      rw e
      (ap (λ (z : List ℕ). x ++ z) (kept_append t a b)
      ∙ sym (append_assoc x (stream_journal most way room t a) (stream_journal most way room (stream_after most way room t a) b))))

  -- ---- an input cut anywhere

  pub cut-anywhere : (s : State) (a b : List ℕ) → Cut most way room s a b
  cut-anywhere s a b =
      record {
        state = ap (stream_after most way room s) (lines_cut a b) ∙ state-append s (lines_in a) (lines_in (rest_in a ++ b));
        bytes = ap (stream_bytes most way room s) (lines_cut a b) ∙ answers-append s (lines_in a) (lines_in (rest_in a ++ b));
        journal = ap (stream_journal most way room s) (lines_cut a b) ∙ kept_append s (lines_in a) (lines_in (rest_in a ++ b));
        rest = rest-cut a b;
      }
