-- Lines whose calls are under the new rule give nobody the retired role, since the rule stays the new one.
-- Assumes nothing.
use Rattle.std.proofs.Common.{◌≡◌, ℕ, Bool, true, false, cond, not, ◌&&◌, List, [], ◌∷◌, sym, refl, subst}
use Rattle.laws.specs.Cases.{split, by-test}
use Rattle.file.specs.Answer.{accepted}
use Rattle.layout.specs.Book.{Book}
use Rattle.book.specs.Rule.{Rule, old_rule, new_rule}
use Rattle.book.specs.Account.{fresh_answer, fresh_book}
use Rattle.book.specs.Retired.{NoneGetsIt}
use Rattle.book.proofs.History.Retired.{nobody, nobody-then, none-gets-it, fresh-nobody}
use Rattle.answering.specs.Asked.{Asked, call, fresh, guarantee, nothing, role_retired, file_asked, releasable_asked, today_asked, fault, book_after}
use Rattle.dialogue.specs.declared.Way.{Way}
use Rattle.dialogue.specs.Asks.{asks, rule_at}
use Rattle.dialogue.specs.Turns.{State, ends_at, after, ended}
use Rattle.dialogue.specs.Whole.{state_before, stream_after}

-- Whatever a line asks.
asked-nobody : (b : Book) (a : Asked) → NoneGetsIt b (book_after new_rule b a)
asked-nobody b (call c) = none-gets-it b c
asked-nobody b (fresh d) =
    by-test (accepted (fresh_answer d)) (fresh_book d) b (NoneGetsIt b) (λ e. fresh-nobody b d) (λ e. nobody b)
asked-nobody b (guarantee x) = nobody b
asked-nobody b nothing = nobody b
asked-nobody b role_retired = nobody b
asked-nobody b (file_asked p) = nobody b
asked-nobody b (releasable_asked p k) = nobody b
asked-nobody b today_asked = nobody b
asked-nobody b (fault e) = nobody b

-- The rule stays the new one: the first stretch does not begin again.
stays-new : (replays early ends : Bool) → cond (replays && early) old_rule new_rule ≡ new_rule
    → cond (replays && (early && not ends)) old_rule new_rule ≡ new_rule
stays-new false early ends e = refl
stays-new true false ends e = refl
stays-new true true true e = refl
stays-new true true false e = e

module _ (most : ℕ) (way : Way) (room : ℕ) where
  rule-after : (s : State) (l : List ℕ) → rule_at way s.place ≡ new_rule → rule_at way (after way room s l).place ≡ new_rule
  unfolding after
  rule-after s l e = stays-new way.replays s.place.early (ends_at way room s l) e

  line-nobody : (s : State) (l : List ℕ) → rule_at way s.place ≡ new_rule → NoneGetsIt s.book (after way room s l).book
  unfolding after
  line-nobody s l e =
      subst (λ (rule : Rule). NoneGetsIt s.book (book_after rule s.book (asks way room s.place l))) (sym e)
      (asked-nobody s.book (asks way room s.place l))

  pub stream-rule : (s : State) (ls : List (List ℕ)) → rule_at way s.place ≡ new_rule
      → rule_at way (stream_after most way room s ls).place ≡ new_rule
  unfolding stream_after
  stream-rule s [] e = e
  stream-rule s (l ∷ ls) e =
      let s₁ = state_before most s l in
      split (ended way s.place) (λ h. rw h e) (λ h. rw h (stream-rule (after way room s₁ l) ls (rule-after s₁ l e)))

  pub stream-nobody : (s : State) (ls : List (List ℕ)) → rule_at way s.place ≡ new_rule
      → NoneGetsIt s.book (stream_after most way room s ls).book
  unfolding stream_after
  stream-nobody s [] e = nobody s.book
  stream-nobody s (l ∷ ls) e =
      let s₁ = state_before most s l in
      let t = after way room s₁ l in
      split (ended way s.place) (λ h. rw h (nobody s.book))
      (λ h.
      rw h
      (nobody-then s.book t.book (stream_after most way room t ls).book (line-nobody s₁ l e) (stream-nobody t ls (rule-after s₁ l e))))
