-- The whole life of a kept journal: the journals of sessions one after the other, replayed as one, lead to the book of the last.
-- Assumes nothing.
use Rattle.std.proofs.Common.{◌≡◌, ℕ, ◌≤◌, List, [], ◌∷◌, ◌++◌, sym, refl, ap, ◌∙◌}
use Rattle.dialogue.specs.Split.{lines_in, rest_in}
use Rattle.dialogue.specs.Turns.{State}
use Rattle.dialogue.specs.Whole.{stream_after, stream_journal}
use Rattle.dialogue.specs.Dialogue.{replaying, Begins, Replayed}
use Rattle.dialogue.specs.KeptLife.{Sitting, reopened, sittings_journal, sittings_end, AllKeep, KeptLife}
use Rattle.dialogue.proofs.Journal.{journal-whole, replayed}
use Rattle.dialogue.proofs.References.{lines-plain}
use Rattle.dialogue.proofs.SplitLaws.{lines-behind, rest-behind}
use Rattle.dialogue.proofs.Streams.{state-append, kept_append}

module _ (most room : ℕ) where
  -- Behind a journal that led to a state's book and count, another that was begun there may be replayed.
  pub begins-then : (t end s : State) (j : List ℕ) → Replayed most room t j end → s.book ≡ end.book → s.place.kept ≡ end.place.kept
      → s.place.early ≡ end.place.early → Begins s (stream_after most replaying room t (lines_in j))
  begins-then t end s j x b k u =
      record { book = x.book ∙ sym b; kept = x.kept ∙ sym k; refused = x.refused; early = x.early ∙ sym u }

  pub replayed-then : (t end end₁ : State) (j k : List ℕ) → rest_in j ≡ [] → Replayed most room t j end
      → Replayed most room (stream_after most replaying room t (lines_in j)) k end₁ → Replayed most room t (j ++ k) end₁
  replayed-then t end end₁ j k whole x y =
      let u = stream_after most replaying room t (lines_in j) in
      let state : stream_after most replaying room t (lines_in (j ++ k)) ≡ stream_after most replaying room u (lines_in k) =
      ap (stream_after most replaying room t) (lines-behind j k whole) ∙ state-append most replaying room t (lines_in j) (lines_in k) in
      record {
        book = ap (λ (z : State). z.book) state ∙ y.book;
        kept = ap (λ (z : State). z.place.kept) state ∙ y.kept;
        refused = ap (λ (z : State). z.place.refused) state ∙ y.refused;
        early = ap (λ (z : State). z.place.early) state ∙ y.early;
        again =
            ap (stream_journal most replaying room t) (lines-behind j k whole) ∙ kept_append most replaying room t (lines_in j) (lines_in k)
            ∙ ap (λ (z : List ℕ). z ++ stream_journal most replaying room u (lines_in k)) x.again
            ∙ ap (λ (z : List ℕ). j ++ z) y.again;
      }

  -- No session: the journal is empty.
  none_kept : (s t : State) → Begins s t → KeptLife most room s t []
  unfolding sittings_journal sittings_end lines_in rest_in stream_after stream_journal
  none_kept s t b =
      record { whole = refl; replayed = record { book = b.book; kept = b.kept; refused = b.refused; early = b.early; again = refl } }

  -- For every list of sessions that keep.
  pub kept-life : 20480 ≤ most → room ≤ 18446744073709551615 → (s t : State) → Begins s t → (sittings : List Sitting) → AllKeep sittings
      → KeptLife most room s t sittings
  unfolding sittings_journal sittings_end
  kept-life enough small s t b [] k = none_kept s t b
  kept-life enough small s t b (x ∷ xs) k =
      let j = stream_journal most x.way room s (lines_in x.input) in
      let end = stream_after most x.way room s (lines_in x.input) in
      let whole : rest_in j ≡ [] = journal-whole most x.way room s (lines_in x.input) (lines-plain x.input) in
      let one : Replayed most room t j end = replayed most x.way room enough small k.0 s t (lines_in x.input) (lines-plain x.input) b in
      let u = stream_after most replaying room t (lines_in j) in
      let rest = kept-life enough small (reopened end) u (begins-then t end (reopened end) j one refl refl refl) xs k.1 in
      record {
        whole = rest-behind j (sittings_journal most room (reopened end) xs) whole ∙ rest.whole;
        replayed =
            replayed-then t end (sittings_end most room (reopened end) xs) j (sittings_journal most room (reopened end) xs) whole one
            rest.replayed;
      }
