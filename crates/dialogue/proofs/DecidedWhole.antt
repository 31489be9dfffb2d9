-- The answers of a whole input are those that the reading of the history decides, and its book is that of what was asked.
-- Assumes nothing.
use Rattle.std.proofs.Common.{◌≡◌, ℕ, cond, List, [], ◌∷◌, ◌++◌, refl, ap, ◌∙◌}
use Rattle.laws.specs.Cases.{split}
use Rattle.answering.specs.Asked.{Asked}
use Rattle.dialogue.specs.declared.Way.{Way}
use Rattle.dialogue.specs.declared.Place.{Place}
use Rattle.dialogue.specs.Split.{lines_in, rest_in}
use Rattle.dialogue.specs.Asks.{asks}
use Rattle.dialogue.specs.Turns.{State, after, ended}
use Rattle.dialogue.specs.Decided.{Led, decided_of}
use Rattle.dialogue.specs.Whole.{place_before, state_before, stream_after, stream_bytes, stream_asks, decided_stream, decided_end, decided_asks}
use Rattle.dialogue.specs.Whole.{last_line, last_way, whole_bytes, whole_decided}
use Rattle.dialogue.proofs.Decided.{decided-seen, decided-of, decided-place}

-- ---- lines one after the other, whatever lines led to the book

-- Whether a line is too long changes neither.
before-led : (most : ℕ) {way : Way} {s : State} {seen : List Asked} (l : List ℕ) → Led way s seen → Led way (state_before most s l) seen
before-led most l e = record { book = e.book; rule = e.rule }

module _ (most : ℕ) (way : Way) (room : ℕ) where
  pub decided-stream : (s : State) (ls : List (List ℕ)) (seen : List Asked) → Led way s seen
      → stream_bytes most way room s ls ≡ decided_stream most way room s.place seen ls
  unfolding stream_bytes decided_stream
  decided-stream s [] seen e = refl
  decided-stream s (l ∷ ls) seen e =
      let q = place_before most s.place l in
      let t = after way room (state_before most s l) l in
      let a = asks way room q l in
      ap (cond (ended way s.place) [])
      (ap (λ (z : List ℕ). z ++ stream_bytes most way room t ls) (decided-of way room (state_before most s l) l seen (before-led most l e))
      ∙ ap (λ (z : List ℕ). decided_of way room q seen l ++ z) (decided-stream t ls (a ∷ seen) (decided-seen way room (state_before most s l) l seen (before-led most l e)))
      ∙ ap (λ (p : Place). decided_of way room q seen l ++ decided_stream most way room p (a ∷ seen) ls)
      (decided-place way room (state_before most s l) l seen (before-led most l e)))

  -- the place behind them
  pub decided-end : (s : State) (ls : List (List ℕ)) (seen : List Asked) → Led way s seen
      → (stream_after most way room s ls).place ≡ decided_end most way room s.place seen ls
  unfolding stream_after decided_end
  decided-end s [] seen e = refl
  decided-end s (l ∷ ls) seen e =
      let a = asks way room (place_before most s.place l) l in
      let t = after way room (state_before most s l) l in
      split (ended way s.place) (λ g. rw g refl)
      (λ g.
      rw g
      (decided-end t ls (a ∷ seen) (decided-seen way room (state_before most s l) l seen (before-led most l e))
      ∙ ap (λ (p : Place). decided_end most way room p (a ∷ seen) ls) (decided-place way room (state_before most s l) l seen (before-led most l e))))

  -- what they asked
  pub decided-asks : (s : State) (ls : List (List ℕ)) (seen : List Asked) → Led way s seen
      → stream_asks most way room s seen ls ≡ decided_asks most way room s.place seen ls
  unfolding stream_asks decided_asks
  decided-asks s [] seen e = refl
  decided-asks s (l ∷ ls) seen e =
      let a = asks way room (place_before most s.place l) l in
      let t = after way room (state_before most s l) l in
      ap (cond (ended way s.place) seen)
      (decided-asks t ls (a ∷ seen) (decided-seen way room (state_before most s l) l seen (before-led most l e))
      ∙ ap (λ (p : Place). decided_asks most way room p (a ∷ seen) ls) (decided-place way room (state_before most s l) l seen (before-led most l e)))

  -- and the book and the rule that it leads to
  pub stream-led : (s : State) (ls : List (List ℕ)) (seen : List Asked) → Led way s seen
      → Led way (stream_after most way room s ls) (stream_asks most way room s seen ls)
  unfolding stream_asks stream_after
  stream-led s [] seen e = e
  stream-led s (l ∷ ls) seen e =
      let a = asks way room (place_before most s.place l) l in
      let t = after way room (state_before most s l) l in
      split (ended way s.place) (λ g. rw g e)
      (λ g. rw g (stream-led t ls (a ∷ seen) (decided-seen way room (state_before most s l) l seen (before-led most l e))))

-- ---- a whole input, with what stands behind its last newline

-- The way for a last line has the same rule.
last-led : {way : Way} {s : State} {seen : List Asked} → Led way s seen → Led (last_way way) s seen
last-led e = record { book = e.book; rule = e.rule }

pub decided-whole : (most : ℕ) (way : Way) (room : ℕ) (s : State) (seen : List Asked) (input : List ℕ) → Led way s seen
    → whole_bytes most way room s input ≡ whole_decided most way room s.place seen input
unfolding whole_bytes whole_decided
decided-whole most way room s seen input e =
    let ls = lines_in input in
    let last = last_line (rest_in input) in
    let t = stream_after most way room s ls in
    let x = decided_stream most way room s.place seen ls in
    let asked = stream_asks most way room s seen ls in
    ap (λ (z : List ℕ). z ++ stream_bytes most (last_way way) room t last) (decided-stream most way room s ls seen e)
    ∙ ap (λ (z : List ℕ). x ++ z) (decided-stream most (last_way way) room t last asked (last-led (stream-led most way room s ls seen e)))
    ∙ ap (λ (p : Place). x ++ decided_stream most (last_way way) room p asked last) (decided-end most way room s ls seen e)
    ∙ ap (λ (z : List Asked). x ++ decided_stream most (last_way way) room (decided_end most way room s.place seen ls) z last)
    (decided-asks most way room s ls seen e)
