-- What a journal has of an input: complete lines, which replayed lead to the same book and are kept again in the same bytes.
-- Assumes nothing.
use Rattle.std.proofs.Common.{◌≡◌, ℕ, ◌≤◌, Bool, true, false, cond, not, ◌&&◌, ltb, List, [], ◌∷◌, ◌++◌, length, sym, refl, ap, ◌∙◌, subst, append_assoc, append-nil, arith}
use mathlib.Core.Bool.{and-true, and-false}
use borrow.Author.Tests.{lt-leb}
use Rattle.laws.specs.Cases.{split, cond-true, cond-false}
use Rattle.laws.specs.Lists.{All}
use Rattle.book.specs.Rule.{Rule, old_rule, new_rule}
use Rattle.journal.specs.declared.Request.{Request}
use Rattle.printing.specs.Decimals.{spaced, joined}
use Rattle.printing.specs.Lines.{call_words, printed}
use Rattle.answering.specs.Asked.{answer_to}
use Rattle.answering.specs.Kept.{takes, is_role_retired, retired_line}
use Rattle.answering.proofs.Session.{not_taken}
use Rattle.dialogue.specs.declared.Way.{Way}
use Rattle.dialogue.specs.Split.{lines_in, rest_in}
use Rattle.dialogue.specs.Asks.{request_of, asks, rule_at}
use Rattle.dialogue.specs.Turns.{State, next, counted, ends_at, answer_of, is_kept, after, kept_text, journal_of, ended}
use Rattle.dialogue.specs.Whole.{state_before, stream_after, stream_journal}
use Rattle.dialogue.specs.Dialogue.{replaying, Begins, Replayed}
use Rattle.dialogue.proofs.CompleteLines.{Plain, line_first, rest-first}
use Rattle.dialogue.proofs.SplitLaws.{lines-behind, rest-behind}
use Rattle.dialogue.proofs.KeptForm.{printed-plain}
use Rattle.dialogue.proofs.References.{kept-plain}
use Rattle.dialogue.proofs.KeptAgain.{kept-text-short, kept-no-mark, book-again, count-again, none-refused, mark-stays, line-again}
use Rattle.dialogue.proofs.KeptAgain.{retired_text, mark-book, mark-kept, mark-refused, mark-ends, mark-journal}
use Rattle.dialogue.proofs.Streams.{ended-state, ended-kept, on-state, on-kept, state-append, kept_append}

-- ---- its bytes are complete lines

-- A line with its newline, or nothing.
line-or-none : (t : Bool) (k : List ℕ) → Plain k → rest_in (cond t (k ++ (10 ∷ [])) []) ≡ []
unfolding rest_in
line-or-none true k p = rest-first k [] p
line-or-none false k p = refl

-- Those of one line.
one-whole : (way : Way) (room : ℕ) (s : State) (l : List ℕ) → Plain l → rest_in (journal_of way room s l) ≡ []
unfolding journal_of
one-whole way room s l plain =
    rest-behind (cond (way.keeps && ends_at way room s l) retired_line []) (cond (is_kept way room s l) (kept_text room s.place.line l ++ (10 ∷ [])) [])
    (line-or-none (way.keeps && ends_at way room s l) retired_text (printed-plain Request.RoleRetired []))
    ∙ line-or-none (is_kept way room s l) (kept_text room s.place.line l) (kept-plain room s.place.line l plain)

pub journal-whole : (most : ℕ) (way : Way) (room : ℕ) (s : State) (ls : List (List ℕ)) → All Plain ls → rest_in (stream_journal most way room s ls) ≡ []
unfolding stream_journal rest_in
journal-whole most way room s [] plain = refl
journal-whole most way room s (l ∷ ls) plain =
    let s₁ = state_before most s l in
    let t = after way room s₁ l in
    split (ended way s.place) (λ e. ap rest_in (ended-kept most way room s (l ∷ ls) e))
    (λ e.
    ap rest_in (on-kept most way room s l ls e)
    ∙ rest-behind (journal_of way room s₁ l) (stream_journal most way room t ls) (one-whole way room s₁ l plain.0)
    ∙ journal-whole most way room t ls plain.1)

-- ---- replayed

-- The mark, the line and the others, one behind the other.
journal-parts : (most : ℕ) (way : Way) (room : ℕ) (s : State) (l : List ℕ) (ls : List (List ℕ)) → ended way s.place ≡ false
    → stream_journal most way room s (l ∷ ls)
    ≡ cond (way.keeps && ends_at way room (state_before most s l) l) retired_line []
    ++ (cond (is_kept way room (state_before most s l) l) (kept_text room s.place.line l ++ (10 ∷ [])) []
    ++ stream_journal most way room (after way room (state_before most s l) l) ls)
unfolding journal_of
journal-parts most way room s l ls e =
    on-kept most way room s l ls e
    ∙ append_assoc (cond (way.keeps && ends_at way room (state_before most s l) l) retired_line [])
    (cond (is_kept way room (state_before most s l) l) (kept_text room s.place.line l ++ (10 ∷ [])) [])
    (stream_journal most way room (after way room (state_before most s l) l) ls)

module _ (most : ℕ) (way : Way) (room : ℕ) (enough : 20480 ≤ most) (small : room ≤ 18446744073709551615) (keeps : way.keeps ≡ true) where
  -- Complete lines j replayed from t lead to u, and are kept again.
  record Passes (t : State) (j : List ℕ) (u : State) : Type 0 where
    whole : rest_in j ≡ []
    state : stream_after most replaying room t (lines_in j) ≡ u
    same : stream_journal most replaying room t (lines_in j) ≡ j

  none_passes : (t : State) → Passes t [] t
  unfolding stream_after stream_journal lines_in rest_in
  none_passes t = record { whole = refl; state = refl; same = refl }

  passes-by : (t u : State) (j j₁ : List ℕ) → j ≡ j₁ → Passes t j₁ u → Passes t j u
  passes-by t u j j₁ e w = subst (λ (z : List ℕ). Passes t z u) (sym e) w

  -- One line, where none was refused, that is kept again.
  one_passes : (t : State) (k : List ℕ) → t.place.refused ≡ 0 → Plain k → journal_of replaying room (state_before most t k) k ≡ k ++ (10 ∷ [])
      → Passes t (k ++ (10 ∷ [])) (after replaying room (state_before most t k) k)
  unfolding stream_after stream_journal lines_in rest_in ended
  one_passes t k none p again =
      let on : ended replaying t.place ≡ false = ap (λ (n : ℕ). ltb 0 n) none in
      let lines = line_first k [] p in
      record {
        whole = rest-first k [] p;
        state = ap (stream_after most replaying room t) lines ∙ on-state most replaying room t k [] on;
        same =
            ap (stream_journal most replaying room t) lines ∙ on-kept most replaying room t k [] on
            ∙ append-nil (journal_of replaying room (state_before most t k) k)
            ∙ again;
      }

  -- Bytes j replayed from t lead to where a state begins, and are kept again.
  record Again (t : State) (j : List ℕ) (end : State) : Type 0 where
    agree : Begins end (stream_after most replaying room t (lines_in j))
    same : stream_journal most replaying room t (lines_in j) ≡ j

  none-again : (s t : State) → Begins s t → Again t [] s
  unfolding stream_after stream_journal lines_in
  none-again s t b = record { agree = b; same = refl }

  again_by : (t end end₁ : State) (j j₁ : List ℕ) → j ≡ j₁ → end ≡ end₁ → Again t j₁ end₁ → Again t j end
  again_by t end end₁ j j₁ e f w =
      subst (λ (z : List ℕ). Again t z end) (sym e) (subst (λ (z : State). Again t j₁ z) (sym f) w)

  -- Lines before others.
  passes_then : (t u end : State) (j k : List ℕ) → Passes t j u → Again u k end → Again t (j ++ k) end
  passes_then t u end j k x y =
      let lines = lines-behind j k x.whole in
      record {
        agree =
            subst (Begins end)
            (sym
            (ap (stream_after most replaying room t) lines ∙ state-append most replaying room t (lines_in j) (lines_in k)
            ∙ ap (λ (z : State). stream_after most replaying room z (lines_in k)) x.state))
            y.agree;
        same =
            ap (stream_journal most replaying room t) lines ∙ kept_append most replaying room t (lines_in j) (lines_in k)
            ∙ ap (λ (z : List ℕ). z ++ stream_journal most replaying room (stream_after most replaying room t (lines_in j)) (lines_in k)) x.same
            ∙ ap (λ (z : State). j ++ stream_journal most replaying room z (lines_in k)) x.state
            ∙ ap (λ (z : List ℕ). j ++ z) y.same;
      }

  -- One line of the input, from s, where a journal that was begun there is replayed from t.
  module _ (s t : State) (l : List ℕ) (b : Begins s t) where
    abbrev s₁ : State
    s₁ = state_before most s l

    abbrev marked : Bool
    marked = ends_at way room s₁ l

    -- The state u behind the mark, if the line writes it: the book and the count are the same, and the mark is there.
    record Between (u : State) : Type 0 where
      book : u.book ≡ s.book
      kept : u.place.kept ≡ s.place.kept
      refused : u.place.refused ≡ 0
      early : u.place.early ≡ (s.place.early && not marked)

    -- Only where the mark is not there a line writes it.
    marks-early : marked ≡ true → s.place.early ≡ true
    unfolding ends_at
    marks-early e =
        first way.replays s.place.early (is_role_retired (request_of way room s₁.place l)) (is_kept way room s₁ l) e
      where
        first : (r u m k : Bool) → cond r (u && m) (u && k) ≡ true → u ≡ true
        first true true m k h = refl
        first true false m k h = h
        first false true m k h = refl
        first false false m k h = h

    mark-short : (state_before most t retired_text).place.long ≡ false
    unfolding printed call_words joined spaced
    mark-short = lt-leb most (length retired_text) (omega arith)

    abbrev behind_mark : State
    behind_mark = after replaying room (state_before most t retired_text) retired_text

    mark-step : (u : State) × Passes t (cond (way.keeps && marked) retired_line []) u × Between u
    mark-step =
        split marked
        (λ e.
        let t₁ = state_before most t retired_text in
        let early : t.place.early ≡ true = b.early ∙ marks-early e in (
          behind_mark,
          passes-by t behind_mark (cond (way.keeps && marked) retired_line []) retired_line
              (cond-true (way.keeps && marked) retired_line [] (ap (λ (z : Bool). z && marked) keeps ∙ e))
              (one_passes t retired_text b.refused (printed-plain Request.RoleRetired []) (mark-journal room t₁ mark-short early)),
          record {
            book = mark-book room t₁ mark-short ∙ b.book;
            kept = mark-kept room t₁ mark-short ∙ b.kept;
            refused = mark-refused room t₁ mark-short ∙ b.refused;
            early = mark-ends room t₁ mark-short ∙ sym (ap (λ (z : Bool). s.place.early && not z) e ∙ and-false s.place.early);
          },
        ))
        (λ e. (
          t,
          passes-by t t (cond (way.keeps && marked) retired_line []) []
              (cond-false (way.keeps && marked) retired_line [] (ap (λ (z : Bool). z && marked) keeps ∙ e))
              (none_passes t),
          record {
            book = b.book;
            kept = b.kept;
            refused = b.refused;
            early = b.early ∙ sym (ap (λ (z : Bool). s.place.early && not z) e ∙ and-true s.place.early);
          },
        ))

    abbrev line : List ℕ
    line = kept_text room s.place.line l

    -- The kept line is taken again under the rule that it was taken under.
    same-rule : (u : State) → Between u → is_kept way room s₁ l ≡ true → rule_at replaying u.place ≡ rule_at way s.place
    unfolding ends_at
    same-rule u x e =
        ap (λ (z : Bool). cond z old_rule new_rule) x.early
        ∙ ap (λ (k : Bool). behind (is_role_retired (request_of way room s₁.place l)) k) e
        ∙ ap (λ (m : Bool). behind m true) (kept-no-mark way room s₁ l e)
        ∙ agrees way.replays s.place.early
      where
        behind : (m k : Bool) → Rule
        behind m k =
            cond (s.place.early && not (cond way.replays (s.place.early && m) (s.place.early && k))) old_rule new_rule

        agrees : (r u : Bool) → cond (u && not (cond r (u && false) (u && true))) old_rule new_rule ≡ cond (r && u) old_rule new_rule
        agrees true true = refl
        agrees true false = refl
        agrees false true = refl
        agrees false false = refl

    -- A line that is not kept leaves the book and the count.
    left_alone : (u : State) → Between u → is_kept way room s₁ l ≡ false → Begins (after way room s₁ l) u
    unfolding after is_kept answer_of
    left_alone u x e =
        let a = asks way room s₁.place l in
        let n = next s.place.line in
        let rule = rule_at way s.place in
        let f : takes (answer_to rule s.book n a) ≡ false = ap (λ (z : Bool). z && takes (answer_to rule s.book n a)) (sym keeps) ∙ e in
        record {
          book = x.book ∙ sym (not_taken rule s.book n a f);
          kept = x.kept ∙ sym (ap (λ (z : Bool). counted z s.place.kept) e);
          refused = x.refused;
          early = x.early;
        }

    line_step : (u : State) → Between u → Plain l
        → (v : State) × Passes u (cond (is_kept way room s₁ l) (line ++ (10 ∷ [])) []) v × Begins (after way room s₁ l) v
    unfolding after
    line_step u x plain =
        split (is_kept way room s₁ l)
        (λ e.
        let u₁ = state_before most u line in
        let short : u₁.place.long ≡ false = lt-leb most (length line) (omega (arith, kept-text-short way room s₁ l small e)) in
        let rule = same-rule u x e in (
          after replaying room u₁ line,
          passes-by u (after replaying room u₁ line) (cond (is_kept way room s₁ l) (line ++ (10 ∷ [])) []) (line ++ (10 ∷ []))
              (cond-true (is_kept way room s₁ l) (line ++ (10 ∷ [])) [] e)
              (one_passes u line x.refused (kept-plain room s.place.line l plain)
              (line-again way room s₁ u₁ l small e x.book x.kept short rule)),
          record {
            book = book-again way room s₁ u₁ l small e x.book x.kept short rule;
            kept = count-again way room s₁ u₁ l small e x.book x.kept short rule;
            refused = none-refused way room s₁ u₁ l small e x.book x.kept short rule ∙ x.refused;
            early = mark-stays way room s₁ u₁ l small e x.book x.kept short rule ∙ x.early;
          },
        ))
        (λ e. (
          u,
          passes-by u u (cond (is_kept way room s₁ l) (line ++ (10 ∷ [])) []) [] (cond-false (is_kept way room s₁ l) (line ++ (10 ∷ [])) [] e)
              (none_passes u),
          left_alone u x e,
        ))

  again : (s t : State) (ls : List (List ℕ)) → All Plain ls → Begins s t → Again t (stream_journal most way room s ls) (stream_after most way room s ls)
  unfolding stream_after stream_journal
  again s t [] plain b = none-again s t b
  again s t (l ∷ ls) plain b =
      let s₁ = state_before most s l in
      let next-state = after way room s₁ l in
      let end = stream_after most way room s (l ∷ ls) in
      let end₁ = stream_after most way room next-state ls in
      let j = stream_journal most way room s (l ∷ ls) in
      let j₁ = stream_journal most way room next-state ls in
      let first = mark-step s t l b in
      let second = line_step s t l b first.0 first.2 plain.0 in
      split (ended way s.place)
      (λ e. again_by t end s j [] (ended-kept most way room s (l ∷ ls) e) (ended-state most way room s (l ∷ ls) e) (none-again s t b))
      (λ e.
      again_by t end end₁ j
      (cond (way.keeps && ends_at way room s₁ l) retired_line []
      ++ (cond (is_kept way room s₁ l) (kept_text room s.place.line l ++ (10 ∷ [])) [] ++ j₁))
      (journal-parts most way room s l ls e)
      (on-state most way room s l ls e)
      (passes_then t first.0 end₁ _ _ first.1
      (passes_then first.0 second.0 end₁ _ _ second.1 (again next-state second.0 ls plain.1 second.2))))

  -- "no complete line is ever lost or repeated", of bytes: for every input.
  pub replayed : (s t : State) (ls : List (List ℕ)) → All Plain ls → Begins s t
      → Replayed most room t (stream_journal most way room s ls) (stream_after most way room s ls)
  replayed s t ls plain b =
      let w = again s t ls plain b in
      record {
        book = w.agree.book;
        kept = w.agree.kept;
        refused = w.agree.refused;
        early = w.agree.early;
        again = w.same;
      }
