-- The most figures of an accepted settlement, and the most bytes of an accepted batch: 64 parts of 16 figures.
-- Assumes nothing.
use Rattle.std.proofs.Common.{◌≡◌, ℕ, zero, suc, ◌+◌, ◌-◌, ◌*◌, ◌<◌, ◌≤◌, true, false, ltb, List, [], ◌∷◌, length, ℤ, sym, refl, ap, ◌∙◌, arith, ltb-false}
use Rattle.laws.specs.Cases.{split, clash, cond-true, cond-false, or-second}
use Rattle.laws.specs.Tabulated.{length-table}
use Rattle.manual.specs.Figures.{wrong_count}
use Rattle.batch.specs.Batch.{count_in, end_at, begins_at, participant_at, rows_at, figures_behind, figures_at, month_in}
use Rattle.batch.specs.FormLaws.{Whole, part-begins, part-long}
use Rattle.file.specs.Answer as Said
use Rattle.file.specs.Answer.{decide, accepted}
use Rattle.file.specs.DecideLaws.{none-holds}
use Rattle.file.specs.Settle.{settle_answer}
use Rattle.layout.specs.Book.{Book}
use Rattle.book.specs.Rule.{Rule, old_rule, new_rule}
use Rattle.book.specs.Account.{answer, file_at, file_answer, if_numbered, if_admitted, unless_retired, after_parts, part_answer}
use Rattle.book.specs.Call.{on, settle, batch}
use Rattle.book.proofs.History.Parts.{Accepted, batch-accepted}

-- ---- a settlement

-- An accepted answer is that behind the causes.
behind-causes : (causes : List Said.Cause) (x : Said.Answer) → accepted (decide Said.refused causes x) ≡ true → accepted x ≡ true
unfolding decide
behind-causes [] x e = e
behind-causes (c ∷ causes) x e =
    split c.holds (λ h. clash {t = false} (sym (ap accepted (cond-true _ (Said.refused c.number) (decide Said.refused causes x) h)) ∙ e) refl)
    (λ h. behind-causes causes x (sym (ap accepted (cond-false _ (Said.refused c.number) (decide Said.refused causes x) h)) ∙ e))

-- A settlement is answered alike under both rules.
either-rule : (rule : Rule) (m : ℕ) (figures : List ℤ) (x : Said.Answer) → unless_retired rule (settle m figures) x ≡ x
either-rule old_rule m figures x = refl
either-rule new_rule m figures x = refl

-- An accepted settlement has at most 16 figures.
pub settle-few : (rule : Rule) (b : Book) (p m : ℕ) (figures : List ℤ) → accepted (answer rule b (on p (settle m figures))) ≡ true
    → length figures ≤ 16
unfolding answer if_numbered file_answer if_admitted settle_answer wrong_count
settle-few rule b p m figures e =
    let f = file_at b p in
    let t = b.today.0 in
    let x = ap accepted (sym (either-rule rule m figures (file_answer f t (settle m figures))))
    ∙ behind-causes _ (unless_retired rule (settle m figures) (file_answer f t (settle m figures))) e in
    let y = behind-causes _ (settle_answer f t m figures) x in
    let h = none-holds _ _ y in
    omega (arith, ltb-false 16 (length figures) (or-second (ltb (length figures) 5) (ltb 16 (length figures)) h.1.0))

-- ---- a batch

-- Where part i ends at most, if each part has at most 16 rows.
end-most : (file : List ℕ) → Whole file → ((i : ℕ) → i < count_in file → rows_at file i ≤ 16) → (i : ℕ) → i < count_in file
    → end_at file i ≤ 4 + 8 * count_in file + 130 * suc i
unfolding end_at begins_at
end-most file w few zero h = omega (arith, part-begins file w zero h, part-long file w zero h, few zero h)
end-most file w few (suc i) h =
    omega (arith, part-begins file w (suc i) h, part-long file w (suc i) h, few (suc i) h, end-most file w few i (omega arith))

-- A part has as many figures as rows, and those of an accepted batch at most 16.
figures-many : (file : List ℕ) (i : ℕ) → length (figures_at file i) ≡ rows_at file i
unfolding figures_at figures_behind
figures-many file i = length-table (rows_at file i) _

part-few : (b : Book) (file : List ℕ) → Accepted file (part_answer b file) → (i : ℕ) → i < count_in file → rows_at file i ≤ 16
unfolding part_answer answer
part-few b file a i h =
    let few = settle-few new_rule (after_parts b file i) (participant_at file i) (month_in file) (figures_at file i) (a.each i h) in
    omega (arith, few, figures-many file i)

-- An accepted batch has at most 8,836 bytes.
pub batch-length : (rule : Rule) (b : Book) (file : List ℕ) → accepted (answer rule b (batch file)) ≡ true → length file ≤ 8836
unfolding answer
batch-length rule b file e =
    let a = batch-accepted file (part_answer b file) e in
    let n = count_in file in
    let some : n - 1 < n = omega (arith, a.whole.some) in
    omega (arith, a.whole.ends, end-most file a.whole (part-few b file a) (n - 1) some, a.whole.some, a.whole.most)
