-- What a kept journal takes.
-- Assumes nothing.
use Rattle.std.proofs.Common.{◌≡◌, ℕ, ◌+◌, ◌-◌, ◌^◌, ◌<◌, ◌≤◌, min, List, [], ◌∷◌, ◌++◌, length, sym, ap, ◌∙◌, arith}
use Rattle.std.specs.List.{fold}
use Rattle.journal.specs.Grammar.{length_list, total}
use Rattle.journal.specs.declared.Lengths.{Lengths}
use Rattle.words.specs.Comments.{commented}
use Rattle.printing.specs.Written.{Sheet, followed}
use Rattle.printing.specs.WrittenLaws.{followed_none, followed_twice}

-- A sum that stops at the most, and is clipped to a number that is at most that, is the whole sum clipped to it.
clipped_total : (most more s : ℕ) (ks : List ℕ) → s ≤ more → most ≤ more
    → min (fold (λ (z k : ℕ). min (z + k) more) s ks) most ≡ min (s + total ks) most
clipped_total most more s [] h l = omega arith
clipped_total most more s (k ∷ ks) h l =
    clipped_total most more (min (s + k) more) ks (omega arith) l ∙ omega arith

-- How many numbers seven lists have.
pub listed_is : (n : Lengths) (ks : List ℕ) (most all r : ℕ) → ks ≡ length_list n
    → all ≡ fold (λ (s k : ℕ). min (s + k) (2 ^ 64 - 1)) 0 ks
    → r ≡ min all most → most ≤ 2 ^ 64 - 1 → r ≡ min (total (length_list n)) most
listed_is n ks most all r q e h l =
    h ∙ ap (λ (z : ℕ). min z most) e ∙ ap (λ (l : List ℕ). min (fold (λ (s k : ℕ). min (s + k) (2 ^ 64 - 1)) 0 l) most) q ∙ clipped_total most (2 ^ 64 - 1) 0 (length_list n) (omega arith) l ∙ omega arith

-- A reference behind a call, and none.
pub commented_none : (s : Sheet) (r : List ℕ) → length r ≡ 0 → s ≡ followed s (commented r)
unfolding commented
commented_none s [] h = sym (followed_none s)
commented_none s (b ∷ r) h = absurd (omega arith)

pub commented_some : (s t u : Sheet) (r : List ℕ) → 0 < length r → t ≡ followed s (32 ∷ 35 ∷ 32 ∷ []) → u ≡ followed t r → u ≡ followed s (commented r)
unfolding commented
commented_some s t u [] h x y = absurd (omega arith)
commented_some s t u (b ∷ r) h x y = rw (y, x, followed_twice)
