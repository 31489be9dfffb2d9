-- Laws of tests that decide, and of what holds at every place below a number.
-- Assumes nothing.
use Prim.Native.Nat.{ℕ, ◌≤◌, ◌<◌}
use mathlib.Core.Path.{◌≡◌, refl, sym, subst, ◌∙◌}
use mathlib.Core.List.{List}
use lib.ListN.{length, get_or}
use denote.Param.Members.{Mut}
use Rattle.std.specs.declared.ops.Range.{Range}
use Rattle.std.specs.Prelude.{Option}
use Rattle.std.specs.Bool.{MatchBool}
use Rattle.std.specs.Option.{MatchOption}
use Rattle.std.specs.Fn.{Called}
use Rattle.std.specs.Iterator.{YieldsThen}
use Rattle.std.specs.List.{range_with_len, FoldsTo, AllWithin, HoldsAt}
use Rattle.std.proofs.iter.Yields.{nat_range_steps}
use Rattle.std.proofs.lemmas.Iterator.{cases_from_all, YieldsList-from_range}
use Rattle.std.proofs.lemmas.List.FromFn.{length-range_with_len, get_or-range_with_len}
use mathlib.Core.Bool.{Bool, true, false, true≢false, false≢true}
use native.Mathlib.Omega.{arith}
use borrow.Author.Tests.{leb-true, leb-false}
use lib.Dec.{leb}
use Rattle.formed.specs.Decides.{Decides, Below}

-- What holds is decided by true.
pub says-yes : {P : Type 0} → P → Decides true P
says-yes p = record { yes = λ e. p; no = λ e q. true≢false e }

-- What doesn't hold is decided by false.
pub says-no : {P : Type 0} → (P → ⊥) → Decides false P
says-no h = record { yes = λ e. absurd (false≢true e); no = λ e p. h p }

-- A test that decides P decides Q where each follows from the other.
pub as-well : {r : Bool} {P Q : Type 0} → Decides r P → (P → Q) → (Q → P) → Decides r Q
as-well d f g = record { yes = λ e. f (d.yes e); no = λ e q. d.no e (g q) }

-- A comparison of numbers decides P where each follows from the other.
pub by_order : {P : Type 0} (a b : ℕ) → (a ≤ b → P) → (P → a ≤ b) → Decides (leb a b) P
by_order a b f g = record { yes = λ e. f (leb-true a b e); no = λ e p. never (leb-false a b e) (g p) }
  where
    never : b < a → a ≤ b → ⊥
    never h k = omega arith

-- ---- tests one after another

-- Where the first holds, the second decides whether both do.
pub and-then : {P Q : Type 0} (v t r : Bool) → Decides t P → t ≡ true → v ≡ r → Decides r Q → Decides v (P × Q)
and-then v t r p e s q = record { yes = λ h. (p.yes e, q.yes (sym s ∙ h)); no = λ h k. q.no (sym s ∙ h) k.1 }

-- Where the first doesn't, both don't.
pub and-else : {P Q : Type 0} (v t : Bool) → Decides t P → t ≡ false → v ≡ t → Decides v (P × Q)
and-else v t p e s = record { yes = λ h. absurd (false≢true (sym (s ∙ e) ∙ h)); no = λ h k. p.no e k.0 }

-- ---- a test of all places

-- `all` over the places below n, by a test that decides each.
pub all-decides : {F : Type 0} {g : Mut F (ℕ × Unit {0}) Bool} {s : Range ℕ} (P : ℕ → Type 0) (n : ℕ) (u : Range ℕ) (f : F) (r : Bool)
    → (xs : List ℕ) × (o : Option ℕ) × (j : F) × YieldsThen nat_range_steps s xs o u × FoldsTo (λ p x q. Called g p (x, tt) true q) f xs j
    × MatchOption o (r ≡ true) (λ x. (r ≡ false) × ((h : F) × Called g j (x, tt) false h))
    → s ≡ record { start = 0; end = n }
    → ((x : ℕ) (b : Bool) (q : F) → Called g f (x, tt) b q → (q ≡ f) × Decides b (P x))
    → Decides r (Below n P)
unfolding Below
all-decides P n u f r ran is each =
    answer r
    (cases_from_all u f r P (λ x. P x → ⊥) ran (YieldsList-from_range 0 n n is (omega arith))
    (λ x q e. ((each x true q e).0, (each x true q e).1.yes refl)) (λ x q e. (each x false q e).1.no refl))
  where
    answer : (r : Bool) → MatchBool r (AllWithin P (range_with_len 0 n) 0 (length (range_with_len 0 n)))
        ((k : ℕ) × (k < length (range_with_len 0 n)) × HoldsAt (λ x. P x → ⊥) (range_with_len 0 n) k)
        → Decides r ((k : ℕ) → k < n → P k)
    answer true all =
        says-yes (λ k h. subst P (get_or-range_with_len 0 n k 0 h ∙ omega arith) (all k 0 (omega arith) (omega (arith, length-range_with_len 0 n))))
    answer false one =
        let h : one.0 < n = omega (arith, length-range_with_len 0 n, one.1) in
        let at : get_or (range_with_len 0 n) one.0 0 ≡ one.0 = get_or-range_with_len 0 n one.0 0 h ∙ omega arith in
        says-no (λ all. one.2 0 (subst P (sym at) (all one.0 h)))
