-- Places clipped to a list's length.
-- Assumes nothing.
use Rattle.std.specs.Prelude.{ℕ, ◌≤◌, min, ◌≡◌, List, leb, length, take, drop}
use Rattle.std.proofs.Common.{arith, sym, ap, ◌∙◌, leb-true, leb-false, drop_of_length-le, take_all}
use Rattle.laws.specs.Cases.{split}

-- A count or a place that is clipped to a list's length is as good as the count or the place itself.
pub take-clipped : {A : Type 0} (n m : ℕ) (l : List A) → m ≡ min n (length l) → take m l ≡ take n l
take-clipped n m l p =
    split (leb n (length l))
    (λ e. let h = leb-true n (length l) e in let q : m ≡ n = omega arith in ap (λ (z : ℕ). take z l) q)
    (λ e. let h = leb-false n (length l) e in take_all m l (omega arith) ∙ sym (take_all n l (omega arith)))

pub drop-clipped : {A : Type 0} (n m : ℕ) (l : List A) → m ≡ min n (length l) → drop m l ≡ drop n l
drop-clipped n m l p =
    split (leb n (length l))
    (λ e. let h = leb-true n (length l) e in let q : m ≡ n = omega arith in ap (λ (z : ℕ). drop z l) q)
    (λ e. let h = leb-false n (length l) e in
    let q : length l ≤ m = omega arith in
    let r : length l ≤ n = omega arith in
    drop_of_length-le l q ∙ sym (drop_of_length-le l r))
