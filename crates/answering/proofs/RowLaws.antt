-- What is made of the values of a row, put to the front of a list.
-- Assumes nothing.
use Rattle.std.proofs.Common.{◌≡◌, ℕ, zero, suc, ◌+◌, ◌<◌, ◌≤◌, List, [], ◌∷◌, ◌++◌, map, length, get_or, take, drop, sym, ap, ◌∙◌, add-one, arith}
use lib.ListN.{set, length-map, drop_of_length-le}
use lib.Seq.{sets, sets-eq, drop-cons, take-append_seam}

module _ {S T : Type 0} (g : S → T) (xs : List S) (e m : List T) (i : ℕ)
    (known : sets m i (map g (drop i xs)) ≡ sets e 0 (map g xs)) where
  -- One more.
  pub made_more : (x d : S) (y : T) → i < length xs → x ≡ get_or xs i d → y ≡ g x → sets (set m i y) (i + 1) (map g (drop (i + 1) xs)) ≡ sets e 0 (map g xs)
  made_more x d y h k w =
      let n : drop i xs ≡ x ∷ drop (suc i) xs = rw k (drop-cons xs i d h) in
      rw (add-one i, w) (sym (ap (λ (l : List S). sets m i (map g l)) n) ∙ known)

  -- All of them.
  pub made_all : length xs ≤ i → m ≡ sets e 0 (map g xs)
  made_all h = sym (ap (λ (l : List S). sets m i (map g l)) (drop_of_length-le xs h)) ∙ known

-- What is made stands at the front.
pub made_front : {S T : Type 0} (g : S → T) (xs : List S) (e m : List T) → length xs ≤ length e → m ≡ sets e 0 (map g xs) → take (length xs) m ≡ map g xs
made_front g xs e m h w =
    let n : length (map g xs) ≡ length xs = length-map xs g in
    let z : 0 + length (map g xs) ≡ length (map g xs) = omega arith in
    rw (w, ← n) (ap (take (length (map g xs))) (sets-eq (map g xs) e 0 (omega arith)) ∙ take-append_seam (map g xs) (drop (0 + length (map g xs)) e))
