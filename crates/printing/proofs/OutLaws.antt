-- Lent bytes as they are written: the bytes behind those that are written take as much of a text as they can.
-- Assumes nothing.
use Rattle.std.proofs.Common.{◌≡◌, ℕ, suc, ◌+◌, ◌-◌, ◌≤◌, ◌<◌, List, [], ◌∷◌, ◌++◌, length, take, drop, set, get_or, map, min, refl, sym, ap, ◌∙◌, append-nil, append_assoc, add-one, arith, drop-cons, drop_of_length-le, take_all, length-drop, length-take-le}
use Rattle.std.proofs.lemmas.List.{length-take, take-append-drop, drop-drop}
use Rattle.std.proofs.lemmas.Slice.{take-put_mid, drop-put_mid}
use Rattle.std.specs.Borrow.{MutBor}
use borrow.Rule.Slice.PartMut.{put_mid}
use borrow.Author.Tests.{leb-true, leb-false}
use lib.Dec.{leb}
use lib.Seq.{set_split}
use Rattle.laws.specs.Cases.{split}
use Rattle.printing.specs.Decimals.{spaced}
use Rattle.printing.specs.Written.{Sheet, written_on, room_on, rest_on, lent, followed, emptied}
use Rattle.printing.specs.WrittenLaws.{sheet_of, same_sheet}

-- nothing is written yet
pub none_yet : (r : MutBor (List ℕ)) → (written_on (lent r) ≡ []) × (room_on (lent r) ≡ length r.now) × (rest_on (lent r) ≡ r.now)
unfolding lent
none_yet r = (refl, omega arith, refl)

-- nothing is written any more
pub none_more : (s : Sheet) → (written_on (emptied s) ≡ []) × (room_on (emptied s) ≡ length (written_on s) + room_on s)
    × (rest_on (emptied s) ≡ written_on s ++ rest_on s)
unfolding emptied
none_more s = (refl, omega (arith, length-take s.end s.bytes.now), sym (take-append-drop s.end s.bytes.now))

-- as much of a text as there is room for
as-far : (t : List ℕ) (room n : ℕ) → n ≡ min (length t) room → take n t ≡ take room t
as-far t room n e =
    split (leb (length t) room)
    (λ h.
    let g : length t ≤ room = leb-true (length t) room h in
    take_all n t (omega arith) ∙ sym (take_all room t g))
    (λ h.
    let g : room < length t = leb-false (length t) room h in
    let k : n ≡ room = omega arith in rw k)

-- behind a text, of which n bytes had room
behind-text : (e t : List ℕ) (at n : ℕ) → n ≡ min (length t) (length e - at) → at ≤ length e
    → drop (at + n) e ≡ drop (length t) (drop at e)
behind-text e t at n m h =
    split (leb (length t) (length e - at))
    (λ k.
    let g : length t ≤ length e - at = leb-true (length t) (length e - at) k in
    let q : at + n ≡ at + length t = omega arith in
    ap (λ (i : ℕ). drop i e) q ∙ sym (drop-drop (length t) at e))
    (λ k.
    let g : length e - at < length t = leb-false (length t) (length e - at) k in
    drop_of_length-le e (omega arith) ∙ sym (drop-drop (length t) at e ∙ drop_of_length-le e (omega arith)))

-- where bytes are written up to their end or behind it, all are
taken-within : (e : List ℕ) (at : ℕ) → take (min at (length e)) e ≡ take at e
taken-within e at =
    split (leb at (length e))
    (λ k. let g : at ≤ length e = leb-true at (length e) k in let q : min at (length e) ≡ at = omega arith in rw q refl)
    (λ k. let g : length e < at = leb-false at (length e) k in take_all (min at (length e)) e (omega arith) ∙ sym (take_all at e (omega arith)))

left-within : (e : List ℕ) (at : ℕ) → drop (min at (length e)) e ≡ drop at e
left-within e at =
    split (leb at (length e))
    (λ k. let g : at ≤ length e = leb-true at (length e) k in let q : min at (length e) ≡ at = omega arith in rw q refl)
    (λ k. let g : length e < at = leb-false at (length e) k in drop_of_length-le e (omega arith) ∙ sym (drop_of_length-le e (omega arith)))

pub text_put : (s : Sheet) (t ys : List ℕ) (at n k : ℕ) → at ≡ min s.end (length s.bytes.now) → n ≡ min (length t) (length s.bytes.now - s.end)
    → k ≡ n → ys ≡ take n t → sheet_of s.bytes (put_mid at k s.bytes.now ys) (s.end + n) ≡ followed s t
unfolding followed
text_put s t ys at n k a m q y =
    let e : List ℕ = s.bytes.now in
    let room : ℕ = length e - s.end in
    let h : at ≤ length e = omega arith in
    let r : n ≡ min (length t) (length e - at) = omega arith in
    let l : length ys ≡ n = omega (arith, ap length y, length-take n t) in
    let c : length (take k (drop at e)) ≡ k = length-take-le k (drop at e) (omega (arith, length-drop at e)) in
    let front : take (at + n) (put_mid at k e ys) ≡ take at e ++ ys = take-put_mid at k e ys (at + n) (omega arith) h in
    let back : drop (at + n) (put_mid at k e ys) ≡ drop (at + n) e = drop-put_mid at k e ys (at + n) (omega arith) h (omega arith) in
    let w : take at e ≡ take s.end e = ap (λ (i : ℕ). take i e) a ∙ taken-within e s.end in
    let x : ys ≡ take room t = y ∙ as-far t room n m in
    let z : drop (at + n) e ≡ drop (length t) (drop s.end e) =
    behind-text e t at n r h ∙ ap (λ (i : ℕ). drop (length t) (drop i e)) a ∙ ap (drop (length t)) (left-within e s.end) in
    same_sheet s.bytes _ _ _ _
    (sym (take-append-drop (at + n) (put_mid at k e ys)) ∙ (λ i. front i ++ back i) ∙ append_assoc (take at e) ys (drop (at + n) e)
    ∙ (λ i. w i ++ (x i ++ z i)))
    (omega (arith, length-take room t))

-- A byte, where there is room for it and where there is none.

pub byte_put : (s : Sheet) (x : ℕ) → s.end < length s.bytes.now → sheet_of s.bytes (set s.bytes.now s.end x) (s.end + 1) ≡ followed s (x ∷ [])
unfolding followed
byte_put s x h =
    let e : List ℕ = s.bytes.now in
    let t : take (length e - s.end) (x ∷ []) ≡ x ∷ [] = take_all (length e - s.end) (x ∷ []) (omega arith) in
    let d : drop (suc s.end) e ≡ drop 1 (drop s.end e) = ap (λ (i : ℕ). drop i e) (sym (add-one s.end)) ∙ sym (drop-drop 1 s.end e) in
    same_sheet s.bytes _ _ _ _ (set_split e s.end x h ∙ (λ i. take s.end e ++ (sym t i ++ d i))) (omega (arith, ap length t))

pub byte_left : (s : Sheet) (x : ℕ) → length s.bytes.now ≤ s.end → s ≡ followed s (x ∷ [])
unfolding followed
byte_left s x h =
    let e : List ℕ = s.bytes.now in
    let r : length e - s.end ≡ 0 = omega arith in
    let t : take (length e - s.end) (x ∷ []) ≡ [] = ap (λ (n : ℕ). take n (x ∷ [])) r in
    let d : drop 1 (drop s.end e) ≡ drop s.end e = ap (drop 1) (drop_of_length-le e h) ∙ sym (drop_of_length-le e h) in
    sym
    (same_sheet s.bytes _ e _ s.end ((λ i. take s.end e ++ (t i ++ d i)) ∙ take-append-drop s.end e)
    (let l : length (take (length e - s.end) (x ∷ [])) ≡ 0 = ap length t in omega (arith, l)))

-- Several with a blank before each: the first of them, and none.

pub spaced_first : {X : Type 0} (f : X → List ℕ) (xs : List X) (i : ℕ) (x : X) → i < length xs → x ≡ get_or xs i x
    → spaced (map f (drop i xs)) ≡ spaced (f x ∷ []) ++ spaced (map f (drop (i + 1) xs))
unfolding spaced
spaced_first {X = X} f xs i x h e =
    let k : drop i xs ≡ x ∷ drop (i + 1) xs = rw (add-one i) (drop-cons xs i x h ∙ ap (λ (y : X). y ∷ drop (suc i) xs) (sym e)) in
    rw (k, append-nil (f x))

pub spaced_done : {X : Type 0} (f : X → List ℕ) (xs : List X) (i : ℕ) → length xs ≤ i → spaced (map f (drop i xs)) ≡ []
unfolding spaced
spaced_done f xs i h = rw (drop_of_length-le xs h)
