-- Laws of texts written one behind the other, of the digits of a number, and of words in a row.
-- Assumes nothing.
use Rattle.std.specs.Prelude.{ℕ, zero, suc, ◌+◌, ◌-◌, ◌/◌, ◌%◌, ◌≤◌, ◌<◌, ◌≡◌, refl, List, [], ◌∷◌, ◌++◌, ltb, length, take, drop, replicate}
use Rattle.std.specs.Borrow.{MutBor}
use Rattle.std.proofs.Common.{sym, ap, ◌∙◌, append-nil, append_assoc, arith, lt-ltb, le-ltb, ltb-false, length-append, take_all, drop_of_length-le, length-drop, length-take-le}
use Rattle.std.proofs.lemmas.List.{drop-drop, length-take, take-append-drop, drop-replicate}
use Rattle.std.proofs.Math.Seq.{drop-nil}
use borrow.Author.Tests.{leb-true, leb-false}
use lib.Dec.{leb}
use lib.ListN.{length-replicate}
use lib.Seq.{take-append-add, drop-append-add, take-append_seam, drop-append_seam}
use Rattle.laws.specs.Cases.{split}
use Rattle.printing.specs.Decimals.{numeral, decimal, spaced, joined}
use Rattle.printing.specs.Written.{Sheet, written_on, room_on, rest_on, EndsWithin, with_bytes, lent, followed, emptied, nameless, sized, blank}

-- Texts one behind the other.

take-none : (n : ℕ) → take {A = ℕ} n [] ≡ []
take-none zero = refl
take-none (suc n) = refl

take-both : (r : ℕ) (a b : List ℕ) → take r (a ++ b) ≡ take r a ++ take (r - length a) b
take-both zero a b = let e : 0 - length a ≡ 0 = omega arith in rw e
take-both (suc r) [] b = let e : suc r - 0 ≡ suc r = omega arith in rw e
take-both (suc r) (x ∷ a) b =
    let e : suc r - suc (length a) ≡ r - length a = omega arith in
    rw e (ap (λ (t : List ℕ). x ∷ t) (take-both r a b))

-- a sheet with its parts
abbrev pub sheet_of : MutBor (List ℕ) → List ℕ → ℕ → Sheet
sheet_of r bytes n = record { bytes = with_bytes r bytes; end = n }

pub same_sheet : (r : MutBor (List ℕ)) (v w : List ℕ) (m n : ℕ) → v ≡ w → m ≡ n → sheet_of r v m ≡ sheet_of r w n
same_sheet r v w m n e f = λ i. sheet_of r (e i) (f i)

-- Bytes b of which e are written, and a text t behind those: what is written, for how much there is room, and the bytes there.
module _ (b : List ℕ) (e : ℕ) (t : List ℕ) where
  abbrev put : List ℕ
  put = take (length b - e) t

  abbrev left : List ℕ
  left = drop (length t) (drop e b)

  abbrev all : List ℕ
  all = take e b ++ (put ++ left)

  -- where all bytes are written, none is left
  none-left : length b < e → left ≡ []
  none-left h = ap (drop (length t)) (drop_of_length-le b (omega arith)) ∙ drop-nil (length t)

  all-long : length all ≡ length (take e b) + (length put + length left)
  all-long = omega (arith, length-append (take e b) (put ++ left), length-append put left)

  all-full : length b < e → length all ≤ e + length put
  all-full h = omega (arith, all-long, ap length (none-left h), length-take e b)

  front : take (e + length put) all ≡ take e b ++ put
  front =
      split (leb e (length b))
      (λ h.
      let l : length (take e b) ≡ e = length-take-le e b (leb-true e (length b) h) in
      ap (λ (k : ℕ). take (k + length put) all) (sym l) ∙ take-append-add (take e b) (put ++ left) (length put)
      ∙ ap (λ (z : List ℕ). take e b ++ z) (take-append_seam put left))
      (λ h.
      let g : length b < e = leb-false e (length b) h in
      take_all (e + length put) all (all-full g) ∙ ap (λ (z : List ℕ). take e b ++ (put ++ z)) (none-left g)
      ∙ ap (λ (z : List ℕ). take e b ++ z) (append-nil put))

  back : drop (e + length put) all ≡ left
  back =
      split (leb e (length b))
      (λ h.
      let l : length (take e b) ≡ e = length-take-le e b (leb-true e (length b) h) in
      ap (λ (k : ℕ). drop (k + length put) all) (sym l) ∙ drop-append-add (take e b) (put ++ left) (length put) ∙ drop-append_seam put left)
      (λ h.
      let g : length b < e = leb-false e (length b) h in
      drop_of_length-le all (all-full g) ∙ sym (none-left g))

  room-behind : length all - (e + length put) ≡ length b - e - length t
  room-behind =
      omega (arith, sym (length-drop (e + length put) all), ap length back, length-drop (length t) (drop e b), length-drop e b)

module _ (s : Sheet) (t : List ℕ) where
  -- a text stands behind what was written, as far as there was room
  pub written_more : written_on (followed s t) ≡ written_on s ++ take (room_on s) t
  unfolding followed
  written_more = front s.bytes.now s.end t

  pub room_left : room_on (followed s t) ≡ room_on s - length t
  unfolding followed
  room_left = room-behind s.bytes.now s.end t

  -- the bytes behind a text are those that stood there
  pub rest_left : rest_on (followed s t) ≡ drop (length t) (rest_on s)
  unfolding followed
  rest_left = back s.bytes.now s.end t

  -- where there is room for all bytes, they stand behind what was written
  pub written_fits : length t ≤ room_on s → written_on (followed s t) ≡ written_on s ++ t
  written_fits h = written_more ∙ ap (λ (u : List ℕ). written_on s ++ u) (take_all (room_on s) t h)

-- What is written ends within the bytes: in bytes just lent, behind a text where it did before, and where they are cleared.
pub within_lent : (r : MutBor (List ℕ)) → EndsWithin (lent r)
unfolding lent
within_lent r = omega arith

pub within_followed : (s : Sheet) (t : List ℕ) → EndsWithin s → EndsWithin (followed s t)
unfolding followed
within_followed s t h =
    let put : List ℕ = take (room_on s) t in
    let behind : List ℕ = drop (length t) (rest_on s) in
    omega (arith, h, length-append (written_on s) (put ++ behind), length-append put behind, length-take s.end s.bytes.now)

pub within_emptied : (s : Sheet) → EndsWithin (emptied s)
unfolding emptied
within_emptied s = omega arith

-- nothing is written
pub followed_none : (s : Sheet) → followed s [] ≡ s
unfolding followed
followed_none s =
    same_sheet s.bytes _ s.bytes.now _ s.end (rw (take-none (room_on s)) (take-append-drop s.end s.bytes.now))
    (rw (take-none (room_on s)) (omega arith))

-- by the parts of the first
put-twice : (s : Sheet) (a b : List ℕ) → written_on (followed s a) ≡ written_on s ++ take (room_on s) a → room_on (followed s a) ≡ room_on s - length a
    → rest_on (followed s a) ≡ drop (length a) (rest_on s) → followed (followed s a) b ≡ followed s (a ++ b)
unfolding followed
put-twice s a b w m r =
    let put : List ℕ = take (room_on s) a in
    let more : List ℕ = take (room_on s - length a) b in
    let behind : List ℕ = drop (length b) (drop (length a) (rest_on s)) in
    let l : length a + length b ≡ length (a ++ b) = omega (arith, length-append a b) in
    let d : behind ≡ drop (length (a ++ b)) (rest_on s) = drop-drop (length b) (length a) (rest_on s) ∙ ap (λ (n : ℕ). drop n (rest_on s)) l in
    let q : put ++ more ≡ take (room_on s) (a ++ b) = sym (take-both (room_on s) a b) in
    same_sheet s.bytes _ _ _ _
    ((λ i. w i ++ (take (m i) b ++ drop (length b) (r i))) ∙ append_assoc (written_on s) put (more ++ behind)
    ∙ ap (λ (z : List ℕ). written_on s ++ z) (sym (append_assoc put more behind) ∙ (λ i. q i ++ d i)))
    (omega (arith, ap length q, length-append put more, ap (λ (k : ℕ). length (take k b)) m))

-- a text and then a text
pub followed_twice : (s : Sheet) (a b : List ℕ) → followed (followed s a) b ≡ followed s (a ++ b)
followed_twice s a b = put-twice s a b (written_more s a) (room_left s a) (rest_left s a)

-- Whatever bytes stand there: what is written, what follows, nothing written, and nothing written any more.

pub sized_written : (s : Sheet) → written_on (sized s) ≡ written_on s
unfolding sized
sized_written s = take-append_seam (written_on s) (replicate (room_on s) 0)

pub sized_room : (s : Sheet) → room_on (sized s) ≡ room_on s
unfolding sized
sized_room s = omega (arith, length-append (written_on s) (replicate (room_on s) 0), length-replicate {A = ℕ} (room_on s) 0)

sized-rest : (s : Sheet) → rest_on (sized s) ≡ replicate (room_on s) 0
unfolding sized
sized-rest s = drop-append_seam (written_on s) (replicate (room_on s) 0)

sized-there : (s : Sheet) (t : List ℕ) → written_on (followed s t) ≡ written_on s ++ take (room_on s) t → room_on (followed s t) ≡ room_on s - length t
    → written_on (sized s) ≡ written_on s → room_on (sized s) ≡ room_on s → rest_on (sized s) ≡ replicate (room_on s) 0
    → sized (followed s t) ≡ followed (sized s) t
unfolding followed sized
sized-there s t w m v n r =
    let put : List ℕ = take (room_on s) t in
    let d : replicate {A = ℕ} (room_on s - length t) 0 ≡ drop (length t) (replicate (room_on s) 0) = sym (drop-replicate (length t) (room_on s) 0) in
    same_sheet (nameless []) _ _ _ _
    ((λ i. w i ++ replicate {A = ℕ} (m i) 0) ∙ append_assoc (written_on s) put (replicate (room_on s - length t) 0)
    ∙ ap (λ (z : List ℕ). written_on s ++ (put ++ z)) d ∙ sym (λ i. v i ++ (take (n i) t ++ drop (length t) (r i))))
    (omega (arith, ap length w, length-append (written_on s) put, ap (λ (k : ℕ). length (take k t)) n))

pub sized_followed : (s : Sheet) (t : List ℕ) → sized (followed s t) ≡ followed (sized s) t
sized_followed s t = sized-there s t (written_more s t) (room_left s t) (sized_written s) (sized_room s) (sized-rest s)

pub sized_lent : (r : MutBor (List ℕ)) → sized (lent r) ≡ blank (length r.now)
unfolding sized lent blank
sized_lent r = let e : length r.now - 0 ≡ length r.now = omega arith in same_sheet (nameless []) _ _ _ _ (ap (λ (k : ℕ). replicate {A = ℕ} k 0) e) refl

pub sized_emptied : (s : Sheet) → sized (emptied s) ≡ blank (length (written_on s) + room_on s)
unfolding sized emptied blank
sized_emptied s =
    let e : length s.bytes.now - 0 ≡ length (written_on s) + room_on s = omega (arith, length-take s.end s.bytes.now) in
    same_sheet (nameless []) _ _ _ _ (ap (λ (k : ℕ). replicate {A = ℕ} k 0) e) refl

-- A loop that writes: what is left, t, written behind s, gives w. After its part a, what is left is b; and at the end nothing is left.
pub followed_part : (s u w : Sheet) (a b t : List ℕ) → followed s t ≡ w → t ≡ a ++ b → u ≡ followed s a → followed u b ≡ w
followed_part s u w a b t h e k = rw (k, followed_twice s a b, ← e) h

pub followed_all : (s w : Sheet) (t : List ℕ) → followed s t ≡ w → t ≡ [] → s ≡ w
followed_all s w t h e = sym (followed_none s) ∙ rw e at h

-- The digits of a number.

numeral-same : (a b n : ℕ) → n ≤ a → n ≤ b → numeral a n ≡ numeral b n
unfolding numeral
numeral-same zero zero n h g = refl
numeral-same zero (suc b) n h g =
    let e : n ≡ 0 = omega arith in rw e
numeral-same (suc a) zero n h g =
    let e : n ≡ 0 = omega arith in rw e
numeral-same (suc a) (suc b) n h g =
    split (ltb n 10) (λ t. rw t)
    (λ t.
    let k : 10 ≤ n = ltb-false n 10 t in
    rw t (ap (λ (w : List ℕ). w ++ ((48 + n % 10) ∷ [])) (numeral-same a b (n / 10) (omega arith) (omega arith))))

numeral-step : (more n : ℕ) → 10 ≤ n → n ≤ suc more → numeral (suc more) n ≡ numeral (n / 10) (n / 10) ++ ((48 + n % 10) ∷ [])
unfolding numeral
numeral-step more n h g =
    rw (le-ltb n 10 h) (ap (λ (w : List ℕ). w ++ ((48 + n % 10) ∷ [])) (numeral-same more (n / 10) (n / 10) (omega arith) (omega arith)))

pub decimal_step : (n : ℕ) → 10 ≤ n → decimal n ≡ decimal (n / 10) ++ ((48 + n % 10) ∷ [])
unfolding decimal
decimal_step n h =
    let e : n ≡ suc (n - 1) = omega arith in
    ap (λ (k : ℕ). numeral k n) e ∙ numeral-step (n - 1) n h (omega arith)

numeral-small : (more n : ℕ) → n < 10 → numeral more n ≡ (48 + n % 10) ∷ []
unfolding numeral
numeral-small zero n h = refl
numeral-small (suc more) n h = let e : n % 10 ≡ n = omega arith in rw (lt-ltb n 10 h, e)

pub decimal-small : (n : ℕ) → n < 10 → decimal n ≡ (48 + n % 10) ∷ []
unfolding decimal
decimal-small n h = numeral-small n n h

-- Words with a blank before each.

pub spaced-append : (a b : List (List ℕ)) → spaced (a ++ b) ≡ spaced a ++ spaced b
unfolding spaced
spaced-append [] b = refl
spaced-append (w ∷ a) b = ap (λ (t : List ℕ). (32 ∷ w) ++ t) (spaced-append a b) ∙ sym (append_assoc (32 ∷ w) (spaced a) (spaced b))

pub spaced_one : (w : List ℕ) → spaced (w ∷ []) ≡ (32 ∷ []) ++ w
unfolding spaced
spaced_one w = append-nil (32 ∷ w)

joined-first : (w : List ℕ) (b : List (List ℕ)) → joined (w ∷ b) ≡ w ++ spaced b
unfolding joined
joined-first w b = refl

-- more words behind words
pub joined-append : (w : List ℕ) (a b : List (List ℕ)) → joined (w ∷ (a ++ b)) ≡ joined (w ∷ a) ++ spaced b
unfolding joined
joined-append w a b = ap (λ (t : List ℕ). w ++ t) (spaced-append a b) ∙ sym (append_assoc w (spaced a) (spaced b))

module _ (s u v : Sheet) where
  -- words with a blank before each, and then more of them
  pub spaced_more : (a b : List (List ℕ)) → u ≡ followed s (spaced a) → v ≡ followed u (spaced b) → v ≡ followed s (spaced (a ++ b))
  spaced_more a b x y = rw (y, x, followed_twice, spaced-append a b)

  -- the first word, and those behind it
  pub joined_one : (w : List ℕ) (b : List (List ℕ)) → u ≡ followed s w → v ≡ followed u (spaced b) → v ≡ followed s (joined (w ∷ b))
  joined_one w b x y = rw (y, x, followed_twice, joined-first w b)

  -- more words behind words
  pub joined_more : (w : List ℕ) (a b : List (List ℕ)) → u ≡ followed s (joined (w ∷ a)) → v ≡ followed u (spaced b)
      → v ≡ followed s (joined (w ∷ (a ++ b)))
  joined_more w a b x y = rw (y, x, followed_twice, joined-append w a b)
