-- Texts with a comma before each, and the lines of items as they are written.
-- Assumes nothing.
use Prim.Native.Nat.{ℕ}
use mathlib.Core.Path.{◌≡◌, refl, sym, ap, ◌∙◌}
use mathlib.Core.List.{List, [], ◌∷◌, ◌++◌, append-nil}
use Rattle.std.proofs.Common.{append_assoc}
use Rattle.printing.specs.Decimals.{spaced, joined}
use Rattle.printing.specs.Written.{Sheet, followed}
use Rattle.printing.specs.WrittenLaws.{followed_twice, joined_one, joined_more}
use Rattle.items.specs.Lines.{listed, comma_joined}

-- ---- with commas

pub listed_one : (t : List ℕ) → listed (t ∷ []) ≡ (44 ∷ []) ++ t
unfolding listed
listed_one t = append-nil (44 ∷ t)

listed-append : (a b : List (List ℕ)) → listed (a ++ b) ≡ listed a ++ listed b
unfolding listed
listed-append [] b = refl
listed-append (t ∷ a) b = ap (λ (l : List ℕ). (44 ∷ t) ++ l) (listed-append a b) ∙ sym (append_assoc (44 ∷ t) (listed a) (listed b))

comma-append : (t : List ℕ) (a b : List (List ℕ)) → comma_joined (t ∷ (a ++ b)) ≡ comma_joined (t ∷ a) ++ listed b
unfolding comma_joined
comma-append t a b = ap (λ (l : List ℕ). t ++ l) (listed-append a b) ∙ sym (append_assoc t (listed a) (listed b))

module _ (s u v : Sheet) where
  comma-first : (t : List ℕ) → u ≡ followed s t → u ≡ followed s (comma_joined (t ∷ []))
  unfolding comma_joined listed
  comma-first t x = x ∙ ap (followed s) (sym (append-nil t))

  comma-more : (t : List ℕ) (a : List (List ℕ)) (b : List ℕ) → u ≡ followed s (comma_joined (t ∷ a)) → v ≡ followed u (listed (b ∷ []))
      → v ≡ followed s (comma_joined (t ∷ (a ++ (b ∷ []))))
  comma-more t a b x y = rw (y, x, followed_twice, comma-append t a (b ∷ []))

-- Eight texts.
module _ (s t u v w x y z k l : Sheet) where
  pub eight_listed : (a b c d e f g h : List ℕ) → t ≡ followed s a → u ≡ followed t (listed (b ∷ [])) → v ≡ followed u (listed (c ∷ []))
      → w ≡ followed v (listed (d ∷ [])) → x ≡ followed w (listed (e ∷ [])) → y ≡ followed x (listed (f ∷ []))
      → z ≡ followed y (listed (g ∷ [])) → k ≡ followed z (listed (h ∷ [])) → l ≡ followed k (10 ∷ [])
      → l ≡ followed s (comma_joined (a ∷ b ∷ c ∷ d ∷ e ∷ f ∷ g ∷ h ∷ []) ++ (10 ∷ []))
  eight_listed a b c d e f g h p q r i j m n o last =
      let two = comma-more s t u a [] b (comma-first s t t a p) q in
      let three = comma-more s u v a (b ∷ []) c two r in
      let four = comma-more s v w a (b ∷ c ∷ []) d three i in
      let five = comma-more s w x a (b ∷ c ∷ d ∷ []) e four j in
      let six = comma-more s x y a (b ∷ c ∷ d ∷ e ∷ []) f five m in
      let seven = comma-more s y z a (b ∷ c ∷ d ∷ e ∷ f ∷ []) g six n in
      let eight : k ≡ followed s (comma_joined (a ∷ b ∷ c ∷ d ∷ e ∷ f ∷ g ∷ h ∷ []))
      = comma-more s z k a (b ∷ c ∷ d ∷ e ∷ f ∷ g ∷ []) h seven o in
      rw (last, eight, followed_twice)

-- ---- in columns

module _ (s t u v w x z : Sheet) where
  pub eight_columns : (a b c d e f g h : List ℕ) → t ≡ followed s a → u ≡ followed t (spaced (b ∷ [])) → v ≡ followed u (spaced (c ∷ []))
      → w ≡ followed v (spaced (d ∷ e ∷ f ∷ [])) → x ≡ followed w (spaced (g ∷ h ∷ [])) → z ≡ followed x (10 ∷ [])
      → z ≡ followed s (joined (a ∷ b ∷ c ∷ d ∷ e ∷ f ∷ g ∷ h ∷ []) ++ (10 ∷ []))
  eight_columns a b c d e f g h p q r i j last =
      let two : u ≡ followed s (joined (a ∷ b ∷ [])) = joined_one s t u a (b ∷ []) p q in
      let three : v ≡ followed s (joined (a ∷ b ∷ c ∷ [])) = joined_more s u v a (b ∷ []) (c ∷ []) two r in
      let six : w ≡ followed s (joined (a ∷ b ∷ c ∷ d ∷ e ∷ f ∷ [])) = joined_more s v w a (b ∷ c ∷ []) (d ∷ e ∷ f ∷ []) three i in
      let eight : x ≡ followed s (joined (a ∷ b ∷ c ∷ d ∷ e ∷ f ∷ g ∷ h ∷ [])) =
      joined_more s w x a (b ∷ c ∷ d ∷ e ∷ f ∷ []) (g ∷ h ∷ []) six j in
      rw (last, eight, followed_twice)

-- A line of sums: three columns.
module _ (s t u v z : Sheet) where
  pub three_columns : (a b c : List ℕ) → t ≡ followed s a → u ≡ followed t (spaced (b ∷ [])) → v ≡ followed u (spaced (c ∷ [])) → z ≡ followed v (10 ∷ [])
      → z ≡ followed s (joined (a ∷ b ∷ c ∷ []) ++ (10 ∷ []))
  three_columns a b c p q r last =
      let two : u ≡ followed s (joined (a ∷ b ∷ [])) = joined_one s t u a (b ∷ []) p q in
      let three : v ≡ followed s (joined (a ∷ b ∷ c ∷ [])) = joined_more s u v a (b ∷ []) (c ∷ []) two r in
      rw (last, three, followed_twice)
