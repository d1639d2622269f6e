-- Lists of which each item stands in a relation to all later ones.
use Rattle.std.proofs.Common.{◌≡◌, ℕ, zero, suc, ◌+◌, ◌-◌, ◌<◌, ◌≤◌, ◌⊎◌, inl, inr, ⊎_elim, Bool, true, false, List, [], ◌∷◌, ◌++◌, sym, refl, subst, arith}
use Rattle.std.proofs.lemmas.Bool.{cases_lt}
use Rattle.std.specs.List.{flat_map, range_with_len}
use Rattle.scene_turns.specs.Works.{place}

-- the list has the item
abbrev pub Has : {A : Type 0} → List A → A → Type 0
Has [] a = ⊥
Has (x ∷ xs) a = (x ≡ a) ⊎ Has xs a

abbrev pub InOrder : {A : Type 0} → (A → A → Type 0) → List A → Type 0
InOrder R [] = Unit {0}
InOrder {A} R (x ∷ xs) = ((y : A) → Has xs y → R x y) × InOrder R xs

module _ {A : Type 0} where
  pub has_left : (xs ys : List A) (a : A) → Has xs a → Has (xs ++ ys) a
  has_left [] ys a has = absurd has
  has_left (x ∷ xs) ys a has = ⊎_elim (λ (e : x ≡ a). inl e) (λ (h : Has xs a). inr (has_left xs ys a h)) has

  pub has_right : (xs ys : List A) (a : A) → Has ys a → Has (xs ++ ys) a
  has_right [] ys a has = has
  has_right (x ∷ xs) ys a has = inr (has_right xs ys a has)

  pub has_either : (xs ys : List A) (a : A) → Has (xs ++ ys) a → Has xs a ⊎ Has ys a
  has_either [] ys a has = inr has
  has_either (x ∷ xs) ys a has = ⊎_elim (λ (e : x ≡ a). inl (inl e)) (λ (h : Has (xs ++ ys) a). ⊎_elim (λ (l : Has xs a). inl (inr l)) (λ (r : Has ys a). inr r) (has_either xs ys a h)) has

  pub both_in_order : (R : A → A → Type 0) (xs ys : List A) → InOrder R xs → InOrder R ys → ((x y : A) → Has xs x → Has ys y → R x y) → InOrder R (xs ++ ys)
  both_in_order R [] ys a b across = b
  both_in_order R (x ∷ xs) ys a b across = (
    λ y has. ⊎_elim (λ (l : Has xs y). a.0 y l) (λ (r : Has ys y). across x y (inl refl) r) (has_either xs ys y has),
    both_in_order R xs ys a.1 b (λ z y hz hy. across z y (inr hz) hy),
  )

  -- ---- pieces of a range

  pub piece_of : (f : ℕ → List A) (i n : ℕ) (a : A) → Has (flat_map f (range_with_len i n)) a → (j : ℕ) × (i ≤ j) × (j < i + n) × Has (f j) a
  piece_of f i zero a has = absurd has
  piece_of f i (suc n) a has = ⊎_elim
      (λ (h : Has (f i) a). (i, omega arith, omega arith, h))
      (λ (h : Has (flat_map f (range_with_len (i + 1) n)) a). let r = piece_of f (i + 1) n a h in let low = r.1 in let high = r.2 in (r.0, omega arith, omega arith, r.3))
      (has_either (f i) (flat_map f (range_with_len (i + 1) n)) a has)

  pub in_piece : (f : ℕ → List A) (i n j : ℕ) (a : A) → i ≤ j → j < i + n → Has (f j) a → Has (flat_map f (range_with_len i n)) a
  in_piece f i zero j a low high has = absurd (omega arith)
  in_piece f i (suc n) j a low high has = ⊎_elim
      (λ (e : i ≡ j). has_left (f i) (flat_map f (range_with_len (i + 1) n)) a (subst (λ k. Has (f k) a) (sym e) has))
      (λ (lt : i < j). has_right (f i) (flat_map f (range_with_len (i + 1) n)) a (in_piece f (i + 1) n j a (omega arith) (omega arith) has))
      (first i j low)
    where
      first : (i j : ℕ) → i ≤ j → (i ≡ j) ⊎ (i < j)
      first i j low = ⊎_elim (λ (lt : i < j). inr lt) (λ (ge : j ≤ i). inl (omega arith)) (cases_lt i j)

  pub pieces_in_order : (R : A → A → Type 0) (f : ℕ → List A) (i n : ℕ) → ((j : ℕ) → j < i + n → InOrder R (f j)) → ((j k : ℕ) (x y : A) → j < k → k < i + n → Has (f j) x → Has (f k) y → R x y)
      → InOrder R (flat_map f (range_with_len i n))
  pieces_in_order R f i zero each across = tt
  pieces_in_order R f i (suc n) each across = both_in_order R (f i) (flat_map f (range_with_len (i + 1) n)) (each i (omega arith))
      (pieces_in_order R f (i + 1) n (λ j lt. each j (omega arith)) (λ j k x y lt high hx hy. across j k x y lt (omega arith) hx hy))
      (λ x y hx hy. let r = piece_of f (i + 1) n y hy in let low = r.1 in let high = r.2 in across i r.0 x y (omega arith) (omega arith) hx r.3)

-- ---- directions

-- p comes before q
abbrev pub Before : Bool → ℕ → ℕ → Type 0
Before false p q = p < q
Before true p q = q < p

-- pieces that rise are in order in either direction
pub placed_in_order : (falling : Bool) (g : ℕ → List ℕ) (n : ℕ) → ((j : ℕ) → j < n → InOrder (Before falling) (g j)) → ((j k x y : ℕ) → j < k → k < n → Has (g j) x → Has (g k) y → x < y)
    → InOrder (Before falling) (flat_map (λ j. g (place falling n j)) (range_with_len 0 n))
placed_in_order false g n each across = pieces_in_order (Before false) g 0 n (λ j lt. each j (omega arith)) (λ j k x y lt high hx hy. across j k x y lt (omega arith) hx hy)
placed_in_order true g n each across = pieces_in_order (Before true) (λ j. g (n - 1 - j)) 0 n (λ j lt. each (n - 1 - j) (omega arith))
    (λ j k x y lt high hx hy. across (n - 1 - k) (n - 1 - j) y x (omega arith) (omega arith) hy hx)

-- what a place has
pub placed_piece : (falling : Bool) (g : ℕ → List ℕ) (n p : ℕ) → Has (flat_map (λ j. g (place falling n j)) (range_with_len 0 n)) p → (j : ℕ) × (j < n) × Has (g j) p
placed_piece false g n p has = let r = piece_of g 0 n p has in let high = r.2 in (r.0, omega arith, r.3)
placed_piece true g n p has = let r = piece_of (λ j. g (n - 1 - j)) 0 n p has in let high = r.2 in (n - 1 - r.0, omega arith, r.3)

pub in_placed : (falling : Bool) (g : ℕ → List ℕ) (n j p : ℕ) → j < n → Has (g j) p → Has (flat_map (λ j. g (place falling n j)) (range_with_len 0 n)) p
in_placed false g n j p lt has = in_piece g 0 n j p (omega arith) (omega arith) has
in_placed true g n j p lt has = in_piece (λ i. g (n - 1 - i)) 0 n (n - 1 - j) p (omega arith) (omega arith) (subst (λ i. Has (g i) p) (let z : j ≡ n - 1 - (n - 1 - j) = omega arith in z) has)
