-- What holds of each element, of each two, and membership, by recursion on the list.
use Rattle.band_regions.proofs.Words.{◌≡◌, ◌<◌, true, false, ◌||◌, ◌⊎◌, List, [], ◌∷◌, ◌++◌, length, refl, sym, ap, ◌∙◌, subst, inl, inr, arith, Bool, nat_eq, zero, suc, cond, map, Each, AllPairs, list_any, filter, All-from_recursion, recursion_from_All, filter_passes, All-filter, list_any_none, eqb-true, cond_both, none_passes, all_pass, pairs_nil, AllPairs-cons, AllPairs-filter}

abbrev pub Pairs : {X : Type 0} → (X → X → Type 0) → List X → Type 0
Pairs R [] = Unit {0}
Pairs R (x ∷ xs) = Each (R x) xs × Pairs R xs

abbrev pub In : {X : Type 0} → X → List X → Type 0
In x [] = ⊥
In x (y ∷ ys) = (x ≡ y) ⊎ In x ys

module _ {X : Type 0} (P : X → Type 0) where
  pub each_in : (xs : List X) (x : X) → Each P xs → In x xs → P x
  each_in [] x h m = absurd m
  each_in (y ∷ ys) x h (inl e) = subst P (sym e) h.0
  each_in (y ∷ ys) x h (inr m) = each_in ys x h.1 m

  pub each_from_in : (xs : List X) → ((x : X) → In x xs → P x) → Each P xs
  each_from_in [] h = tt
  each_from_in (x ∷ xs) h = (h x (inl refl), each_from_in xs (λ y m. h y (inr m)))

  pub each_append : (xs ys : List X) → Each P xs → Each P ys → Each P (xs ++ ys)
  each_append [] ys h k = k
  each_append (x ∷ xs) ys h k = (h.0, each_append xs ys h.1 k)

  pub each_left : (xs ys : List X) → Each P (xs ++ ys) → Each P xs
  each_left [] ys h = tt
  each_left (x ∷ xs) ys h = (h.0, each_left xs ys h.1)

  pub each_right : (xs ys : List X) → Each P (xs ++ ys) → Each P ys
  each_right [] ys h = h
  each_right (x ∷ xs) ys h = each_right xs ys h.1

  pub each_weaker : (Q : X → Type 0) → ((x : X) → P x → Q x) → (xs : List X) → Each P xs → Each Q xs
  each_weaker Q f [] h = tt
  each_weaker Q f (x ∷ xs) h = (f x h.0, each_weaker Q f xs h.1)

  pub each_both : (Q S : X → Type 0) → ((x : X) → P x → Q x → S x) → (xs : List X) → Each P xs → Each Q xs → Each S xs
  each_both Q S f [] h k = tt
  each_both Q S f (x ∷ xs) h k = (f x h.0 k.0, each_both Q S f xs h.1 k.1)

  pub each_filter : (test : X → Bool) (xs : List X) → Each P xs → Each P (filter test xs)
  each_filter test xs h = recursion_from_All P (filter test xs) (All-filter test P xs (All-from_recursion P xs h))

  -- where any two that R orders and that P holds of are ordered by S
  pub pairs_under : (R S : X → X → Type 0) → ((x y : X) → P x → P y → R x y → S x y) → (xs : List X) → Each P xs → Pairs R xs → Pairs S xs
  pairs_under R S f [] h k = tt
  pairs_under R S f (x ∷ xs) h k = (each_both (R x) (S x) (λ y p r. f x y h.0 p r) xs h.1 k.0, pairs_under R S f xs h.1 k.1)

module _ {X : Type 0} (R : X → X → Type 0) where
  pub pairs_of : (xs : List X) → AllPairs R xs → Pairs R xs
  pairs_of [] h = tt
  pairs_of (x ∷ xs) h = (recursion_from_All (R x) xs (λ k d l. h zero (suc k) d (omega arith) (omega arith)), pairs_of xs (λ i j d l m. h (suc i) (suc j) d (omega arith) (omega arith)))

  pub all_pairs_of : (xs : List X) → Pairs R xs → AllPairs R xs
  all_pairs_of [] h = pairs_nil R
  all_pairs_of (x ∷ xs) h = AllPairs-cons R x xs (All-from_recursion (R x) xs h.0) (all_pairs_of xs h.1)

  pub pairs_append : (xs ys : List X) → Pairs R xs → Pairs R ys → Each (λ x. Each (R x) ys) xs → Pairs R (xs ++ ys)
  pairs_append [] ys h k c = k
  pairs_append (x ∷ xs) ys h k c = (each_append (R x) xs ys h.0 c.0, pairs_append xs ys h.1 k c.1)

  pub pairs_left : (xs ys : List X) → Pairs R (xs ++ ys) → Pairs R xs
  pairs_left [] ys h = tt
  pairs_left (x ∷ xs) ys h = (each_left (R x) xs ys h.0, pairs_left xs ys h.1)

  pub pairs_right : (xs ys : List X) → Pairs R (xs ++ ys) → Pairs R ys
  pairs_right [] ys h = h
  pairs_right (x ∷ xs) ys h = pairs_right xs ys h.1

  pub pairs_across : (xs ys : List X) → Pairs R (xs ++ ys) → Each (λ x. Each (R x) ys) xs
  pairs_across [] ys h = tt
  pairs_across (x ∷ xs) ys h = (each_right (R x) xs ys h.0, pairs_across xs ys h.1)

  pub pairs_filter : (test : X → Bool) (xs : List X) → Pairs R xs → Pairs R (filter test xs)
  pairs_filter test xs h = pairs_of (filter test xs) (AllPairs-filter R test xs (all_pairs_of xs h))

  -- any two members are one, or ordered
  pub pairs_in : (xs : List X) (x y : X) → Pairs R xs → In x xs → In y xs → (x ≡ y) ⊎ (R x y ⊎ R y x)
  pairs_in [] x y h m n = absurd m
  pairs_in (z ∷ zs) x y h (inl e) (inl f) = inl (e ∙ sym f)
  pairs_in (z ∷ zs) x y h (inl e) (inr n) = inr (inl (subst (λ w. R w y) (sym e) (each_in (R z) zs y h.0 n)))
  pairs_in (z ∷ zs) x y h (inr m) (inl f) = inr (inr (subst (λ w. R w x) (sym f) (each_in (R z) zs x h.0 m)))
  pairs_in (z ∷ zs) x y h (inr m) (inr n) = pairs_in zs x y h.1 m n

  -- two lists in the same order with the same members are one
  pub same_members : ((x y : X) → R x y → R y x → ⊥) → (xs ys : List X) → Pairs R xs → Pairs R ys → ((z : X) → In z xs → In z ys) → ((z : X) → In z ys → In z xs) → xs ≡ ys
  same_members once [] [] g k f h = refl
  same_members once [] (y ∷ ys) g k f h = absurd (h y (inl refl))
  same_members once (x ∷ xs) [] g k f h = absurd (f x (inl refl))
  same_members once (x ∷ xs) (y ∷ ys) g k f h = let e : x ≡ y = by_heads (f x (inl refl)) (h y (inl refl)) in ap (λ z. z ∷ xs) e ∙ ap (λ zs. y ∷ zs) (same_members once xs ys g.1 k.1 (others x y xs ys e g.0 f) (others y x ys xs (sym e) k.0 h))
    where
      others : (a b : X) (ks ls : List X) → a ≡ b → Each (R a) ks → ((z : X) → In z (a ∷ ks) → In z (b ∷ ls)) → (z : X) → In z ks → In z ls
      others a b ks ls e above goes z m = elim (goes z (inr m)) [ inl same ↦ let self : R a a = subst (R a) (same ∙ sym e) (each_in (R a) ks z above m) in absurd (once a a self self) | inr n ↦ n ]

      by_heads : In x (y ∷ ys) → In y (x ∷ xs) → x ≡ y
      by_heads (inl e) n = e
      by_heads (inr m) (inl e) = sym e
      by_heads (inr m) (inr n) = absurd (once x y (each_in (R x) xs y g.0 n) (each_in (R y) ys x k.0 m))

-- ---- what a test keeps, and whether some member passes

module _ {X : Type 0} (test : X → Bool) where
  pub each_passes : (xs : List X) → Each (λ x. test x ≡ true) (filter test xs)
  each_passes xs = recursion_from_All (λ x. test x ≡ true) (filter test xs) (filter_passes test xs)

  pub filter_in : (xs : List X) (x : X) → In x xs → test x ≡ true → In x (filter test xs)
  filter_in [] x m t = absurd m
  filter_in (y ∷ ys) x (inl e) t = rw (ap test (sym e) ∙ t) (inl e)
  filter_in (y ∷ ys) x (inr m) t = let more = filter_in ys x m t in cond_both (test y) (y ∷ filter test ys) (filter test ys) (In x) (λ e. inr more) (λ e. more)

  pub filter_none : (xs : List X) → Each (λ x. test x ≡ false) xs → filter test xs ≡ []
  filter_none xs h = none_passes test xs (All-from_recursion (λ x. test x ≡ false) xs h)

  pub filter_all : (xs : List X) → Each (λ x. test x ≡ true) xs → filter test xs ≡ xs
  filter_all xs h = all_pass test xs (All-from_recursion (λ x. test x ≡ true) xs h)

  pub any_in : (xs : List X) → list_any test xs ≡ true → (x : X) × In x xs × (test x ≡ true)
  any_in [] h = absurd (cc)
  any_in (x ∷ xs) h = elim (test x) as (λ b. test x ≡ b → (b || list_any test xs) ≡ true → (y : _) × In y (x ∷ xs) × (test y ≡ true)) [ true ↦ λ e g. (x, inl refl, e) | false ↦ λ e g. let m = any_in xs g in (m.0, inr m.1, m.2) ] refl h

  pub any_from_in : (xs : List X) (x : X) → In x xs → test x ≡ true → list_any test xs ≡ true
  any_from_in [] x m t = absurd m
  any_from_in (y ∷ ys) x (inl e) t = ap (λ b. b || list_any test ys) (ap test (sym e) ∙ t)
  any_from_in (y ∷ ys) x (inr m) t = let some = any_from_in ys x m t in grind arith

  pub any_none : (xs : List X) → Each (λ x. test x ≡ false) xs → list_any test xs ≡ false
  any_none xs h = list_any_none test xs (All-from_recursion (λ x. test x ≡ false) xs h)

  pub any_same : (other : X → Bool) (xs : List X) → Each (λ x. test x ≡ other x) xs → list_any test xs ≡ list_any other xs
  any_same other [] h = refl
  any_same other (x ∷ xs) h = let e = h.0 in let same = any_same other xs h.1 in grind arith

-- ---- lists that are mapped

pub each_map : {X Y : Type 0} (P : X → Type 0) (Q : Y → Type 0) (f : X → Y) → ((x : X) → P x → Q (f x)) → (xs : List X) → Each P xs → Each Q (map f xs)
each_map P Q f g [] h = tt
each_map P Q f g (x ∷ xs) h = (g x h.0, each_map P Q f g xs h.1)

pub pairs_map : {X : Type 0} (P : X → Type 0) (R : X → X → Type 0) (f : X → X) → ((x y : X) → P x → P y → R x y → R (f x) (f y)) → (xs : List X) → Each P xs → Pairs R xs → Pairs R (map f xs)
pairs_map P R f g [] h k = tt
pairs_map P R f g (x ∷ xs) h k = (each_map (λ y. P y × R x y) (R (f x)) f (λ y m. g x y h.0 m.0 m.1) xs (each_both P (R x) (λ y. P y × R x y) (λ y p q. (p, q)) xs h.1 k.0), pairs_map P R f g xs h.1 k.1)

pub filter-map : {X : Type 0} (test was : X → Bool) (f : X → X) (xs : List X) → ((x : X) → test (f x) ≡ was x) → filter test (map f xs) ≡ map f (filter was xs)
filter-map test was f [] same = refl
filter-map test was f (x ∷ xs) same = rw (same x, filter-map test was f xs same) (grind arith)

pub any_map : {X : Type 0} (test was : X → Bool) (f : X → X) (xs : List X) → ((x : X) → test (f x) ≡ was x) → list_any test (map f xs) ≡ list_any was xs
any_map test was f [] same = refl
any_map test was f (x ∷ xs) same = let e = same x in let rest = any_map test was f xs same in grind arith

pub nil_of_map : {X Y : Type 0} (f : X → Y) (xs : List X) → map f xs ≡ [] → xs ≡ []
nil_of_map f [] e = refl
nil_of_map f (x ∷ xs) e = cc

-- ---- lists that are tested for emptiness

pub no_more : {X : Type 0} (xs : List X) → true ≡ nat_eq (length xs) 0 → xs ≡ []
no_more [] e = refl
no_more (x ∷ xs) e = absurd (omega (arith, eqb-true (length (x ∷ xs)) 0 (sym e)))

pub some_more : {X : Type 0} (xs : List X) → false ≡ nat_eq (length xs) 0 → 0 < length xs
some_more [] e = cc
some_more (x ∷ xs) e = omega arith
