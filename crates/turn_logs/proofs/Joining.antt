-- Lists that are put together piece by piece, where one piece changes.
use Rattle.std.proofs.Common.{◌≡◌, ℕ, zero, suc, ◌<◌, ◌≤◌, ◌≢◌, ◌==◌, eq-eqb, ne_eqb, if◌then◌else◌, Bool, true, false, List, [], ◌∷◌, ◌++◌, append_assoc, append-nil, length, set, sym, refl, ap, ◌∙◌, arith}
use Rattle.std.specs.List.{flat_map}
use mathlib.Core.Option.{some, some-injective, some-ne-none}
use lib.ListN.{get_elem?}
use Rattle.turn_logs.specs.declared.items.Item.{Item}
use Rattle.turn_logs.specs.declared.items.Item.TheVariants.{Pick, Put}
use Rattle.turn_logs.specs.Lines.{item_word, on, written, Shows, OnlyPicks}
use Rattle.turn_logs.specs.Lists.{upto}

-- where a list has an item, the place is below its length
pub place_within : {A : Type 0} (l : List A) (k : ℕ) (a : A) → get_elem? l k ≡ some a → k < length l
place_within [] k a e = absurd (some-ne-none a (sym e))
place_within (x ∷ xs) zero a e = omega arith
place_within (x ∷ xs) (suc k) a e = let r = place_within xs k a e in omega arith

pub on-append : (x : ℕ) (l m : List Item) → on x (l ++ m) ≡ on x l ++ on x m
on-append x [] m = refl
on-append x (i ∷ l) m = go (item_word i == x) (on-append x l m)
  where
    go : (b : Bool) → on x (l ++ m) ≡ on x l ++ on x m → (if b then i ∷ on x (l ++ m) else on x (l ++ m)) ≡ (if b then i ∷ on x l else on x l) ++ on x m
    go true e = ap (λ t. i ∷ t) e
    go false e = e

pub on_none : (x : ℕ) (l : List Item) → ((k : ℕ) (i : Item) → get_elem? l k ≡ some i → item_word i ≢ x) → on x l ≡ []
on_none x [] away = refl
on_none x (i ∷ l) away = ap (λ b. if b then i ∷ on x l else on x l) (ne_eqb (item_word i) x (away 0 i refl)) ∙ on_none x l (λ k j e. away (suc k) j e)

pub on_here : (x : ℕ) (i : Item) → item_word i ≡ x → on x (i ∷ []) ≡ i ∷ []
on_here x i e = ap (λ b. if b then i ∷ [] else []) (eq-eqb (item_word i) x e)

pub on_there : (x : ℕ) (i : Item) → item_word i ≢ x → on x (i ∷ []) ≡ []
on_there x i n = ap (λ b. if b then i ∷ [] else []) (ne_eqb (item_word i) x n)

module _ {A B : Type 0} where
  pub joined_set_more : (f : A → List B) (t : List B) (l : List A) (i : ℕ) (v w : A) → get_elem? l i ≡ some v → f w ≡ f v ++ t
      → ((j : ℕ) (a : A) → i < j → get_elem? l j ≡ some a → f a ≡ []) → flat_map f (set l i w) ≡ flat_map f l ++ t
  joined_set_more f t [] i v w e more later = absurd (some-ne-none v (sym e))
  joined_set_more f t (a ∷ l) zero v w e more later = let none = joined_none f l (λ k b at. later (suc k) b (omega arith) at) in
      ap (λ z. f w ++ z) none ∙ append-nil (f w) ∙ more ∙ ap (λ z. f z ++ t) (sym (some-injective a v e)) ∙ ap (λ z. z ++ t) (sym (append-nil (f a)) ∙ ap (λ z. f a ++ z) (sym none))
    where
      joined_none : (f : A → List B) (l : List A) → ((k : ℕ) (a : A) → get_elem? l k ≡ some a → f a ≡ []) → flat_map f l ≡ []
      joined_none f [] each = refl
      joined_none f (a ∷ l) each = ap (λ z. z ++ flat_map f l) (each 0 a refl) ∙ joined_none f l (λ k b e. each (suc k) b e)
  joined_set_more f t (a ∷ l) (suc i) v w e more later =
      ap (λ z. f a ++ z) (joined_set_more f t l i v w e more (λ j b lt at. later (suc j) b (omega arith) at)) ∙ sym (append_assoc (f a) (flat_map f l) t)

  pub joined_none : (f : A → List B) (l : List A) → ((k : ℕ) (a : A) → get_elem? l k ≡ some a → f a ≡ []) → flat_map f l ≡ []
  joined_none f [] each = refl
  joined_none f (a ∷ l) each = ap (λ z. z ++ flat_map f l) (each 0 a refl) ∙ joined_none f l (λ k b e. each (suc k) b e)

  -- pieces that are the same, place by place
  pub joined_same : (f g : A → List B) (l : List A) → ((k : ℕ) (a : A) → get_elem? l k ≡ some a → f a ≡ g a) → flat_map f l ≡ flat_map g l
  joined_same f g [] same = refl
  joined_same f g (a ∷ l) same = ap (λ z. z ++ flat_map f l) (same 0 a refl) ∙ ap (λ z. g a ++ z) (joined_same f g l (λ k b e. same (suc k) b e))

  pub joined_set_same : (f : A → List B) (l : List A) (i : ℕ) (v w : A) → get_elem? l i ≡ some v → f w ≡ f v → flat_map f (set l i w) ≡ flat_map f l
  joined_set_same f [] i v w e same = absurd (some-ne-none v (sym e))
  joined_set_same f (a ∷ l) zero v w e same = ap (λ z. z ++ flat_map f l) (same ∙ ap f (sym (some-injective a v e)))
  joined_set_same f (a ∷ l) (suc i) v w e same = ap (λ z. f a ++ z) (joined_set_same f l i v w e same)

  pub joined-append : (f : A → List B) (l m : List A) → flat_map f (l ++ m) ≡ flat_map f l ++ flat_map f m
  joined-append f [] m = refl
  joined-append f (a ∷ l) m = ap (λ z. f a ++ z) (joined-append f l m) ∙ sym (append_assoc (f a) (flat_map f l) (flat_map f m))

pub on_joined : {A : Type 0} (x : ℕ) (f : A → List Item) (l : List A) → on x (flat_map f l) ≡ flat_map (λ a. on x (f a)) l
on_joined x f [] = refl
on_joined x f (a ∷ l) = on-append x (f a) (flat_map f l) ∙ ap (λ z. on x (f a) ++ z) (on_joined x f l)

pub upto_same : {B : Type 0} (f g : ℕ → List B) (n : ℕ) → ((e : ℕ) → e ≤ n → f e ≡ g e) → upto f n ≡ upto g n
upto_same f g zero same = same 0 (omega arith)
upto_same f g (suc n) same = ap (λ z. z ++ f (suc n)) (upto_same f g n (λ e le. same e (omega arith))) ∙ ap (λ z. upto g n ++ z) (same (suc n) (omega arith))

-- the last piece gains t
pub upto_more : {B : Type 0} (f g : ℕ → List B) (t : List B) (n : ℕ) → ((e : ℕ) → e < n → f e ≡ g e) → f n ≡ g n ++ t → upto f n ≡ upto g n ++ t
upto_more f g t zero same more = more
upto_more f g t (suc n) same more = ap (λ z. z ++ f (suc n)) (upto_same f g n (λ e le. same e (omega arith))) ∙ ap (λ z. upto g n ++ z) more ∙ sym (append_assoc (upto g n) (g (suc n)) t)

pub written-append : (v : ℕ) (l m : List Item) → written v (l ++ m) ≡ written (written v l) m
written-append v [] m = refl
written-append v (Pick w u ∷ l) m = written-append v l m
written-append v (Put w u ∷ l) m = written-append u l m

pub shows-append : (v : ℕ) (l m : List Item) → Shows v l → Shows (written v l) m → Shows v (l ++ m)
shows-append v [] m a b = b
shows-append v (Pick w u ∷ l) m a b = (a.0, shows-append v l m a.1 b)
shows-append v (Put w u ∷ l) m a b = shows-append u l m a b

pub shows_split : (v : ℕ) (l m : List Item) → Shows v (l ++ m) → Shows (written v l) m
shows_split v [] m a = a
shows_split v (Pick w u ∷ l) m a = shows_split v l m a.1
shows_split v (Put w u ∷ l) m a = shows_split u l m a

-- one Pick more puts nothing
pub one_pick : (log : List Item) (w u : ℕ) → OnlyPicks log → OnlyPicks (log ++ Pick w u ∷ [])
one_pick [] w u only = tt
one_pick (Pick a b ∷ log) w u only = one_pick log w u only
one_pick (Put a b ∷ log) w u only = absurd only
