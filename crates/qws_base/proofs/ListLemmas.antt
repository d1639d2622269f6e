-- What holds of lists that are filtered, joined and mapped, and what a search finds.
use Rattle.std.proofs.Common.{◌≡◌, ℕ, ◌+◌, ◌<◌, ◌≤◌, zero, suc, Bool, true, false, cond, Option, None, Some, List, [], ◌∷◌, ◌++◌, map, length, get_or, refl, sym, ap, ◌∙◌, subst, ⊎_elim, arith}
use mathlib.Core.Option.{some, some-injective, some-ne-none}
use lib.ListN.{get_elem?}
use Rattle.std.specs.List.{All, AllPairs, filter, find, list_any, range_with_len}
use Rattle.std.specs.Option.{option_map, option_map_or}
use Rattle.std.proofs.lemmas.Bool.{false≢true, cases_eq, or_parts}
use Rattle.std.proofs.lemmas.List.Elements.{All-nil, All-cons, All-head, All-tail, All-append, All-filter}
use Rattle.std.proofs.lemmas.List.Kept.{AllPairs-cons}

pub pairs_head : {X : Type 0} (R : X → X → Type 0) (x : X) (xs : List X) → AllPairs R (x ∷ xs) → All (R x) xs
pairs_head R x xs h = λ k d l. h zero (suc k) d (omega arith) (omega arith)

pub pairs_tail : {X : Type 0} (R : X → X → Type 0) (x : X) (xs : List X) → AllPairs R (x ∷ xs) → AllPairs R xs
pairs_tail R x xs h = λ i j d l m. h (suc i) (suc j) d (omega arith) (omega arith)

pub pairs_nil : {X : Type 0} (R : X → X → Type 0) → AllPairs R []
pairs_nil R = λ i j d l m. absurd (omega arith)

pub each_both : {X : Type 0} (P Q S : X → Type 0) → ((x : X) → P x → Q x → S x) → (xs : List X) → All P xs → All Q xs → All S xs
each_both P Q S f [] h k = All-nil S
each_both P Q S f (x ∷ xs) h k = All-cons S x xs (f x (All-head P x xs h) (All-head Q x xs k)) (each_both P Q S f xs (All-tail P x xs h) (All-tail Q x xs k))

pub each_map : {X Y : Type 0} (P : X → Type 0) (Q : Y → Type 0) (f : X → Y) → ((x : X) → P x → Q (f x)) → (xs : List X) → All P xs → All Q (map f xs)
each_map P Q f g [] h = All-nil Q
each_map P Q f g (x ∷ xs) h = All-cons Q (f x) (map f xs) (g x (All-head P x xs h)) (each_map P Q f g xs (All-tail P x xs h))

pub pairs_map : {X Y : Type 0} (R : X → X → Type 0) (S : Y → Y → Type 0) (f : X → Y) → ((x y : X) → R x y → S (f x) (f y)) → (xs : List X) → AllPairs R xs → AllPairs S (map f xs)
pairs_map R S f g [] h = pairs_nil S
pairs_map R S f g (x ∷ xs) h = AllPairs-cons S (f x) (map f xs) (each_map (R x) (S (f x)) f (g x) xs (pairs_head R x xs h)) (pairs_map R S f g xs (pairs_tail R x xs h))

pub pairs_append : {X : Type 0} (R : X → X → Type 0) (xs ys : List X) → AllPairs R xs → AllPairs R ys → All (λ x. All (R x) ys) xs → AllPairs R (xs ++ ys)
pairs_append R [] ys h k c = k
pairs_append R (x ∷ xs) ys h k c =
    AllPairs-cons R x (xs ++ ys)
    (All-append (R x) xs ys (pairs_head R x xs h) (All-head (λ z. All (R z) ys) x xs c))
    (pairs_append R xs ys (pairs_tail R x xs h) k (All-tail (λ z. All (R z) ys) x xs c))

-- ---- a list that is parted by two tests that no element passes both of

record AreParted {X : Type 0} (R : X → X → Type 0) (xs ys : List X) : Type 0 where
  pub across : All (λ x. All (R x) ys) xs

parted_more : {X : Type 0} (R : X → X → Type 0) → ((x y : X) → R x y → R y x) → (z : X) (first second : Bool) (xs ys : List X) → (first ≡ true → second ≡ false) → All (R z) xs → All (R z) ys → AreParted R xs ys → AreParted R (cond first (z ∷ xs) xs) (cond second (z ∷ ys) ys)
parted_more R turn z true true xs ys other h k p = absurd (false≢true (sym (other refl)))
parted_more R turn z true false xs ys other h k p = record { across = All-cons (λ x. All (R x) ys) z xs k p.across }
parted_more R turn z false true xs ys other h k p =
    record { across = each_both (R z) (λ x. All (R x) ys) (λ x. All (R x) (z ∷ ys)) (λ x r s. All-cons (R x) z ys (turn z x r) s) xs h p.across }
parted_more R turn z false false xs ys other h k p = p

parted : {X : Type 0} (R : X → X → Type 0) → ((x y : X) → R x y → R y x) → (first second : X → Bool) → ((x : X) → first x ≡ true → second x ≡ false) → (xs : List X) → AllPairs R xs → AreParted R (filter first xs) (filter second xs)
parted R turn first second other [] h = record { across = All-nil (λ x. All (R x) []) }
parted R turn first second other (z ∷ zs) h =
    parted_more R turn z (first z) (second z) (filter first zs) (filter second zs) (other z)
    (All-filter first (R z) zs (pairs_head R z zs h)) (All-filter second (R z) zs (pairs_head R z zs h))
    (parted R turn first second other zs (pairs_tail R z zs h))

pub parted_across : {X : Type 0} (R : X → X → Type 0) → ((x y : X) → R x y → R y x) → (first second : X → Bool) → ((x : X) → first x ≡ true → second x ≡ false) → (xs : List X) → AllPairs R xs → All (λ x. All (R x) (filter second xs)) (filter first xs)
parted_across R turn first second other xs h = (parted R turn first second other xs h).across

-- ---- what passes no test

pub none_passes : {X : Type 0} (test : X → Bool) (xs : List X) → All (λ x. test x ≡ false) xs → filter test xs ≡ []
none_passes test [] h = refl
none_passes test (x ∷ xs) h = ap (λ b. cond b (x ∷ filter test xs) (filter test xs)) (All-head (λ y. test y ≡ false) x xs h) ∙ none_passes test xs (All-tail (λ y. test y ≡ false) x xs h)

pub all_pass : {X : Type 0} (test : X → Bool) (xs : List X) → All (λ x. test x ≡ true) xs → filter test xs ≡ xs
all_pass test [] h = refl
all_pass test (x ∷ xs) h = ap (λ b. cond b (x ∷ filter test xs) (filter test xs)) (All-head (λ y. test y ≡ true) x xs h) ∙ ap (λ ys. x ∷ ys) (all_pass test xs (All-tail (λ y. test y ≡ true) x xs h))

pub none_of_any : {X : Type 0} (test : X → Bool) (xs : List X) → list_any test xs ≡ false → All (λ x. test x ≡ false) xs
none_of_any test [] h = All-nil (λ x. test x ≡ false)
none_of_any test (x ∷ xs) h =
    let parts = or_parts (test x) (list_any test xs) h in
    All-cons (λ y. test y ≡ false) x xs parts.0 (none_of_any test xs parts.1)

-- ---- a search among numbers, and what it finds

-- the number is among them, and passes the test
pub record IsFoundIn (test : ℕ → Bool) (from n k : ℕ) : Type 0 where
  pub low : from ≤ k
  pub high : k < from + n
  pub passes : test k ≡ true

found_by : (test : ℕ → Bool) (from n k : ℕ) (here : Bool) → test from ≡ here → (find test (range_with_len (from + 1) n) ≡ Some k → IsFoundIn test (from + 1) n k) → cond here (Some from) (find test (range_with_len (from + 1) n)) ≡ Some k → IsFoundIn test from (suc n) k
found_by test from n k true is later e =
    let same : from ≡ k = ap (λ o. some_or o) e in
    record { low = omega (arith, same); high = omega (arith, same); passes = subst (λ j. test j ≡ true) same is }
  where
    some_or : Option ℕ → ℕ
    some_or None = 0
    some_or (Some j) = j
found_by test from n k false is later e = let f = later e in let a = f.low in let b = f.high in record { low = omega arith; high = omega (arith, b); passes = f.passes }

pub found : (test : ℕ → Bool) (from n k : ℕ) → find test (range_with_len from n) ≡ Some k → IsFoundIn test from n k
found test from zero k e = cc
found test from (suc n) k e = found_by test from n k (test from) refl (found test (from + 1) n k) e

absent_by : {Y : Type 0} (f : ℕ → Y) (test : ℕ → Bool) (from n : ℕ) (here : Bool) → test from ≡ here → ((k : ℕ) → option_map f (find test (range_with_len (from + 1) n)) ≡ None → from + 1 ≤ k → k < from + 1 + n → test k ≡ false) → option_map f (cond here (Some from) (find test (range_with_len (from + 1) n))) ≡ None → (k : ℕ) → from ≤ k → k < from + suc n → test k ≡ false
absent_by f test from n true is later e k l m = cc
absent_by f test from n false is later e k l m = ⊎_elim
    (λ (same : k ≡ from). ap test same ∙ is)
    (λ (differs : k ≡ from → ⊥). later k e (omega (arith, differs)) (omega arith))
    (cases_eq k from)

-- where a search finds nothing, no number passes
pub absent : {Y : Type 0} (f : ℕ → Y) (test : ℕ → Bool) (from n : ℕ) → option_map f (find test (range_with_len from n)) ≡ None → (k : ℕ) → from ≤ k → k < from + n → test k ≡ false
absent f test from zero e k l m = absurd (omega arith)
absent f test from (suc n) e k l m = absent_by f test from n (test from) refl (λ j g a b. absent f test (from + 1) n g j a b) e k l m

pub some_same : {X : Type 0} (x y : X) → Some x ≡ Some y → x ≡ y
some_same x y e = ap (λ o. option_map_or (λ z. z) o x) e

member_by : {X : Type 0} (P : X → Type 0) (test : X → Bool) (x : X) (xs : List X) (w : X) (here : Bool) → test x ≡ here → P x → (find test xs ≡ Some w → P w × (test w ≡ true)) → cond here (Some x) (find test xs) ≡ Some w → P w × (test w ≡ true)
member_by P test x xs w true is p later e = let same : x ≡ w = some_same x w e in (subst P same p, subst (λ y. test y ≡ true) same is)
member_by P test x xs w false is p later e = later e

-- what a search finds passes, and has what each element has
pub found_member : {X : Type 0} (P : X → Type 0) (test : X → Bool) (xs : List X) (w : X) → All P xs → find test xs ≡ Some w → P w × (test w ≡ true)
found_member P test [] w h e = cc
found_member P test (x ∷ xs) w h e = member_by P test x xs w (test x) refl (All-head P x xs h) (found_member P test xs w (All-tail P x xs h)) e

-- what doesn't pass is passed over
pub passed_over : {X : Type 0} (test : X → Bool) (xs ys : List X) (w : X) → test w ≡ false → find test (xs ++ w ∷ ys) ≡ find test (xs ++ ys)
passed_over test [] ys w h = ap (λ b. cond b (Some w) (find test ys)) h
passed_over test (x ∷ xs) ys w h = ap (λ o. cond (test x) (Some x) o) (passed_over test xs ys w h)

-- ---- an item at a place, and how many pass

pub item_at : {X : Type 0} (xs : List X) (k : ℕ) (x d : X) → get_elem? xs k ≡ some x → get_or xs k d ≡ x
item_at [] k x d at = absurd (some-ne-none x (sym at))
item_at (y ∷ xs) zero x d at = some-injective y x at
item_at (y ∷ xs) (suc k) x d at = item_at xs k x d at

pub filter_le : {X : Type 0} (test : X → Bool) (xs : List X) → length (filter test xs) ≤ length xs
filter_le test [] = omega arith
filter_le test (x ∷ xs) = by (test x) (filter_le test xs)
  where
    by : (b : Bool) → length (filter test xs) ≤ length xs → length (cond b (x ∷ filter test xs) (filter test xs)) ≤ suc (length xs)
    by true h = omega arith
    by false h = omega arith
