-- Searches and filters over the slots, and the number of rectangles.
use Rattle.std.proofs.Common.{◌≡◌, ℕ, zero, suc, ◌+◌, ◌*◌, ◌<◌, ◌≤◌, Bool, true, false, not, cond, None, Some, List, [], ◌∷◌, ◌++◌, map, length, get_or, ◌||◌, refl, sym, ap, ◌∙◌, arith}
use Rattle.std.specs.Prelude.{nat_lt, nat_le}
use Rattle.std.specs.List.{filter, find, range_with_len}
use Rattle.std.specs.Option.{option_map}
use Rattle.std.proofs.lemmas.Bool.{false≢true, and_parts}
use Rattle.std.proofs.lemmas.List.{get_or_default}
use Rattle.std.proofs.lemmas.List.Elements.{filter-append}
use Rattle.std.proofs.lemmas.List.FromFn.{map-range_with_len_more, length-range_with_len}
use Rattle.qws_base.specs.Sides.{Sides, IsScreen}
use Rattle.qws_base.specs.Points.{is_on_screen, pixels, pixel_count, point_of}
use Rattle.qws_base.specs.Regions.{IsOnScreen, rect_count, is_corner}
use Rattle.qws_base.specs.Windows.{allocated_points, is_slot, owner_at}
use Rattle.qws_base.specs.Stacking.{slots}
use Rattle.qws_base.specs.Refusals.{too_complex, rects_needed, bad_region, is_bad_place, is_requestable, no_rect}
use Rattle.qws_base.specs.declared.points.Point.{Point}
use Rattle.qws_base.specs.declared.points.Rect.{Rect}
use Rattle.qws_base.specs.declared.windows.WindowView.{WindowView}
use Rattle.qws_base.specs.declared.replies.Refusal.TheVariants.{TooComplex, BadRegion}

-- ---- one slot more

same_list : (xs : List ℕ) → map (λ k. k) xs ≡ xs
same_list [] = refl
same_list (x ∷ xs) = ap (λ ys. x ∷ ys) (same_list xs)

pub filter_more : (p : ℕ → Bool) (n : ℕ) → filter p (range_with_len 0 (n + 1)) ≡ filter p (range_with_len 0 n) ++ cond (p n) (n ∷ []) []
filter_more p n =
    ap (filter p) (sym (same_list (range_with_len 0 (n + 1))) ∙ map-range_with_len_more (λ k. k) 0 n n (omega arith) ∙ ap (λ xs. xs ++ n ∷ []) (same_list (range_with_len 0 n)))
    ∙ filter-append p (range_with_len 0 n) (n ∷ [])

same_end : (xs : List ℕ) → xs ++ [] ≡ xs
same_end [] = refl
same_end (x ∷ xs) = ap (λ ys. x ∷ ys) (same_end xs)

pub filter_takes : (p : ℕ → Bool) (n : ℕ) (xs ys : List ℕ) → xs ≡ filter p (range_with_len 0 n) → p n ≡ true → ys ≡ xs ++ n ∷ [] → ys ≡ filter p (range_with_len 0 (n + 1))
filter_takes p n xs ys e h same =
    same ∙ ap (λ zs. zs ++ n ∷ []) e ∙ sym (filter_more p n ∙ ap (λ b. filter p (range_with_len 0 n) ++ cond b (n ∷ []) []) h)

pub filter_skips : (p : ℕ → Bool) (n : ℕ) (xs : List ℕ) → xs ≡ filter p (range_with_len 0 n) → p n ≡ false → xs ≡ filter p (range_with_len 0 (n + 1))
filter_skips p n xs e h = e ∙ sym (filter_more p n ∙ ap (λ b. filter p (range_with_len 0 n) ++ cond b (n ∷ []) []) h ∙ same_end (filter p (range_with_len 0 n)))

-- ---- the first that passes

first_by : (test : ℕ → Bool) (a n k : ℕ) (here : Bool) → test a ≡ here → a ≤ k → k < a + suc n → ((j : ℕ) → a ≤ j → j < k → test j ≡ false) → test k ≡ true
    → (a + 1 ≤ k → k < a + 1 + n → find test (range_with_len (a + 1) n) ≡ Some k) → cond here (Some a) (find test (range_with_len (a + 1) n)) ≡ Some k
first_by test a n k true is low high before passes later = ap Some (same (nat_lt a k) refl)
  where
    same : (b : Bool) → nat_lt a k ≡ b → a ≡ k
    same true e = absurd (false≢true (sym (before a (omega arith) (grind arith)) ∙ is))
    same false e = let l : k ≤ a = grind arith in omega (arith, l)
first_by test a n k false is low high before passes later = by (nat_lt a k) refl
  where
    by : (b : Bool) → nat_lt a k ≡ b → find test (range_with_len (a + 1) n) ≡ Some k
    by true e = let l : a < k = grind arith in later (omega (arith, l)) (omega arith)
    by false e = let l : k ≤ a = grind arith in let same : a ≡ k = omega (arith, l) in absurd (false≢true (sym is ∙ ap test same ∙ passes))

pub first_at : (test : ℕ → Bool) (a n k : ℕ) → a ≤ k → k < a + n → ((j : ℕ) → a ≤ j → j < k → test j ≡ false) → test k ≡ true → find test (range_with_len a n) ≡ Some k
first_at test a zero k low high before passes = absurd (omega arith)
first_at test a (suc n) k low high before passes =
    first_by test a n k (test a) refl low high before passes (λ l m. first_at test (a + 1) n k l m (λ j i h. before j (omega arith) h) passes)

pub none_from : (test : ℕ → Bool) (a n : ℕ) → ((j : ℕ) → a ≤ j → j < a + n → test j ≡ false) → find test (range_with_len a n) ≡ None
none_from test a zero none = refl
none_from test a (suc n) none =
    ap (λ b. cond b (Some a) (find test (range_with_len (a + 1) n))) (none a (omega arith) (omega arith)) ∙ none_from test (a + 1) n (λ j l m. none j (omega arith) (omega arith))

few : (n : ℕ) → n ≤ 256 → nat_lt 256 n ≡ false
few n l = grind arith

many : (n : ℕ) → 256 < n → nat_lt 256 n ≡ true
many n l = grind arith

pub first_complex : (size : Sides) (windows : List WindowView) (slot : ℕ) → slot < 32 → ((k : ℕ) → k < slot → rects_needed size windows k ≤ 256) → 256 < rects_needed size windows slot
    → Some (TooComplex slot (rects_needed size windows slot)) ≡ too_complex size windows
unfolding slots
first_complex size windows slot low before passes =
    sym (ap (option_map (λ s. TooComplex s (rects_needed size windows s)))
    (first_at (λ s. nat_lt 256 (rects_needed size windows s)) 0 32 slot (omega arith) (omega arith) (λ j l m. few (rects_needed size windows j) (before j m)) (many (rects_needed size windows slot) passes)))

pub none_complex : (size : Sides) (windows : List WindowView) → ((k : ℕ) → k < 32 → rects_needed size windows k ≤ 256) → None ≡ too_complex size windows
unfolding slots
none_complex size windows all =
    sym (ap (option_map (λ s. TooComplex s (rects_needed size windows s))) (none_from (λ s. nat_lt 256 (rects_needed size windows s)) 0 32 (λ j l m. few (rects_needed size windows j) (all j (omega (arith, m))))))

-- ---- how many rectangles there can be

at_most : (test : ℕ → Bool) (ks : List ℕ) → length (filter test ks) ≤ length ks
at_most test [] = omega arith
at_most test (k ∷ ks) = by (test k) (at_most test ks)
  where
    by : (b : Bool) → length (filter test ks) ≤ length ks → length (cond b (k ∷ filter test ks) (filter test ks)) ≤ suc (length ks)
    by true h = omega arith
    by false h = omega arith

pub few_corners : (size : Sides) (set : Point → Bool) → IsScreen size → rect_count size set ≤ 307200
few_corners size set screen =
    let most = at_most (λ p. is_corner size set (point_of size.w p)) (pixels size) in
    let long = length-range_with_len 0 (pixel_count size) in
    let count = area size.w size.h screen.most_w screen.most_h in
    omega (arith, most, long, count)
  where
    area : (w h : ℕ) → w ≤ 640 → h ≤ 480 → w * h ≤ 307200
    area w h a b = grind arith

pub allocated_on : (size : Sides) (windows : List WindowView) (slot : ℕ) → IsOnScreen size (allocated_points size windows slot)
allocated_on size windows slot p h = (and_parts (is_on_screen size p) (is_slot slot (owner_at windows p)) h).0

-- ---- places of a request

pub first_bad : (rects : List Rect) (k : ℕ) → k < length rects → ((j : ℕ) → j < k → is_bad_place rects j ≡ false) → is_bad_place rects k ≡ true → Some (BadRegion k) ≡ bad_region rects
first_bad rects k low before passes =
    sym (ap (option_map (λ j. BadRegion j)) (first_at (is_bad_place rects) 0 (length rects) k (omega arith) (omega arith) (λ j l m. before j m) passes))

pub none_bad : (rects : List Rect) → ((j : ℕ) → j < length rects → is_bad_place rects j ≡ false) → None ≡ bad_region rects
none_bad rects all = sym (ap (option_map (λ j. BadRegion j)) (none_from (is_bad_place rects) 0 (length rects) (λ j l m. all j (omega (arith, m)))))

pub bad_late : (rects : List Rect) (k : ℕ) → 32 ≤ k → is_bad_place rects k ≡ true
bad_late rects k l = ap (λ b. b || not (is_requestable (get_or rects k no_rect))) (late k l)
  where
    late : (n : ℕ) → 32 ≤ n → nat_le 32 n ≡ true
    late n h = grind arith

either : (a b : Bool) → b ≡ true → (a || b) ≡ true
either true b h = refl
either false b h = h

pub bad_rect : (rects : List Rect) (k : ℕ) (d : Rect) → k < length rects → is_requestable (get_or rects k d) ≡ false → is_bad_place rects k ≡ true
bad_rect rects k d low h = either (nat_le 32 k) (not (is_requestable (get_or rects k no_rect))) (ap (λ r. not (is_requestable r)) (get_or_default rects k no_rect d low) ∙ ap not h)

pub fine_place : (rects : List Rect) (k : ℕ) (d : Rect) → k < length rects → k < 32 → is_requestable (get_or rects k d) ≡ true → is_bad_place rects k ≡ false
fine_place rects k d low early h =
    ap (λ b. b || not (is_requestable (get_or rects k no_rect))) (soon k early) ∙ ap (λ r. not (is_requestable r)) (get_or_default rects k no_rect d low) ∙ ap not h
  where
    soon : (n : ℕ) → n < 32 → nat_le 32 n ≡ false
    soon n l = grind arith
