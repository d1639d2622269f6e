-- The rectangles of a canonical list begin at the corners of its set.
use Rattle.band_regions.proofs.Words.{◌≡◌, ℕ, ◌+◌, ◌<◌, ◌≤◌, true, false, List, [], ◌∷◌, length, refl, sym, ap, ◌∙◌, subst, inl, inr, arith, Bool, zero, suc, map, ⊎_elim, ◌*◌, ◌/◌, ◌%◌, not, mul_comm, ℤ, pos, ◌-ℤ◌, nat_abs, list_all, range_with_len, ints, length-map, spans, any_holds, is_on_screen, pixels, pixel_count, point_of, HasPixels, Precedes, IsRegionOf, IsOnScreen, is_as_above, is_corner, corners, rect_count, Point, Rect, equal_from, equal_to, false≢true, and_parts, and_from, cases_eq, false_from_ne_true, not-true, mul-add-lt, div-add-mod', Sides, all_pairs_map}
use Rattle.band_regions.proofs.ListLemmas.{Pairs, In, pairs_of, all_pairs_of, pairs_under, each_in, each_map, each_from_in, same_members, each_passes, pairs_filter, filter_in}
use Rattle.band_regions.proofs.Uniqueness.{at, IsCornerOf, piece_corner, corner_top, corner_left, IsGood, good, holder, piece}
use Rattle.qws_base.proofs.Integers.{within}
use Rattle.qws_base.proofs.PixelLemmas.{pixel_at}
use Rattle.std.proofs.Math.Path.{fun_ext}
use Rattle.std.proofs.lemmas.Bool.{cases_Bool}
use Rattle.std.proofs.lemmas.List.FromFn.{length-range_with_len, get_or-range_with_len}

-- ---- a range of numbers

range_ascends : (a n : ℕ) → Pairs ◌<◌ (range_with_len a n)
range_ascends a n = pairs_of ◌<◌ _ (λ i j d l m. let k : j < n = omega (arith, length-range_with_len a n) in omega (arith, get_or-range_with_len a n i d (omega arith), get_or-range_with_len a n j d k))

in_range : (a n k : ℕ) → a ≤ k → k < a + n → In k (range_with_len a n)
in_range a zero k l m = absurd (omega arith)
in_range a (suc n) k l m = ⊎_elim inl (λ (ne : k ≡ a → ⊥). inr (in_range (a + 1) n k (omega (arith, ne)) (omega arith))) (cases_eq k a)

all_in : (test : ℕ → Bool) (ks : List ℕ) (k : ℕ) → list_all test ks ≡ true → In k ks → test k ≡ true
all_in test [] k h m = absurd m
all_in test (j ∷ js) k h (inl e) = ap test e ∙ (and_parts _ _ h).0
all_in test (j ∷ js) k h (inr m) = all_in test js k (and_parts (test j) _ h).1 m

pub all_from : (test : ℕ → Bool) (a n : ℕ) → ((k : ℕ) → test k ≡ true) → list_all test (range_with_len a n) ≡ true
all_from test a zero h = refl
all_from test a (suc n) h = and_from _ _ (h a) (all_from test (a + 1) n h)

in_map : {X : Type 0} (f : X → ℕ) (xs : List X) (x : X) → In x xs → In (f x) (map f xs)
in_map f [] x m = absurd m
in_map f (y ∷ ys) x (inl e) = inl (ap f e)
in_map f (y ∷ ys) x (inr m) = inr (in_map f ys x m)

-- ---- the pixel at which a rectangle begins

abbrev corner_of : Sides → Rect → ℕ
corner_of size r = nat_abs r.y * size.w + nat_abs r.x

corner_place : (size : Sides) (r : Rect) → is_on_screen size (at r.x r.y) ≡ true → (corner_of size r < pixel_count size) × (point_of size.w (corner_of size r) ≡ at r.x r.y)
corner_place size r h = let p = pixel_at size (at r.x r.y) h in
    subst (λ k. (k < pixel_count size) × (point_of size.w k ≡ at r.x r.y)) (sym (div-add-mod' p.pixel size.w) ∙ ap (λ (q : Point). nat_abs q.y * size.w + nat_abs q.x) p.point) (p.below, p.point)

abbrev IsPlaced : Sides → Rect → Type 0
IsPlaced size r = HasPixels r × (is_on_screen size (at r.x r.y) ≡ true)

precedes_below : (size : Sides) (r s : Rect) → IsPlaced size r → IsPlaced size s → Precedes r s → corner_of size r < corner_of size s
precedes_below size r s p q (inl same) = let row : nat_abs r.y * size.w ≡ nat_abs s.y * size.w = ap (λ y. nat_abs y * size.w) same.0 in let left : nat_abs r.x < nat_abs s.x = grind (arith, ints) in omega arith
precedes_below size r s p q (inr above) = let up : nat_abs r.y < nat_abs s.y = grind (arith, ints) in let column : nat_abs r.x < size.w = grind (arith, ints) in
    omega (arith, mul-add-lt (nat_abs r.y) size.w (nat_abs r.x) (nat_abs s.y) up column, mul_comm size.w (nat_abs s.y))

-- ---- corners as the definition tests them

module _ (size : Sides) (set : Point → Bool) (on : IsOnScreen size set) where
  off : (x y : ℤ) → spans (pos 0) size.w x ≡ false → set (at x y) ≡ false
  off x y f = false_from_ne_true _ (λ e. false≢true (sym f ∙ (and_parts _ _ (on (at x y) e)).0))

  alike : (y : ℤ) → is_as_above size set y ≡ true → (x : ℤ) → set (at x (y -ℤ pos 1)) ≡ set (at x y)
  alike y h x = ⊎_elim (λ (e : spans (pos 0) size.w x ≡ true). let k = within size.w x e in subst (λ u. set (at u (y -ℤ pos 1)) ≡ set (at u y)) k.same (sym (equal_from _ _ (all_in _ _ _ h (in_range 0 size.w _ (omega arith) (omega arith))))))
      (λ (f : spans (pos 0) size.w x ≡ false). off x _ f ∙ sym (off x y f)) (cases_Bool _)

  corner_from : {x y : ℤ} → IsCornerOf set x y → is_corner size set (at x y) ≡ true
  corner_from {x} {y} c = and_from _ _ (and_from _ _ c.there (ap not c.left_out)) (ap not (false_from_ne_true _ (λ h. c.differs (alike y h))))

  corner_parts : (x y : ℤ) → is_corner size set (at x y) ≡ true → IsCornerOf set x y
  corner_parts x y h = let outer = and_parts _ _ h in let inner = and_parts _ _ outer.0 in
      record { there = inner.0; left_out = not-true _ inner.1; differs = λ same. false≢true (sym (not-true _ outer.1) ∙ all_from _ 0 size.w (λ k. equal_to _ _ (sym (same (pos k))))) }

-- the corners of its set are the pixels at which the rectangles of a canonical list begin, in their order
module _ (size : Sides) (rects : List Rect) (g : IsGood rects) (on : IsOnScreen size (any_holds rects)) where
  begins_there : (r : Rect) → In r rects → is_on_screen size (at r.x r.y) ≡ true
  begins_there r m = on (at r.x r.y) (piece_corner (piece rects g r m)).there

  into_corners : (r : Rect) → In r rects → In (corner_of size r) (corners size (any_holds rects))
  into_corners r m = let place = corner_place size r (begins_there r m) in
      filter_in _ (pixels size) _ (in_range 0 (pixel_count size) _ (omega arith) (omega arith)) (ap (is_corner size (any_holds rects)) place.1 ∙ corner_from size _ on (piece_corner (piece rects g r m)))

  from_corners : (k : ℕ) → In k (corners size (any_holds rects)) → In k (map (corner_of size) rects)
  from_corners k m = let c = corner_parts size (any_holds rects) on (pos (k % size.w)) (pos (k / size.w)) (each_in _ _ k (each_passes _ (pixels size)) m) in let found = holder rects _ _ c.there in let its = found.1 in
      let p = piece rects g found.0 its.member in let number : corner_of size found.0 ≡ k = rw (corner_top p c its.row, corner_left p c its.column its.row) (div-add-mod' k size.w) in
      subst (λ n. In n (map (corner_of size) rects)) number (in_map (corner_of size) rects _ its.member)

  ascend : Pairs ◌<◌ (map (corner_of size) rects)
  ascend = pairs_of ◌<◌ _ (all_pairs_map (λ r s. corner_of size r < corner_of size s) ◌<◌ (corner_of size) (λ r s l. l) rects (all_pairs_of _ rects
      (pairs_under (IsPlaced size) Precedes (λ r s. corner_of size r < corner_of size s) (precedes_below size) rects (each_from_in _ rects (λ r m. ((piece rects g r m).pixels, begins_there r m))) g.sorted)))

  corners_are : map (corner_of size) rects ≡ corners size (any_holds rects)
  corners_are = same_members ◌<◌ (λ a b l m. omega arith) _ _ ascend (pairs_filter ◌<◌ _ _ (range_ascends 0 (pixel_count size)))
      (λ k m. each_in (λ n. In n (corners size (any_holds rects))) _ k (each_map (λ r. In (corner_of size r) (corners size (any_holds rects))) _ (corner_of size) (λ r n. n) rects (each_from_in _ rects into_corners)) m) from_corners

-- a canonical list has as many rectangles as its set has corners
pub count_is : (size : Sides) (rects : List Rect) (set : Point → Bool) → IsOnScreen size set → IsRegionOf rects set → length rects ≡ rect_count size set
count_is size rects set on region = subst (λ s. IsOnScreen size s → length rects ≡ rect_count size s) (fun_ext region.points) (λ on. sym (length-map rects (corner_of size)) ∙ ap length (corners_are size rects (good rects region.canonical) on)) on
