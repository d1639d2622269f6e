-- A canonical list is determined by its points.
use Rattle.band_regions.proofs.Words.{◌≡◌, ◌<◌, ◌≤◌, false_from_ne_true, true, false, ◌||◌, ◌&&◌, ◌⊎◌, List, [], ◌∷◌, refl, sym, ap, ◌∙◌, subst, inl, inr, arith, Bool, cond, map, ℤ, pos, ◌≤ℤ◌, ◌-ℤ◌, Each, filter, ints, by_lt_z, recursion_from_All, spans, holds, any_holds, bottom, HasPixels, Precedes, right, span_of, starts_at, ends_at, IsCanonical, Point, Rect, IsLeftOf, has_column, and_true, and_false, or_false, same_test, eq_test, false≢true, and_parts, and_from}
use Rattle.band_regions.proofs.ListLemmas.{Pairs, In, pairs_of, each_in, each_from_in, each_weaker, each_both, pairs_under, pairs_in, same_members, each_filter, each_passes, pairs_filter, filter_in, any_in, any_from_in, any_none, nil_of_map}
use Rattle.std.proofs.Math.Path.{fun_ext}

-- ---- rows that have the same columns have the same spans

-- no column of the first span or left of it is among the others
none_later : (r : Rect) (xs : List Rect) (c : ℤ) → Each (IsLeftOf r) xs → c ≤ℤ right r → has_column xs c ≡ false
none_later r xs c h k = any_none _ xs (each_weaker (IsLeftOf r) _ (λ s l. grind (arith, ints)) xs h)

begins : (r : Rect) (rs : List Rect) → HasPixels r → has_column (r ∷ rs) r.x ≡ true
begins r rs h = grind (arith, ints)

same_first : (r s : Rect) → HasPixels r → HasPixels s → ((c : ℤ) → c ≤ℤ right r → c ≤ℤ right s → spans r.x r.w c ≡ spans s.x s.w c) → span_of r ≡ span_of s
same_first r s p q same = by_lt_z r.x s.x (λ l. absurd (grind (arith, ints, same r.x))) (λ l. by_lt_z s.x r.x (λ m. absurd (grind (arith, ints, same s.x)))
    (λ m. by_lt_z (right r) (right s) (λ k. absurd (grind (arith, ints, same (right r)))) (λ k. grind (arith, ints, same (right s)))))

same_head : (r s : Rect) (rs ss : List Rect) → HasPixels r → HasPixels s → Each (IsLeftOf r) rs → Each (IsLeftOf s) ss → ((c : ℤ) → has_column (r ∷ rs) c ≡ has_column (s ∷ ss) c) → span_of r ≡ span_of s
same_head r s rs ss p q h k same = same_first r s p q (λ c l m. simp or_false at (rw (none_later r rs c h l, none_later s ss c k m) at (same c)))

same_rest : (r s : Rect) (rs ss : List Rect) → span_of r ≡ span_of s → Each (IsLeftOf r) rs → Each (IsLeftOf s) ss → ((c : ℤ) → has_column (r ∷ rs) c ≡ has_column (s ∷ ss) c) → (c : ℤ) → has_column rs c ≡ has_column ss c
same_rest r s rs ss e h k same c = by_lt_z (right r) c (λ l. grind (arith, ints, same c)) (λ l. none_later r rs c h l ∙ sym (none_later s ss c k (grind (arith, ints))))

pub same_spans : (xs ys : List Rect) → Each HasPixels xs → Pairs IsLeftOf xs → Each HasPixels ys → Pairs IsLeftOf ys → ((c : ℤ) → has_column xs c ≡ has_column ys c) → map span_of xs ≡ map span_of ys
same_spans [] [] w g v k same = refl
same_spans [] (s ∷ ss) w g v k same = absurd (false≢true (same s.x ∙ begins s ss v.0))
same_spans (r ∷ rs) [] w g v k same = absurd (false≢true (sym (same r.x) ∙ begins r rs w.0))
same_spans (r ∷ rs) (s ∷ ss) w g v k same = let e : span_of r ≡ span_of s = same_head r s rs ss w.0 v.0 g.0 k.0 same in
    let f = same_spans rs ss w.1 g.1 v.1 k.1 (same_rest r s rs ss e g.0 k.0 same) in cc

-- ---- a rectangle that its set determines

abbrev pub at : ℤ → ℤ → Point
at x y = record { x = x; y = y }

-- a rectangle that a set of points determines: as wide and as high as it can be, in rows that are alike
pub record IsPiece (set : Point → Bool) (r : Rect) : Type 0 where
  pub pixels : HasPixels r
  pub inside : (x y : ℤ) → spans r.x r.w x ≡ true → spans r.y r.h y ≡ true → set (at x y) ≡ true
  pub left_out : (y : ℤ) → spans r.y r.h y ≡ true → set (at (r.x -ℤ pos 1) y) ≡ false
  pub right_out : (y : ℤ) → spans r.y r.h y ≡ true → set (at (right r) y) ≡ false
  pub alike : (x y z : ℤ) → spans r.y r.h y ≡ true → spans r.y r.h z ≡ true → set (at x y) ≡ set (at x z)
  pub above_differs : ((x : ℤ) → set (at x (r.y -ℤ pos 1)) ≡ set (at x r.y)) → ⊥
  pub below_differs : ((x : ℤ) → set (at x (bottom r -ℤ pos 1)) ≡ set (at x (bottom r))) → ⊥

-- where a rectangle of a set begins: the set hasn't the place to its left, nor the same columns in the row above
pub record IsCornerOf (set : Point → Bool) (x y : ℤ) : Type 0 where
  pub there : set (at x y) ≡ true
  pub left_out : set (at (x -ℤ pos 1) y) ≡ false
  pub differs : ((u : ℤ) → set (at u (y -ℤ pos 1)) ≡ set (at u y)) → ⊥

-- ---- two pieces that share a corner are one

module _ {set : Point → Bool} {r : Rect} (p : IsPiece set r) where
  first_row : spans r.y r.h r.y ≡ true
  first_row = let h = p.pixels in grind (arith, ints)

  pub piece_corner : IsCornerOf set r.x r.y
  piece_corner = record { there = p.inside r.x r.y (let h = p.pixels in grind (arith, ints)) first_row; left_out = p.left_out r.y first_row; differs = p.above_differs }

  pub corner_top : {x y : ℤ} → IsCornerOf set x y → spans r.y r.h y ≡ true → r.y ≡ y
  corner_top {x} {y} c h = by_lt_z r.y y (λ l. absurd (c.differs (λ u. p.alike u (y -ℤ pos 1) y (grind (arith, ints)) h))) (λ l. grind (arith, ints))

  pub corner_left : {x y : ℤ} → IsCornerOf set x y → spans r.x r.w x ≡ true → spans r.y r.h y ≡ true → r.x ≡ x
  corner_left {x} {y} c k h = by_lt_z r.x x (λ l. absurd (false≢true (sym c.left_out ∙ p.inside (x -ℤ pos 1) y (grind (arith, ints)) h))) (λ l. grind (arith, ints))

  -- a piece that begins at the same place is neither wider nor higher
  no_larger : {s : Rect} → IsPiece set s → s.x ≡ r.x → s.y ≡ r.y → (s.w ≤ r.w) × (s.h ≤ r.h)
  no_larger {s} q e f = let pixels = p.pixels in let wider : r.w < s.w → ⊥ = λ l. false≢true (sym (p.right_out r.y first_row) ∙ q.inside (right r) r.y (grind (arith, ints)) (grind (arith, ints))) in
      let higher : r.h < s.h → ⊥ = λ l. p.below_differs (λ x. q.alike x (bottom r -ℤ pos 1) (bottom r) (grind (arith, ints)) (grind (arith, ints))) in (omega (arith, wider), omega (arith, higher))

same_piece : {set : Point → Bool} {r s : Rect} → IsPiece set r → IsPiece set s → holds s (at r.x r.y) ≡ true → s ≡ r
same_piece {set} {r} {s} p q h = let parts = and_parts _ _ h in let x = corner_left q (piece_corner p) parts.0 parts.1 in let y = corner_top q (piece_corner p) parts.1 in
    let one = no_larger p q x y in let other = no_larger q p (sym x) (sym y) in let w : s.w ≡ r.w = omega arith in let h : s.h ≡ r.h = omega arith in λ i. record { x = x i; y = y i; w = w i; h = h i }

-- ---- a rectangle of a canonical list is such a piece

-- a canonical list, its facts by recursion
pub record IsGood (rects : List Rect) : Type 0 where
  pub pixels : Each HasPixels rects
  pub sorted : Pairs Precedes rects
  pub unmerged : (y : ℤ) → map span_of (filter (ends_at y) rects) ≡ map span_of (filter (starts_at y) rects) → filter (starts_at y) rects ≡ []

pub good : (rects : List Rect) → IsCanonical rects → IsGood rects
good rects h = record { pixels = recursion_from_All _ _ h.some_pixels; sorted = pairs_of _ _ h.sorted; unmerged = h.unmerged }

abbrev AreOrdered : Rect → Rect → Type 0
AreOrdered r s = (r ≡ s) ⊎ (Precedes r s ⊎ Precedes s r)

-- two that have a row in common are one band
same_rows : (r s : Rect) (y : ℤ) → AreOrdered r s → spans r.y r.h y ≡ true → spans s.y s.h y ≡ true → (z : ℤ) → spans s.y s.h z ≡ spans r.y r.h z
same_rows r s y o h k z = grind (arith, ints)

-- no other has the place at the left of a row, nor the one at its right end
not_beside : (r s : Rect) (x y : ℤ) → AreOrdered r s → spans r.y r.h y ≡ true → spans s.y s.h y ≡ true → (x ≡ (r.x -ℤ pos 1)) ⊎ (x ≡ right r) → spans s.x s.w x ≡ true → ⊥
not_beside r s x y o h k e m = grind (arith, ints)

-- the row y is the first of a band or after it, and each band that has the row before has its last
record IsCut (y : ℤ) (s : Rect) : Type 0 where
  pub ends : ends_at y s ≡ spans s.y s.h (y -ℤ pos 1)
  pub starts : starts_at y s ≡ spans s.y s.h y

cut : (r s : Rect) → HasPixels r → HasPixels s → AreOrdered r s → IsCut r.y s × IsCut (bottom r) s
cut r s p q o = (record { ends = grind (arith, ints); starts = grind (arith, ints) }, record { ends = grind (arith, ints); starts = grind (arith, ints) })

-- ---- which rectangle holds a point

pub record IsHolder (rects : List Rect) (x y : ℤ) (s : Rect) : Type 0 where
  pub member : In s rects
  pub column : spans s.x s.w x ≡ true
  pub row : spans s.y s.h y ≡ true

module _ (rects : List Rect) (x y : ℤ) where
  pub holder : any_holds rects (at x y) ≡ true → (s : Rect) × IsHolder rects x y s
  holder h = let found = any_in _ rects h in let parts = and_parts _ _ found.2 in (found.0, record { member = found.1; column = parts.0; row = parts.1 })

  held : {s : Rect} → IsHolder rects x y s → any_holds rects (at x y) ≡ true
  held h = any_from_in _ rects _ h.member (and_from _ _ h.column h.row)

  not_held : ((s : Rect) → IsHolder rects x y s → ⊥) → any_holds rects (at x y) ≡ false
  not_held h = false_from_ne_true _ (λ e. let found = holder e in h found.0 found.1)

-- a test that tells whether a rectangle has a row keeps the spans of that row
row_columns : (test : Rect → Bool) (rects : List Rect) (z c : ℤ) → Each (λ s. test s ≡ spans s.y s.h z) rects → has_column (filter test rects) c ≡ any_holds rects (at c z)
row_columns test [] z c h = refl
row_columns test (s ∷ ss) z c h = rw h.0 (kept (spans s.y s.h z) (row_columns test ss z c h.1))
  where
    kept : (b : Bool) → has_column (filter test ss) c ≡ any_holds ss (at c z) → has_column (cond b (s ∷ filter test ss) (filter test ss)) c ≡ ((spans s.x s.w c && b) || any_holds ss (at c z))
    kept true e = rw (and_true, e)
    kept false e = rw and_false e

module _ (rects : List Rect) (g : IsGood rects) where
  pixels_of : (r : Rect) → In r rects → HasPixels r
  pixels_of r m = each_in HasPixels rects r g.pixels m

  ordered : (r s : Rect) → In r rects → In s rects → AreOrdered r s
  ordered r s m n = pairs_in Precedes rects r s g.sorted m n

  alike_one : (r : Rect) (x y z : ℤ) → In r rects → spans r.y r.h y ≡ true → spans r.y r.h z ≡ true → any_holds rects (at x y) ≡ true → any_holds rects (at x z) ≡ true
  alike_one r x y z m h k e = let found = holder rects x y e in let its = found.1 in
      held rects x z (record { member = its.member; column = its.column; row = same_rows r found.0 y (ordered r found.0 m its.member) h its.row z ∙ k })

  row_gaps : (test : Rect → Bool) (z : ℤ) → Each (λ s. test s ≡ spans s.y s.h z) rects → Pairs IsLeftOf (filter test rects)
  row_gaps test z h = pairs_under (λ s. spans s.y s.h z ≡ true) Precedes IsLeftOf (λ r s a b p. grind (arith, ints)) _ (each_both _ _ _ (λ s e p. sym e ∙ p) _ (each_filter _ test rects h) (each_passes test rects)) (pairs_filter Precedes test rects g.sorted)

  -- where the rows at a cut are alike, the spans that end there are those that start there
  same_at_cut : (y : ℤ) → ((s : Rect) → In s rects → IsCut y s) → ((x : ℤ) → any_holds rects (at x (y -ℤ pos 1)) ≡ any_holds rects (at x y)) → map span_of (filter (ends_at y) rects) ≡ map span_of (filter (starts_at y) rects)
  same_at_cut y cut same = let ends = each_from_in (λ s. ends_at y s ≡ spans s.y s.h (y -ℤ pos 1)) rects (λ s m. (cut s m).ends) in let starts = each_from_in (λ s. starts_at y s ≡ spans s.y s.h y) rects (λ s m. (cut s m).starts) in
      same_spans _ _ (each_filter _ _ rects g.pixels) (row_gaps _ _ ends) (each_filter _ _ rects g.pixels) (row_gaps _ y starts) (λ c. row_columns _ rects _ c ends ∙ same c ∙ sym (row_columns _ rects y c starts))

  cuts : (r s : Rect) → In r rects → In s rects → IsCut r.y s × IsCut (bottom r) s
  cuts r s m n = cut r s (pixels_of r m) (pixels_of s n) (ordered r s m n)

  pub piece : (r : Rect) → In r rects → IsPiece (any_holds rects) r
  piece r m = record {
    pixels = pixels_of r m;
    inside = λ x y h k. held rects x y (record { member = m; column = h; row = k });
    left_out = λ y h. not_held rects _ y (λ s k. not_beside r s _ y (ordered r s m k.member) h k.row (inl refl) k.column);
    right_out = λ y h. not_held rects _ y (λ s k. not_beside r s _ y (ordered r s m k.member) h k.row (inr refl) k.column);
    alike = λ x y z h k. same_test _ _ (alike_one r x y z m h k) (alike_one r x z y m k h);
    above_differs = λ same. subst (In r) (g.unmerged r.y (same_at_cut r.y (λ s n. (cuts r s m n).0) same)) (filter_in _ rects r m (eq_test r.y r.y refl));
    below_differs = λ same. let spans_same = same_at_cut (bottom r) (λ s n. (cuts r s m n).1) same in
        subst (In r) (nil_of_map span_of _ (spans_same ∙ ap (map span_of) (g.unmerged (bottom r) spans_same))) (filter_in _ rects r m (eq_test (bottom r) (bottom r) refl));
  }

-- ---- two sorted lists with the same members are one

abbrev IsBefore : Rect → Rect → Type 0
IsBefore r s = HasPixels r × HasPixels s × Precedes r s

not_both : (r s : Rect) → IsBefore r s → IsBefore s r → ⊥
not_both r s a b = grind (arith, ints)

in_order : (xs : List Rect) → IsGood xs → Pairs IsBefore xs
in_order xs g = pairs_under HasPixels Precedes IsBefore (λ r s p q k. (p, q, k)) xs g.pixels g.sorted

into : (xs ys : List Rect) → IsGood xs → IsGood ys → any_holds xs ≡ any_holds ys → (r : Rect) → In r xs → In r ys
into xs ys g k same r m = let mine = piece xs g r m in let found = holder ys r.x r.y (subst (λ set. set (at r.x r.y) ≡ true) same (piece_corner mine).there) in let its = found.1 in
    subst (λ t. In t ys) (same_piece mine (subst (λ set. IsPiece set found.0) (sym same) (piece ys k found.0 its.member)) (and_from _ _ its.column its.row)) its.member

-- two canonical lists that hold the same points are one
pub same_lists : (xs ys : List Rect) → IsCanonical xs → IsCanonical ys → ((p : Point) → any_holds xs p ≡ any_holds ys p) → xs ≡ ys
same_lists xs ys h k same = let g = good xs h in let f = good ys k in let e = fun_ext same in same_members IsBefore not_both xs ys (in_order xs g) (in_order ys f) (into xs ys g f e) (into ys xs f g (sym e))
