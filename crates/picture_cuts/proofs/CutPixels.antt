-- The pixels of a rectangle on which a picture has ink are those of its cut.
use Rattle.std.proofs.Common.{◌≡◌, ℕ, zero, suc, ◌+◌, ◌-◌, ◌*◌, ◌/◌, ◌%◌, ◌<◌, ◌≤◌, Bool, true, false, not, ◌&&◌, if◌then◌else◌, List, [], ◌∷◌, ◌++◌, sym, refl, ap, ◌∙◌, arith, ℤ, pos, nat_abs, ◌+ℤ◌, ◌-ℤ◌, ◌≤ℤ◌}
use Rattle.std.specs.Prelude.{slice_index_or}
use Rattle.std.specs.List.{filter, flat_map, range_with_len}
use Rattle.std.proofs.lemmas.Bool.{and_parts, false≢true}
use Rattle.std.proofs.lemmas.Int.{ints}
use Rattle.std.proofs.lemmas.Nat.{div-mul-add, mod-mul-add}
use Rattle.std.proofs.lemmas.List.Elements.{filter-append}
use Rattle.qws_base.specs.Inks.{is_skip}
use Rattle.qws_base.specs.Points.{spans, holds, shifted, minus, point_of}
use Rattle.qws_base.specs.RectPixels.{IsWithin, rect_pixels}
use Rattle.qws_base.specs.Scenes.{has_ink}
use Rattle.qws_base.specs.Sheets.{Sheet, place_in}
use Rattle.qws_base.specs.Sides.{Sides}
use Rattle.qws_base.specs.declared.inks.Ink.TheVariants.{Skip}
use Rattle.qws_base.specs.declared.points.Point.{Point}
use Rattle.qws_base.specs.declared.points.Rect.{Rect}
use Rattle.qws_base.proofs.Integers.{end_in, spans_low, spans_high}
use Rattle.qws_base.proofs.RectPixelLemmas.{IsInside, holds_inside}
use Rattle.picture_cuts.specs.Cuts.{cut_rect, CutLaw}
use Rattle.picture_cuts.proofs.CutPoints.{cut_both, both_cut, cut_within, shared_within}

-- ---- a picture has ink only where it reaches

moved_span : (a b at : ℤ) (n : ℕ) → spans b n (at -ℤ a) ≡ spans (a +ℤ b) n at
moved_span a b at n = grind (arith, ints)

pub reached : (width : ℕ) (origin : Point) (sheet : Sheet) (p : ℕ) → has_ink width origin sheet p ≡ true → holds (shifted origin sheet.reach) (point_of width p) ≡ true
reached width origin sheet p inked = go (holds sheet.reach (minus (point_of width p) origin)) refl inked
  where
    at : Point
    at = minus (point_of width p) origin

    go : (b : Bool) → holds sheet.reach (minus (point_of width p) origin) ≡ b → not (is_skip (if b then slice_index_or sheet.inks (place_in sheet.reach (minus (point_of width p) origin)) Skip else Skip)) ≡ true → holds (shifted origin sheet.reach) (point_of width p) ≡ true
    go true is inked = let r : Rect = sheet.reach in let q : Point = point_of width p in
        ap (λ b. b && spans (origin.y +ℤ r.y) r.h q.y) (sym (moved_span origin.x r.x q.x r.w))
        ∙ ap (λ b. spans r.x r.w (q.x -ℤ origin.x) && b) (sym (moved_span origin.y r.y q.y r.h)) ∙ is
    go false is inked = absurd (false≢true inked)

-- ---- rectangles without pixels

no_columns : (f : ℕ → ℕ) (l : List ℕ) → flat_map (λ i. range_with_len (f i) 0) l ≡ []
no_columns f [] = refl
no_columns f (x ∷ l) = no_columns f l

-- a part without width or height has no pixels
pub no_part : (width : ℕ) (r : Rect) → (0 < r.w → 0 < r.h → ⊥) → rect_pixels width r ≡ []
no_part width r none = go r.w r.h none
  where
    f : ℕ → ℕ
    f i = (nat_abs r.y + i) * width + nat_abs r.x

    go : (w h : ℕ) → (0 < w → 0 < h → ⊥) → flat_map (λ i. range_with_len (f i) w) (range_with_len 0 h) ≡ []
    go zero h none = no_columns f (range_with_len 0 h)
    go (suc w) zero none = refl
    go (suc w) (suc h) none = absurd (none (omega arith) (omega arith))

-- ---- what passes a test in a part alone

-- Of lists side by side, what passes is that of the lists of a part, where in the others nothing passes.
module _ (test : ℕ → Bool) (f g : ℕ → List ℕ) where
  joined_part : (from n skipped kept at : ℕ) → skipped + kept ≤ n → ((j : ℕ) → j < n → (skipped ≤ j → j < skipped + kept → ⊥) → filter test (f (from + j)) ≡ [])
      → ((j : ℕ) → j < kept → filter test (f (from + (skipped + j))) ≡ filter test (g (at + j))) → filter test (flat_map f (range_with_len from n)) ≡ filter test (flat_map g (range_with_len at kept))
  joined_part from zero skipped zero at room none same = refl
  joined_part from zero skipped (suc kept) at room none same = absurd (omega arith)
  joined_part from (suc n) zero (suc kept) at room none same =
      filter-append test (f from) (flat_map f (range_with_len (from + 1) n))
      ∙ ap (λ l. l ++ filter test (flat_map f (range_with_len (from + 1) n)))
      (ap (λ k. filter test (f k)) (let z : from ≡ from + (0 + 0) = omega arith in z) ∙ same 0 (omega arith) ∙ ap (λ k. filter test (g k)) (let z : at + 0 ≡ at = omega arith in z))
      ∙ ap (λ l. filter test (g at) ++ l) (joined_part (from + 1) n zero kept (at + 1) (omega arith)
      (λ j low out. ap (λ k. filter test (f k)) (let z : from + 1 + j ≡ from + suc j = omega arith in z) ∙ none (suc j) (omega arith) (λ a b. out (omega arith) (omega arith)))
      (λ j low. ap (λ k. filter test (f k)) (let z : from + 1 + (0 + j) ≡ from + (0 + suc j) = omega arith in z) ∙ same (suc j) (omega arith) ∙ ap (λ k. filter test (g k)) (let z : at + suc j ≡ at + 1 + j = omega arith in z)))
      ∙ sym (filter-append test (g at) (flat_map g (range_with_len (at + 1) kept)))
  joined_part from (suc n) zero zero at room none same =
      filter-append test (f from) (flat_map f (range_with_len (from + 1) n))
      ∙ ap (λ l. l ++ filter test (flat_map f (range_with_len (from + 1) n))) (ap (λ k. filter test (f k)) (let z : from ≡ from + 0 = omega arith in z) ∙ none 0 (omega arith) (λ a b. omega arith))
      ∙ joined_part (from + 1) n zero zero at (omega arith) (λ j low out. ap (λ k. filter test (f k)) (let z : from + 1 + j ≡ from + suc j = omega arith in z) ∙ none (suc j) (omega arith) (λ a b. omega arith)) (λ j low. absurd (omega arith))
  joined_part from (suc n) (suc skipped) kept at room none same =
      filter-append test (f from) (flat_map f (range_with_len (from + 1) n))
      ∙ ap (λ l. l ++ filter test (flat_map f (range_with_len (from + 1) n))) (ap (λ k. filter test (f k)) (let z : from ≡ from + 0 = omega arith in z) ∙ none 0 (omega arith) (λ a b. omega arith))
      ∙ joined_part (from + 1) n skipped kept at (omega arith)
      (λ j low out. ap (λ k. filter test (f k)) (let z : from + 1 + j ≡ from + suc j = omega arith in z) ∙ none (suc j) (omega arith) (λ a b. out (omega arith) (omega arith)))
      (λ j low. ap (λ k. filter test (f k)) (let z : from + 1 + (skipped + j) ≡ from + (suc skipped + j) = omega arith in z) ∙ same j low)

singles : (l : List ℕ) → flat_map (λ k. k ∷ []) l ≡ l
singles [] = refl
singles (x ∷ l) = ap (λ k. x ∷ k) (singles l)

-- of numbers side by side, what passes is in a part
filter_part : (test : ℕ → Bool) (from n skipped kept : ℕ) → skipped + kept ≤ n → ((j : ℕ) → j < n → test (from + j) ≡ true → (skipped ≤ j) × (j < skipped + kept))
    → filter test (range_with_len from n) ≡ filter test (range_with_len (from + skipped) kept)
filter_part test from n skipped kept room only =
    ap (filter test) (sym (singles (range_with_len from n)))
    ∙ joined_part test (λ k. k ∷ []) (λ k. k ∷ []) from n skipped kept (from + skipped) room (λ j low out. go j low out (test (from + j)) refl) (λ j low. ap (λ k. filter test (k ∷ [])) (let z : from + (skipped + j) ≡ from + skipped + j = omega arith in z))
    ∙ ap (filter test) (singles (range_with_len (from + skipped) kept))
  where
    go : (j : ℕ) → j < n → (skipped ≤ j → j < skipped + kept → ⊥) → (b : Bool) → test (from + j) ≡ b → (if b then (from + j) ∷ [] else []) ≡ []
    go j low out true is = let at = only j low is in absurd (out at.0 at.1)
    go j low out false is = refl

-- ---- the pixels with ink

offset_in : (a low : ℤ) (n k : ℕ) → pos 0 ≤ℤ a → a ≤ℤ low → (low +ℤ pos k) ≤ℤ (a +ℤ pos n) → (nat_abs a + (nat_abs low - nat_abs a) ≡ nat_abs low) × (nat_abs low - nat_abs a + k ≤ n)
offset_in a low n k positive first last = (omega (arith, ints), omega (arith, ints))

-- a place of a stretch that is also one of a part of it
part_place : (a low : ℤ) (k x j : ℕ) → pos 0 ≤ℤ a → a ≤ℤ low → spans low k (pos x) ≡ true → x ≡ nat_abs a + j → (nat_abs low - nat_abs a ≤ j) × (j < nat_abs low - nat_abs a + k)
part_place a low k x j positive first on is = let from = spans_low low (pos x) k on in let to = spans_high low (pos x) k on in (omega (arith, ints), omega (arith, ints))

module _ (size : Sides) (origin : Point) (sheet : Sheet) (r : Rect) (on : IsWithin size r) where
  abbrev part : Rect
  part = cut_rect origin sheet.reach r

  abbrev test : ℕ → Bool
  test = has_ink size.w origin sheet

  -- the columns of the rectangle before those of its cut, and the rows
  abbrev left : ℕ
  left = nat_abs part.x - nat_abs r.x

  abbrev above : ℕ
  above = nat_abs part.y - nat_abs r.y

  across : (r.x ≤ℤ part.x) × ((part.x +ℤ pos part.w) ≤ℤ (r.x +ℤ pos r.w))
  across = shared_within r.x r.w (origin.x +ℤ sheet.reach.x) sheet.reach.w

  down : (r.y ≤ℤ part.y) × ((part.y +ℤ pos part.h) ≤ℤ (r.y +ℤ pos r.h))
  down = shared_within r.y r.h (origin.y +ℤ sheet.reach.y) sheet.reach.h

  columns : (nat_abs r.x + left ≡ nat_abs part.x) × (left + part.w ≤ r.w)
  columns = offset_in r.x part.x r.w part.w on.from_left across.0 across.1

  rows : (nat_abs r.y + above ≡ nat_abs part.y) × (above + part.h ≤ r.h)
  rows = offset_in r.y part.y r.h part.h on.from_top down.0 down.1

  abbrev row_start : ℕ → ℕ
  row_start i = (nat_abs r.y + i) * size.w + nat_abs r.x

  -- a pixel with ink is in a row and a column of the cut
  inked_place : (i j : ℕ) → i < r.h → j < r.w → test (row_start i + j) ≡ true → ((above ≤ i) × (i < above + part.h)) × ((left ≤ j) × (j < left + part.w))
  inked_place i j low_i low_j inked =
      let p : ℕ = row_start i + j in
      let width = end_in r.x r.w size.w on.from_left on.to_right in
      let inside : IsInside size r p = record { i = i; j = j; low = low_i; left = low_j; is = refl } in
      let has = both_cut origin sheet.reach r (point_of size.w p) (holds_inside size r p on inside).1 (reached size.w origin sheet p inked) in
      let parts = and_parts (spans part.x part.w (pos (p % size.w))) (spans part.y part.h (pos (p / size.w))) has in
      let same : p ≡ (nat_abs r.y + i) * size.w + (nat_abs r.x + j) = omega arith in
      let column : p % size.w ≡ nat_abs r.x + j = ap (λ n. n % size.w) same ∙ mod-mul-add (nat_abs r.y + i) size.w (nat_abs r.x + j) (omega arith) in
      let row : p / size.w ≡ nat_abs r.y + i = ap (λ n. n / size.w) same ∙ div-mul-add (nat_abs r.y + i) size.w (nat_abs r.x + j) (omega arith) in
      (part_place r.y part.y part.h (p / size.w) i on.from_top down.0 parts.1 row, part_place r.x part.x part.w (p % size.w) j on.from_left across.0 parts.0 column)

  one_row : (i : ℕ) → i < r.h → filter test (range_with_len (row_start i) r.w) ≡ filter test (range_with_len (row_start i + left) part.w)
  one_row i low = filter_part test (row_start i) r.w left part.w columns.1 (λ j low_j inked. (inked_place i j low low_j inked).1)

  other_row : (i : ℕ) → i < r.h → (above ≤ i → i < above + part.h → ⊥) → filter test (range_with_len (row_start i) r.w) ≡ []
  other_row i low out = filter_part test (row_start i) r.w 0 0 (omega arith) (λ j low_j inked. let at = (inked_place i j low low_j inked).0 in absurd (out at.0 at.1))

  part_start : (i : ℕ) → row_start (above + i) + left ≡ (nat_abs part.y + i) * size.w + nat_abs part.x
  part_start i =
      let same : row_start (above + i) + left ≡ (nat_abs r.y + (above + i)) * size.w + (nat_abs r.x + left) = omega arith in
      let y : nat_abs r.y + (above + i) ≡ nat_abs part.y + i = (let e = rows.0 in omega arith) in
      same ∙ ap (λ n. n * size.w + (nat_abs r.x + left)) y ∙ ap (λ n. (nat_abs part.y + i) * size.w + n) columns.0

  pub inked_pixels : filter test (rect_pixels size.w part) ≡ filter test (rect_pixels size.w r)
  inked_pixels = sym (joined_part test (λ i. range_with_len (row_start i) r.w) (λ i. range_with_len ((nat_abs part.y + i) * size.w + nat_abs part.x) part.w) 0 r.h above part.h 0 rows.1
      (λ i low out. ap (λ k. filter test (range_with_len (row_start k) r.w)) (let z : 0 + i ≡ i = omega arith in z) ∙ other_row i low out)
      (λ i low. ap (λ k. filter test (range_with_len (row_start k) r.w)) (let z : 0 + (above + i) ≡ above + i = omega arith in z)
      ∙ one_row (above + i) (let e = rows.1 in omega arith) ∙ ap (λ k. filter test (range_with_len k part.w)) (part_start i ∙ ap (λ k. (nat_abs part.y + k) * size.w + nat_abs part.x) (let z : i ≡ 0 + i = omega arith in z))))

-- ---- the law

both_tests : (cut first second : Bool) → (cut ≡ true → (first ≡ true) × (second ≡ true)) → (first ≡ true → second ≡ true → cut ≡ true) → cut ≡ (first && second)
both_tests true first second has all = let both = has refl in sym (ap (λ b. b && second) both.0 ∙ both.1)
both_tests false true true has all = all refl refl
both_tests false true false has all = refl
both_tests false false second has all = refl

pub cut_law : CutLaw
cut_law = record {
  points = λ origin reach r p. both_tests (holds (cut_rect origin reach r) p) (holds r p) (holds (shifted origin reach) p) (cut_both origin reach r p) (both_cut origin reach r p);
  within = cut_within;
  inked = inked_pixels;
}
