-- Pixels that take their inks one after another, and the pixels of rectangles.
use Rattle.std.proofs.Common.{◌≡◌, ◌≢◌, ℕ, zero, suc, ◌+◌, ◌<◌, ◌≤◌, Bool, true, false, not, cond, if◌then◌else◌, List, [], ◌∷◌, ◌++◌, length, take, drop, get_or, set, append-nil, refl, sym, ap, ◌∙◌, subst, arith, ◌<ℤ◌, ◌≤ℤ◌, ⊎_elim}
use Rattle.std.specs.Prelude.{All, slice_index}
use Rattle.std.specs.List.{filter, range_with_len}
use mathlib.Core.Option.{some, some-injective, some-ne-none}
use lib.ListN.{get_elem?}
use Rattle.std.proofs.lemmas.Bool.{cases_eq, cases_lt, and_parts, false≢true}
use Rattle.std.proofs.lemmas.Int.{ints}
use Rattle.std.proofs.lemmas.Grind.{flat_map-append}
use Rattle.std.proofs.lemmas.List.{get_or-set_other, get_or-set_same, set-get_or, length-set, take_more, take-append-drop}
use Rattle.std.proofs.lemmas.List.FromFn.{fill_by_all, length-range_with_len}
use Rattle.qws_base.proofs.ListLemmas.{filter_le, item_at}
use Rattle.qws_base.specs.Sides.{Sides}
use Rattle.qws_base.specs.Inks.{ink_after, is_skip}
use Rattle.qws_base.specs.Points.{holds, spans, pixels, pixel_count, point_of}
use Rattle.qws_base.specs.Regions.{Precedes, IsCanonical, right, bottom}
use Rattle.qws_base.specs.Sheets.{Sheet}
use Rattle.qws_base.specs.Scenes.{Setting, ink_on, has_ink}
use Rattle.qws_base.specs.RectPixels.{rect_pixels, rects_pixels, IsWithin, AreDisjoint}
use Rattle.qws_base.specs.declared.inks.Ink.{Ink}
use Rattle.qws_base.specs.declared.inks.Ink.TheVariants.{Skip, Copy, Xor, And, Or, Blend}
use Rattle.qws_base.specs.declared.points.Point.{Point}
use Rattle.qws_base.specs.declared.points.Rect.{Rect}
use Rattle.qws_base.proofs.CountLemmas.{counted}
use Rattle.qws_base.proofs.JoinedLemmas.{place_below}
use Rattle.qws_base.proofs.PixelRows.{filter_both}
use Rattle.qws_base.proofs.RectPixelLemmas.{rect_pixels_law}
use Rattle.qws_base.proofs.Integers.{spans_low, spans_high}
use Rattle.picture_cuts.specs.Cuts.{cut_rect}
use Rattle.picture_cuts.proofs.CutPixels.{inked_pixels}
use Rattle.gfx_painters.specs.Plain.{laid, has_pixel, region_painted}

-- ---- pixels laid one after another

pub laid-append : (setting : Setting) (origin : Point) (sheet : Sheet) (ps qs : List ℕ) (scene : List ℕ) → laid setting origin sheet (ps ++ qs) scene ≡ laid setting origin sheet qs (laid setting origin sheet ps scene)
laid-append setting origin sheet [] qs scene = refl
laid-append setting origin sheet (p ∷ ps) qs scene = laid-append setting origin sheet ps qs (set scene p (ink_after setting.depth (ink_on setting.size.w origin sheet p) (slice_index scene p)))

pub laid-length : (setting : Setting) (origin : Point) (sheet : Sheet) (ps : List ℕ) (scene : List ℕ) → length (laid setting origin sheet ps scene) ≡ length scene
laid-length setting origin sheet [] scene = refl
laid-length setting origin sheet (p ∷ ps) scene =
    laid-length setting origin sheet ps (set scene p (ink_after setting.depth (ink_on setting.size.w origin sheet p) (slice_index scene p)))
    ∙ length-set scene p (ink_after setting.depth (ink_on setting.size.w origin sheet p) (slice_index scene p))

module _ (setting : Setting) (origin : Point) (sheet : Sheet) where
  abbrev inked_at : ℕ → ℕ → ℕ
  inked_at p v = ink_after setting.depth (ink_on setting.size.w origin sheet p) v

  -- a pixel that isn't among them stays
  pub laid_else : (ps scene : List ℕ) (p : ℕ) → ((k : ℕ) → get_elem? ps k ≡ some p → ⊥) → get_or (laid setting origin sheet ps scene) p 0 ≡ get_or scene p 0
  laid_else [] scene p none = refl
  laid_else (q ∷ ps) scene p none =
      laid_else ps (set scene q (inked_at q (slice_index scene q))) p (λ k e. none (suc k) e)
      ∙ get_or-set_other scene q p (inked_at q (slice_index scene q)) 0 (λ same. none zero (ap some (sym same)))

  -- one that is among them once takes its ink
  pub laid_at : (ps scene : List ℕ) (k p : ℕ) → p < length scene → get_elem? ps k ≡ some p → ((j : ℕ) → get_elem? ps j ≡ some p → j ≡ k) → get_or (laid setting origin sheet ps scene) p 0 ≡ inked_at p (get_or scene p 0)
  laid_at [] scene k p below at once = absurd (some-ne-none p (sym at))
  laid_at (q ∷ ps) scene zero p below at once =
      let same : q ≡ p = some-injective q p at in
      laid_else ps (set scene q (inked_at q (slice_index scene q))) p (λ j e. absurd (let z = once (suc j) e in omega arith))
      ∙ ap (λ r. get_or (set scene r (inked_at r (slice_index scene r))) p 0) same ∙ get_or-set_same scene p (inked_at p (slice_index scene p)) 0 below
  laid_at (q ∷ ps) scene (suc k) p below at once =
      let v : ℕ = inked_at q (slice_index scene q) in
      let apart : p ≢ q = λ same. (let z = once zero (ap some (sym same)) in omega arith) in
      laid_at ps (set scene q v) k p (omega (arith, length-set scene q v)) at (λ j e. let z = once (suc j) e in omega arith)
      ∙ ap (inked_at p) (get_or-set_other scene q p v 0 apart)

-- laying Skip changes nothing, so that the pixels with ink are all that count
pub laid_inked : (setting : Setting) (origin : Point) (sheet : Sheet) (ps scene : List ℕ) → laid setting origin sheet ps scene ≡ laid setting origin sheet (filter (has_ink setting.size.w origin sheet) ps) scene
laid_inked setting origin sheet [] scene = refl
laid_inked setting origin sheet (p ∷ ps) scene = go (is_skip (ink_on setting.size.w origin sheet p)) refl (laid_inked setting origin sheet ps)
  where
    passed : List ℕ
    passed = filter (has_ink setting.size.w origin sheet) ps

    after : Ink → List ℕ
    after ink = set scene p (ink_after setting.depth ink (slice_index scene p))

    none_after : (ink : Ink) → is_skip ink ≡ true → after ink ≡ scene
    none_after Skip e = set-get_or scene p 0
    none_after (Copy c) e = absurd (false≢true e)
    none_after (Xor c) e = absurd (false≢true e)
    none_after (And c) e = absurd (false≢true e)
    none_after (Or c) e = absurd (false≢true e)
    none_after (Blend c a) e = absurd (false≢true e)

    go : (b : Bool) → is_skip (ink_on setting.size.w origin sheet p) ≡ b → ((shown : List ℕ) → laid setting origin sheet ps shown ≡ laid setting origin sheet passed shown)
        → laid setting origin sheet ps (after (ink_on setting.size.w origin sheet p)) ≡ laid setting origin sheet (if not b then p ∷ passed else passed) scene
    go true is rest = ap (laid setting origin sheet ps) (none_after (ink_on setting.size.w origin sheet p) is) ∙ rest scene
    go false is rest = rest (after (ink_on setting.size.w origin sheet p))

-- laying the cut of a rectangle is laying the rectangle
pub laid_cut : (setting : Setting) (size : Sides) (origin : Point) (sheet : Sheet) (r : Rect) (scene : List ℕ) → size ≡ setting.size → IsWithin size r
    → laid setting origin sheet (rect_pixels size.w (cut_rect origin sheet.reach r)) scene ≡ laid setting origin sheet (rect_pixels size.w r) scene
laid_cut setting size origin sheet r scene same = subst (λ (s : Sides). IsWithin s r → laid setting origin sheet (rect_pixels s.w (cut_rect origin sheet.reach r)) scene ≡ laid setting origin sheet (rect_pixels s.w r) scene) (sym same) here
  where
    here : IsWithin setting.size r → laid setting origin sheet (rect_pixels setting.size.w (cut_rect origin sheet.reach r)) scene ≡ laid setting origin sheet (rect_pixels setting.size.w r) scene
    here on =
        laid_inked setting origin sheet (rect_pixels setting.size.w (cut_rect origin sheet.reach r)) scene
        ∙ ap (λ ps. laid setting origin sheet ps scene) (inked_pixels setting.size origin sheet r on)
        ∙ sym (laid_inked setting origin sheet (rect_pixels setting.size.w r) scene)

-- ---- the pixels of disjoint rectangles

precedes_apart : (r s : Rect) (p : Point) → Precedes r s → holds r p ≡ true → holds s p ≡ true → ⊥
precedes_apart r s p before h k =
    let a = and_parts (spans r.x r.w p.x) (spans r.y r.h p.y) h in
    let b = and_parts (spans s.x s.w p.x) (spans s.y s.h p.y) k in
    let rx = spans_high r.x p.x r.w a.0 in
    let ry = spans_high r.y p.y r.h a.1 in
    let sx = spans_low s.x p.x s.w b.0 in
    let sy = spans_low s.y p.y s.h b.1 in
    ⊎_elim
    (λ (same : (r.y ≡ s.y) × (r.h ≡ s.h) × (right r <ℤ s.x)). let gap = same.2 in omega (arith, ints, rx, sx, gap))
    (λ (over : bottom r ≤ℤ s.y). omega (arith, ints, ry, sy, over))
    before

-- the rectangles of a canonical list share no point
pub canonical_disjoint : (size : Sides) (rects : List Rect) → IsCanonical rects → AreDisjoint size rects
canonical_disjoint size rects h j k r s p at_j at_k below in_r in_s = ⊎_elim
    (λ (same : j ≡ k). same)
    (λ (apart : j ≡ k → ⊥). ⊎_elim
    (λ (first : j < k). absurd (precedes_apart r s (point_of size.w p) (before j k r s at_j at_k first) in_r in_s))
    (λ (last : k ≤ j). absurd (precedes_apart s r (point_of size.w p) (before k j s r at_k at_j (omega (arith, apart))) in_s in_r))
    (cases_lt j k))
    (cases_eq j k)
  where
    before : (a b : ℕ) (u v : Rect) → get_elem? rects a ≡ some u → get_elem? rects b ≡ some v → a < b → Precedes u v
    before a b u v at_a at_b less =
        subst (λ x. Precedes x v) (item_at rects a u u at_a) (subst (λ y. Precedes (get_or rects a u) y) (item_at rects b v u at_b) (h.sorted a b u less (place_below rects b v at_b)))

module _ (size : Sides) (rects : List Rect) (within : All (IsWithin size) rects) (disjoint : AreDisjoint size rects) where
  -- as many of them pass a test as of the pixels that one of the rectangles has
  pub counted_pixels : (test : ℕ → Bool) → length (filter test (rects_pixels size.w rects)) ≡ length (filter test (filter (has_pixel size.w rects) (pixels size)))
  counted_pixels test =
      counted (pixel_count size) (has_pixel size.w rects) test (rects_pixels size.w rects)
      (λ k p at. rect_pixels_law.each size rects k p within at)
      (λ p below has inked. rect_pixels_law.all size rects p within below has)
      (λ j k p at_j at_k. rect_pixels_law.once size rects j k p within disjoint at_j at_k)

  pub few_pixels : (test : ℕ → Bool) → length (filter test (rects_pixels size.w rects)) ≤ pixel_count size
  few_pixels test =
      let all : length (range_with_len 0 (pixel_count size)) ≡ pixel_count size = length-range_with_len 0 (pixel_count size) in
      let some = filter_le (has_pixel size.w rects) (pixels size) in
      let few = filter_le test (filter (has_pixel size.w rects) (pixels size)) in
      omega (arith, counted_pixels test)

  -- the pixels of the first of them are no more
  pub front_pixels : (test : ℕ → Bool) (k : ℕ) → length (filter test (rects_pixels size.w (take k rects))) ≤ pixel_count size
  front_pixels test k =
      let whole : rects_pixels size.w rects ≡ rects_pixels size.w (take k rects) ++ rects_pixels size.w (drop k rects) =
      ap (rects_pixels size.w) (sym (take-append-drop k rects)) ∙ flat_map-append (rect_pixels size.w) (take k rects) (drop k rects) in
      let parts : length (filter test (rects_pixels size.w rects)) ≡ length (filter test (rects_pixels size.w (take k rects))) + length (filter test (rects_pixels size.w (drop k rects))) =
      ap (λ l. length (filter test l)) whole ∙ filter_both test (rects_pixels size.w (take k rects)) (rects_pixels size.w (drop k rects)) in
      omega (arith, parts, few_pixels test)

-- one rectangle more
pub rects_more : (width : ℕ) (rects : List Rect) (i : ℕ) (d : Rect) → i < length rects → rects_pixels width (take (i + 1) rects) ≡ rects_pixels width (take i rects) ++ rect_pixels width (get_or rects i d)
rects_more width rects i d low =
    ap (rects_pixels width) (take_more rects i d low) ∙ flat_map-append (rect_pixels width) (take i rects) (get_or rects i d ∷ [])
    ∙ ap (λ l. rects_pixels width (take i rects) ++ l) (append-nil (rect_pixels width (get_or rects i d)))

-- ---- a region is painted

pub laid_region : (setting : Setting) (rects : List Rect) (origin : Point) (sheet : Sheet) (scene : List ℕ) → All (IsWithin setting.size) rects → AreDisjoint setting.size rects → length scene ≡ pixel_count setting.size
    → laid setting origin sheet (rects_pixels setting.size.w rects) scene ≡ region_painted setting rects origin sheet scene
laid_region setting rects origin sheet scene within disjoint long =
    fill_by_all (λ p. if has_pixel setting.size.w rects p then ink_after setting.depth (ink_on setting.size.w origin sheet p) (slice_index scene p) else slice_index scene p)
    (laid setting origin sheet (rects_pixels setting.size.w rects) scene) (pixel_count setting.size) 0 (laid-length setting origin sheet (rects_pixels setting.size.w rects) scene ∙ long) pixel
  where
    by_test : (p : ℕ) → p < pixel_count setting.size → (b : Bool) → has_pixel setting.size.w rects p ≡ b
        → get_or (laid setting origin sheet (rects_pixels setting.size.w rects) scene) p 0 ≡ (if b then ink_after setting.depth (ink_on setting.size.w origin sheet p) (slice_index scene p) else slice_index scene p)
    by_test p below true is =
        let at = rect_pixels_law.all setting.size rects p within below is in
        laid_at setting origin sheet (rects_pixels setting.size.w rects) scene at.0 p (omega (arith, long)) at.1 (λ j e. rect_pixels_law.once setting.size rects j at.0 p within disjoint e at.1)
    by_test p below false is = laid_else setting origin sheet (rects_pixels setting.size.w rects) scene p (λ k e. false≢true (sym is ∙ (rect_pixels_law.each setting.size rects k p within e).1))

    pixel : (p : ℕ) → p < pixel_count setting.size → get_or (laid setting origin sheet (rects_pixels setting.size.w rects) scene) p 0 ≡ (if has_pixel setting.size.w rects p then ink_after setting.depth (ink_on setting.size.w origin sheet p) (slice_index scene p) else slice_index scene p)
    pixel p below = by_test p below (has_pixel setting.size.w rects p) refl
