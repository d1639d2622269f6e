-- Pixels that get other scene colours, and the scene after a step.
use Rattle.std.proofs.Common.{◌≡◌, ℕ, zero, suc, ◌+◌, ◌*◌, ◌<◌, ⊎_elim, Bool, true, false, not, ◌&&◌, if◌then◌else◌, List, [], ◌∷◌, map, length, take, get_or, set, Option, Some, None, sym, refl, ap, ◌∙◌, subst, arith}
use Rattle.std.specs.Prelude.{All, is_none, slice_index, replicate}
use Rattle.std.specs.Option.{option_map_or}
use mathlib.Core.Option.{some, some-injective, some-ne-none}
use lib.ListN.{get_elem?}
use Rattle.std.proofs.lemmas.Bool.{cases_eq, false≢true}
use Rattle.std.proofs.lemmas.List.{get_or-set_other, get_or-set_same, length-map, length-set}
use Rattle.std.proofs.lemmas.List.FromFn.{fill_by_all}
use Rattle.qws_base.specs.Sides.{Sides}
use Rattle.qws_base.specs.Points.{any_holds, point_of, pixel_count}
use Rattle.qws_base.specs.RectPixels.{IsWithin, rects_pixels}
use Rattle.qws_base.specs.Scenes.{Setting, carried_from, pixel_after_step, scene_after_step}
use Rattle.qws_base.specs.Windows.{layout_of, owner_at, is_slot}
use Rattle.qws_base.specs.declared.points.Point.{Point}
use Rattle.qws_base.specs.declared.points.Rect.{Rect}
use Rattle.qws_base.specs.declared.windows.WindowView.{WindowView}
use Rattle.qws_base.proofs.RectPixelLemmas.{rect_pixels_law}
use Rattle.turn_logs.specs.Carries.{IsBare}
use Rattle.step_regions.specs.Bared.{is_lost}
use Rattle.step_regions.specs.Carried.{CarriesFor, HasSource, source}
use Rattle.step_regions.proofs.Distances.{pixel_on}
use Rattle.canvas_steps.specs.Laid.{laid}

-- ---- pixels laid one after another

pub laid_length : (ps vs scene : List ℕ) → length (laid ps vs scene) ≡ length scene
laid_length [] vs scene = refl
laid_length (p ∷ ps) [] scene = refl
laid_length (p ∷ ps) (v ∷ vs) scene = laid_length ps vs (set scene p v) ∙ length-set scene p v

laid_next : (ps vs scene : List ℕ) (k d e : ℕ) → k < length ps → length vs ≡ length ps → laid (take (suc k) ps) (take (suc k) vs) scene ≡ set (laid (take k ps) (take k vs) scene) (get_or ps k d) (get_or vs k e)
laid_next [] vs scene k d e below long = absurd (omega arith)
laid_next (p ∷ ps) [] scene k d e below long = absurd (omega arith)
laid_next (p ∷ ps) (v ∷ vs) scene zero d e below long = refl
laid_next (p ∷ ps) (v ∷ vs) scene (suc k) d e below long = laid_next ps vs (set scene p v) k d e (omega arith) (omega arith)

-- one pixel more
pub laid_more : (ps vs scene : List ℕ) (k d e : ℕ) → k < length ps → length vs ≡ length ps → laid (take (k + 1) ps) (take (k + 1) vs) scene ≡ set (laid (take k ps) (take k vs) scene) (get_or ps k d) (get_or vs k e)
laid_more ps vs scene k d e below long =
    ap (λ n. laid (take n ps) (take n vs) scene) (let z : k + 1 ≡ suc k = omega arith in z) ∙ laid_next ps vs scene k d e below long

-- a pixel that isn't among them stays
pub laid_else : (ps vs scene : List ℕ) (p : ℕ) → ((k : ℕ) → get_elem? ps k ≡ some p → ⊥) → get_or (laid ps vs scene) p 0 ≡ get_or scene p 0
laid_else [] vs scene p none = refl
laid_else (q ∷ ps) [] scene p none = refl
laid_else (q ∷ ps) (v ∷ vs) scene p none = laid_else ps vs (set scene q v) p (λ k e. none (suc k) e) ∙ get_or-set_other scene q p v 0 (λ same. none zero (ap some (sym same)))

module _ (f : ℕ → ℕ) where
  -- a pixel that has its colour keeps it
  laid_again : (ps scene : List ℕ) (p : ℕ) → p < length scene → get_or scene p 0 ≡ f p → get_or (laid ps (map f ps) scene) p 0 ≡ f p
  laid_again [] scene p below is = is
  laid_again (q ∷ ps) scene p below is = laid_again ps (set scene q (f q)) p (omega (arith, length-set scene q (f q)))
      (⊎_elim
      (λ (same : p ≡ q). ap (λ r. get_or (set scene q (f q)) r 0) same ∙ get_or-set_same scene q (f q) 0 (subst (λ r. r < length scene) same below) ∙ ap f (sym same))
      (λ (apart : p ≡ q → ⊥). get_or-set_other scene q p (f q) 0 apart ∙ is)
      (cases_eq p q))

  -- one that is among them gets its colour
  pub laid_at : (ps scene : List ℕ) (k p : ℕ) → p < length scene → get_elem? ps k ≡ some p → get_or (laid ps (map f ps) scene) p 0 ≡ f p
  laid_at [] scene k p below at = absurd (some-ne-none p (sym at))
  laid_at (q ∷ ps) scene zero p below at =
      let same : q ≡ p = some-injective q p at in
      laid_again ps (set scene q (f q)) p (omega (arith, length-set scene q (f q)))
      (ap (λ r. get_or (set scene r (f r)) p 0) same ∙ get_or-set_same scene p (f p) 0 below)
  laid_at (q ∷ ps) scene (suc k) p below at = laid_at ps (set scene q (f q)) k p (omega (arith, length-set scene q (f q))) at

  -- the pixels of rectangles get their colours, and all others stay
  pub laid_rects : (size : Sides) (rects : List Rect) (scene : List ℕ) (p : ℕ) → All (IsWithin size) rects → length scene ≡ pixel_count size → p < pixel_count size
      → get_or (laid (rects_pixels size.w rects) (map f (rects_pixels size.w rects)) scene) p 0 ≡ (if any_holds rects (point_of size.w p) then f p else get_or scene p 0)
  laid_rects size rects scene p within long below = by (any_holds rects (point_of size.w p)) refl
    where
      by : (b : Bool) → any_holds rects (point_of size.w p) ≡ b → get_or (laid (rects_pixels size.w rects) (map f (rects_pixels size.w rects)) scene) p 0 ≡ (if b then f p else get_or scene p 0)
      by true is = let at = rect_pixels_law.all size rects p within below is in laid_at (rects_pixels size.w rects) scene at.0 p (omega (arith, long)) at.1
      by false is = laid_else (rects_pixels size.w rects) (map f (rects_pixels size.w rects)) scene p (λ k e. false≢true (sym is ∙ (rect_pixels_law.each size rects k p within e).1))

-- ---- the scene after a step

some_columns : (w h p : ℕ) → p < w * h → 0 < w
some_columns zero h p below = absurd (omega arith)
some_columns (suc w) h p below = omega arith

owned_some : (slot : ℕ) (o : Option ℕ) → is_slot slot o ≡ true → is_none o ≡ false
owned_some slot None is = absurd (false≢true is)
owned_some slot (Some k) is = refl

module _ (setting : Setting) (before after : List WindowView) (moved : Option ℕ) (carried bared : List Rect) (falling : Bool) (by : ℕ) (scene : List ℕ)
    (carries : CarriesFor setting.size before after moved carried falling by) (lost : (p : Point) → any_holds bared p ≡ is_lost setting.size before after p)
    (bare : IsBare setting (layout_of setting.size before) scene) where
  -- what a move brings to a pixel, as the carried region tells
  brought : (p : ℕ) → p < pixel_count setting.size → carried_from setting.size (layout_of setting.size before) (layout_of setting.size after) moved p ≡ (if any_holds carried (point_of setting.size.w p) then Some (source falling by p) else None)
  brought p below = for moved carries
    where
      for : (o : Option ℕ) → CarriesFor setting.size before after o carried falling by → carried_from setting.size (layout_of setting.size before) (layout_of setting.size after) o p ≡ (if any_holds carried (point_of setting.size.w p) then Some (source falling by p) else None)
      for None none = sym (ap (λ (l : List Rect). if any_holds l (point_of setting.size.w p) then Some (source falling by p) else None) none)
      for (Some slot) is = is.carries p below

  -- a pixel to which something is brought has an owner
  owned : (p : ℕ) → p < pixel_count setting.size → any_holds carried (point_of setting.size.w p) ≡ true → is_none (owner_at after (point_of setting.size.w p)) ≡ false
  owned p below holds = for moved carries
    where
      for : (o : Option ℕ) → CarriesFor setting.size before after o carried falling by → is_none (owner_at after (point_of setting.size.w p)) ≡ false
      for None none = absurd (false≢true (sym (ap (λ (l : List Rect). any_holds l (point_of setting.size.w p)) none) ∙ holds))
      for (Some slot) is = owned_some slot (owner_at after (point_of setting.size.w p)) (is.owned p below holds)

  stepped : (p : ℕ) → p < pixel_count setting.size
      → (if any_holds bared (point_of setting.size.w p) then setting.backdrop else if any_holds carried (point_of setting.size.w p) then slice_index scene (source falling by p) else slice_index scene p)
      ≡ pixel_after_step setting (layout_of setting.size before) (layout_of setting.size after) moved scene p
  stepped p below = ap (λ b. if b then setting.backdrop else if any_holds carried (point_of setting.size.w p) then slice_index scene (source falling by p) else slice_index scene p) (lost (point_of setting.size.w p) ∙ ap (λ b. b && (not (is_none (owner_at before (point_of setting.size.w p))) && is_none (owner_at after (point_of setting.size.w p)))) (pixel_on setting.size p (some_columns setting.size.w setting.size.h p below) below))
      ∙ go (any_holds carried (point_of setting.size.w p)) (is_none (owner_at before (point_of setting.size.w p))) (is_none (owner_at after (point_of setting.size.w p))) refl refl refl
      ∙ sym (ap (λ o. option_map_or (slice_index scene) o (if is_none (owner_at after (point_of setting.size.w p)) then setting.backdrop else slice_index scene p)) (brought p below))
    where
      go : (c was is : Bool) → any_holds carried (point_of setting.size.w p) ≡ c → is_none (owner_at before (point_of setting.size.w p)) ≡ was → is_none (owner_at after (point_of setting.size.w p)) ≡ is
          → (if not was && is then setting.backdrop else if c then slice_index scene (source falling by p) else slice_index scene p)
          ≡ option_map_or (slice_index scene) (if c then Some (source falling by p) else None) (if is then setting.backdrop else slice_index scene p)
      go true was true in_c in_was in_is = absurd (false≢true (sym (owned p below in_c) ∙ in_is))
      go true true false in_c in_was in_is = refl
      go true false false in_c in_was in_is = refl
      go false true true in_c in_was in_is = bare p below in_was
      go false true false in_c in_was in_is = refl
      go false false true in_c in_was in_is = refl
      go false false false in_c in_was in_is = refl

  -- the carried pixels are brought, and then the bared ones filled
  pub shown_step : All (IsWithin setting.size) carried → All (IsWithin setting.size) bared → length scene ≡ pixel_count setting.size
      → laid (rects_pixels setting.size.w bared) (map (λ p. setting.backdrop) (rects_pixels setting.size.w bared))
      (laid (rects_pixels setting.size.w carried) (map (λ p. slice_index scene (source falling by p)) (rects_pixels setting.size.w carried)) scene)
      ≡ scene_after_step setting (layout_of setting.size before) (layout_of setting.size after) moved scene
  shown_step in_carried in_bared long =
      let ps : List ℕ = rects_pixels setting.size.w carried in
      let qs : List ℕ = rects_pixels setting.size.w bared in
      let f : ℕ → ℕ = λ p. slice_index scene (source falling by p) in
      let first : List ℕ = laid ps (map f ps) scene in
      let first_long : length first ≡ pixel_count setting.size = laid_length ps (map f ps) scene ∙ long in
      fill_by_all (pixel_after_step setting (layout_of setting.size before) (layout_of setting.size after) moved scene) (laid qs (map (λ p. setting.backdrop) qs) first) (pixel_count setting.size) 0
      (laid_length qs (map (λ p. setting.backdrop) qs) first ∙ first_long)
      (λ p below. laid_rects (λ q. setting.backdrop) setting.size bared first p in_bared first_long below
      ∙ ap (λ v. if any_holds bared (point_of setting.size.w p) then setting.backdrop else v) (laid_rects f setting.size carried scene p in_carried long below)
      ∙ stepped p below)

-- ---- the colours of a patch

pub filled_colours : (f : ℕ → ℕ) (c : ℕ) (ps : List ℕ) → map f (replicate (length ps) c) ≡ map (λ p. f c) ps
filled_colours f c [] = refl
filled_colours f c (p ∷ ps) = ap (λ (l : List ℕ). f c ∷ l) (filled_colours f c ps)

-- ---- the pixels of rectangles on the screen

item_there : (ps : List ℕ) (k d : ℕ) → k < length ps → get_elem? ps k ≡ some (get_or ps k d)
item_there [] k d below = absurd (omega arith)
item_there (p ∷ ps) zero d below = refl
item_there (p ∷ ps) (suc k) d below = item_there ps k d (omega arith)

pub all_pixels : (size : Sides) (rects : List Rect) (F : ℕ → Type 0) → All (IsWithin size) rects → ((p : ℕ) → p < pixel_count size → any_holds rects (point_of size.w p) ≡ true → F p) → All F (rects_pixels size.w rects)
all_pixels size rects F within each = λ k d below.
    let at = rect_pixels_law.each size rects k (get_or (rects_pixels size.w rects) k d) within (item_there (rects_pixels size.w rects) k d below) in
    each (get_or (rects_pixels size.w rects) k d) at.0 at.1

pub carries_within : (size : Sides) (before after : List WindowView) (moved : Option ℕ) (region : List Rect) (falling : Bool) (by : ℕ) → CarriesFor size before after moved region falling by → All (IsWithin size) region
carries_within size before after None region falling by none = subst (All (IsWithin size)) (sym none) (λ k d below. absurd (omega arith))
carries_within size before after (Some slot) region falling by is = is.within

pub carries_sources : (setting : Setting) (before after : List WindowView) (moved : Option ℕ) (region : List Rect) (falling : Bool) (by : ℕ) → CarriesFor setting.size before after moved region falling by
    → (p : ℕ) → p < pixel_count setting.size → any_holds region (point_of setting.size.w p) ≡ true → HasSource setting falling by p
carries_sources setting before after None region falling by none p below holds = absurd (false≢true (sym (ap (λ (l : List Rect). any_holds l (point_of setting.size.w p)) none) ∙ holds))
carries_sources setting before after (Some slot) region falling by is p below holds = is.sources setting p refl below holds

pub same_length : (f g : ℕ → ℕ) (xs ys : List ℕ) → map f xs ≡ map g ys → length xs ≡ length ys
same_length f g xs ys is = sym (length-map xs f) ∙ ap length is ∙ length-map ys g
