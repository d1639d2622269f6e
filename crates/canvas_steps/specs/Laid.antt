-- Pixels of a scene that get other scene colours.
use Rattle.std.specs.Prelude.{ℕ, ◌≡◌, List, [], ◌∷◌, map, slice_set}
use Rattle.qws_base.specs.Colours.{scene_colour}
use Rattle.qws_base.specs.RectPixels.{rects_pixels}
use Rattle.qws_base.specs.Scenes.{Setting}
use Rattle.qws_base.specs.declared.points.Rect.{Rect}
use Rattle.canvas_steps.specs.declared.patches.Patch.{Patch}

-- pixels get scene colours, one after another
abbrev pub laid : List ℕ → List ℕ → List ℕ → List ℕ
laid [] colours scene = scene
laid (p ∷ ps) [] scene = scene
laid (p ∷ ps) (v ∷ vs) scene = laid ps vs (slice_set scene p v)

-- the patch has the pixels of the rectangles, each with a colour whose scene colour is the one for the pixel
pub record IsPatch (setting : Setting) (rects : List Rect) (colour : ℕ → ℕ) (patch : Patch) : Type 0 where
  pub pixels : patch.pixels.items ≡ rects_pixels setting.size.w rects
  pub colours : map (scene_colour setting.depth) patch.colours.items ≡ map colour patch.pixels.items
