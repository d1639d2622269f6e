-- What a paint on the pixels of a region leaves, without windows.
use Rattle.std.specs.Prelude.{ℕ, Bool, List, [], ◌∷◌, slice_index, slice_set, if◌then◌else◌}
use Rattle.std.specs.List.{filter}
use Rattle.qws_base.specs.Sides.{Sides}
use Rattle.qws_base.specs.Inks.{ink_after}
use Rattle.qws_base.specs.Points.{any_holds, pixels, point_of}
use Rattle.qws_base.specs.Sheets.{Sheet}
use Rattle.qws_base.specs.Scenes.{Setting, by_pixels, ink_on, has_ink}
use Rattle.qws_base.specs.declared.points.Point.{Point}
use Rattle.qws_base.specs.declared.points.Rect.{Rect}

-- one of the rectangles has the pixel
abbrev pub has_pixel : ℕ → List Rect → ℕ → Bool
has_pixel width rects p = any_holds rects (point_of width p)

-- the pixels of the rectangles take the sheet's inks, and all others stay
abbrev pub region_painted : Setting → List Rect → Point → Sheet → List ℕ → List ℕ
region_painted setting rects origin sheet scene =
    by_pixels setting.size (λ p. if has_pixel setting.size.w rects p then ink_after setting.depth (ink_on setting.size.w origin sheet p) (slice_index scene p) else slice_index scene p)

-- the pixels of the rectangles on which the sheet has ink
abbrev pub region_inked : Sides → List Rect → Point → Sheet → List ℕ
region_inked size rects origin sheet = filter (has_ink size.w origin sheet) (filter (has_pixel size.w rects) (pixels size))

-- pixels take their inks one after another
abbrev pub laid : Setting → Point → Sheet → List ℕ → List ℕ → List ℕ
laid setting origin sheet [] scene = scene
laid setting origin sheet (p ∷ ps) scene =
    laid setting origin sheet ps (slice_set scene p (ink_after setting.depth (ink_on setting.size.w origin sheet p) (slice_index scene p)))
