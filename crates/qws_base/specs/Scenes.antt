-- A scene is a scene colour for each pixel. What a step and a paint make of it.
use Rattle.std.specs.Prelude.{ℕ, Bool, not, ◌&&◌, List, map, length, Option, None, Some, is_none, slice_index, replicate, if◌then◌else◌}
use Rattle.std.specs.List.{filter}
use Rattle.std.specs.Option.{option_map_or}
use Rattle.qws_base.specs.Sides.{Sides}
use Rattle.qws_base.specs.Colours.{scene_colour}
use Rattle.qws_base.specs.Inks.{ink_after, is_skip}
use Rattle.qws_base.specs.Points.{pixels, pixel_count, pixel_at, point_of, minus}
use Rattle.qws_base.specs.Windows.{Layout, owns, allocated}
use Rattle.qws_base.specs.Sheets.{Sheet, ink_at}
use Rattle.qws_base.specs.declared.colours.Depth.{Depth}
use Rattle.qws_base.specs.declared.points.Point.{Point}
use Rattle.qws_base.specs.declared.inks.Ink.{Ink}
use Rattle.qws_base.specs.declared.replies.PaintReply.{PaintReply}
use Rattle.qws_base.specs.declared.replies.PaintReply.TheVariants.{Painted, Gone}

-- the screen: its sides, its depth, and its backdrop as a scene colour
pub record Setting : Type 0 where
  pub size : Sides
  pub depth : Depth
  pub backdrop : ℕ

-- the screen with a backdrop that is given as a colour
abbrev pub setting_of : Sides → Depth → ℕ → Setting
setting_of size depth colour = record { size = size; depth = depth; backdrop = scene_colour depth colour }

-- the backdrop everywhere
abbrev pub opening_scene : Setting → List ℕ
opening_scene setting = replicate (pixel_count setting.size) setting.backdrop

-- a scene pixel by pixel
abbrev pub by_pixels : Sides → (ℕ → ℕ) → List ℕ
by_pixels size f = map f (pixels size)

-- ---- a step

-- the pixel that a move of the slot carries to pixel p, where both belong to the slot: before the move, and after it
abbrev pub source_in : Sides → Layout → Layout → ℕ → ℕ → Option ℕ → Option ℕ
source_in size before after slot p None = None
source_in size before after slot p (Some q) = if owns after slot p && owns before slot q then Some q else None

abbrev pub carried_from : Sides → Layout → Layout → Option ℕ → ℕ → Option ℕ
carried_from size before after None p = None
carried_from size before after (Some slot) p =
    source_in size before after slot p (pixel_at size (minus (point_of size.w p) (minus (after.origin slot) (before.origin slot))))

-- a pixel after an accepted command: what a move carries there, else the backdrop where no slot owns it, else as before
abbrev pub pixel_after_step : Setting → Layout → Layout → Option ℕ → List ℕ → ℕ → ℕ
pixel_after_step setting before after moved scene p =
    option_map_or (slice_index scene) (carried_from setting.size before after moved p)
    (if is_none (after.owner p) then setting.backdrop else slice_index scene p)

-- the scene after an accepted command, with the layouts before and after it, and the slot if it was a move
abbrev pub scene_after_step : Setting → Layout → Layout → Option ℕ → List ℕ → List ℕ
scene_after_step setting before after moved scene = by_pixels setting.size (pixel_after_step setting before after moved scene)

-- ---- a paint

-- the ink of a sheet at a pixel, for a window with that origin
abbrev pub ink_on : ℕ → Point → Sheet → ℕ → Ink
ink_on width origin sheet p = ink_at sheet (minus (point_of width p) origin)

-- a pixel after a paint: the slot's own pixels take the ink, all others stay
abbrev pub pixel_after_paint : Setting → Layout → ℕ → Sheet → List ℕ → ℕ → ℕ
pixel_after_paint setting layout slot sheet scene p =
    if owns layout slot p then ink_after setting.depth (ink_on setting.size.w (layout.origin slot) sheet p) (slice_index scene p) else slice_index scene p

abbrev pub has_ink : ℕ → Point → Sheet → ℕ → Bool
has_ink width origin sheet p = not (is_skip (ink_on width origin sheet p))

-- the slot's pixels on which a sheet has ink
abbrev pub inked : Sides → Layout → ℕ → Sheet → List ℕ
inked size layout slot sheet = filter (has_ink size.w (layout.origin slot) sheet) (allocated size layout slot)

-- the scene after a paint of a slot by a client; the same where the client has no window in the slot
abbrev pub scene_after_paint : Setting → Layout → ℕ → ℕ → Sheet → List ℕ → List ℕ
scene_after_paint setting layout client slot sheet scene =
    if layout.is_own client slot then by_pixels setting.size (pixel_after_paint setting layout slot sheet scene) else scene

-- the reply to it
abbrev pub paint_reply : Sides → Layout → ℕ → ℕ → Sheet → PaintReply
paint_reply size layout client slot sheet =
    if layout.is_own client slot then Painted (length (inked size layout slot sheet)) else Gone
