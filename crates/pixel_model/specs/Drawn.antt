-- A canvas is seen as its screen and its scene.
use Rattle.std.specs.Prelude.{ℕ, ◌≡◌, ◌≤◌, pos, negsuc, ◌≤ℤ◌, List, length, slice_index, Option, Some}
use Rattle.qws_base.specs.Sides.{Sides, IsScreen}
use Rattle.qws_base.specs.Colours.{IsSceneColour}
use Rattle.qws_base.specs.Points.{pixel_count}
use Rattle.qws_base.specs.Windows.{Layout}
use Rattle.qws_base.specs.Scenes.{Setting, carried_from}
use Rattle.qws_base.specs.declared.colours.Depth.{Depth}
use Rattle.qws_base.specs.declared.points.Point.{Point}

pub record Drawn : Type 0 where
  pub setting : Setting
  pub scene : List ℕ

-- each number of a scene is a scene colour of the depth; past the end stands 0
abbrev pub AllSceneColours : Depth → List ℕ → Type 0
AllSceneColours depth scene = (p : ℕ) → IsSceneColour depth (slice_index scene p)

-- what holds of each canvas: it has a number for each pixel, and the backdrop and these are scene colours
pub record IsDrawn (setting : Setting) (scene : List ℕ) : Type 0 where
  pub is_screen : IsScreen setting.size
  pub pixels : length scene ≡ pixel_count setting.size
  pub backdrop : IsSceneColour setting.depth setting.backdrop
  pub colours : AllSceneColours setting.depth scene

-- no pixel is carried from a lower one
abbrev pub CarriesDown : Sides → Layout → Layout → Option ℕ → Type 0
CarriesDown size before after moved = (p q : ℕ) → carried_from size before after moved p ≡ Some q → p ≤ q

-- no pixel is carried from a higher one
abbrev pub CarriesUp : Sides → Layout → Layout → Option ℕ → Type 0
CarriesUp size before after moved = (p q : ℕ) → carried_from size before after moved p ≡ Some q → q ≤ p

-- the difference of two origins
pub record IsShift (d : Point) : Type 0 where
  pub low_x : negsuc 8190 ≤ℤ d.x
  pub high_x : d.x ≤ℤ pos 8191
  pub low_y : negsuc 8190 ≤ℤ d.y
  pub high_y : d.y ≤ℤ pos 8191
