-- What a script says, in the order of its lines: the screen, how many clients there are, the fonts and images, the calls.
use Rattle.std.specs.Prelude.{ℕ, ◌-◌, Bool, true, false, not, ◌==◌, List, [], ◌∷◌, ◌++◌, length, slice_index_or, slice_get, Option}
use Rattle.std.specs.List.{filter}
use Rattle.qws_base.specs.Sides.{Sides}
use Rattle.qws_base.specs.Scenes.{Setting, setting_of}
use Rattle.qws_base.specs.declared.colours.Depth.{Depth}
use Rattle.qws_base.specs.declared.points.Point.{Point}
use Rattle.qws_base.specs.declared.points.Rect.{Rect}
use Rattle.qws_base.specs.declared.inks.Ink.{Ink}
use Rattle.glyph_masks.specs.Glyphs.{GlyphView, FontView}
use Rattle.gfx_fills.specs.Images.{ImageView}
use Rattle.script_grammar.specs.declared.lines.LineCall.{LineCall}
use Rattle.script_grammar.specs.declared.lines.LineCall.TheVariants.{Create, Destroy, Region, Move, Raise, Lower, Shape, Cursor, Show, Join, Leave, Send, Take, Known, Fill, Tile, Blit, Line, Polyline, Polygon, Text}
use Rattle.script_grammar.specs.declared.lines.CallLine.{CallLine}

-- a line of the fonts and images: a font of a height, a glyph of the latest font, an image
pub data Asset : Type 0 where
  FontLine : ℕ → Asset
  GlyphLine : GlyphView → Asset
  ImageLine : ImageView → Asset

pub record Session : Type 0 where
  pub depth : Depth
  pub size : Sides
  pub backdrop : ℕ
  pub clients : ℕ
  pub assets : List Asset
  pub calls : List CallLine

-- ---- fonts and images, each numbered from 0

-- a glyph goes to the last font
abbrev pub with_glyph : List FontView → GlyphView → List FontView
with_glyph [] glyph = []
with_glyph (font ∷ []) glyph = record font { glyphs = font.glyphs ++ glyph ∷ [] } ∷ []
with_glyph (font ∷ next ∷ fonts) glyph = font ∷ with_glyph (next ∷ fonts) glyph

-- the fonts after a line
abbrev pub with_asset : List FontView → Asset → List FontView
with_asset fonts (FontLine height) = fonts ++ record { height = height; glyphs = [] } ∷ []
with_asset fonts (GlyphLine glyph) = with_glyph fonts glyph
with_asset fonts (ImageLine image) = fonts

abbrev pub fonts_from : List FontView → List Asset → List FontView
fonts_from fonts [] = fonts
fonts_from fonts (asset ∷ assets) = fonts_from (with_asset fonts asset) assets

abbrev pub fonts_of : List Asset → List FontView
fonts_of assets = fonts_from [] assets

abbrev pub images_of : List Asset → List ImageView
images_of [] = []
images_of (FontLine height ∷ assets) = images_of assets
images_of (GlyphLine glyph ∷ assets) = images_of assets
images_of (ImageLine image ∷ assets) = image ∷ images_of assets

-- what stands for a font or an image that isn't there
abbrev pub no_font : FontView
no_font = record { height = 0; glyphs = [] }

abbrev pub no_image : ImageView
no_image = record { w = 0; h = 0; pixels = [] }

abbrev pub font_at : List FontView → ℕ → FontView
font_at fonts i = slice_index_or fonts i no_font

abbrev pub image_at : List ImageView → ℕ → ImageView
image_at images i = slice_index_or images i no_image

abbrev pub latest : List FontView → FontView
latest fonts = font_at fonts (length fonts - 1)

-- ---- the calls of a client

abbrev pub is_by : ℕ → CallLine → Bool
is_by client line = line.client == client

abbrev pub lines_by : ℕ → List CallLine → List CallLine
lines_by client calls = filter (is_by client) calls

-- a client's call k, from 0; none past its last one
abbrev pub call_line : Session → ℕ → ℕ → Option CallLine
call_line said client k = slice_get (lines_by client said.calls) k

abbrev pub is_paint : LineCall → Bool
is_paint (Create name layer) = false
is_paint (Destroy window) = false
is_paint (Region window origin rects) = false
is_paint (Move window origin) = false
is_paint (Raise window) = false
is_paint (Lower window) = false
is_paint (Shape w h cells) = false
is_paint (Cursor at) = false
is_paint (Show shown) = false
is_paint (Join channel) = false
is_paint (Leave channel) = false
is_paint (Send channel message payload) = false
is_paint Take = false
is_paint (Known channel) = false
is_paint (Fill window rect ink) = true
is_paint (Tile window rect image) = true
is_paint (Blit window at image alpha) = true
is_paint (Line window from to colour) = true
is_paint (Polyline window colour points) = true
is_paint (Polygon window ink points) = true
is_paint (Text window font at ink written) = true

-- how many commands a client gives, and how often it paints
abbrev pub step_count : Session → ℕ → ℕ
step_count said client = length (filter (λ line. not (is_paint line.call)) (lines_by client said.calls))

abbrev pub paint_count : Session → ℕ → ℕ
paint_count said client = length (filter (λ line. is_paint line.call) (lines_by client said.calls))

-- the screen that it says
abbrev pub session_setting : Session → Setting
session_setting said = setting_of said.size said.depth said.backdrop
