-- Within which limits every session is. Each line is allowed behind those before it.
use Rattle.std.specs.Prelude.{ℕ, ◌≡◌, ◌<◌, ◌≤◌, ◌^◌, ℤ, pos, negsuc, ◌≤ℤ◌, Bool, true, false, ◌&&◌, List, [], ◌∷◌, ◌++◌, length, ⊤}
use Rattle.std.specs.List.{All, list_all}
use Rattle.qws_base.specs.Sides.{Sides, IsScreen}
use Rattle.qws_base.specs.Points.{IsPlaced}
use Rattle.qws_base.specs.declared.points.Point.{Point}
use Rattle.qws_base.specs.declared.points.Rect.{Rect}
use Rattle.qws_base.specs.declared.inks.Ink.{Ink}
use Rattle.qws_base.specs.declared.inks.Ink.TheVariants.{Skip, Copy, Xor, And, Or, Blend}
use Rattle.gfx_fills.specs.Parts.{IsPlacedRect}
use Rattle.gfx_fills.specs.Images.{ImageView, IsImage}
use Rattle.gfx_lines.specs.Strokes.{IsPolyline}
use Rattle.gfx_polygons.specs.Polygons.{IsPolygon}
use Rattle.glyph_masks.specs.Glyphs.{GlyphView, FontView, IsGlyph, has_code}
use Rattle.script_grammar.specs.Spelling.{is_name_word}
use Rattle.script_grammar.specs.Words.{is_text_word}
use Rattle.script_grammar.specs.Session.{Session, Asset, FontLine, GlyphLine, ImageLine, fonts_of, images_of, font_at, latest, lines_by}
use Rattle.script_grammar.specs.declared.lines.Window.{Window}
use Rattle.script_grammar.specs.declared.lines.Window.TheVariants.{Named, Numbered}
use Rattle.script_grammar.specs.declared.lines.LineCall.{LineCall}
use Rattle.script_grammar.specs.declared.lines.LineCall.TheVariants.{Create, Destroy, Region, Move, Raise, Lower, Shape, Cursor, Show, Join, Leave, Send, Take, Known, Fill, Tile, Blit, Line, Polyline, Polygon, Text}
use Rattle.script_grammar.specs.declared.lines.CallLine.{CallLine}

-- what each kind of word may be

-- an unsigned number
abbrev pub IsShort : ℕ → Type 0
IsShort n = n ≤ 65535

-- a signed number
pub record IsSigned (z : ℤ) : Type 0 where
  pub low : negsuc 32767 ≤ℤ z
  pub high : z ≤ℤ pos 32767

abbrev pub IsColour : ℕ → Type 0
IsColour c = c < 2 ^ 24

-- a colour with an alpha
abbrev pub IsPixel : ℕ → Type 0
IsPixel c = c < 2 ^ 32

abbrev pub IsByte : ℕ → Type 0
IsByte c = c < 256

abbrev pub IsName : List ℕ → Type 0
IsName name = is_name_word name ≡ true

abbrev pub IsWord : List ℕ → Type 0
IsWord word = is_text_word word ≡ true

abbrev pub IsWindowWord : Window → Type 0
IsWindowWord (Named name) = IsName name
IsWindowWord (Numbered slot) = slot ≤ 32

-- a point, and a rectangle, of a command: the server judges them
pub record IsSignedPoint (p : Point) : Type 0 where
  pub x : IsSigned p.x
  pub y : IsSigned p.y

pub record IsAsked (r : Rect) : Type 0 where
  pub x : IsSigned r.x
  pub y : IsSigned r.y
  pub w : IsShort r.w
  pub h : IsShort r.h

-- an ink that a line can spell
abbrev pub IsInk : Ink → Type 0
IsInk Skip = ⊥
IsInk (Copy c) = IsColour c
IsInk (Xor c) = IsColour c
IsInk (And c) = IsColour c
IsInk (Or c) = IsColour c
IsInk (Blend c a) = IsColour c × IsByte a

-- codes that a font has
abbrev pub has_all : FontView → List ℕ → Bool
has_all font written = list_all (λ code. has_code font code) written

pub record IsWritten (fonts : List FontView) (font : ℕ) (written : List ℕ) : Type 0 where
  pub number : IsShort font
  pub declared : font < length fonts
  pub some : 1 ≤ length written
  pub most : length written ≤ 256
  pub each : All IsShort written
  pub has : has_all (font_at fonts font) written ≡ true

-- a call, with these fonts and so many images
abbrev pub IsCall : List FontView → ℕ → LineCall → Type 0
IsCall fonts images (Create name layer) = IsName name × IsShort layer
IsCall fonts images (Destroy window) = IsWindowWord window
IsCall fonts images (Region window origin rects) = IsWindowWord window × IsSignedPoint origin × All IsAsked rects × (length rects ≤ 64)
IsCall fonts images (Move window origin) = IsWindowWord window × IsSignedPoint origin
IsCall fonts images (Raise window) = IsWindowWord window
IsCall fonts images (Lower window) = IsWindowWord window
IsCall fonts images (Shape w h cells) = IsShort w × IsShort h × All IsPixel cells × (length cells ≤ 16384)
IsCall fonts images (Cursor at) = IsSignedPoint at
IsCall fonts images (Show shown) = ⊤
IsCall fonts images (Join channel) = IsWord channel
IsCall fonts images (Leave channel) = IsWord channel
IsCall fonts images (Send channel message payload) = IsWord channel × IsWord message × All IsByte payload × (length payload ≤ 65000)
IsCall fonts images Take = ⊤
IsCall fonts images (Known channel) = IsWord channel
IsCall fonts images (Fill window rect ink) = IsWindowWord window × IsPlacedRect rect × IsInk ink
IsCall fonts images (Tile window rect image) = IsWindowWord window × IsPlacedRect rect × IsShort image × (image < images)
IsCall fonts images (Blit window at image alpha) = IsWindowWord window × IsPlaced at × IsShort image × (image < images) × IsByte alpha
IsCall fonts images (Line window from to colour) = IsWindowWord window × IsPlaced from × IsPlaced to × IsColour colour
IsCall fonts images (Polyline window colour points) = IsWindowWord window × IsColour colour × IsPolyline points
IsCall fonts images (Polygon window ink points) = IsWindowWord window × IsInk ink × IsPolygon points
IsCall fonts images (Text window font at ink written) = IsWindowWord window × IsPlaced at × IsInk ink × IsWritten fonts font written

-- a line of a call behind others: fewer than 65,536 of these are the client's
pub record IsCallLine (clients : ℕ) (assets : List Asset) (before : List CallLine) (line : CallLine) : Type 0 where
  pub client : line.client < clients
  pub call : IsCall (fonts_of assets) (length (images_of assets)) line.call
  pub room : length (lines_by line.client before) < 65536

-- a glyph for a font
pub record IsNewGlyph (font : FontView) (glyph : GlyphView) : Type 0 where
  pub shape : IsGlyph font.height glyph.width glyph.rows
  pub code : IsShort glyph.code
  pub new : has_code font glyph.code ≡ false

-- a line of a font, a glyph or an image behind others: fewer than 8 of these are fonts, or 64 images
abbrev pub IsAsset : List Asset → Asset → Type 0
IsAsset before (FontLine height) = (1 ≤ height) × (height ≤ 32) × (length (fonts_of before) < 8)
IsAsset before (GlyphLine glyph) = (0 < length (fonts_of before)) × IsNewGlyph (latest (fonts_of before)) glyph
IsAsset before (ImageLine image) = IsImage image × All IsPixel image.pixels × (length (images_of before) < 64)

-- each is allowed behind those before it
abbrev pub EachBehind : {A : Type 0} → (List A → A → Type 0) → List A → List A → Type 0
EachBehind Allowed before [] = ⊤
EachBehind Allowed before (line ∷ lines) = Allowed before line × EachBehind Allowed (before ++ line ∷ []) lines

pub record IsSession (said : Session) : Type 0 where
  pub screen : IsScreen said.size
  pub backdrop : IsColour said.backdrop
  pub clients : said.clients ≤ 16
  pub assets : EachBehind IsAsset [] said.assets
  pub calls : EachBehind (IsCallLine said.clients said.assets) [] said.calls
