-- The lines, form by form: each word is judged, and what they make is the line.
use Rattle.std.specs.Prelude.{ℕ, ◌*◌, Bool, true, false, ◌==◌, ◌&&◌, nat_lt, List, [], ◌∷◌, length, Result, Ok, Err, if◌then◌else◌}
use lib.Chars.{codes}
use Rattle.std.specs.Str.{bytes_eq}
use Rattle.qws_base.specs.Sides.{Sides}
use Rattle.qws_base.specs.declared.colours.Depth.{Depth}
use Rattle.qws_base.specs.declared.colours.Depth.TheVariants.{Narrow}
use Rattle.qws_base.specs.declared.points.Point.{Point}
use Rattle.glyph_masks.specs.Glyphs.{GlyphView, FontView, has_code}
use Rattle.gfx_fills.specs.Images.{ImageView}
use Rattle.script_grammar.specs.Judging.{◌>>=◌, ◌⊛◌, each_of, as_many, ◌or_else◌}
use Rattle.script_grammar.specs.Spelling.{number_read, in_range, colour_read, name_read}
use Rattle.script_grammar.specs.Limits.{has_all}
use Rattle.script_grammar.specs.Words.{short_read, ranged, declared_read, window_read, text_word_read, bytes_read, cells_read, pixels_read, row_read, point_read, placed_point_read, placed_rect_read, size_read, rects_read, points_read, in_count, ink_then, and_no_more}
use Rattle.script_grammar.specs.Session.{Session, Asset, FontLine, GlyphLine, ImageLine, fonts_of, images_of, font_at, latest, lines_by}
use Rattle.script_grammar.specs.declared.lines.LineCall.{LineCall}
use Rattle.script_grammar.specs.declared.lines.LineCall.TheVariants.{Create, Destroy, Region, Move, Raise, Lower, Shape, Cursor, Show, Join, Leave, Send, Take, Known, Fill, Tile, Blit, Line, Polyline, Polygon, Text}
use Rattle.script_grammar.specs.declared.lines.CallLine.{CallLine}
use Rattle.script_grammar.specs.declared.lines.Cause.{Cause}
use Rattle.script_grammar.specs.declared.lines.Cause.TheVariants.{Form, Range, Repeated, Missing, Many}

-- ---- the head

-- `depth 16`
abbrev pub sixteen : ℕ → Result Depth Cause
sixteen n = if n == 16 then Ok Narrow else Err Range

unfoldable pub depth_read : List (List ℕ) → Result Depth Cause
depth_read (fixed ∷ n ∷ []) = if bytes_eq fixed (codes "depth") then (number_read n >>= sixteen) else Err Form
depth_read words = Err Form

-- `screen W H COLOUR`
unfoldable pub screen_read : List (List ℕ) → Result (Sides × ℕ) Cause
screen_read (fixed ∷ w ∷ h ∷ colour ∷ []) = if bytes_eq fixed (codes "screen") then (Ok (λ size c. (size, c)) ⊛ size_read w h ⊛ colour_read colour) else Err Form
screen_read words = Err Form

-- `clients N`
unfoldable pub clients_read : List (List ℕ) → Result ℕ Cause
clients_read (fixed ∷ n ∷ []) = if bytes_eq fixed (codes "clients") then ranged 0 16 n else Err Form
clients_read words = Err Form

-- ---- fonts and images, behind others

-- nothing of the kind, where there are so many
abbrev pub fewer : {A : Type 0} → ℕ → ℕ → A → Result A Cause
fewer count most x = if nat_lt count most then Ok x else Err Many

-- `font HEIGHT`
unfoldable pub font_read : List FontView → List (List ℕ) → Result Asset Cause
font_read fonts (fixed ∷ height ∷ []) = if bytes_eq fixed (codes "font") then (Ok FontLine ⊛ ranged 1 32 height >>= fewer (length fonts) 8) else Err Form
font_read fonts words = Err Form

abbrev pub new_in : FontView → GlyphView → Result Asset Cause
new_in font glyph = if has_code font glyph.code then Err Repeated else Ok (GlyphLine glyph)

-- `glyph CODE WIDTH ROW ROW ..`, a row for each of the latest font's height
unfoldable pub glyph_read : List FontView → List (List ℕ) → Result Asset Cause
glyph_read fonts (fixed ∷ code ∷ width ∷ rows) =
    if bytes_eq fixed (codes "glyph") && (nat_lt 0 (length fonts) && length rows == (latest fonts).height)
    then (Ok (λ code width rows. record { code = code; width = width; rows = rows }) ⊛ short_read code ⊛ ranged 1 32 width ⊛ (number_read width >>= λ columns. each_of (row_read columns) rows) >>= new_in (latest fonts))
    else Err Form
glyph_read fonts words = Err Form

abbrev pub whole_image : ImageView → Result ImageView Cause
whole_image image = as_many (image.w * image.h) image.pixels >>= λ pixels. Ok image

-- `image W H PIXELS`
unfoldable pub image_read : List ImageView → List (List ℕ) → Result Asset Cause
image_read images (fixed ∷ w ∷ h ∷ pixels ∷ []) =
    if bytes_eq fixed (codes "image")
    then ((Ok (λ w h pixels. record { w = w; h = h; pixels = pixels }) ⊛ ranged 1 256 w ⊛ ranged 1 256 h ⊛ pixels_read pixels >>= whole_image) >>= fewer (length images) 64 >>= λ image. Ok (ImageLine image))
    else Err Form
image_read images words = Err Form

unfoldable pub asset_read : List Asset → List (List ℕ) → Result Asset Cause
asset_read before words = font_read (fonts_of before) words or_else glyph_read (fonts_of before) words or_else image_read (images_of before) words

-- ---- calls: the words behind the client and the kind

-- `create NAME LAYER`
unfoldable pub create_read : List (List ℕ) → Result LineCall Cause
create_read (name ∷ layer ∷ []) = Ok (λ name layer. Create name layer) ⊛ name_read name ⊛ short_read layer
create_read words = Err Form

-- `destroy WIN`
unfoldable pub destroy_read : List (List ℕ) → Result LineCall Cause
destroy_read (window ∷ []) = Ok Destroy ⊛ window_read window
destroy_read words = Err Form

-- `region WIN OX OY` and 0 to 64 groups `X Y W H`
unfoldable pub region_read : List (List ℕ) → Result LineCall Cause
region_read (window ∷ x ∷ y ∷ groups) = Ok (λ window origin rects. Region window origin rects) ⊛ window_read window ⊛ point_read x y ⊛ in_count 0 256 groups (rects_read groups)
region_read words = Err Form

-- `move WIN OX OY`
unfoldable pub move_read : List (List ℕ) → Result LineCall Cause
move_read (window ∷ x ∷ y ∷ []) = Ok (λ window origin. Move window origin) ⊛ window_read window ⊛ point_read x y
move_read words = Err Form

-- `raise WIN`
unfoldable pub raise_read : List (List ℕ) → Result LineCall Cause
raise_read (window ∷ []) = Ok Raise ⊛ window_read window
raise_read words = Err Form

-- `lower WIN`
unfoldable pub lower_read : List (List ℕ) → Result LineCall Cause
lower_read (window ∷ []) = Ok Lower ⊛ window_read window
lower_read words = Err Form

-- `shape W H CELLS`
unfoldable pub shape_read : List (List ℕ) → Result LineCall Cause
shape_read (w ∷ h ∷ cells ∷ []) = Ok (λ w h cells. Shape w h cells) ⊛ short_read w ⊛ short_read h ⊛ cells_read cells
shape_read words = Err Form

-- `cursor X Y`
unfoldable pub cursor_read : List (List ℕ) → Result LineCall Cause
cursor_read (x ∷ y ∷ []) = Ok Cursor ⊛ point_read x y
cursor_read words = Err Form

-- `show 0` or `show 1`, which are fixed words
unfoldable pub show_read : List (List ℕ) → Result LineCall Cause
show_read (shown ∷ []) = if bytes_eq shown (codes "0") then Ok (Show false) else if bytes_eq shown (codes "1") then Ok (Show true) else Err Form
show_read words = Err Form

-- `join WORD`
unfoldable pub join_read : List (List ℕ) → Result LineCall Cause
join_read (channel ∷ []) = Ok Join ⊛ text_word_read channel
join_read words = Err Form

-- `leave WORD`
unfoldable pub leave_read : List (List ℕ) → Result LineCall Cause
leave_read (channel ∷ []) = Ok Leave ⊛ text_word_read channel
leave_read words = Err Form

-- `send WORD WORD HEX`
unfoldable pub send_read : List (List ℕ) → Result LineCall Cause
send_read (channel ∷ message ∷ payload ∷ []) = Ok (λ channel message payload. Send channel message payload) ⊛ text_word_read channel ⊛ text_word_read message ⊛ bytes_read payload
send_read words = Err Form

-- `take`
unfoldable pub take_read : List (List ℕ) → Result LineCall Cause
take_read [] = Ok Take
take_read (word ∷ words) = Err Form

-- `known WORD`
unfoldable pub known_read : List (List ℕ) → Result LineCall Cause
known_read (channel ∷ []) = Ok Known ⊛ text_word_read channel
known_read words = Err Form

-- `fill WIN X Y W H INK`
unfoldable pub fill_read : List (List ℕ) → Result LineCall Cause
fill_read (window ∷ x ∷ y ∷ w ∷ h ∷ ink) = Ok (λ window rect ink. Fill window rect ink) ⊛ window_read window ⊛ placed_rect_read x y w h ⊛ and_no_more (ink_then ink)
fill_read words = Err Form

-- `tile WIN X Y W H IMAGE`
unfoldable pub tile_read : ℕ → List (List ℕ) → Result LineCall Cause
tile_read images (window ∷ x ∷ y ∷ w ∷ h ∷ image ∷ []) = Ok (λ window rect image. Tile window rect image) ⊛ window_read window ⊛ placed_rect_read x y w h ⊛ declared_read images image
tile_read images words = Err Form

-- `blit WIN X Y IMAGE ALPHA`
unfoldable pub blit_read : ℕ → List (List ℕ) → Result LineCall Cause
blit_read images (window ∷ x ∷ y ∷ image ∷ alpha ∷ []) = Ok (λ window at image alpha. Blit window at image alpha) ⊛ window_read window ⊛ placed_point_read x y ⊛ declared_read images image ⊛ ranged 0 255 alpha
blit_read images words = Err Form

-- `line WIN X0 Y0 X1 Y1 COLOUR`
unfoldable pub stroke_read : List (List ℕ) → Result LineCall Cause
stroke_read (window ∷ x0 ∷ y0 ∷ x1 ∷ y1 ∷ colour ∷ []) = Ok (λ window from to colour. Line window from to colour) ⊛ window_read window ⊛ placed_point_read x0 y0 ⊛ placed_point_read x1 y1 ⊛ colour_read colour
stroke_read words = Err Form

-- `polyline WIN COLOUR` and 2 to 64 points `X Y`
unfoldable pub polyline_read : List (List ℕ) → Result LineCall Cause
polyline_read (window ∷ colour ∷ points) = Ok (λ window colour points. Polyline window colour points) ⊛ window_read window ⊛ colour_read colour ⊛ in_count 4 128 points (points_read points)
polyline_read words = Err Form

-- `polygon WIN INK` and 3 to 64 points `X Y`
unfoldable pub polygon_read : List (List ℕ) → Result LineCall Cause
polygon_read (window ∷ words) = Ok (λ window ink points. Polygon window ink points) ⊛ window_read window ⊛ (ink_then words).0 ⊛ in_count 6 128 (ink_then words).1 (points_read (ink_then words).1)
polygon_read words = Err Form

abbrev pub all_in : List FontView → ℕ × List ℕ → Result (ℕ × List ℕ) Cause
all_in fonts text = if has_all (font_at fonts text.0) text.1 then Ok text else Err Missing

-- a font, and 1 to 256 codes that it has
unfoldable pub written_read : List FontView → List ℕ → List (List ℕ) → Result (ℕ × List ℕ) Cause
written_read fonts font words = Ok (λ font written. (font, written)) ⊛ declared_read (length fonts) font ⊛ in_count 1 256 words (each_of short_read words) >>= all_in fonts

-- `text WIN FONT X Y INK` and codes
unfoldable pub text_read : List FontView → List (List ℕ) → Result LineCall Cause
text_read fonts (window ∷ font ∷ x ∷ y ∷ words) = Ok (λ window at ink text. Text window text.0 at ink text.1) ⊛ window_read window ⊛ placed_point_read x y ⊛ (ink_then words).0 ⊛ written_read fonts font (ink_then words).1
text_read fonts words = Err Form

-- ---- the forms of calls, by the kind, with these fonts and so many images

pub record CallForm : Type 0 where
  pub kind : List ℕ
  pub rest : List (List ℕ) → Result LineCall Cause

abbrev pub call_forms : List FontView → ℕ → List CallForm
call_forms fonts images =
    record { kind = codes "create"; rest = create_read }
    ∷ record { kind = codes "destroy"; rest = destroy_read }
    ∷ record { kind = codes "region"; rest = region_read }
    ∷ record { kind = codes "move"; rest = move_read }
    ∷ record { kind = codes "raise"; rest = raise_read }
    ∷ record { kind = codes "lower"; rest = lower_read }
    ∷ record { kind = codes "shape"; rest = shape_read }
    ∷ record { kind = codes "cursor"; rest = cursor_read }
    ∷ record { kind = codes "show"; rest = show_read }
    ∷ record { kind = codes "join"; rest = join_read }
    ∷ record { kind = codes "leave"; rest = leave_read }
    ∷ record { kind = codes "send"; rest = send_read }
    ∷ record { kind = codes "take"; rest = take_read }
    ∷ record { kind = codes "known"; rest = known_read }
    ∷ record { kind = codes "fill"; rest = fill_read }
    ∷ record { kind = codes "tile"; rest = tile_read images }
    ∷ record { kind = codes "blit"; rest = blit_read images }
    ∷ record { kind = codes "line"; rest = stroke_read }
    ∷ record { kind = codes "polyline"; rest = polyline_read }
    ∷ record { kind = codes "polygon"; rest = polygon_read }
    ∷ record { kind = codes "text"; rest = text_read fonts }
    ∷ []

-- a kind and its words: no other kind is a form
abbrev pub call_by : List CallForm → List ℕ → List (List ℕ) → Result LineCall Cause
call_by [] kind words = Err Form
call_by (form ∷ forms) kind words = if bytes_eq kind form.kind then form.rest words else call_by forms kind words

abbrev pub with_room : List CallLine → CallLine → Result CallLine Cause
with_room before line = fewer (length (lines_by line.client before)) 65536 line

-- `C` and a call
unfoldable pub line_read : Session → List (List ℕ) → Result CallLine Cause
line_read said (client ∷ kind ∷ words) =
    Ok (λ client call. record { client = client; call = call }) ⊛ declared_read said.clients client ⊛ call_by (call_forms (fonts_of said.assets) (length (images_of said.assets))) kind words
    >>= with_room said.calls
line_read said words = Err Form
