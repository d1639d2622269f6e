-- The bytes that a session is printed as. A line is a list of words, separated by single blanks and ended by a line feed.
use Rattle.std.specs.Prelude.{ℕ, ◌+◌, ◌*◌, ◌/◌, ◌%◌, zero, suc, ℤ, Bool, true, false, nat_lt, List, [], ◌∷◌, ◌++◌, map, length, if◌then◌else◌}
use lib.Chars.{codes}
use Rattle.std.specs.List.{flat_map, join_with_byte}
use Rattle.std.specs.Fmt.{decimal, signed_decimal}
use Rattle.qws_base.specs.declared.colours.Depth.{Depth}
use Rattle.qws_base.specs.declared.colours.Depth.TheVariants.{Full, Narrow}
use Rattle.qws_base.specs.declared.points.Point.{Point}
use Rattle.qws_base.specs.declared.points.Rect.{Rect}
use Rattle.qws_base.specs.declared.inks.Ink.{Ink}
use Rattle.qws_base.specs.declared.inks.Ink.TheVariants.{Skip, Copy, Xor, And, Or, Blend}
use Rattle.script_grammar.specs.Session.{Session, Asset, FontLine, GlyphLine, ImageLine}
use Rattle.script_grammar.specs.declared.lines.Window.{Window}
use Rattle.script_grammar.specs.declared.lines.Window.TheVariants.{Named, Numbered}
use Rattle.script_grammar.specs.declared.lines.LineCall.{LineCall}
use Rattle.script_grammar.specs.declared.lines.LineCall.TheVariants.{Create, Destroy, Region, Move, Raise, Lower, Shape, Cursor, Show, Join, Leave, Send, Take, Known, Fill, Tile, Blit, Line, Polyline, Polygon, Text}
use Rattle.script_grammar.specs.declared.lines.CallLine.{CallLine}

-- ---- words

abbrev pub hex_digit : ℕ → ℕ
hex_digit n = if nat_lt n 10 then 48 + n else 87 + n

-- the last k hexadecimal digits of a number, in lower case
abbrev pub hex : ℕ → ℕ → List ℕ
hex zero n = []
hex (suc k) n = hex k (n / 16) ++ hex_digit (n % 16) ∷ []

abbrev pub colour : ℕ → List ℕ
colour c = hex 6 c

-- groups of k digits; a minus for none
abbrev pub hex_groups : ℕ → List ℕ → List ℕ
hex_groups k [] = codes "-"
hex_groups k (n ∷ more) = flat_map (hex k) (n ∷ more)

abbrev pub window_word : Window → List ℕ
window_word (Named name) = name
window_word (Numbered slot) = codes "#" ++ decimal slot

-- ---- words that belong together

abbrev pub point_words : Point → List (List ℕ)
point_words p = signed_decimal p.x ∷ signed_decimal p.y ∷ []

abbrev pub rect_words : Rect → List (List ℕ)
rect_words r = signed_decimal r.x ∷ signed_decimal r.y ∷ decimal r.w ∷ decimal r.h ∷ []

-- no line spells Skip
abbrev pub ink_words : Ink → List (List ℕ)
ink_words Skip = []
ink_words (Copy c) = codes "copy" ∷ colour c ∷ []
ink_words (Xor c) = codes "xor" ∷ colour c ∷ []
ink_words (And c) = codes "and" ∷ colour c ∷ []
ink_words (Or c) = codes "or" ∷ colour c ∷ []
ink_words (Blend c a) = codes "blend" ∷ decimal a ∷ colour c ∷ []

abbrev pub shown_word : Bool → List ℕ
shown_word true = codes "1"
shown_word false = codes "0"

-- ---- lines

-- the first word of a call behind the client
abbrev pub kind_word : LineCall → List ℕ
kind_word (Create name layer) = codes "create"
kind_word (Destroy window) = codes "destroy"
kind_word (Region window origin rects) = codes "region"
kind_word (Move window origin) = codes "move"
kind_word (Raise window) = codes "raise"
kind_word (Lower window) = codes "lower"
kind_word (Shape w h cells) = codes "shape"
kind_word (Cursor at) = codes "cursor"
kind_word (Show shown) = codes "show"
kind_word (Join channel) = codes "join"
kind_word (Leave channel) = codes "leave"
kind_word (Send channel message payload) = codes "send"
kind_word Take = codes "take"
kind_word (Known channel) = codes "known"
kind_word (Fill window rect ink) = codes "fill"
kind_word (Tile window rect image) = codes "tile"
kind_word (Blit window at image alpha) = codes "blit"
kind_word (Line window from to colour) = codes "line"
kind_word (Polyline window colour points) = codes "polyline"
kind_word (Polygon window ink points) = codes "polygon"
kind_word (Text window font at ink written) = codes "text"

-- the words behind it
abbrev pub call_words : LineCall → List (List ℕ)
call_words (Create name layer) = name ∷ decimal layer ∷ []
call_words (Destroy window) = window_word window ∷ []
call_words (Region window origin rects) = window_word window ∷ point_words origin ++ flat_map rect_words rects
call_words (Move window origin) = window_word window ∷ point_words origin
call_words (Raise window) = window_word window ∷ []
call_words (Lower window) = window_word window ∷ []
call_words (Shape w h cells) = decimal w ∷ decimal h ∷ hex_groups 8 cells ∷ []
call_words (Cursor at) = point_words at
call_words (Show shown) = shown_word shown ∷ []
call_words (Join channel) = channel ∷ []
call_words (Leave channel) = channel ∷ []
call_words (Send channel message payload) = channel ∷ message ∷ hex_groups 2 payload ∷ []
call_words Take = []
call_words (Known channel) = channel ∷ []
call_words (Fill window rect ink) = window_word window ∷ rect_words rect ++ ink_words ink
call_words (Tile window rect image) = window_word window ∷ rect_words rect ++ decimal image ∷ []
call_words (Blit window at image alpha) = window_word window ∷ point_words at ++ decimal image ∷ decimal alpha ∷ []
call_words (Line window from to c) = window_word window ∷ point_words from ++ point_words to ++ colour c ∷ []
call_words (Polyline window c points) = window_word window ∷ colour c ∷ flat_map point_words points
call_words (Polygon window ink points) = window_word window ∷ ink_words ink ++ flat_map point_words points
call_words (Text window font at ink written) = window_word window ∷ decimal font ∷ point_words at ++ ink_words ink ++ map decimal written

abbrev pub line_words : CallLine → List (List ℕ)
line_words line = decimal line.client ∷ kind_word line.call ∷ call_words line.call

-- a row of a glyph has a digit for each four columns
abbrev pub row_digits : ℕ → ℕ
row_digits width = (width + 3) / 4

abbrev pub asset_words : Asset → List (List ℕ)
asset_words (FontLine height) = codes "font" ∷ decimal height ∷ []
asset_words (GlyphLine glyph) = codes "glyph" ∷ decimal glyph.code ∷ decimal glyph.width ∷ map (hex (row_digits glyph.width)) glyph.rows
asset_words (ImageLine image) = codes "image" ∷ decimal image.w ∷ decimal image.h ∷ flat_map (hex 8) image.pixels ∷ []

abbrev pub depth_lines : Depth → List (List (List ℕ))
depth_lines Full = []
depth_lines Narrow = (codes "depth" ∷ codes "16" ∷ []) ∷ []

-- the lines of a session, each as its words
abbrev pub screen_line : Session → List (List ℕ)
screen_line said = codes "screen" ∷ decimal said.size.w ∷ decimal said.size.h ∷ colour said.backdrop ∷ []

abbrev pub clients_line : Session → List (List ℕ)
clients_line said = codes "clients" ∷ decimal said.clients ∷ []

abbrev pub end_line : List (List ℕ)
end_line = codes "end" ∷ []

abbrev pub head_lines : Session → List (List (List ℕ))
head_lines said = depth_lines said.depth ++ screen_line said ∷ clients_line said ∷ []

abbrev pub script_lines : Session → List (List (List ℕ))
script_lines said = head_lines said ++ map asset_words said.assets ++ map line_words said.calls ++ end_line ∷ []

-- ---- bytes

abbrev pub ended_line : List (List ℕ) → List ℕ
ended_line words = join_with_byte 32 words ++ 10 ∷ []

unfoldable pub script_text : Session → List ℕ
script_text said = flat_map ended_line (script_lines said)
