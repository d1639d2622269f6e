-- What a call means with the names of its client: a command, or a slot and a paint. Fonts and images are those of the session.
use Rattle.std.specs.Prelude.{List}
use Rattle.qws_base.specs.declared.commands.Command.TheVariants.{Create as CreateCommand, Destroy as DestroyCommand, Region as RegionCommand, Move as MoveCommand, Raise as RaiseCommand, Lower as LowerCommand, CursorShape, CursorMove, CursorShow, Join as JoinCommand, Leave as LeaveCommand, Send as SendCommand, Take as TakeCommand, IsRegistered}
use Rattle.glyph_masks.specs.Glyphs.{FontView}
use Rattle.glyph_masks.specs.Texts.{spelled}
use Rattle.gfx_fills.specs.Images.{ImageView}
use Rattle.gfx_painters.specs.declared.paints.Paint.TheVariants.{Fill as FillPaint, Tile as TilePaint, Blit as BlitPaint, Line as LinePaint, Polyline as PolylinePaint, Polygon as PolygonPaint, Text as TextPaint}
use Rattle.script_grammar.specs.Session.{Session, fonts_of, images_of, font_at, image_at}
use Rattle.script_grammar.specs.declared.lines.LineCall.{LineCall}
use Rattle.script_grammar.specs.declared.lines.LineCall.TheVariants.{Create, Destroy, Region, Move, Raise, Lower, Shape, Cursor, Show, Join, Leave, Send, Take, Known, Fill, Tile, Blit, Line, Polyline, Polygon, Text}
use Rattle.script_names.specs.Naming.{Naming, window_slot}
use Rattle.script_names.specs.declared.calls.Call.{Call}
use Rattle.script_names.specs.declared.calls.Call.TheVariants.{Step, Paint}

abbrev pub meaning_with : List FontView → List ImageView → Naming → LineCall → Call
meaning_with fonts images slots (Create name layer) = Step (CreateCommand layer)
meaning_with fonts images slots (Destroy window) = Step (DestroyCommand (window_slot slots window))
meaning_with fonts images slots (Region window origin rects) = Step (RegionCommand (window_slot slots window) origin rects)
meaning_with fonts images slots (Move window origin) = Step (MoveCommand (window_slot slots window) origin)
meaning_with fonts images slots (Raise window) = Step (RaiseCommand (window_slot slots window))
meaning_with fonts images slots (Lower window) = Step (LowerCommand (window_slot slots window))
meaning_with fonts images slots (Shape w h cells) = Step (CursorShape w h cells)
meaning_with fonts images slots (Cursor at) = Step (CursorMove at.x at.y)
meaning_with fonts images slots (Show shown) = Step (CursorShow shown)
meaning_with fonts images slots (Join channel) = Step (JoinCommand channel)
meaning_with fonts images slots (Leave channel) = Step (LeaveCommand channel)
meaning_with fonts images slots (Send channel message payload) = Step (SendCommand channel message payload)
meaning_with fonts images slots Take = Step TakeCommand
meaning_with fonts images slots (Known channel) = Step (IsRegistered channel)
meaning_with fonts images slots (Fill window rect ink) = Paint (window_slot slots window) (FillPaint (record { rect = rect; ink = ink }))
meaning_with fonts images slots (Tile window rect image) = Paint (window_slot slots window) (TilePaint (record { rect = rect; image = image_at images image }))
meaning_with fonts images slots (Blit window at image alpha) = Paint (window_slot slots window) (BlitPaint (record { at = at; image = image_at images image; alpha = alpha }))
meaning_with fonts images slots (Line window from to colour) = Paint (window_slot slots window) (LinePaint (record { from = from; to = to; colour = colour }))
meaning_with fonts images slots (Polyline window colour points) = Paint (window_slot slots window) (PolylinePaint (record { points = points; colour = colour }))
meaning_with fonts images slots (Polygon window ink points) = Paint (window_slot slots window) (PolygonPaint (record { points = points; ink = ink }))
meaning_with fonts images slots (Text window font at ink written) = Paint (window_slot slots window) (TextPaint (record { at = at; ink = ink; height = (font_at fonts font).height; glyphs = spelled (font_at fonts font) written }))

abbrev pub meaning : Session → Naming → LineCall → Call
meaning said slots call = meaning_with (fonts_of said.assets) (images_of said.assets) slots call
