-- The generated calls. The numbers of each are drawn in the order in which they stand in its line.
use Rattle.std.specs.Prelude.{ℕ, ◌+◌, ◌-◌, ◌*◌, ◌/◌, ◌%◌, pos, ◌==◌, nat_lt, List, [], ◌∷◌, if◌then◌else◌}
use Rattle.qws_base.specs.declared.points.Point.{Point}
use Rattle.qws_base.specs.declared.points.Rect.{Rect}
use Rattle.qws_base.specs.declared.inks.Ink.TheVariants.{Copy, Xor, Blend}
use Rattle.script_grammar.specs.declared.lines.Window.{Window}
use Rattle.script_grammar.specs.declared.lines.Window.TheVariants.{Named}
use Rattle.script_grammar.specs.declared.lines.LineCall.{LineCall}
use Rattle.script_grammar.specs.declared.lines.LineCall.TheVariants.{Create, Region, Move, Raise, Lower, Cursor, Take, Fill, Tile, Line, Polygon, Text}
use Rattle.session_maker.specs.Draws.{state_after, draw}

-- a call, and the state behind its draws
pub record Drawn : Type 0 where
  pub call : LineCall
  pub state : ℕ

-- a client has two or three windows
abbrev pub window_count : ℕ → ℕ
window_count client = 2 + client % 2

-- their names: `a`, `b`, `c`
abbrev pub name : ℕ → List ℕ
name i = (97 + i) ∷ []

abbrev pub window : ℕ → Window
window i = Named (name i)

-- ---- parts of calls

-- a point of two draws, from draw k on
abbrev pub point_drawn : ℕ → ℕ → ℕ → ℕ → Point
point_drawn x k across down = record { x = pos (draw x k across); y = pos (draw x (k + 1) down) }

-- a rectangle of four draws
abbrev pub rect_drawn : ℕ → Rect
rect_drawn x = record { x = pos (draw x 0 100); y = pos (draw x 1 80); w = 1 + draw x 2 60; h = 1 + draw x 3 40 }

-- three points of six draws, from draw k on
abbrev pub corners_drawn : ℕ → ℕ → List Point
corners_drawn x k = point_drawn x k 120 100 ∷ point_drawn x (k + 2) 120 100 ∷ point_drawn x (k + 4) 120 100 ∷ []

abbrev pub colour_drawn : ℕ → ℕ → ℕ
colour_drawn x k = draw x k 16777216

-- ---- the kinds of calls

abbrev pub create_drawn : ℕ → ℕ → Drawn
create_drawn i x = record { call = Create (name i) (draw x 0 2); state = state_after 1 x }

-- the one rectangle begins at the origin
abbrev pub region_drawn : ℕ → ℕ → Drawn
region_drawn i x = record {
  call = Region (window i) (point_drawn x 0 280 200) (record { x = pos 0; y = pos 0; w = 20 + draw x 2 100; h = 20 + draw x 3 80 } ∷ []);
  state = state_after 4 x;
}

abbrev pub move_drawn : ℕ → ℕ → Drawn
move_drawn i x = record { call = Move (window i) (point_drawn x 0 280 200); state = state_after 2 x }

abbrev pub raise_drawn : ℕ → ℕ → Drawn
raise_drawn i x = record { call = Raise (window i); state = x }

abbrev pub lower_drawn : ℕ → ℕ → Drawn
lower_drawn i x = record { call = Lower (window i); state = x }

abbrev pub cursor_drawn : ℕ → Drawn
cursor_drawn x = record { call = Cursor (point_drawn x 0 320 240); state = state_after 2 x }

abbrev pub fill_drawn : ℕ → ℕ → Drawn
fill_drawn i x = record { call = Fill (window i) (rect_drawn x) (Copy (colour_drawn x 4)); state = state_after 5 x }

-- the alpha, then the colour
abbrev pub blend_drawn : ℕ → ℕ → Drawn
blend_drawn i x = record { call = Fill (window i) (rect_drawn x) (Blend (colour_drawn x 5) (draw x 4 256)); state = state_after 6 x }

abbrev pub line_drawn : ℕ → ℕ → Drawn
line_drawn i x = record { call = Line (window i) (point_drawn x 0 120 100) (point_drawn x 2 120 100) (colour_drawn x 4); state = state_after 5 x }

abbrev pub polygon_drawn : ℕ → ℕ → Drawn
polygon_drawn i x = record { call = Polygon (window i) (Xor (colour_drawn x 0)) (corners_drawn x 1); state = state_after 7 x }

abbrev pub text_drawn : ℕ → ℕ → Drawn
text_drawn i x = record { call = Text (window i) 0 (point_drawn x 0 100 80) (Copy (colour_drawn x 2)) (65 ∷ 65 ∷ []); state = state_after 3 x }

abbrev pub tile_drawn : ℕ → ℕ → Drawn
tile_drawn i x = record { call = Tile (window i) (rect_drawn x) 0; state = state_after 4 x }

abbrev pub take_drawn : ℕ → Drawn
take_drawn x = record { call = Take; state = x }

-- ---- which call is made

-- a kind of 0 to 11, for a window
abbrev pub kind_drawn : ℕ → ℕ → ℕ → Drawn
kind_drawn kind i x =
    if kind == 0 then move_drawn i x
    else (if kind == 1 then raise_drawn i x
    else (if kind == 2 then lower_drawn i x
    else (if kind == 3 then cursor_drawn x
    else (if kind == 4 then fill_drawn i x
    else (if kind == 5 then fill_drawn i x
    else (if kind == 6 then blend_drawn i x
    else (if kind == 7 then line_drawn i x
    else (if kind == 8 then polygon_drawn i x
    else (if kind == 9 then text_drawn i x
    else (if kind == 10 then tile_drawn i x
    else take_drawn x))))))))))

-- a client's first calls, two for each window: create and region in turn
abbrev pub first_drawn : ℕ → ℕ → Drawn
first_drawn k x = if k % 2 == 0 then create_drawn (k / 2) x else region_drawn ((k - 1) / 2) x

-- a later call: the window, then the kind, then the call's own numbers
abbrev pub later_drawn : ℕ → ℕ → Drawn
later_drawn client x = kind_drawn (draw x 1 12) (draw x 0 (window_count client)) (state_after 2 x)

-- call k of a client, drawn from a state on
abbrev pub call_drawn : ℕ → ℕ → ℕ → Drawn
call_drawn client k x = if nat_lt k (2 * window_count client) then first_drawn k x else later_drawn client x
