-- The log of a server turn in three parts: the cursor is lifted off the framebuffer, the scene is changed there, and the
-- cursor is put down.
use Rattle.std.specs.Prelude.{◌≡◌, ℕ, ◌+◌, ◌*◌, ◌/◌, ◌%◌, ◌<◌, false, pos, if◌then◌else◌, List, [], ◌∷◌, ◌++◌, Option, Some, None}
use Rattle.std.specs.List.{flat_map, range_with_len}
use Rattle.qws_base.specs.Sides.{Sides}
use Rattle.qws_base.specs.Points.{pixel_count, pixel_at}
use Rattle.qws_base.specs.Shown.{IsShape, cell_at}
use Rattle.qws_base.specs.Scenes.{Setting}
use Rattle.qws_base.specs.declared.colours.Depth.{Depth}
use Rattle.qws_base.specs.declared.windows.Cursor.{Cursor}
use Rattle.qws_base.specs.declared.commands.Command.{Command}
use Rattle.qws_base.specs.declared.replies.Reply.{Reply}
use Rattle.region_table.specs.Numbers.{pixel_word, saved_word}
use Rattle.region_table.specs.declared.tables.Table.{Table}
use Rattle.turn_logs.specs.declared.items.Item.{Item}
use Rattle.turn_logs.specs.declared.items.Item.TheVariants.{Pick, Put}
use Rattle.turn_logs.specs.Lines.{on, Shows}
use Rattle.turn_logs.specs.Carries.{ShownCell, shown_cell, under_cell, SceneCarried, source_of, is_bared, CarriesStep}

-- ---- the cursor is lifted off

-- what is found on the framebuffer word of a pixel: the value v is put there where a cell lies on the pixel
abbrev pub lifted : ℕ → Option ShownCell → ℕ → List Item
lifted p None v = []
lifted p (Some cell) v = Put (pixel_word p) v ∷ []

-- the saved word of each shown cell on a pixel is read, and its value, v of the pixel, is put on the framebuffer word
pub record LiftsOff (size : Sides) (cursor : Cursor) (v : ℕ → ℕ) (log : List Item) : Type 0 where
  pub saved : (p : ℕ) (cell : ShownCell) → p < pixel_count size → shown_cell size cursor p ≡ Some cell → on (saved_word cell.column cell.row) log ≡ Pick (saved_word cell.column cell.row) (v p) ∷ []
  pub pixels : (p : ℕ) → p < pixel_count size → on (pixel_word p) log ≡ lifted p (shown_cell size cursor p) (v p)

-- ---- the cursor is put down

-- what is found on the framebuffer word of a pixel: where a cell lies on the pixel, the value u is read there, and the cell's
-- blend over it put
abbrev pub put_down : Depth → ℕ → Option ShownCell → ℕ → List Item
put_down depth p None u = []
put_down depth p (Some cell) u = Pick (pixel_word p) u ∷ Put (pixel_word p) (under_cell depth (Some cell) u) ∷ []

-- the framebuffer word under each shown cell is read, and its value, u of the pixel, is put on the cell's saved word
pub record PutsDown (depth : Depth) (size : Sides) (cursor : Cursor) (u : ℕ → ℕ) (log : List Item) : Type 0 where
  pub saved : (p : ℕ) (cell : ShownCell) → p < pixel_count size → shown_cell size cursor p ≡ Some cell → on (saved_word cell.column cell.row) log ≡ Put (saved_word cell.column cell.row) (u p) ∷ []
  pub pixels : (p : ℕ) → p < pixel_count size → on (pixel_word p) log ≡ put_down depth p (shown_cell size cursor p) (u p)

-- ---- the three parts

-- the table with a hidden cursor
abbrev pub uncovered : Table → Table
uncovered table = record table { cursor = record table.cursor { shown = false } }

-- the log changes the scene on framebuffer words alone, as under hidden cursors
abbrev pub ChangesScene : Setting → Table → Table → Command → Reply → List Item → Type 0
ChangesScene setting before after command reply log = (p : ℕ) → p < pixel_count setting.size
    → SceneCarried setting (uncovered before) (uncovered after) log p (source_of setting.size before after command reply p) (is_bared setting.size after reply p)

-- each word had a value of which the log's Picks are true
abbrev pub IsTrueLog : List Item → Type 0
IsTrueLog log = (x : ℕ) → (w : ℕ) × Shows w (on x log)

-- a true log of the three parts carries a step
abbrev pub PhaseLaw : Type 0
PhaseLaw = (setting : Setting) (before after : Table) (command : Command) (reply : Reply) (first middle last : List Item) (v u : ℕ → ℕ)
    → LiftsOff setting.size before.cursor v first → ChangesScene setting before after command reply middle → PutsDown setting.depth setting.size after.cursor u last
    → IsTrueLog (first ++ (middle ++ last)) → CarriesStep setting before after command reply (first ++ (middle ++ last))

-- ---- the cursor stays

-- the log has nothing on the two words of a pixel on which a shown cell lies
abbrev pub IsAway : Sides → Cursor → List Item → Type 0
IsAway size cursor log = (p : ℕ) (cell : ShownCell) → p < pixel_count size → shown_cell size cursor p ≡ Some cell
    → (on (pixel_word p) log ≡ []) × (on (saved_word cell.column cell.row) log ≡ [])

-- a log away from a cursor that stays, which changes the scene, carries a step
abbrev pub AwayLaw : Type 0
AwayLaw = (setting : Setting) (before after : Table) (command : Command) (reply : Reply) (log : List Item)
    → before.cursor ≡ after.cursor → IsAway setting.size before.cursor log → ChangesScene setting before after command reply log → CarriesStep setting before after command reply log

-- ---- cell by cell

-- the pixel under the cell in a column and a row of a cursor; none off the screen
abbrev pub pixel_under : Sides → Cursor → ℕ → ℕ → Option ℕ
pixel_under size cursor column row = pixel_at size record { x = pos (cursor.x + column); y = pos (cursor.y + row) }

-- the items by which the cell is lifted off the pixel
abbrev pub lift_cell : ℕ → ℕ → (ℕ → ℕ) → Option ℕ → List Item
lift_cell column row v None = []
lift_cell column row v (Some p) = Pick (saved_word column row) (v p) ∷ Put (pixel_word p) (v p) ∷ []

-- cell k of a shape, counted by rows
abbrev pub lift_nth : Sides → Cursor → (ℕ → ℕ) → ℕ → List Item
lift_nth size cursor v k = lift_cell (k % cursor.w) (k / cursor.w) v (pixel_under size cursor (k % cursor.w) (k / cursor.w))

-- all cells of a shown cursor, by rows
abbrev pub lift_items : Sides → Cursor → (ℕ → ℕ) → List Item
lift_items size cursor v = if cursor.shown then flat_map (lift_nth size cursor v) (range_with_len 0 (cursor.w * cursor.h)) else []

-- the items by which the cell is put down on the pixel
abbrev pub drop_cell : Depth → ShownCell → (ℕ → ℕ) → Option ℕ → List Item
drop_cell depth cell u None = []
drop_cell depth cell u (Some p) =
    Pick (pixel_word p) (u p) ∷ Put (saved_word cell.column cell.row) (u p) ∷ Put (pixel_word p) (under_cell depth (Some cell) (u p)) ∷ []

-- the cell in a column and a row of a cursor
abbrev pub cell_in : Cursor → ℕ → ℕ → ShownCell
cell_in cursor column row = record { column = column; row = row; value = cell_at cursor (column, row) }

-- cell k of a shape, counted by rows
abbrev pub drop_nth : Depth → Sides → Cursor → (ℕ → ℕ) → ℕ → List Item
drop_nth depth size cursor u k = drop_cell depth (cell_in cursor (k % cursor.w) (k / cursor.w)) u (pixel_under size cursor (k % cursor.w) (k / cursor.w))

-- all cells of a shown cursor, by rows
abbrev pub drop_items : Depth → Sides → Cursor → (ℕ → ℕ) → List Item
drop_items depth size cursor u = if cursor.shown then flat_map (drop_nth depth size cursor u) (range_with_len 0 (cursor.w * cursor.h)) else []

-- cell by cell, a cursor is lifted off and put down
pub record CellsLaw : Type 0 where
  pub lifts : (size : Sides) (cursor : Cursor) (v : ℕ → ℕ) → IsShape cursor → LiftsOff size cursor v (lift_items size cursor v)
  pub drops : (depth : Depth) (size : Sides) (cursor : Cursor) (u : ℕ → ℕ) → IsShape cursor → PutsDown depth size cursor u (drop_items depth size cursor u)
