-- When words stand for a scene, and when the log of a turn carries the scene on, pixel by pixel.
use Rattle.std.specs.Prelude.{◌≡◌, ℕ, ◌<◌, Bool, true, false, not, ◌&&◌, ◌⊎◌, List, [], ◌∷◌, Option, Some, None, is_none, slice_index, if◌then◌else◌, ⊤}
use Rattle.std.specs.Option.{option_map}
use Rattle.qws_base.specs.Points.{pixel_count, point_of}
use Rattle.qws_base.specs.Sides.{Sides}
use Rattle.qws_base.specs.Inks.{ink_after, is_skip}
use Rattle.qws_base.specs.Windows.{Layout, owns}
use Rattle.qws_base.specs.States.{is_refused, moved_slot}
use Rattle.qws_base.specs.Sheets.{Sheet}
use Rattle.qws_base.specs.Scenes.{Setting, carried_from, scene_after_step, scene_after_paint, paint_reply, ink_on}
use Rattle.qws_base.specs.Shown.{cell_on, cell_at, cell_ink, under_cursor}
use Rattle.qws_base.specs.declared.colours.Depth.{Depth}
use Rattle.qws_base.specs.declared.points.Point.{Point}
use Rattle.qws_base.specs.declared.inks.Ink.{Ink}
use Rattle.qws_base.specs.declared.windows.Cursor.{Cursor}
use Rattle.qws_base.specs.declared.commands.Command.{Command}
use Rattle.qws_base.specs.declared.replies.Reply.{Reply}
use Rattle.qws_base.specs.declared.replies.PaintReply.{PaintReply}
use Rattle.qws_base.specs.declared.replies.PaintReply.TheVariants.{Painted, Gone}
use Rattle.region_table.specs.Numbers.{pixel_word, saved_word}
use Rattle.region_table.specs.Tables.{row_of}
use Rattle.region_table.specs.Layouts.{layout_of_table}
use Rattle.region_table.specs.declared.tables.Table.{Table}
use Rattle.turn_logs.specs.declared.items.Item.{Item}
use Rattle.turn_logs.specs.declared.items.Item.TheVariants.{Pick, Put}
use Rattle.turn_logs.specs.Lines.{on, written, Shows}

-- ---- a log, on single words

-- the first item is a Pick of v
abbrev pub FirstPicks : ℕ → List Item → Type 0
FirstPicks v [] = ⊥
FirstPicks v (Pick word u ∷ l) = u ≡ v
FirstPicks v (Put word u ∷ l) = ⊥

abbrev pub or_later : Option ℕ → ℕ → Option ℕ
or_later (Some v) u = Some v
or_later None u = Some u

abbrev pub last_put : List Item → Option ℕ
last_put [] = None
last_put (Pick word u ∷ l) = last_put l
last_put (Put word u ∷ l) = or_later (last_put l) u

-- the log's Picks are true in the words
abbrev pub TrueIn : (ℕ → ℕ) → List Item → Type 0
TrueIn words log = (x : ℕ) → Shows (words x) (on x log)

-- the log brings what stood in the word a into the word b
abbrev pub Brings : List Item → ℕ → ℕ → Type 0
Brings log a b = ((v : ℕ) × FirstPicks v (on a log) × (last_put (on b log) ≡ Some v)) ⊎ ((a ≡ b) × (last_put (on b log) ≡ None))

-- the words after the log: each put word has its last value
abbrev pub words_after : (ℕ → ℕ) → List Item → ℕ → ℕ
words_after words log x = written (words x) (on x log)

-- ---- words stand for a scene

-- a cell of a shown cursor: its column and row in the shape, and its colour and alpha
pub record ShownCell : Type 0 where
  pub column : ℕ
  pub row : ℕ
  pub value : ℕ

-- the shown cell that lies on a pixel
abbrev pub shown_cell : Sides → Cursor → ℕ → Option ShownCell
shown_cell size cursor p = option_map (λ at. record { column = at.0; row = at.1; value = cell_at cursor at }) (cell_on cursor (point_of size.w p))

-- the word that has the scene's colour of a pixel: the saved word of the cell on it, and its framebuffer word without one
abbrev pub scene_word : ℕ → Option ShownCell → ℕ
scene_word p None = pixel_word p
scene_word p (Some cell) = saved_word cell.column cell.row

-- the scene colour v with the cell above it
abbrev pub under_cell : Depth → Option ShownCell → ℕ → ℕ
under_cell depth None v = v
under_cell depth (Some cell) v = ink_after depth (cell_ink cell.value) v

-- the scene word of a pixel has the scene's colour, and its framebuffer word has that colour with the cursor above it
pub record StandAt (setting : Setting) (cursor : Cursor) (words : ℕ → ℕ) (p v : ℕ) : Type 0 where
  pub scene : words (scene_word p (shown_cell setting.size cursor p)) ≡ v
  pub shown : words (pixel_word p) ≡ under_cursor setting.depth cursor (point_of setting.size.w p) v

-- the words stand for the scene under a table with that cursor
abbrev pub StandFor : Setting → Cursor → (ℕ → ℕ) → List ℕ → Type 0
StandFor setting cursor words scene = (p : ℕ) → p < pixel_count setting.size → StandAt setting cursor words p (slice_index scene p)

-- the scene has the backdrop where no slot owns the pixel
abbrev pub IsBare : Setting → Layout → List ℕ → Type 0
IsBare setting layout scene = (p : ℕ) → p < pixel_count setting.size → is_none (layout.owner p) ≡ true → slice_index scene p ≡ setting.backdrop

-- ---- the log of a server turn

-- the log keeps pixel q of the table before at pixel p of the table after
abbrev pub Keeps : Sides → Cursor → Cursor → List Item → ℕ → ℕ → Type 0
Keeps size before after log q p = Brings log (scene_word q (shown_cell size before q)) (scene_word p (shown_cell size after p))

-- What happens to the scene's colour of pixel p: a move carries pixel q there; or the command is done and nobody owns the
-- pixel after it, where it gets the backdrop, or is kept if nobody owned it before; or else it is kept.
abbrev pub SceneCarried : Setting → Table → Table → List Item → ℕ → Option ℕ → Bool → Type 0
SceneCarried setting before after log p (Some q) bare = Keeps setting.size before.cursor after.cursor log q p
SceneCarried setting before after log p None true =
    (last_put (on (scene_word p (shown_cell setting.size after.cursor p)) log) ≡ Some setting.backdrop)
    ⊎ ((is_none ((layout_of_table setting.size before).owner p) ≡ true) × Keeps setting.size before.cursor after.cursor log p p)
SceneCarried setting before after log p None false = Keeps setting.size before.cursor after.cursor log p p

-- Where a shown cell lies on the pixel after: its blend is put over what is put on its saved word; or neither word is put
-- and the same cell lay on the pixel before.
abbrev pub CellCarried : Depth → List Item → ℕ → Option ShownCell → Option ShownCell → Type 0
CellCarried depth log p before None = ⊤
CellCarried depth log p before (Some cell) =
    ((v : ℕ) × (last_put (on (saved_word cell.column cell.row) log) ≡ Some v) × (last_put (on (pixel_word p) log) ≡ Some (under_cell depth (Some cell) v)))
    ⊎ ((last_put (on (saved_word cell.column cell.row) log) ≡ None) × (last_put (on (pixel_word p) log) ≡ None) × (before ≡ Some cell))

-- the pixel that an accepted command carries to p; a refused one carries none
abbrev pub source_of : Sides → Table → Table → Command → Reply → ℕ → Option ℕ
source_of size before after command reply p =
    if is_refused reply then None else carried_from size (layout_of_table size before) (layout_of_table size after) (moved_slot command) p

-- the command is done, and nobody owns the pixel after it
abbrev pub is_bared : Sides → Table → Reply → ℕ → Bool
is_bared size after reply p = not (is_refused reply) && is_none ((layout_of_table size after).owner p)

-- the log carries a step, from the table before it to the table after it
pub record CarriesStep (setting : Setting) (before after : Table) (command : Command) (reply : Reply) (log : List Item) : Type 0 where
  pub scene : (p : ℕ) → p < pixel_count setting.size
      → SceneCarried setting before after log p (source_of setting.size before after command reply p) (is_bared setting.size after reply p)
  pub cells : (p : ℕ) → p < pixel_count setting.size
      → CellCarried setting.depth log p (shown_cell setting.size before.cursor p) (shown_cell setting.size after.cursor p)

-- ---- the log of a paint turn

abbrev pub is_painted : PaintReply → Bool
is_painted (Painted count) = true
is_painted Gone = false

-- the scene's colour of the pixel is picked, and the ink over it is put; so is the blend of a cell that lies on the pixel
abbrev pub InkCarried : Depth → List Item → ℕ → Option ShownCell → Ink → Type 0
InkCarried depth log p cell ink = (v : ℕ)
    × FirstPicks v (on (scene_word p cell) log)
    × (last_put (on (scene_word p cell) log) ≡ Some (ink_after depth ink v))
    × (last_put (on (pixel_word p) log) ≡ Some (under_cell depth cell (ink_after depth ink v)))

-- nothing is put on the framebuffer word of the pixel, nor on the saved word of a cell that lies on it
abbrev pub Untouched : List Item → ℕ → Option ShownCell → Type 0
Untouched log p cell = (last_put (on (scene_word p cell) log) ≡ None) × (last_put (on (pixel_word p) log) ≡ None)

abbrev pub PixelCarried : Depth → List Item → ℕ → Option ShownCell → Ink → Bool → Type 0
PixelCarried depth log p cell ink true = InkCarried depth log p cell ink
PixelCarried depth log p cell ink false = Untouched log p cell

-- The log carries a paint of a slot, of which these matter: the cursor, which pixels are the slot's, and its origin.
pub record CarriesPaint (setting : Setting) (cursor : Cursor) (mine : ℕ → Bool) (origin : Point) (sheet : Sheet) (reply : PaintReply) (log : List Item) : Type 0 where
  pub pixels : (p : ℕ) → p < pixel_count setting.size
      → PixelCarried setting.depth log p (shown_cell setting.size cursor p) (ink_on setting.size.w origin sheet p)
      (is_painted reply && (mine p && not (is_skip (ink_on setting.size.w origin sheet p))))

-- the log carries a paint of a slot under a table
abbrev pub CarriesPaintUnder : Setting → Table → ℕ → Sheet → PaintReply → List Item → Type 0
CarriesPaintUnder setting table slot sheet reply log =
    CarriesPaint setting table.cursor (owns (layout_of_table setting.size table) slot) (row_of table slot).origin sheet reply log

-- the entry's reply is the one of a paint under the table
abbrev pub RepliesUnder : Setting → Table → ℕ → ℕ → Sheet → PaintReply → Type 0
RepliesUnder setting table client slot sheet reply = reply ≡ paint_reply setting.size (layout_of_table setting.size table) client slot sheet

-- ---- the law of carrying

-- the scene after a step, as the tables before and after it tell
abbrev pub scene_of_step : Setting → Table → Table → Command → Reply → List ℕ → List ℕ
scene_of_step setting before after command reply scene =
    if is_refused reply then scene
    else scene_after_step setting (layout_of_table setting.size before) (layout_of_table setting.size after) (moved_slot command) scene

-- where words stand for a scene that is the backdrop outside all rows, and the log's Picks are true, the words after a log
-- that carries a step stand for the scene after the step
abbrev pub StepLaw : Type 0
StepLaw = (setting : Setting) (before after : Table) (command : Command) (reply : Reply) (words : ℕ → ℕ) (scene : List ℕ) (log : List Item)
    → StandFor setting before.cursor words scene → IsBare setting (layout_of_table setting.size before) scene → TrueIn words log
    → CarriesStep setting before after command reply log
    → StandFor setting after.cursor (words_after words log) (scene_of_step setting before after command reply scene)

-- where words stand for a scene, and the log's Picks are true, the words after a log that carries a paint with its reply
-- stand for the scene after the paint
abbrev pub PaintLaw : Type 0
PaintLaw = (setting : Setting) (table : Table) (client slot : ℕ) (sheet : Sheet) (reply : PaintReply) (words : ℕ → ℕ) (scene : List ℕ) (log : List Item)
    → StandFor setting table.cursor words scene → TrueIn words log
    → CarriesPaintUnder setting table slot sheet reply log → RepliesUnder setting table client slot sheet reply
    → StandFor setting table.cursor (words_after words log) (scene_after_paint setting (layout_of_table setting.size table) client slot sheet scene)
