-- The law of carrying: at each pixel, then for the whole scene.
use Rattle.std.proofs.Common.{◌≡◌, ℕ, ◌<◌, length, Bool, true, false, not, ◌&&◌, ⊎_elim, List, Option, Some, None, refl, sym, ap, ◌∙◌, subst, if◌then◌else◌}
use Rattle.std.specs.Prelude.{is_none, slice_index}
use Rattle.std.specs.Option.{option_map, option_map_or}
use Rattle.qws_base.specs.Sides.{Sides}
use Rattle.qws_base.specs.Points.{pixel_count, point_of, pixel_at, minus}
use Rattle.qws_base.specs.Inks.{ink_after, is_skip}
use Rattle.qws_base.specs.Windows.{Layout, owns}
use Rattle.qws_base.specs.States.{is_refused, moved_slot}
use Rattle.qws_base.specs.Sheets.{Sheet}
use Rattle.qws_base.specs.Scenes.{Setting, by_pixels, source_in, carried_from, inked as pixels_inked, pixel_after_step, scene_after_step, pixel_after_paint, scene_after_paint, ink_on}
use Rattle.qws_base.specs.Shown.{cell_on, cell_at, cell_ink, under_cursor}
use Rattle.qws_base.specs.declared.colours.Depth.{Depth}
use Rattle.qws_base.specs.declared.points.Point.{Point}
use Rattle.qws_base.specs.declared.inks.Ink.{Ink}
use Rattle.qws_base.specs.declared.inks.Ink.TheVariants.{Skip, Copy, Xor, And, Or, Blend}
use Rattle.qws_base.specs.declared.windows.Cursor.{Cursor}
use Rattle.qws_base.specs.declared.replies.PaintReply.{PaintReply}
use Rattle.qws_base.specs.declared.replies.PaintReply.TheVariants.{Painted, Gone}
use Rattle.region_table.specs.Numbers.{pixel_word, saved_word}
use Rattle.region_table.specs.Layouts.{layout_of_table}
use Rattle.region_table.specs.declared.tables.Table.{Table}
use Rattle.turn_logs.specs.declared.items.Item.{Item}
use Rattle.turn_logs.specs.Lines.{on}
use Rattle.turn_logs.specs.Carries.{last_put, TrueIn, words_after, ShownCell, shown_cell, scene_word, under_cell, StandAt, StandFor, IsBare, Keeps, SceneCarried, CellCarried, is_painted, InkCarried, Untouched, PixelCarried, CarriesPaint, scene_of_step, StepLaw, PaintLaw}
use Rattle.region_table.proofs.Pixels.{pixel_within, at_pixel}
use Rattle.turn_logs.proofs.Carrying.{put_there, left_there, brings, picks_true}

-- the cell that lies on a pixel is the one whose blend stands above it
pub under_shown : (depth : Depth) (size : Sides) (cursor : Cursor) (p v : ℕ) → under_cell depth (shown_cell size cursor p) v ≡ under_cursor depth cursor (point_of size.w p) v
under_shown depth size cursor p v = go (cell_on cursor (point_of size.w p))
  where
    go : (on : Option (ℕ × ℕ)) → under_cell depth (option_map (λ at. record { column = at.0; row = at.1; value = cell_at cursor at }) on) v
        ≡ option_map_or (λ at. ink_after depth (cell_ink (cell_at cursor at)) v) on v
    go None = refl
    go (Some at) = refl

-- the two words of a pixel, with or without a cell
pub record StandBy (depth : Depth) (words : ℕ → ℕ) (p : ℕ) (cell : Option ShownCell) (v : ℕ) : Type 0 where
  pub scene : words (scene_word p cell) ≡ v
  pub shown : words (pixel_word p) ≡ under_cell depth cell v

pub stand_by : (setting : Setting) (cursor : Cursor) (words : ℕ → ℕ) (p v : ℕ) → StandAt setting cursor words p v → StandBy setting.depth words p (shown_cell setting.size cursor p) v
stand_by setting cursor words p v at = record { scene = at.scene; shown = at.shown ∙ sym (under_shown setting.depth setting.size cursor p v) }

pub stand_at : (setting : Setting) (cursor : Cursor) (words : ℕ → ℕ) (p v : ℕ) → StandBy setting.depth words p (shown_cell setting.size cursor p) v → StandAt setting cursor words p v
stand_at setting cursor words p v by = record { scene = by.scene; shown = by.shown ∙ under_shown setting.depth setting.size cursor p v }

-- a pixel's scene word and its cell are carried, so its framebuffer word is right
pub shown_after : (depth : Depth) (words : ℕ → ℕ) (log : List Item) (p : ℕ) (before after : Option ShownCell) (old new : ℕ)
    → StandBy depth words p before old → CellCarried depth log p before after → words_after words log (scene_word p after) ≡ new
    → StandBy depth (words_after words log) p after new
shown_after depth words log p before None old new stood cell scene = record { scene = scene; shown = scene }
shown_after depth words log p before (Some c) old new stood cell scene = ⊎_elim
    (λ (h : (v : ℕ) × (last_put (on (saved_word c.column c.row) log) ≡ Some v) × (last_put (on (pixel_word p) log) ≡ Some (under_cell depth (Some c) v))).
    record {
      scene = scene;
      shown = put_there words log (pixel_word p) (under_cell depth (Some c) h.0) h.2
          ∙ ap (under_cell depth (Some c)) (sym (put_there words log (saved_word c.column c.row) h.0 h.1) ∙ scene);
    })
    (λ (h : (last_put (on (saved_word c.column c.row) log) ≡ None) × (last_put (on (pixel_word p) log) ≡ None) × (before ≡ Some c)).
    record {
      scene = scene;
      shown = left_there words log (pixel_word p) h.1 ∙ stood.shown
          ∙ ap (λ b. under_cell depth b old) h.2
          ∙ ap (under_cell depth (Some c)) (sym stood.scene ∙ ap (λ b. words (scene_word p b)) h.2 ∙ sym (left_there words log (saved_word c.column c.row) h.0) ∙ scene);
    })
    cell

-- ---- a step

module _ (setting : Setting) (before after : Table) (words : ℕ → ℕ) (scene : List ℕ) (log : List Item) where
  abbrev kept_scene : ℕ → ℕ → Type 0
  kept_scene q p = words_after words log (scene_word p (shown_cell setting.size after.cursor p)) ≡ slice_index scene q

  -- the scene word of a pixel gets the scene's colour after an accepted command
  scene_done : (p : ℕ) (source : Option ℕ) (bare : Bool) → p < pixel_count setting.size
      → ((q : ℕ) → source ≡ Some q → q < pixel_count setting.size)
      → StandFor setting before.cursor words scene → IsBare setting (layout_of_table setting.size before) scene → TrueIn words log
      → SceneCarried setting before after log p source bare
      → words_after words log (scene_word p (shown_cell setting.size after.cursor p)) ≡ option_map_or (slice_index scene) source (if bare then setting.backdrop else slice_index scene p)
  scene_done p (Some q) bare within inside stood bared true_in kept =
      brings words log (scene_word q (shown_cell setting.size before.cursor q)) (scene_word p (shown_cell setting.size after.cursor p)) true_in kept ∙ (stood q (inside q refl)).scene
  scene_done p None false within inside stood bared true_in kept =
      brings words log (scene_word p (shown_cell setting.size before.cursor p)) (scene_word p (shown_cell setting.size after.cursor p)) true_in kept ∙ (stood p within).scene
  scene_done p None true within inside stood bared true_in how = ⊎_elim
      (λ (h : last_put (on (scene_word p (shown_cell setting.size after.cursor p)) log) ≡ Some setting.backdrop).
      put_there words log (scene_word p (shown_cell setting.size after.cursor p)) setting.backdrop h)
      (λ (h : (is_none ((layout_of_table setting.size before).owner p) ≡ true) × Keeps setting.size before.cursor after.cursor log p p).
      brings words log (scene_word p (shown_cell setting.size before.cursor p)) (scene_word p (shown_cell setting.size after.cursor p)) true_in h.1 ∙ (stood p within).scene ∙ bared p within h.0)
      how

-- ---- the pixel that a move carries is on the screen

source_within : (size : Sides) (before after : Layout) (slot p q : ℕ) (found : Option ℕ) → ((k : ℕ) → found ≡ Some k → k < pixel_count size) → source_in size before after slot p found ≡ Some q → q < pixel_count size
source_within size before after slot p q None inside is = cc
source_within size before after slot p q (Some k) inside is = go (owns after slot p && owns before slot k) is
  where
    go : (b : Bool) → (if b then Some k else None) ≡ Some q → q < pixel_count size
    go true e = let same : k ≡ q = cc in subst (λ n. n < pixel_count size) same (inside k refl)
    go false e = cc

pub carried_within : (size : Sides) (before after : Layout) (moved : Option ℕ) (p q : ℕ) → carried_from size before after moved p ≡ Some q → q < pixel_count size
carried_within size before after None p q is = cc
carried_within size before after (Some slot) p q is =
    let from : Point = minus (point_of size.w p) (minus (after.origin slot) (before.origin slot)) in
    source_within size before after slot p q (pixel_at size from) (λ k e. pixel_within size from k e) is

-- ---- the laws

-- a step, by whether the command was refused
step_at : (setting : Setting) (before after : Table) (moved : Option ℕ) (words : ℕ → ℕ) (scene : List ℕ) (log : List Item) (refused : Bool) (p : ℕ) → p < pixel_count setting.size
    → StandFor setting before.cursor words scene → IsBare setting (layout_of_table setting.size before) scene → TrueIn words log
    → SceneCarried setting before after log p (if refused then None else carried_from setting.size (layout_of_table setting.size before) (layout_of_table setting.size after) moved p)
    (not refused && is_none ((layout_of_table setting.size after).owner p))
    → words_after words log (scene_word p (shown_cell setting.size after.cursor p))
    ≡ slice_index (if refused then scene else scene_after_step setting (layout_of_table setting.size before) (layout_of_table setting.size after) moved scene) p
step_at setting before after moved words scene log true p within stood bared true_in carried =
    scene_done setting before after words scene log p None false within (λ q e. cc) stood bared true_in carried
step_at setting before after moved words scene log false p within stood bared true_in carried =
    let old : Layout = layout_of_table setting.size before in
    let new : Layout = layout_of_table setting.size after in
    scene_done setting before after words scene log p (carried_from setting.size old new moved p) (is_none (new.owner p)) within
    (λ q e. carried_within setting.size old new moved p q e) stood bared true_in carried
    ∙ sym (at_pixel setting.size (pixel_after_step setting old new moved scene) p 0 within)

pub step_law : StepLaw
step_law setting before after command reply words scene log stood bared true_in carried = λ p within.
    stand_at setting after.cursor (words_after words log) p (slice_index (scene_of_step setting before after command reply scene) p)
    (shown_after setting.depth words log p (shown_cell setting.size before.cursor p) (shown_cell setting.size after.cursor p)
    (slice_index scene p) (slice_index (scene_of_step setting before after command reply scene) p)
    (stand_by setting before.cursor words p (slice_index scene p) (stood p within))
    (carried.cells p within)
    (step_at setting before after (moved_slot command) words scene log (is_refused reply) p within stood bared true_in (carried.scene p within)))

-- ---- a paint

-- a pixel whose scene word is picked, inked and put
inked : (depth : Depth) (words : ℕ → ℕ) (log : List Item) (p : ℕ) (cell : Option ShownCell) (ink : Ink) (old : ℕ)
    → TrueIn words log → StandBy depth words p cell old → InkCarried depth log p cell ink → StandBy depth (words_after words log) p cell (ink_after depth ink old)
inked depth words log p cell ink old true_in stood done =
    let same : done.0 ≡ old = picks_true done.0 (words (scene_word p cell)) (on (scene_word p cell) log) done.1 (true_in (scene_word p cell)) ∙ stood.scene in record {
      scene = put_there words log (scene_word p cell) (ink_after depth ink done.0) done.2 ∙ ap (ink_after depth ink) same;
      shown = put_there words log (pixel_word p) (under_cell depth cell (ink_after depth ink done.0)) done.3 ∙ ap (λ v. under_cell depth cell (ink_after depth ink v)) same;
    }

untouched : (depth : Depth) (words : ℕ → ℕ) (log : List Item) (p : ℕ) (cell : Option ShownCell) (old : ℕ)
    → StandBy depth words p cell old → Untouched log p cell → StandBy depth (words_after words log) p cell old
untouched depth words log p cell old stood none = record {
  scene = left_there words log (scene_word p cell) none.0 ∙ stood.scene;
  shown = left_there words log (pixel_word p) none.1 ∙ stood.shown;
}

skip_leaves : (depth : Depth) (ink : Ink) (old : ℕ) → is_skip ink ≡ true → ink_after depth ink old ≡ old
skip_leaves depth Skip old is = refl
skip_leaves depth (Copy c) old is = cc
skip_leaves depth (Xor c) old is = cc
skip_leaves depth (And c) old is = cc
skip_leaves depth (Or c) old is = cc
skip_leaves depth (Blend c a) old is = cc

-- a pixel under a paint that is done, by whether it is the slot's and whether the ink is Skip
pixel_done : (depth : Depth) (words : ℕ → ℕ) (log : List Item) (p : ℕ) (cell : Option ShownCell) (ink : Ink) (old : ℕ) (mine skipped : Bool) → is_skip ink ≡ skipped
    → TrueIn words log → StandBy depth words p cell old → PixelCarried depth log p cell ink (mine && not skipped)
    → StandBy depth (words_after words log) p cell (if mine then ink_after depth ink old else old)
pixel_done depth words log p cell ink old false skipped is true_in stood done = untouched depth words log p cell old stood done
pixel_done depth words log p cell ink old true false is true_in stood done = inked depth words log p cell ink old true_in stood done
pixel_done depth words log p cell ink old true true is true_in stood done =
    subst (StandBy depth (words_after words log) p cell) (sym (skip_leaves depth ink old is)) (untouched depth words log p cell old stood done)

module _ (setting : Setting) (cursor : Cursor) (layout : Layout) (slot : ℕ) (sheet : Sheet) (words : ℕ → ℕ) (scene : List ℕ) (log : List Item) where
  -- by whether the client has a window in the slot
  paint_at : (own : Bool) (count : ℕ) (reply : PaintReply) → reply ≡ (if own then Painted count else Gone)
      → (p : ℕ) → p < pixel_count setting.size → StandFor setting cursor words scene → TrueIn words log
      → CarriesPaint setting cursor (owns layout slot) (layout.origin slot) sheet reply log
      → StandBy setting.depth (words_after words log) p (shown_cell setting.size cursor p)
      (slice_index (if own then by_pixels setting.size (pixel_after_paint setting layout slot sheet scene) else scene) p)
  paint_at true count reply is p within stood true_in carried =
      let cell : Option ShownCell = shown_cell setting.size cursor p in
      let ink : Ink = ink_on setting.size.w (layout.origin slot) sheet p in
      let mine : Bool = owns layout slot p in
      let painted : is_painted reply ≡ true = ap is_painted is in
      subst (StandBy setting.depth (words_after words log) p cell) (sym (at_pixel setting.size (pixel_after_paint setting layout slot sheet scene) p 0 within))
      (pixel_done setting.depth words log p cell ink (slice_index scene p) mine (is_skip ink) refl true_in
      (stand_by setting cursor words p (slice_index scene p) (stood p within))
      (subst (λ b. PixelCarried setting.depth log p cell ink (b && (mine && not (is_skip ink)))) painted (carried.pixels p within)))
  paint_at false count reply is p within stood true_in carried =
      let cell : Option ShownCell = shown_cell setting.size cursor p in
      let ink : Ink = ink_on setting.size.w (layout.origin slot) sheet p in
      let mine : Bool = owns layout slot p in
      let gone : is_painted reply ≡ false = ap is_painted is in
      untouched setting.depth words log p cell (slice_index scene p)
      (stand_by setting cursor words p (slice_index scene p) (stood p within))
      (subst (λ b. PixelCarried setting.depth log p cell ink (b && (mine && not (is_skip ink)))) gone (carried.pixels p within))

pub paint_law : PaintLaw
paint_law setting table client slot sheet reply words scene log stood true_in carried replied = λ p within.
    let layout : Layout = layout_of_table setting.size table in
    stand_at setting table.cursor (words_after words log) p (slice_index (scene_after_paint setting layout client slot sheet scene) p)
    (paint_at setting table.cursor layout slot sheet words scene log (layout.is_own client slot) (length (pixels_inked setting.size layout slot sheet)) reply replied p within stood true_in carried)
