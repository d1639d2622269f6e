-- More of words that stand for a scene, and of logs that carry it on.
use Rattle.std.proofs.Common.{◌≡◌, ℕ, ◌<◌, Bool, true, false, not, ◌&&◌, inr, ◌==◌, List, [], ◌∷◌, Option, Some, None, refl, sym, ap, ◌∙◌, subst, if◌then◌else◌}
use Rattle.std.specs.Prelude.{is_none, slice_index, position}
use Rattle.std.specs.Option.{option_map_or}
use Rattle.std.proofs.lemmas.List.{get_or-replicate}
use Rattle.qws_base.specs.Sides.{Sides}
use Rattle.qws_base.specs.Colours.{shown_colour}
use Rattle.qws_base.specs.Points.{pixel_count, pixel_at, point_of, minus}
use Rattle.qws_base.specs.Inks.{is_skip}
use Rattle.qws_base.specs.Windows.{Layout, owns, is_slot}
use Rattle.qws_base.specs.States.{is_refused, moved_slot, opening_cursor}
use Rattle.qws_base.specs.Sheets.{Sheet}
use Rattle.qws_base.specs.Scenes.{Setting, by_pixels, opening_scene, source_in, carried_from, pixel_after_step, scene_after_step, ink_on}
use Rattle.qws_base.specs.Shown.{shown_pixel, shown_picture}
use Rattle.qws_base.specs.declared.points.Point.{Point}
use Rattle.qws_base.specs.declared.inks.Ink.{Ink}
use Rattle.qws_base.specs.declared.windows.Cursor.{Cursor}
use Rattle.qws_base.specs.declared.commands.Command.{Command}
use Rattle.qws_base.specs.declared.replies.Reply.{Reply}
use Rattle.qws_base.specs.declared.replies.PaintReply.{PaintReply}
use Rattle.region_table.specs.Numbers.{pixel_word, saved_word}
use Rattle.region_table.specs.Tables.{row_of}
use Rattle.region_table.specs.Layouts.{row_holds, layout_of_table, AreApart}
use Rattle.region_table.specs.declared.tables.Table.{Table}
use Rattle.region_table.proofs.Pixels.{at_pixel, pixels_same}
use Rattle.region_table.proofs.Owning.{owns_row}
use Rattle.turn_logs.specs.declared.items.Item.{Item}
use Rattle.turn_logs.specs.Carries.{last_put, Brings, ShownCell, shown_cell, scene_word, StandFor, IsBare, Keeps, SceneCarried, CellCarried, CarriesStep, is_painted, PixelCarried, CarriesPaint, CarriesPaintUnder}
use Rattle.turn_logs.specs.declared.items.Item.TheVariants.{Pick, Put}
use Rattle.turn_logs.specs.Lines.{on, OnlyPicks}

-- ---- the words

-- the opening words stand for the opening scene
pub opening_stands : (setting : Setting) (words : ℕ → ℕ) → ((p : ℕ) → p < pixel_count setting.size → words (pixel_word p) ≡ setting.backdrop) → StandFor setting opening_cursor words (opening_scene setting)
opening_stands setting words opens = λ p within.
    let at : slice_index (opening_scene setting) p ≡ setting.backdrop = get_or-replicate (pixel_count setting.size) p setting.backdrop 0 within in
    record { scene = opens p within ∙ sym at; shown = opens p within ∙ sym at }

-- the framebuffer words show the picture
pub picture_shown : (setting : Setting) (cursor : Cursor) (words : ℕ → ℕ) (scene : List ℕ) → StandFor setting cursor words scene
    → by_pixels setting.size (λ p. shown_colour setting.depth (words (pixel_word p))) ≡ shown_picture setting cursor scene
picture_shown setting cursor words scene stands =
    pixels_same setting.size (λ p. shown_colour setting.depth (words (pixel_word p))) (shown_pixel setting cursor scene)
    (λ p within. ap (shown_colour setting.depth) (stands p within).shown)

-- ---- the log of a server turn

unowned : (slot : ℕ) (found : Option ℕ) → is_none found ≡ true → is_slot slot found ≡ false
unowned slot None none = refl
unowned slot (Some other) none = cc

no_source : (size : Sides) (before after : Layout) (p slot : ℕ) (from : Option ℕ) → is_none (after.owner p) ≡ true → source_in size before after slot p from ≡ None
no_source size before after p slot None none = refl
no_source size before after p slot (Some q) none = ap (λ b. if b && owns before slot q then Some q else None) (unowned slot (after.owner p) none)

-- after a command that is done, the scene is the backdrop wherever nobody owns a pixel
pub bare_after : (setting : Setting) (before after : Layout) (moved : Option ℕ) (scene : List ℕ) → IsBare setting after (scene_after_step setting before after moved scene)
bare_after setting before after moved scene = λ p within none.
    at_pixel setting.size (pixel_after_step setting before after moved scene) p 0 within
    ∙ ap (λ o. option_map_or (slice_index scene) o (if is_none (after.owner p) then setting.backdrop else slice_index scene p)) (unmoved p moved none)
    ∙ ap (λ b. if b then setting.backdrop else slice_index scene p) none
  where
    unmoved : (p : ℕ) (slot : Option ℕ) → is_none (after.owner p) ≡ true → carried_from setting.size before after slot p ≡ None
    unmoved p None none = refl
    unmoved p (Some slot) none = no_source setting.size before after p slot (pixel_at setting.size (minus (point_of setting.size.w p) (minus (after.origin slot) (before.origin slot)))) none

-- a log without a Put puts nothing on a word, and brings what stood there
pub nothing_put : (log : List Item) (x : ℕ) → OnlyPicks log → last_put (on x log) ≡ None
nothing_put [] x picks = refl
nothing_put (Put word v ∷ l) x picks = absurd picks
nothing_put (Pick word v ∷ l) x picks = go (word == x) (nothing_put l x picks)
  where
    go : (b : Bool) → last_put (on x l) ≡ None → last_put (if b then Pick word v ∷ on x l else on x l) ≡ None
    go true none = none
    go false none = none

only_brings : (log : List Item) (a b : ℕ) → OnlyPicks log → a ≡ b → Brings log a b
only_brings log a b picks same = inr (same, nothing_put log b picks)

-- a log without a Put carries a refused command where the cursor stays
pub refused_carried : (setting : Setting) (before after : Table) (command : Command) (reply : Reply) (log : List Item) → OnlyPicks log → is_refused reply ≡ true → before.cursor ≡ after.cursor
    → CarriesStep setting before after command reply log
refused_carried setting before after command reply log picks refused same = record {
  scene = λ p within. stays p (is_refused reply) refused (carried_from setting.size (layout_of_table setting.size before) (layout_of_table setting.size after) (moved_slot command) p)
      (is_none ((layout_of_table setting.size after).owner p));
  cells = λ p within. cell_stays p (shown_cell setting.size before.cursor p) (shown_cell setting.size after.cursor p) (ap (λ c. shown_cell setting.size c p) same);
}
  where
    stays : (p : ℕ) (refused : Bool) → refused ≡ true → (source : Option ℕ) (bare : Bool) → SceneCarried setting before after log p (if refused then None else source) (not refused && bare)
    stays p true e source bare = only_brings log (scene_word p (shown_cell setting.size before.cursor p)) (scene_word p (shown_cell setting.size after.cursor p)) picks (ap (λ c. scene_word p (shown_cell setting.size c p)) same)
    stays p false e source bare = cc

    cell_stays : (p : ℕ) (old new : Option ShownCell) → old ≡ new → CellCarried setting.depth log p old new
    cell_stays p old None e = tt
    cell_stays p old (Some cell) e = inr (nothing_put log (saved_word cell.column cell.row) picks, nothing_put log (pixel_word p) picks, e)

-- a log without a Put carries a command that moves no window, where the rows and the cursor stay
pub still_carried : (setting : Setting) (before after : Table) (command : Command) (reply : Reply) (log : List Item) → OnlyPicks log → before.rows ≡ after.rows → before.cursor ≡ after.cursor → moved_slot command ≡ None
    → CarriesStep setting before after command reply log
still_carried setting before after command reply log picks rows same unmoved = record {
  scene = λ p within. let old : Layout = layout_of_table setting.size before in let new : Layout = layout_of_table setting.size after in
      subst (λ q. SceneCarried setting before after log p q (not (is_refused reply) && is_none (new.owner p))) (sym (no_source_of p (is_refused reply) (moved_slot command) unmoved))
      (stays p (not (is_refused reply) && is_none (new.owner p)) refl);
  cells = λ p within. cell_stays p (shown_cell setting.size before.cursor p) (shown_cell setting.size after.cursor p) (ap (λ c. shown_cell setting.size c p) same);
}
  where
    no_source_of : (p : ℕ) (refused : Bool) (moved : Option ℕ) → moved ≡ None
        → (if refused then None else carried_from setting.size (layout_of_table setting.size before) (layout_of_table setting.size after) moved p) ≡ None
    no_source_of p true moved is = refl
    no_source_of p false moved is = ap (λ m. carried_from setting.size (layout_of_table setting.size before) (layout_of_table setting.size after) m p) is

    keeps_here : (p : ℕ) → Keeps setting.size before.cursor after.cursor log p p
    keeps_here p = only_brings log (scene_word p (shown_cell setting.size before.cursor p)) (scene_word p (shown_cell setting.size after.cursor p)) picks (ap (λ c. scene_word p (shown_cell setting.size c p)) same)

    second : (a b : Bool) → (a && b) ≡ true → b ≡ true
    second true b e = e
    second false b e = cc

    stays : (p : ℕ) (bare : Bool) → (not (is_refused reply) && is_none ((layout_of_table setting.size after).owner p)) ≡ bare → SceneCarried setting before after log p None bare
    stays p true is = inr (ap (λ l. is_none (position (row_holds (point_of setting.size.w p)) l)) rows ∙ second (not (is_refused reply)) (is_none ((layout_of_table setting.size after).owner p)) is, keeps_here p)
    stays p false is = keeps_here p

    cell_stays : (p : ℕ) (old new : Option ShownCell) → old ≡ new → CellCarried setting.depth log p old new
    cell_stays p old None e = tt
    cell_stays p old (Some cell) e = inr (nothing_put log (saved_word cell.column cell.row) picks, nothing_put log (pixel_word p) picks, e)

-- ---- the log of a paint turn

pub paint_same : (setting : Setting) (cursor cursor' : Cursor) (mine mine' : ℕ → Bool) (origin : Point) (sheet : Sheet) (reply : PaintReply) (log : List Item)
    → ((p : ℕ) → p < pixel_count setting.size → mine p ≡ mine' p)
    → ((p : ℕ) → p < pixel_count setting.size → shown_cell setting.size cursor p ≡ shown_cell setting.size cursor' p)
    → CarriesPaint setting cursor mine origin sheet reply log → CarriesPaint setting cursor' mine' origin sheet reply log
paint_same setting cursor cursor' mine mine' origin sheet reply log same cells carried = record {
  pixels = λ p within.
      let ink : Ink = ink_on setting.size.w origin sheet p in
      subst (λ cell. PixelCarried setting.depth log p cell ink (is_painted reply && (mine' p && not (is_skip ink)))) (cells p within)
      (subst (λ b. PixelCarried setting.depth log p (shown_cell setting.size cursor p) ink (is_painted reply && (b && not (is_skip ink)))) (same p within) (carried.pixels p within));
}

-- under a table whose rows are apart, the pixels that matter are those of the slot's row
pub paint_of_row : (setting : Setting) (table : Table) (slot : ℕ) (sheet : Sheet) (reply : PaintReply) (log : List Item) → AreApart setting.size table
    → CarriesPaint setting table.cursor (λ p. row_holds (point_of setting.size.w p) (row_of table slot)) (row_of table slot).origin sheet reply log
    → CarriesPaintUnder setting table slot sheet reply log
paint_of_row setting table slot sheet reply log apart carried =
    paint_same setting table.cursor table.cursor (λ p. row_holds (point_of setting.size.w p) (row_of table slot)) (owns (layout_of_table setting.size table) slot) (row_of table slot).origin sheet reply log
    (λ p within. sym (owns_row setting.size table slot p apart within)) (λ p within. refl) carried

-- an empty log carries a paint that is gone
pub gone_carried : (setting : Setting) (cursor : Cursor) (mine : ℕ → Bool) (origin : Point) (sheet : Sheet) (reply : PaintReply) → is_painted reply ≡ false
    → CarriesPaint setting cursor mine origin sheet reply []
gone_carried setting cursor mine origin sheet reply gone = record {
  pixels = λ p within.
      let ink : Ink = ink_on setting.size.w origin sheet p in
      subst (λ b. PixelCarried setting.depth [] p (shown_cell setting.size cursor p) ink (b && (mine p && not (is_skip ink)))) (sym gone) (refl, refl);
}
