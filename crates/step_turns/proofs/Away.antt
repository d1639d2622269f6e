-- Sweeps of regions that are clear of a cursor leave its cells.
use Rattle.std.proofs.Common.{◌≡◌, ℕ, ◌/◌, ◌%◌, ◌<◌, ⊎_elim, true, false, List, [], ◌++◌, Some, sym, ap, ◌∙◌, subst, arith}
use Rattle.std.proofs.lemmas.Bool.{true≢false}
use Rattle.qws_base.specs.Sides.{Sides}
use Rattle.qws_base.specs.Points.{any_holds, point_of, pixel_count}
use Rattle.qws_base.specs.Shown.{IsShape, cell_at}
use Rattle.qws_base.specs.declared.points.Rect.{Rect}
use Rattle.qws_base.specs.declared.windows.Cursor.{Cursor}
use Rattle.region_table.specs.Numbers.{pixel_word, saved_word}
use Rattle.turn_logs.specs.declared.items.Item.{Item}
use Rattle.turn_logs.specs.Carries.{ShownCell, shown_cell}
use Rattle.turn_logs.specs.Lines.{on}
use Rattle.turn_logs.specs.Phases.{IsAway}
use Rattle.turn_logs.proofs.Joining.{on-append}
use Rattle.turn_logs.proofs.Lifting.{lies}
use Rattle.sw_cursor.proofs.Lifted.{few_of_shape}
use Rattle.scene_turns.specs.declared.works.Work.TheVariants.{Fill, Carry}
use Rattle.step_regions.specs.Carried.{source}
use Rattle.scene_turns.specs.Sweeps.{Sweeps}
use Rattle.step_regions.specs.declared.moves.CarriedPixels.{CarriedPixels}
use Rattle.step_turns.specs.Changes.{IsClear}

-- a saved word of a shown cell is below those of pixels
saved_below : (size : Sides) (cursor : Cursor) (p : ℕ) (cell : ShownCell) → IsShape cursor → shown_cell size cursor p ≡ Some cell → saved_word cell.column cell.row < 10632
saved_below size cursor p cell shape is =
    let on = lies cursor.x cursor.y cursor.w cursor.h (p % size.w) (p / size.w) cursor.shown (cell_at cursor) cell is in
    let few = few_of_shape cursor shape in
    let a = on.column_in in let b = on.row_in in let c = few.0 in let d = few.1 in
    omega arith

pub clear_away : (size : Sides) (cursor : Cursor) (carried : CarriedPixels) (bared : List Rect) (colour : ℕ) (moved filled log : List Item) → IsShape cursor → IsClear size cursor carried bared
    → Sweeps size carried.region (Carry carried.falling carried.by) moved → Sweeps size bared (Fill colour) filled → log ≡ moved ++ filled → IsAway size cursor log
clear_away size cursor carried bared colour moved filled log shape clear carries fills is p cell lt lies_on = (
  parts (pixel_word p)
      (carries.away (pixel_word p) (λ q within held touched. ⊎_elim
      (λ (here : pixel_word p ≡ pixel_word q). let same : p ≡ q = omega arith in true≢false (sym (subst (λ k. any_holds carried.region (point_of size.w k) ≡ true) (sym same) held) ∙ at.0))
      (λ (here : pixel_word p ≡ pixel_word (source carried.falling carried.by q)). at.2 q within held (let e : source carried.falling carried.by q ≡ p = omega arith in e))
      touched))
      (fills.away (pixel_word p) (λ q within held here. let same : p ≡ q = omega arith in true≢false (sym (subst (λ k. any_holds bared (point_of size.w k) ≡ true) (sym same) held) ∙ at.1))),
  parts (saved_word cell.column cell.row)
      (carries.away (saved_word cell.column cell.row) (λ q within held touched. ⊎_elim
      (λ (here : saved_word cell.column cell.row ≡ pixel_word q). let low = below in omega arith)
      (λ (here : saved_word cell.column cell.row ≡ pixel_word (source carried.falling carried.by q)). let low = below in omega arith)
      touched))
      (fills.away (saved_word cell.column cell.row) (λ q within held here. let low = below in omega arith)),
)
  where
    at : (any_holds carried.region (point_of size.w p) ≡ false) × (any_holds bared (point_of size.w p) ≡ false)
        × ((q : ℕ) → q < pixel_count size → any_holds carried.region (point_of size.w q) ≡ true → source carried.falling carried.by q ≡ p → ⊥)
    at = clear p cell lt lies_on

    below : saved_word cell.column cell.row < 10632
    below = saved_below size cursor p cell shape lies_on

    parts : (x : ℕ) → on x moved ≡ [] → on x filled ≡ [] → on x log ≡ []
    parts x one two = ap (on x) is ∙ on-append x moved filled ∙ ap (λ l. l ++ on x filled) one ∙ two
