-- Regions swept row by row.
use Rattle.std.specs.Prelude.{◌≡◌, ℕ, ◌+◌, ◌*◌, ◌<◌, nat_lt, nat_le, ◌&&◌, ◌⊎◌, Bool, true, false, List, [], pos, nat_abs, length, slice_index_or, Some, None, if◌then◌else◌, ◌++◌}
use Rattle.std.specs.List.{flat_map, range_with_len}
use Rattle.qws_base.specs.Points.{any_holds, point_of, pixel_count}
use Rattle.qws_base.specs.Sides.{Sides}
use Rattle.qws_base.specs.declared.points.Rect.{Rect}
use Rattle.region_table.specs.Numbers.{pixel_word}
use Rattle.turn_logs.specs.declared.items.Item.{Item}
use Rattle.turn_logs.specs.Lines.{on}
use Rattle.turn_logs.specs.Carries.{FirstPicks, last_put}
use Rattle.scene_turns.specs.declared.works.Work.{Work}
use Rattle.scene_turns.specs.declared.works.Work.TheVariants.{Fill, Carry}
use Rattle.scene_turns.specs.Works.{place, stretch_pixels}
use Rattle.step_regions.specs.Carried.{source}

-- ---- the order in which a region is swept

abbrev pub has_row : ℕ → Rect → Bool
has_row y r = nat_le (nat_abs r.y) y && nat_lt y (nat_abs r.y + r.h)

-- the pixels of a rectangle in a row of the screen
abbrev pub rect_row : Bool → ℕ → ℕ → Rect → List ℕ
rect_row falling width y r = if has_row y r then stretch_pixels falling (y * width + nat_abs r.x) r.w else []

abbrev pub no_rect : Rect
no_rect = record { x = pos 0; y = pos 0; w = 0; h = 0 }

-- the pixels of the first n of the rectangles in a row, or falling of the last n
abbrev pub row_part : Bool → ℕ → List Rect → ℕ → ℕ → List ℕ
row_part falling width rects y n = flat_map (λ j. rect_row falling width y (slice_index_or rects (place falling (length rects) j) no_rect)) (range_with_len 0 n)

-- the pixels of the first n of the rows, h in number, or falling of the last n
abbrev pub rows_part : Bool → ℕ → List Rect → ℕ → ℕ → List ℕ
rows_part falling width rects h n = flat_map (λ j. row_part falling width rects (place falling h j) (length rects)) (range_with_len 0 n)

-- ---- what a sweep does, pixel by pixel

-- a colour was put on pixel p; or what was first of all read from its source was
abbrev pub IsDone : Work → ℕ → List Item → Type 0
IsDone (Fill colour) p log = last_put (on (pixel_word p) log) ≡ Some colour
IsDone (Carry falling by) p log = (v : ℕ) × FirstPicks v (on (pixel_word (source falling by p)) log) × (last_put (on (pixel_word p) log) ≡ Some v)

-- the word is read or written for pixel p
abbrev pub IsTouched : Work → ℕ → ℕ → Type 0
IsTouched (Fill colour) p x = x ≡ pixel_word p
IsTouched (Carry falling by) p x = (x ≡ pixel_word p) ⊎ (x ≡ pixel_word (source falling by p))

-- the work is done on each pixel of the rectangles, and no other word is read or written
pub record Sweeps (size : Sides) (rects : List Rect) (work : Work) (log : List Item) : Type 0 where
  pub inside : (p : ℕ) → p < pixel_count size → any_holds rects (point_of size.w p) ≡ true → IsDone work p log
  pub outside : (p : ℕ) → p < pixel_count size → any_holds rects (point_of size.w p) ≡ false → last_put (on (pixel_word p) log) ≡ None
  pub away : (x : ℕ) → ((p : ℕ) → p < pixel_count size → any_holds rects (point_of size.w p) ≡ true → IsTouched work p x → ⊥) → on x log ≡ []

-- the log has grown by that of a sweep
pub record AddsSweep (size : Sides) (rects : List Rect) (work : Work) (before after : List Item) : Type 0 where
  pub added : List Item
  pub log : after ≡ before ++ added
  pub sweeps : Sweeps size rects work added
