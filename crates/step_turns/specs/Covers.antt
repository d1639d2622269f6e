-- Where the cells of a cursor lie, and which rectangles meet there.
use Rattle.std.specs.Prelude.{ℕ, ℤ, pos, ◌+ℤ◌, ◌≤ℤ◌, int_lt, Bool, ◌&&◌, List}
use Rattle.std.specs.List.{list_any}
use Rattle.qws_base.specs.declared.points.Rect.{Rect}
use Rattle.qws_base.specs.declared.windows.Cursor.{Cursor}

-- n places from `a` on and m from `b` on have one in common
abbrev pub shares : ℤ → ℕ → ℤ → ℕ → Bool
shares a n b m = (int_lt a (a +ℤ pos n) && int_lt a (b +ℤ pos m)) && (int_lt b (a +ℤ pos n) && int_lt b (b +ℤ pos m))

-- a point is in both rectangles
abbrev pub meets : Rect → Rect → Bool
meets s r = shares r.x r.w s.x s.w && shares r.y r.h s.y s.h

abbrev pub any_meets : Rect → List Rect → Bool
any_meets s rects = list_any (λ r. meets s r) rects

-- the rectangle of a cursor's cells
abbrev pub place_of : Cursor → Rect
place_of cursor = record { x = pos cursor.x; y = pos cursor.y; w = cursor.w; h = cursor.h }

-- its corner is on the largest screen
pub record IsNearby (r : Rect) : Type 0 where
  pub low_x : pos 0 ≤ℤ r.x
  pub high_x : r.x ≤ℤ pos 639
  pub low_y : pos 0 ≤ℤ r.y
  pub high_y : r.y ≤ℤ pos 479
