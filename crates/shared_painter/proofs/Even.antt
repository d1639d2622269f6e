-- A row of a sheet, and one in which no cell of the cursor lies.
use Rattle.std.proofs.Common.{◌≡◌, ℕ, ◌+◌, ◌-◌, ◌/◌, ◌%◌, ◌<◌, ◌≤◌, Bool, true, false, ◌&&◌, not, if◌then◌else◌, List, get_or, sym, refl, ap, ◌∙◌, arith, ℤ, pos, ◌-ℤ◌, nat_abs, Some, None}
use Rattle.qws_base.specs.Points.{spans, point_of}
use Rattle.qws_base.specs.Sheets.{Sheet, row_of}
use Rattle.qws_base.specs.Shown.{cell_on}
use Rattle.qws_base.specs.declared.points.Point.{Point}
use Rattle.qws_base.specs.declared.inks.Ink.{Ink}
use Rattle.qws_base.specs.declared.windows.Cursor.{Cursor}
use Rattle.qws_base.proofs.PixelRows.{next_in_row, ink_in_row}
use Rattle.shared_painter.specs.Painted.{HasInks}

-- a row from a pixel on, by the pixel's point
pub row_here : (w f n : ℕ) (at origin : Point) (sheet : Sheet) (y x : ℤ) (inks : List Ink) → at ≡ point_of w f → y ≡ at.y -ℤ origin.y → x ≡ at.x -ℤ origin.x → inks ≡ row_of sheet y x n
    → inks ≡ row_of sheet (pos (f / w) -ℤ origin.y) (pos (f % w) -ℤ origin.x) n
row_here w f n at origin sheet y x inks is down across row =
    row ∙ ap (λ b. row_of sheet b x n) (down ∙ ap (λ (p : Point). p.y -ℤ origin.y) is) ∙ ap (λ a. row_of sheet (pos (f / w) -ℤ origin.y) a n) (across ∙ ap (λ (p : Point). p.x -ℤ origin.x) is)

-- a row has the sheet's inks on its pixels
pub row_inks : (w f n : ℕ) (origin : Point) (sheet : Sheet) (inks : List Ink) → inks ≡ row_of sheet (pos (f / w) -ℤ origin.y) (pos (f % w) -ℤ origin.x) n → f % w + n ≤ w → HasInks w origin sheet inks f n
row_inks w f n origin sheet inks is across j d low = ap (λ l. get_or l j d) is ∙ ink_in_row w f j n origin sheet d low (omega arith)

missed : (shown across down : Bool) → true ≡ not (shown && down) → (shown && (across && down)) ≡ false
missed true true true e = absurd (let z : true ≡ false = e in cc)
missed true true false e = refl
missed true false down e = refl
missed false across down e = refl

-- no cell lies on the pixels of a row that the cursor misses
pub clear_row : (w f n : ℕ) (cursor : Cursor) (y : ℤ) → true ≡ not (cursor.shown && spans (pos cursor.y) cursor.h y) → y ≡ pos (f / w) → f % w + n ≤ w
    → (k : ℕ) → f ≤ k → k < f + n → cell_on cursor (point_of w k) ≡ None
clear_row w f n cursor y misses is across k low high =
    let j : ℕ = k - f in
    let at : f + j ≡ k = omega arith in
    let row : y ≡ pos (k / w) = is ∙ ap (λ (a : ℕ). pos a) (sym (next_in_row w f j (omega arith)).1 ∙ ap (λ m. m / w) at) in
    let pt : Point = point_of w k in
    ap (λ b. if b then Some (nat_abs (pt.x -ℤ pos cursor.x), nat_abs (pt.y -ℤ pos cursor.y)) else None)
    (missed cursor.shown (spans (pos cursor.x) cursor.w pt.x) (spans (pos cursor.y) cursor.h pt.y) (misses ∙ ap (λ b. not (cursor.shown && spans (pos cursor.y) cursor.h b)) row))
