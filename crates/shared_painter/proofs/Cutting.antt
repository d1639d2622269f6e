-- Rectangles on the screen, each with pixels, and what a picture reaches of them.
use Rattle.std.proofs.Common.{◌≡◌, ℕ, ◌<◌, arith, subst}
use Rattle.qws_base.specs.RectPixels.{IsWithin}
use Rattle.qws_base.specs.Sides.{Sides}
use Rattle.qws_base.specs.declared.points.Point.{Point}
use Rattle.qws_base.specs.declared.points.Rect.{Rect}
use Rattle.turn_logs.specs.Tables.{IsOnScreen}
use Rattle.picture_cuts.specs.Cuts.{cut_rect}
use Rattle.picture_cuts.proofs.CutPoints.{cut_within}

pub within_screen : (size : Sides) (r : Rect) → IsOnScreen size r → IsWithin size r
within_screen size r on = record { from_left = on.from_left; from_top = on.from_top; to_right = on.to_right; to_bottom = on.to_bottom }

pub part_on_screen : (size : Sides) (origin : Point) (reach r : Rect) (w h : ℕ) → IsOnScreen size r → w ≡ (cut_rect origin reach r).w → h ≡ (cut_rect origin reach r).h → (w ≡ 0 → ⊥) → (h ≡ 0 → ⊥) → IsOnScreen size (cut_rect origin reach r)
part_on_screen size origin reach r w h on is_w is_h some_w some_h =
    let within = cut_within size origin reach r (within_screen size r on) in
    record { some_pixels = (let z : 0 < w = omega arith in subst (λ n. 0 < n) is_w z, let z : 0 < h = omega arith in subst (λ n. 0 < n) is_h z); from_left = within.from_left; from_top = within.from_top; to_right = within.to_right; to_bottom = within.to_bottom }
