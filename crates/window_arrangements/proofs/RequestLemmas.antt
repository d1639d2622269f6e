-- Rectangles and origins that no cause refuses, and the points of moved rectangles.
use Rattle.std.proofs.Common.{◌≡◌, ℕ, ◌≤◌, Bool, true, false, not, ◌&&◌, ◌||◌, None, List, [], ◌∷◌, map, length, get_or, refl, ap, subst, arith}
use Rattle.std.specs.Prelude.{ℤ, nat_le, All}
use Rattle.std.specs.List.{list_any}
use Rattle.std.proofs.lemmas.Int.{ints}
use Rattle.std.proofs.lemmas.Bool.{and_parts}
use Rattle.std.proofs.lemmas.List.{get_or_default}
use Rattle.std.proofs.lemmas.List.Elements.{All-map, All-weaker}
use Rattle.qws_base.specs.Points.{holds, any_holds, shifted}
use Rattle.qws_base.specs.Refusals.{when, off_screen, bad_region, is_coordinate, is_side, is_requestable, is_bad_place, no_rect}
use Rattle.qws_base.specs.declared.points.Point.{Point}
use Rattle.qws_base.specs.declared.points.Rect.{Rect}
use Rattle.qws_base.specs.declared.replies.Refusal.{Refusal}
use Rattle.qws_base.specs.declared.replies.Refusal.TheVariants.{BadRegion, OffScreen}
use Rattle.qws_base.proofs.ListLemmas.{absent}
use Rattle.band_regions.specs.Ranges.{IsInRange}
use Rattle.window_arrangements.specs.Near.{IsNear, IsNearPoint, IsNearRect}

near : (x : ℤ) → is_coordinate x ≡ true → IsNear x
near x h = record { low = grind (arith, ints); high = grind (arith, ints) }

-- no cause where the test fails
untested : (b : Bool) (cause : Refusal) → when (not b) cause ≡ None → b ≡ true
untested true cause e = refl
untested false cause e = cc

pub near_origin : (origin : Point) → off_screen origin ≡ None → IsNearPoint origin
near_origin origin e =
    let parts = and_parts (is_coordinate origin.x) (is_coordinate origin.y) (untested (is_coordinate origin.x && is_coordinate origin.y) (OffScreen origin.x origin.y) e) in
    record { x = near origin.x parts.0; y = near origin.y parts.1 }

at_most_side : (n : ℕ) → is_side n ≡ true → n ≤ 4096
at_most_side n h = grind arith

near_rect : (r : Rect) → is_requestable r ≡ true → IsNearRect r
near_rect r h =
    let parts = and_parts (is_coordinate r.x && is_coordinate r.y) (is_side r.w && is_side r.h) h in
    let corner = and_parts (is_coordinate r.x) (is_coordinate r.y) parts.0 in
    let sides = and_parts (is_side r.w) (is_side r.h) parts.1 in
    record { x = near r.x corner.0; y = near r.y corner.1; few_w = at_most_side r.w sides.0; few_h = at_most_side r.h sides.1 }

not_either : (a b : Bool) → (a || not b) ≡ false → b ≡ true
not_either true b h = cc
not_either false true h = refl
not_either false false h = cc

pub near_rects : (rects : List Rect) → bad_region rects ≡ None → All IsNearRect rects
near_rects rects e k d below =
    let fine = absent (λ j. BadRegion j) (is_bad_place rects) 0 (length rects) e k (omega arith) (omega arith) in
    subst IsNearRect (get_or_default rects k no_rect d below) (near_rect (get_or rects k no_rect) (not_either (nat_le 32 k) (is_requestable (get_or rects k no_rect)) fine))

-- a rectangle moved from near by to near by is in range
pub moved_in_range : (origin : Point) (r : Rect) → IsNearPoint origin → IsNearRect r → IsInRange (shifted origin r)
moved_in_range origin r o n =
    let a = o.x.low in let b = o.x.high in let c = o.y.low in let d = o.y.high in
    let e = n.x.low in let f = n.x.high in let g = n.y.low in let h = n.y.high in
    let w = n.few_w in let v = n.few_h in
    record {
      low_x = omega (arith, ints, a, e);
      high_x = omega (arith, ints, b, f);
      low_y = omega (arith, ints, c, g);
      high_y = omega (arith, ints, d, h);
      high_right = omega (arith, ints, b, f, w);
      high_bottom = omega (arith, ints, d, h, v);
    }

pub moved_all : (origin : Point) (rects : List Rect) → off_screen origin ≡ None → bad_region rects ≡ None → All IsInRange (map (shifted origin) rects)
moved_all origin rects placed requested =
    All-map IsInRange (shifted origin) rects
    (All-weaker IsNearRect (λ r. IsInRange (shifted origin r)) (λ r n. moved_in_range origin r (near_origin origin placed) n) rects (near_rects rects requested))

-- what moved rectangles hold
pub moved_hold : (origin : Point) (rects : List Rect) (p : Point) → any_holds (map (shifted origin) rects) p ≡ list_any (λ r. holds (shifted origin r) p) rects
moved_hold origin [] p = refl
moved_hold origin (r ∷ rects) p = ap (λ b. holds (shifted origin r) p || b) (moved_hold origin rects p)
