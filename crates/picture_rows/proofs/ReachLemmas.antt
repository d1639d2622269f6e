-- A rectangle between outermost points has the points within its bounds.
use Rattle.std.proofs.Common.{◌≡◌, ◌+◌, ◌-ℤ◌, ◌≤ℤ◌, ◌<ℤ◌, nat_abs, true, arith}
use Rattle.std.proofs.lemmas.Int.{ints}
use Rattle.std.proofs.lemmas.Bool.{and_from}
use Rattle.qws_base.specs.declared.points.Point.{Point}
use Rattle.qws_base.specs.declared.bounds.Bounds.{Bounds}
use Rattle.qws_base.specs.Points.{spans, holds}
use Rattle.qws_base.proofs.BoundsLemmas.{Holds}
use Rattle.qws_base.proofs.Integers.{spans_from}
use Rattle.picture_rows.specs.Boxes.{closed_rect, half_open_rect}

pub in_closed : (b : Bounds) (p : Point) → Holds b p → holds (closed_rect b) p ≡ true
in_closed b p h =
    and_from (spans b.left (nat_abs (b.right -ℤ b.left) + 1) p.x) (spans b.top (nat_abs (b.bottom -ℤ b.top) + 1) p.y)
    (spans_from b.left p.x _ h.left (omega (arith, ints, h.left, h.right)))
    (spans_from b.top p.y _ h.top (omega (arith, ints, h.top, h.bottom)))

pub in_half_open : (b : Bounds) (p : Point) → b.left ≤ℤ p.x → p.x <ℤ b.right → b.top ≤ℤ p.y → p.y <ℤ b.bottom → holds (half_open_rect b) p ≡ true
in_half_open b p l r t d =
    and_from (spans b.left (nat_abs (b.right -ℤ b.left)) p.x) (spans b.top (nat_abs (b.bottom -ℤ b.top)) p.y)
    (spans_from b.left p.x _ l (omega (arith, ints)))
    (spans_from b.top p.y _ t (omega (arith, ints)))
