-- Pixels and their numbers.
use Rattle.std.proofs.Common.{◌≡◌, ℕ, ◌+◌, ◌*◌, ◌<◌, ℤ, pos, nat_abs, int_le, int_lt, ◌+ℤ◌, Bool, true, false, ◌&&◌, refl, arith}
use Rattle.std.proofs.lemmas.Nat.{mul-add-lt}
use Rattle.qws_base.specs.Sides.{Sides}
use Rattle.qws_base.specs.Points.{spans, pixel_count}
use Rattle.qws_base.proofs.Integers.{within}

pub span_bound : (n : ℕ) (at : ℤ) → spans (pos 0) n at ≡ true → nat_abs at < n
span_bound n at h = (within n at h).below

-- the number of a point on the screen
pub pixel_below : (size : Sides) (x y : ℤ) → spans (pos 0) size.w x ≡ true → spans (pos 0) size.h y ≡ true → nat_abs y * size.w + nat_abs x < pixel_count size
pixel_below size x y in_row in_column = mul-add-lt (nat_abs y) size.w (nat_abs x) size.h (span_bound size.h y in_column) (span_bound size.w x in_row)
