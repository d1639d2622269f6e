-- In which direction a move carries pixels.
use Rattle.std.proofs.Common.{◌≡◌, ℕ, ◌+◌, ◌*◌, ◌/◌, ◌%◌, ◌<◌, ◌≤◌, ◌⊎◌, ℤ, pos, ◌-ℤ◌, ◌<ℤ◌, ◌≤ℤ◌, nat_abs, int_le, int_lt, ◌+ℤ◌, Bool, true, false, cond, ◌&&◌, Option, None, Some, refl, sym, ap, ◌∙◌, subst, arith, inl, inr}
use Rattle.std.proofs.lemmas.Bool.{and_parts}
use Rattle.std.proofs.lemmas.Int.{ints}
use Rattle.std.proofs.lemmas.Nat.{mul-add-lt, div-add-mod'}
use Rattle.std.proofs.lemmas.Option.{cond_some}
use Rattle.std.proofs.Math.Nat.{mod-lt, mul_comm}
use Rattle.qws_base.specs.Sides.{Sides}
use Rattle.qws_base.specs.Points.{spans, is_on_screen, pixel_at, point_of, minus}
use Rattle.qws_base.specs.Windows.{Layout, owns}
use Rattle.qws_base.specs.Scenes.{source_in, carried_from}
use Rattle.qws_base.specs.declared.points.Point.{Point}
use Rattle.qws_base.proofs.Integers.{spans_low}
use Rattle.pixel_model.specs.Directions.{GoesOn, GoesBack}
use Rattle.pixel_model.specs.Drawn.{CarriesDown, CarriesUp}
use Rattle.pixel_model.proofs.Pixels.{span_bound}

-- a pixel in an earlier row, or in the same row and not later
rows_order : (w Y X y x : ℕ) → x < w → (y < Y) ⊎ ((y ≡ Y) × (x ≤ X)) → y * w + x ≤ Y * w + X
rows_order w Y X y x within (inl less) = omega (arith, mul-add-lt y w x Y less within, mul_comm w Y)
rows_order w Y X y x within (inr (same, least)) = subst (λ v. v * w + x ≤ Y * w + X) (sym same) (omega arith)

-- where the pixel lies that is carried
record IsSource (size : Sides) (p q : ℕ) (shift : Point) : Type 0 where
  in_row : spans (pos 0) size.w ((point_of size.w p).x -ℤ shift.x) ≡ true
  in_column : spans (pos 0) size.h ((point_of size.w p).y -ℤ shift.y) ≡ true
  place : nat_abs ((point_of size.w p).y -ℤ shift.y) * size.w + nat_abs ((point_of size.w p).x -ℤ shift.x) ≡ q

source_some : (size : Sides) (before after : Layout) (slot p q : ℕ) (o : Option ℕ) → source_in size before after slot p o ≡ Some q → o ≡ Some q
source_some size before after slot p q None is = cc
source_some size before after slot p q (Some r) is = ap (λ v. Some v) (cond_some (owns after slot p && owns before slot r) r q is).1

is_source : (size : Sides) (before after : Layout) (slot p q : ℕ) → carried_from size before after (Some slot) p ≡ Some q → IsSource size p q (minus (after.origin slot) (before.origin slot))
is_source size before after slot p q is =
    let shift : Point = minus (after.origin slot) (before.origin slot) in
    let at : Point = minus (point_of size.w p) shift in
    let found = cond_some (is_on_screen size at) (nat_abs at.y * size.w + nat_abs at.x) q (source_some size before after slot p q (pixel_at size at) is) in
    let sides = and_parts (spans (pos 0) size.w at.x) (spans (pos 0) size.h at.y) found.0 in
    record { in_row = sides.0; in_column = sides.1; place = found.1 }

earlier : (Y X : ℕ) (shift : Point) → pos 0 ≤ℤ (pos Y -ℤ shift.y) → pos 0 ≤ℤ (pos X -ℤ shift.x) → GoesOn shift → (nat_abs (pos Y -ℤ shift.y) < Y) ⊎ ((nat_abs (pos Y -ℤ shift.y) ≡ Y) × (nat_abs (pos X -ℤ shift.x) ≤ X))
earlier Y X shift row column (inl down) = inl (grind (arith, ints))
earlier Y X shift row column (inr (level, right)) = inr (grind (arith, ints), grind (arith, ints))

later : (Y X : ℕ) (shift : Point) → pos 0 ≤ℤ (pos Y -ℤ shift.y) → pos 0 ≤ℤ (pos X -ℤ shift.x) → GoesBack shift → (Y < nat_abs (pos Y -ℤ shift.y)) ⊎ ((Y ≡ nat_abs (pos Y -ℤ shift.y)) × (X ≤ nat_abs (pos X -ℤ shift.x)))
later Y X shift row column (inl up) = inl (grind (arith, ints))
later Y X shift row column (inr (level, left)) = inr (grind (arith, ints), grind (arith, ints))

pub carries_up : (size : Sides) (before after : Layout) (slot : ℕ) → GoesOn (minus (after.origin slot) (before.origin slot)) → CarriesUp size before after (Some slot)
carries_up size before after slot on p q is =
    let shift : Point = minus (after.origin slot) (before.origin slot) in
    let source = is_source size before after slot p q is in
    let order = rows_order size.w (p / size.w) (p % size.w) (nat_abs (pos (p / size.w) -ℤ shift.y)) (nat_abs (pos (p % size.w) -ℤ shift.x)) (span_bound size.w (pos (p % size.w) -ℤ shift.x) source.in_row)
    (earlier (p / size.w) (p % size.w) shift (spans_low (pos 0) (pos (p / size.w) -ℤ shift.y) size.h source.in_column) (spans_low (pos 0) (pos (p % size.w) -ℤ shift.x) size.w source.in_row) on) in
    omega (arith, order, source.place, div-add-mod' p size.w)

pub carries_down : (size : Sides) (before after : Layout) (slot : ℕ) → GoesBack (minus (after.origin slot) (before.origin slot)) → CarriesDown size before after (Some slot)
carries_down size before after slot back p q is =
    let shift : Point = minus (after.origin slot) (before.origin slot) in
    let source = is_source size before after slot p q is in
    let wide : 0 < size.w = omega (arith, span_bound size.w (pos (p % size.w) -ℤ shift.x) source.in_row) in
    let order = rows_order size.w (nat_abs (pos (p / size.w) -ℤ shift.y)) (nat_abs (pos (p % size.w) -ℤ shift.x)) (p / size.w) (p % size.w) (mod-lt p wide)
    (later (p / size.w) (p % size.w) shift (spans_low (pos 0) (pos (p / size.w) -ℤ shift.y) size.h source.in_column) (spans_low (pos 0) (pos (p % size.w) -ℤ shift.x) size.w source.in_row) back) in
    omega (arith, order, source.place, div-add-mod' p size.w)

pub nothing_carried : (size : Sides) (before after : Layout) → CarriesDown size before after None
nothing_carried size before after p q is = cc
