-- Where the pixels of a slot go by a move.
use Rattle.std.proofs.Common.{◌≡◌, ℕ, ◌+◌, ◌-◌, ◌*◌, ◌/◌, ◌%◌, ◌<◌, ◌≤◌, Bool, true, false, ◌&&◌, if◌then◌else◌, List, Some, None, sym, refl, ap, ◌∙◌, subst, arith, ℤ, pos, ◌+ℤ◌, ◌-ℤ◌, ◌≤ℤ◌, ◌<ℤ◌, nat_abs}
use Rattle.std.specs.Prelude.{int_le, int_lt, negsuc, All, slice_index_or}
use Rattle.std.proofs.lemmas.Int.{ints}
use Rattle.std.proofs.lemmas.Bool.{and_parts, and_from, and_right}
use Rattle.std.proofs.lemmas.Nat.{div-add-mod', div-mul-add, mod-mul-add, mul-add-lt}
use Rattle.std.proofs.Math.Nat.{add-mul, mul_comm, mod-lt, div-lt_iff_lt-mul}
use Rattle.qws_base.specs.Sides.{Sides, IsScreen}
use Rattle.qws_base.specs.Points.{point_of, spans, is_on_screen, pixel_at, pixel_count, minus, shifted}
use Rattle.qws_base.specs.Scenes.{Setting, source_in}
use Rattle.qws_base.specs.Windows.{layout_of, owner_at, is_slot, allocated_points}
use Rattle.qws_base.specs.declared.points.Point.{Point}
use Rattle.qws_base.specs.declared.windows.WindowView.{WindowView}
use Rattle.qws_base.specs.RectPixels.{IsWithin}
use Rattle.qws_base.specs.declared.points.Rect.{Rect}
use Rattle.band_regions.specs.Ranges.{IsInRange, IsShiftable, shift_of}
use Rattle.step_regions.specs.Carried.{source, HasSource}
use Rattle.step_regions.specs.Carried.{IsNear}

-- the places between a pixel and its source
pub distance_is : (w a b x y right left down up : ℕ) → a + left ≡ x + right → b + up ≡ y + down → b * w + a + (up * w + left) ≡ y * w + x + (down * w + right)
distance_is w a b x y right left down up across along =
    let both : (b + up) * w ≡ (y + down) * w = ap (λ n. n * w) along in
    let one : (b + up) * w ≡ b * w + up * w = add-mul b up w in
    let two : (y + down) * w ≡ y * w + down * w = add-mul y down w in
    omega arith

source_is : (falling : Bool) (p q forth back by : ℕ) → p + back ≡ q + forth → (falling ≡ true → back < forth) → (falling ≡ false → forth ≤ back) → (falling ≡ true → by ≡ forth - back) → (falling ≡ false → by ≡ back - forth) → source falling by p ≡ q
source_is true p q forth back by is a b d e = let lt = a refl in let by_is = d refl in omega arith
source_is false p q forth back by is a b d e = let le = b refl in let by_is = e refl in omega arith

-- ---- points on the screen

record IsAt (size : Sides) (p : Point) : Type 0 where
  x : ℕ
  y : ℕ
  x_is : p.x ≡ pos x
  y_is : p.y ≡ pos y
  in_columns : x < size.w
  in_rows : y < size.h

within : (n : ℕ) (z : ℤ) → spans (pos 0) n z ≡ true → (z ≡ pos (nat_abs z)) × (nat_abs z < n)
within n z h =
    let parts = and_parts (int_le (pos 0) z) (int_lt z (pos 0 +ℤ pos n)) h in
    let low : pos 0 ≤ℤ z = grind (arith, ints) in
    let high : z <ℤ pos n = grind (arith, ints) in
    (omega (arith, ints), omega (arith, ints))

at_of : (size : Sides) (p : Point) → is_on_screen size p ≡ true → IsAt size p
at_of size p on =
    let parts = and_parts (spans (pos 0) size.w p.x) (spans (pos 0) size.h p.y) on in
    let x = within size.w p.x parts.0 in
    let y = within size.h p.y parts.1 in
    record { x = nat_abs p.x; y = nat_abs p.y; x_is = x.0; y_is = y.0; in_columns = x.1; in_rows = y.1 }

spans_at : (n at : ℕ) → at < n → spans (pos 0) n (pos at) ≡ true
spans_at n at lt = grind (arith, ints)

pub pixel_on : (size : Sides) (p : ℕ) → 0 < size.w → p < pixel_count size → is_on_screen size (point_of size.w p) ≡ true
pixel_on size p some lt = and_from (spans (pos 0) size.w (pos (p % size.w))) (spans (pos 0) size.h (pos (p / size.w)))
    (spans_at size.w (p % size.w) (mod-lt p some)) (spans_at size.h (p / size.w) ((div-lt_iff_lt-mul some).1 (rows_first size.w size.h lt)))
  where
    rows_first : (w h : ℕ) → p < w * h → p < h * w
    rows_first w h lt = let e : w * h ≡ h * w = mul_comm w h in omega arith

pub two : (x y u v : ℤ) → x ≡ u → y ≡ v → let a : Point = record { x = x; y = y } in let b : Point = record { x = u; y = v } in a ≡ b
two x y u v e f = ap (λ (t : ℤ). let c : Point = record { x = t; y = y } in c) e ∙ ap (λ (t : ℤ). let c : Point = record { x = u; y = t } in c) f

-- ---- what is carried

module _ (size : Sides) (before after : List WindowView) (slot : ℕ) (d : Point) (falling : Bool) (right left down up forth back by : ℕ)
    (some : 0 < size.w) (across : pos right -ℤ pos left ≡ d.x) (along : pos down -ℤ pos up ≡ d.y) (forth_is : forth ≡ down * size.w + right) (back_is : back ≡ up * size.w + left)
    (falls : falling ≡ true → back < forth) (rises : falling ≡ false → forth ≤ back) (by_falling : falling ≡ true → by ≡ forth - back) (by_rising : falling ≡ false → by ≡ back - forth) where
  -- the pixel at the distance is the source
  from : (p : ℕ) (at : IsAt size (minus (point_of size.w p) d)) → source falling by p ≡ at.y * size.w + at.x
  from p at =
      let x : p % size.w + left ≡ at.x + right = let e = at.x_is in omega (arith, ints) in
      let y : p / size.w + up ≡ at.y + down = let e = at.y_is in omega (arith, ints) in
      let whole = div-add-mod' p size.w in
      let all = distance_is size.w (p % size.w) (p / size.w) at.x at.y right left down up x y in
      source_is falling p (at.y * size.w + at.x) forth back by (omega arith) falls rises by_falling by_rising

  pub carries : (p : ℕ) → p < pixel_count size
      → source_in size (layout_of size before) (layout_of size after) slot p (pixel_at size (minus (point_of size.w p) d))
      ≡ (if allocated_points size after slot (point_of size.w p) && allocated_points size before slot (minus (point_of size.w p) d) then Some (source falling by p) else None)
  carries p lt = go (is_on_screen size (minus (point_of size.w p) d)) refl
    where
      go : (on : Bool) → is_on_screen size (minus (point_of size.w p) d) ≡ on
          → source_in size (layout_of size before) (layout_of size after) slot p (if on then Some (nat_abs (minus (point_of size.w p) d).y * size.w + nat_abs (minus (point_of size.w p) d).x) else None)
          ≡ (if allocated_points size after slot (point_of size.w p) && (on && is_slot slot (owner_at before (minus (point_of size.w p) d))) then Some (source falling by p) else None)
      go false is = sym (ap (λ b. if b then Some (source falling by p) else None) (and_right (allocated_points size after slot (point_of size.w p)) false refl))
      go true is =
          let at = at_of size (minus (point_of size.w p) d) is in
          let column = at.in_columns in
          let number : nat_abs (minus (point_of size.w p) d).y * size.w + nat_abs (minus (point_of size.w p) d).x ≡ at.y * size.w + at.x =
          ap (λ n. n * size.w + nat_abs (minus (point_of size.w p) d).x) (ap nat_abs at.y_is) ∙ ap (λ n. at.y * size.w + n) (ap nat_abs at.x_is) in
          let point : point_of size.w (at.y * size.w + at.x) ≡ minus (point_of size.w p) d =
          two (pos ((at.y * size.w + at.x) % size.w)) (pos ((at.y * size.w + at.x) / size.w)) (minus (point_of size.w p) d).x (minus (point_of size.w p) d).y
          (ap (λ n. pos n) (mod-mul-add at.y size.w at.x column) ∙ sym at.x_is) (ap (λ n. pos n) (div-mul-add at.y size.w at.x column) ∙ sym at.y_is) in
          ap (λ n. if is_slot slot (owner_at after (point_of size.w p)) && is_slot slot (owner_at before (point_of size.w n)) then Some n else None) number
          ∙ ap (λ (v : Point). if is_slot slot (owner_at after (point_of size.w p)) && is_slot slot (owner_at before v) then Some (at.y * size.w + at.x) else None) point
          ∙ ap (λ n. if is_slot slot (owner_at after (point_of size.w p)) && is_slot slot (owner_at before (minus (point_of size.w p) d)) then Some n else None) (sym (from p at))
          ∙ sym (ap (λ b. if (b && is_slot slot (owner_at after (point_of size.w p))) && is_slot slot (owner_at before (minus (point_of size.w p) d)) then Some (source falling by p) else None) (pixel_on size p some lt))

  pub has_source : (setting : Setting) (p : ℕ) → setting.size ≡ size → p < pixel_count size → allocated_points size before slot (minus (point_of size.w p) d) ≡ true → HasSource setting falling by p
  has_source setting p same lt holds =
      let on = (and_parts (is_on_screen size (minus (point_of size.w p) d)) (is_slot slot (owner_at before (minus (point_of size.w p) d))) holds).0 in
      let at = at_of size (minus (point_of size.w p) d) on in
      let below = mul-add-lt at.y size.w at.x size.h at.in_rows at.in_columns in
      let x : p % size.w + left ≡ at.x + right = let e = at.x_is in omega (arith, ints) in
      let y : p / size.w + up ≡ at.y + down = let e = at.y_is in omega (arith, ints) in
      let whole = div-add-mod' p size.w in
      let all = distance_is size.w (p % size.w) (p / size.w) at.x at.y right left down up x y in
      there falling (at.y * size.w + at.x) (omega arith) below falls rises by_falling by_rising
    where
      there : (f : Bool) (q : ℕ) → p + back ≡ q + forth → q < pixel_count size → (f ≡ true → back < forth) → (f ≡ false → forth ≤ back) → (f ≡ true → by ≡ forth - back) → (f ≡ false → by ≡ back - forth) → HasSource setting f by p
      there true q is below a b e g = let high = a refl in let by_is = e refl in omega arith
      there false q is below a b e g = let low = b refl in let by_is = g refl in
          subst (λ (s : Sides). p + by < pixel_count s) (sym same) (subst (λ n. n < pixel_count size) (let z : q ≡ p + by = omega arith in z) below)

-- ---- distances

pub combine : (d : ℤ) (r l : ℕ) → (pos 0 ≤ℤ d → pos r ≡ d) → (d ≤ℤ pos 0 → r ≡ 0) → (d ≤ℤ pos 0 → (pos 0 -ℤ pos l) ≡ d) → (pos 0 ≤ℤ d → l ≡ 0) → pos r -ℤ pos l ≡ d
combine (pos n) r l a b c e = let x = a (omega (arith, ints)) in let y = e (omega (arith, ints)) in omega (arith, ints)
combine (negsuc n) r l a b c e = let x = b (omega (arith, ints)) in let y = c (omega (arith, ints)) in omega (arith, ints)

in_range : (size : Sides) (r : Rect) (dx dy : ℤ) → IsScreen size → IsWithin size r → IsNear dx → IsNear dy → IsInRange (shifted (shift_of dx dy) r)
in_range size r dx dy screen on x y =
    let w = screen.most_w in let h = screen.most_h in
    let left = on.from_left in let top = on.from_top in let to_right = on.to_right in let to_bottom = on.to_bottom in
    let a = x.low in let b = x.high in let e = y.low in let f = y.high in
    record {
      low_x = omega (arith, ints);
      high_x = omega (arith, ints);
      low_y = omega (arith, ints);
      high_y = omega (arith, ints);
      high_right = omega (arith, ints);
      high_bottom = omega (arith, ints);
    }

pub all_shiftable : (size : Sides) (rects : List Rect) (dx dy : ℤ) → IsScreen size → All (IsWithin size) rects → IsNear dx → IsNear dy → All (IsShiftable dx dy) rects
all_shiftable size rects dx dy screen within x y = λ k d lt. in_range size (slice_index_or rects k d) dx dy screen (within k d lt) x y
