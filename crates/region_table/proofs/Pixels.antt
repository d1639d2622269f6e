-- Pixels of a screen.
use Rattle.std.proofs.Common.{◌≡◌, ℕ, zero, suc, ◌+◌, ◌*◌, ◌<◌, cond, Bool, true, false, if◌then◌else◌, ◌∷◌, get_or, Some, None, refl, ap, ◌∙◌, subst, arith}
use Rattle.std.specs.Prelude.{ℤ, pos, ◌+ℤ◌, nat_abs, int_le, int_lt}
use Rattle.std.specs.List.{range_with_len, filter}
use Rattle.std.proofs.lemmas.Int.{ints}
use Rattle.std.proofs.lemmas.Bool.{and_parts}
use Rattle.std.proofs.lemmas.Nat.{mul-add-lt}
use Rattle.std.proofs.lemmas.List.FromFn.{fill_by_all, length-map-range_with_len, get_or-map-range_with_len}
use Rattle.qws_base.specs.Sides.{Sides}
use Rattle.qws_base.specs.Points.{spans, pixel_count, pixel_at, is_on_screen}
use Rattle.qws_base.specs.Scenes.{by_pixels}
use Rattle.qws_base.specs.declared.points.Point.{Point}

-- a coordinate on an axis
on_axis : (at : ℤ) (n : ℕ) → spans (pos 0) n at ≡ true → nat_abs at < n
on_axis at n h =
    let parts = and_parts (int_le (pos 0) at) (int_lt at (pos 0 +ℤ pos n)) h in
    grind (arith, ints)

by_test : (size : Sides) (p : Point) (q : ℕ) (b : Bool) → is_on_screen size p ≡ b → (if b then Some (nat_abs p.y * size.w + nat_abs p.x) else None) ≡ Some q → q < pixel_count size
by_test size p q false on is = cc
by_test size p q true on is =
    let parts = and_parts (spans (pos 0) size.w p.x) (spans (pos 0) size.h p.y) on in
    let same : nat_abs p.y * size.w + nat_abs p.x ≡ q = cc in
    subst (λ n. n < size.w * size.h) same (mul-add-lt (nat_abs p.y) size.w (nat_abs p.x) size.h (on_axis p.y size.h parts.1) (on_axis p.x size.w parts.0))

-- the pixel at a point is one of the screen
pub pixel_within : (size : Sides) (p : Point) (q : ℕ) → pixel_at size p ≡ Some q → q < pixel_count size
pixel_within size p q is = by_test size p q (is_on_screen size p) refl is

-- a scene by its pixels has at each pixel what the function has
pub at_pixel : (size : Sides) (f : ℕ → ℕ) (p d : ℕ) → p < pixel_count size → get_or (by_pixels size f) p d ≡ f p
at_pixel size f p d within = get_or-map-range_with_len f 0 (pixel_count size) p p d within (omega arith)

pub pixels_same : (size : Sides) (f g : ℕ → ℕ) → ((p : ℕ) → p < pixel_count size → f p ≡ g p) → by_pixels size f ≡ by_pixels size g
pixels_same size f g same = fill_by_all g (by_pixels size f) (pixel_count size) 0 (length-map-range_with_len f 0 (pixel_count size))
    (λ p within. at_pixel size f p 0 within ∙ same p within)

pub filter_same : (f g : ℕ → Bool) (a n : ℕ) → ((p : ℕ) → p < a + n → f p ≡ g p) → filter f (range_with_len a n) ≡ filter g (range_with_len a n)
filter_same f g a zero same = refl
filter_same f g a (suc n) same =
    ap (λ b. cond b (a ∷ filter f (range_with_len (a + 1) n)) (filter f (range_with_len (a + 1) n))) (same a (omega arith))
    ∙ ap (λ l. cond (g a) (a ∷ l) l) (filter_same f g (a + 1) n (λ p below. same p (omega arith)))
