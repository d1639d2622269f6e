-- Sets of points of a screen that have the same pixels.
use Rattle.std.proofs.Common.{◌≡◌, ℕ, zero, suc, ◌+◌, ◌*◌, ◌/◌, ◌%◌, ◌<◌, ◌≤◌, Bool, true, false, ◌&&◌, List, [], ◌∷◌, refl, sym, ap, ◌∙◌, subst, ⊎_elim, arith}
use Rattle.std.specs.Prelude.{ℤ, pos, nat_abs}
use mathlib.Core.Bool.{beq}
use Rattle.std.specs.List.{list_all, range_with_len}
use Rattle.std.proofs.lemmas.Bool.{false≢true, and_parts, cases_eq, cases_Bool}
use Rattle.std.proofs.lemmas.Nat.{mul-add-lt, div-mul-add, mod-mul-add}
use Rattle.qws_base.specs.Sides.{Sides}
use Rattle.qws_base.specs.Points.{spans, is_on_screen, pixels, pixel_count, point_of}
use Rattle.qws_base.specs.Regions.{IsOnScreen, same_pixels}
use Rattle.qws_base.specs.declared.points.Point.{Point}
use Rattle.qws_base.proofs.Booleans.{both_off, equal_from, equal_to}
use Rattle.qws_base.proofs.Integers.{within}

-- ---- all of a range

all_at : (test : ℕ → Bool) (a n k : ℕ) → list_all test (range_with_len a n) ≡ true → a ≤ k → k < a + n → test k ≡ true
all_at test a zero k h low high = absurd (omega arith)
all_at test a (suc n) k h low high =
    let parts = and_parts (test a) (list_all test (range_with_len (a + 1) n)) h in
    ⊎_elim
    (λ (same : k ≡ a). ap test same ∙ parts.0)
    (λ (differs : k ≡ a → ⊥). all_at test (a + 1) n k parts.1 (omega (arith, differs)) (omega arith))
    (cases_eq k a)

all_from : (test : ℕ → Bool) → ((k : ℕ) → test k ≡ true) → (ks : List ℕ) → list_all test ks ≡ true
all_from test h [] = refl
all_from test h (k ∷ ks) = ap (λ b. b && list_all test ks) (h k) ∙ all_from test h ks

-- ---- the pixel of a point

-- the point is that of a pixel
pub record IsPixelAt (size : Sides) (p : Point) : Type 0 where
  pub pixel : ℕ
  pub below : pixel < pixel_count size
  pub point : point_of size.w pixel ≡ p

two : (x y u v : ℤ) → x ≡ u → y ≡ v → let a : Point = record { x = x; y = y } in let b : Point = record { x = u; y = v } in a ≡ b
two x y u v e f = ap (λ (t : ℤ). let c : Point = record { x = t; y = y } in c) e ∙ ap (λ (t : ℤ). let c : Point = record { x = u; y = t } in c) f

pub pixel_at : (size : Sides) (p : Point) → is_on_screen size p ≡ true → IsPixelAt size p
pixel_at size p h =
    let parts = and_parts (spans (pos 0) size.w p.x) (spans (pos 0) size.h p.y) h in
    let x = within size.w p.x parts.0 in
    let y = within size.h p.y parts.1 in
    record {
      pixel = nat_abs p.y * size.w + nat_abs p.x;
      below = mul-add-lt (nat_abs p.y) size.w (nat_abs p.x) size.h y.below x.below;
      point = two (pos ((nat_abs p.y * size.w + nat_abs p.x) % size.w)) (pos ((nat_abs p.y * size.w + nat_abs p.x) / size.w)) p.x p.y
          (ap pos (mod-mul-add (nat_abs p.y) size.w (nat_abs p.x) x.below) ∙ x.same)
          (ap pos (div-mul-add (nat_abs p.y) size.w (nat_abs p.x) x.below) ∙ y.same);
    }

-- ---- the same pixels

-- two sets of points of the screen with the same pixels are the same
pub same_on_screen : (size : Sides) (set other : Point → Bool) → IsOnScreen size set → IsOnScreen size other → same_pixels size set other ≡ true → (p : Point) → set p ≡ other p
same_on_screen size set other on off same p = ⊎_elim
    (λ (h : is_on_screen size p ≡ true).
    let at = pixel_at size p h in
    let k : ℕ = at.pixel in
    let below = at.below in
    let equal = all_at (λ n. beq (set (point_of size.w n)) (other (point_of size.w n))) 0 (pixel_count size) k same (omega arith) (omega (arith, below)) in
    subst (λ q. set q ≡ other q) at.point (equal_from (set (point_of size.w k)) (other (point_of size.w k)) equal))
    (λ (h : is_on_screen size p ≡ false). both_off (set p) (other p) (λ e. false≢true (sym h ∙ on p e)) (λ e. false≢true (sym h ∙ off p e)))
    (cases_Bool (is_on_screen size p))

-- the same sets have the same pixels
pub same_everywhere : (size : Sides) (set other : Point → Bool) → ((p : Point) → set p ≡ other p) → same_pixels size set other ≡ true
same_everywhere size set other e =
    all_from (λ n. beq (set (point_of size.w n)) (other (point_of size.w n))) (λ n. equal_to (set (point_of size.w n)) (other (point_of size.w n)) (e (point_of size.w n))) (pixels size)
