-- A cut has the points that the rectangle shares with the picture's reach.
use Rattle.std.proofs.Common.{◌≡◌, ℕ, Bool, true, false, ◌&&◌, if◌then◌else◌, refl, ap, ◌∙◌, arith, pos, nat_abs, ◌+ℤ◌, ◌-ℤ◌, ◌≤ℤ◌, ◌<ℤ◌, ℤ, int_le, int_lt}
use Rattle.std.proofs.lemmas.Int.{ints}
use Rattle.std.proofs.lemmas.Bool.{and_parts}
use Rattle.qws_base.specs.Points.{spans, holds, shifted}
use Rattle.qws_base.specs.RectPixels.{IsWithin}
use Rattle.qws_base.specs.Sides.{Sides, IsScreen}
use Rattle.qws_base.specs.declared.points.Point.{Point}
use Rattle.qws_base.specs.declared.points.Rect.{Rect}
use Rattle.qws_base.proofs.Integers.{lt_told, not_lt_told, spans_low, spans_high, spans_from}
use Rattle.picture_cuts.specs.Cuts.{later, sooner, shared_span, cut_rect, largest}

-- the later one is neither before the one nor before the other, and it is one of them; so is the sooner one
record IsLater (a b c : ℤ) : Type 0 where
  from_first : a ≤ℤ c
  from_second : b ≤ℤ c
  least : (z : ℤ) → a ≤ℤ z → b ≤ℤ z → c ≤ℤ z

record IsSooner (a b c : ℤ) : Type 0 where
  to_first : c ≤ℤ a
  to_second : c ≤ℤ b
  most : (z : ℤ) → z <ℤ a → z <ℤ b → z <ℤ c

is_later : (a b : ℤ) → IsLater a b (later a b)
is_later a b = go (int_le a b) refl
  where
    go : (t : Bool) → int_le a b ≡ t → IsLater a b (if t then b else a)
    go true e = record { from_first = grind (arith, ints); from_second = grind (arith, ints); least = λ z f g. g }
    go false e = record { from_first = grind (arith, ints); from_second = grind (arith, ints); least = λ z f g. f }

is_sooner : (a b : ℤ) → IsSooner a b (sooner a b)
is_sooner a b = go (int_le a b) refl
  where
    go : (t : Bool) → int_le a b ≡ t → IsSooner a b (if t then a else b)
    go true e = record { to_first = grind (arith, ints); to_second = grind (arith, ints); most = λ z f g. f }
    go false e = record { to_first = grind (arith, ints); to_second = grind (arith, ints); most = λ z f g. g }

pub shared_both : (a : ℤ) (n : ℕ) (b : ℤ) (m : ℕ) (at : ℤ) → spans (shared_span a n b m).0 (shared_span a n b m).1 at ≡ true → (spans a n at ≡ true) × (spans b m at ≡ true)
shared_both a n b m at = go (later a b) (sooner (a +ℤ pos n) (b +ℤ pos m)) (is_later a b) (is_sooner (a +ℤ pos n) (b +ℤ pos m)) (int_lt (later a b) (sooner (a +ℤ pos n) (b +ℤ pos m))) refl
  where
    go : (low high : ℤ) → IsLater a b low → IsSooner (a +ℤ pos n) (b +ℤ pos m) high → (t : Bool) → int_lt low high ≡ t
        → spans (if t then (let r : ℤ × ℕ = (low, nat_abs (high -ℤ low)) in r) else (a, 0)).0 (if t then (let r : ℤ × ℕ = (low, nat_abs (high -ℤ low)) in r) else (a, 0)).1 at ≡ true
        → (spans a n at ≡ true) × (spans b m at ≡ true)
    go low high is_low is_high true e on =
        let from = spans_low low at (nat_abs (high -ℤ low)) on in let to = spans_high low at (nat_abs (high -ℤ low)) on in let lt = lt_told low high e in
        let end : at <ℤ high = omega (arith, ints) in
        let p = is_low.from_first in let q = is_low.from_second in let u = is_high.to_first in let v = is_high.to_second in
        (spans_from a at n (omega (arith, ints)) (omega (arith, ints)), spans_from b at m (omega (arith, ints)) (omega (arith, ints)))
    go low high is_low is_high false e on = let from = spans_low a at 0 on in let to = spans_high a at 0 on in absurd (omega (arith, ints))

pub both_shared : (a : ℤ) (n : ℕ) (b : ℤ) (m : ℕ) (at : ℤ) → spans a n at ≡ true → spans b m at ≡ true → spans (shared_span a n b m).0 (shared_span a n b m).1 at ≡ true
both_shared a n b m at first second = go (later a b) (sooner (a +ℤ pos n) (b +ℤ pos m)) (is_later a b) (is_sooner (a +ℤ pos n) (b +ℤ pos m)) (int_lt (later a b) (sooner (a +ℤ pos n) (b +ℤ pos m))) refl
  where
    go : (low high : ℤ) → IsLater a b low → IsSooner (a +ℤ pos n) (b +ℤ pos m) high → (t : Bool) → int_lt low high ≡ t
        → spans (if t then (let r : ℤ × ℕ = (low, nat_abs (high -ℤ low)) in r) else (a, 0)).0 (if t then (let r : ℤ × ℕ = (low, nat_abs (high -ℤ low)) in r) else (a, 0)).1 at ≡ true
    go low high is_low is_high true e =
        let from = is_low.least at (spans_low a at n first) (spans_low b at m second) in
        let to = is_high.most at (spans_high a at n first) (spans_high b at m second) in
        spans_from low at (nat_abs (high -ℤ low)) from (omega (arith, ints))
    go low high is_low is_high false e =
        let from = is_low.least at (spans_low a at n first) (spans_low b at m second) in
        let to = is_high.most at (spans_high a at n first) (spans_high b at m second) in
        let none = not_lt_told low high e in absurd (omega (arith, ints))

-- the shared places are places of the first stretch
pub shared_within : (a : ℤ) (n : ℕ) (b : ℤ) (m : ℕ) → (a ≤ℤ (shared_span a n b m).0) × (((shared_span a n b m).0 +ℤ pos (shared_span a n b m).1) ≤ℤ (a +ℤ pos n))
shared_within a n b m = go (later a b) (sooner (a +ℤ pos n) (b +ℤ pos m)) (is_later a b) (is_sooner (a +ℤ pos n) (b +ℤ pos m)) (int_lt (later a b) (sooner (a +ℤ pos n) (b +ℤ pos m))) refl
  where
    go : (low high : ℤ) → IsLater a b low → IsSooner (a +ℤ pos n) (b +ℤ pos m) high → (t : Bool) → int_lt low high ≡ t
        → (a ≤ℤ (if t then (let r : ℤ × ℕ = (low, nat_abs (high -ℤ low)) in r) else (a, 0)).0)
        × (((if t then (let r : ℤ × ℕ = (low, nat_abs (high -ℤ low)) in r) else (a, 0)).0 +ℤ pos (if t then (let r : ℤ × ℕ = (low, nat_abs (high -ℤ low)) in r) else (a, 0)).1) ≤ℤ (a +ℤ pos n))
    go low high is_low is_high true e = let lt = lt_told low high e in let p = is_low.from_first in let u = is_high.to_first in (p, omega (arith, ints))
    go low high is_low is_high false e = (omega (arith, ints), omega (arith, ints))

-- a cut has the points of the rectangle that the picture reaches
pub cut_both : (origin : Point) (reach r : Rect) (p : Point) → holds (cut_rect origin reach r) p ≡ true → (holds r p ≡ true) × (holds (shifted origin reach) p ≡ true)
cut_both origin reach r p has =
    let c : Rect = cut_rect origin reach r in
    let parts = and_parts (spans c.x c.w p.x) (spans c.y c.h p.y) has in
    let across = shared_both r.x r.w (origin.x +ℤ reach.x) reach.w p.x parts.0 in
    let down = shared_both r.y r.h (origin.y +ℤ reach.y) reach.h p.y parts.1 in
    (ap (λ b. b && spans r.y r.h p.y) across.0 ∙ down.0, ap (λ b. b && spans (origin.y +ℤ reach.y) reach.h p.y) across.1 ∙ down.1)

pub both_cut : (origin : Point) (reach r : Rect) (p : Point) → holds r p ≡ true → holds (shifted origin reach) p ≡ true → holds (cut_rect origin reach r) p ≡ true
both_cut origin reach r p has reached =
    let c : Rect = cut_rect origin reach r in
    let mine = and_parts (spans r.x r.w p.x) (spans r.y r.h p.y) has in
    let other = and_parts (spans (origin.x +ℤ reach.x) reach.w p.x) (spans (origin.y +ℤ reach.y) reach.h p.y) reached in
    ap (λ b. b && spans c.y c.h p.y) (both_shared r.x r.w (origin.x +ℤ reach.x) reach.w p.x mine.0 other.0) ∙ both_shared r.y r.h (origin.y +ℤ reach.y) reach.h p.y mine.1 other.1

pub cut_within : (size : Sides) (origin : Point) (reach r : Rect) → IsWithin size r → IsWithin size (cut_rect origin reach r)
cut_within size origin reach r on =
    let across = shared_within r.x r.w (origin.x +ℤ reach.x) reach.w in
    let down = shared_within r.y r.h (origin.y +ℤ reach.y) reach.h in
    let a = across.0 in let b = across.1 in let c = down.0 in let d = down.1 in
    let w = on.from_left in let x = on.from_top in let y = on.to_right in let z = on.to_bottom in
    record { from_left = omega (arith, ints); from_top = omega (arith, ints); to_right = omega (arith, ints); to_bottom = omega (arith, ints) }

-- a rectangle on a screen is on the largest
pub on_largest : (size : Sides) (r : Rect) → IsScreen size → IsWithin size r → IsWithin largest r
on_largest size r screen on =
    let w = screen.most_w in let h = screen.most_h in let a = on.from_left in let b = on.from_top in let c = on.to_right in let d = on.to_bottom in
    record { from_left = a; from_top = b; to_right = omega (arith, ints); to_bottom = omega (arith, ints) }
