-- Where an edge counts in a row.
use Rattle.std.proofs.Common.{ℕ, suc, ◌≡◌, ◌+◌, ◌-◌, ◌*◌, ◌/◌, ◌<◌, ◌≤◌, ℤ, pos, negsuc, ◌+ℤ◌, ◌-ℤ◌, ◌*ℤ◌, ◌≤ℤ◌, ◌<ℤ◌, int_le, int_lt, nat_le, Bool, true, false, ◌&&◌, cond, refl, sym, ap, ◌∙◌, arith, ◌⊎◌, inl, inr}
use Rattle.std.proofs.lemmas.Int.{ints}
use Rattle.std.proofs.lemmas.Bool.{cases_lt, and_parts}
use Rattle.std.proofs.lemmas.Nat.{div_below, le-div}
use Rattle.std.proofs.Math.IntN.{*ℤ_comm}
use borrow.Author.Tests.{leb-true}
use Rattle.qws_base.specs.declared.points.Point.{Point}
use Rattle.qws_base.proofs.Booleans.{same_test, never}
use Rattle.qws_base.proofs.Integers.{lt_test}
use Rattle.gfx_polygons.specs.Polygons.{doubled, centre, counts_down, counts}
use Rattle.gfx_polygons.specs.Crossings.{is_right, IsCrossing}
use Rattle.picture_rows.specs.Runs.{pixel}

pub leb_from : (a b : ℕ) → a ≤ b → nat_le a b ≡ true
leb_from a b h = grind arith

true_left : (a b : Bool) → a ≡ true → (a && b) ≡ b
true_left a b h = ap (λ v. v && b) h

-- ---- products of differences

above : (a b n : ℕ) → b ≤ a → (pos a -ℤ pos b) *ℤ pos n ≡ pos (a * n) -ℤ pos (b * n)
above a b n h =
    let e : pos a -ℤ pos b ≡ pos (a - b) = omega (arith, ints) in
    let split : a ≡ (a - b) + b = omega arith in
    let row : a * n ≡ (a - b) * n + b * n = ap (λ m. m * n) split ∙ omega arith in
    ap (λ z. z *ℤ pos n) e ∙ omega (arith, ints, row)

below : (a b n : ℕ) → a < b → (pos a -ℤ pos b) *ℤ pos n ≡ pos (a * n) -ℤ pos (b * n)
below a b n h =
    let e : pos a -ℤ pos b ≡ negsuc (b - a - 1) = omega (arith, ints) in
    let split : b ≡ suc (b - a - 1) + a = omega arith in
    let row : b * n ≡ suc (b - a - 1) * n + a * n = ap (λ m. m * n) split ∙ omega arith in
    ap (λ z. z *ℤ pos n) e ∙ omega (arith, ints, row)

times : (a b n : ℕ) → (pos a -ℤ pos b) *ℤ pos n ≡ pos (a * n) -ℤ pos (b * n)
times a b n = by (cases_lt a b) where
  by : (a < b) ⊎ (b ≤ a) → (pos a -ℤ pos b) *ℤ pos n ≡ pos (a * n) -ℤ pos (b * n)
  by (inl h) = below a b n h
  by (inr h) = above a b n h

same_order : (x y : ℤ) (m n s : ℕ) → x ≡ pos m -ℤ pos s → y ≡ pos n -ℤ pos s → int_le x y ≡ nat_le m n
same_order x y m n s e f = grind (arith, ints)

-- ---- an edge from its upper end to its lower one

-- columns are counted from any column on that is left of all three
right_test : (s : ℕ) (u l p : Point) (U L P d t : ℕ) → pos U ≡ u.x +ℤ pos s → pos L ≡ l.x +ℤ pos s → pos P ≡ p.x +ℤ pos s → pos d ≡ l.y -ℤ u.y → pos t ≡ centre p.y -ℤ doubled u.y
    → int_le (doubled u.x *ℤ (doubled l.y -ℤ doubled u.y) +ℤ (centre p.y -ℤ doubled u.y) *ℤ (doubled l.x -ℤ doubled u.x)) (centre p.x *ℤ (doubled l.y -ℤ doubled u.y)) ≡ is_right U L d t P
right_test s u l p U L P d t eu el ep ed et =
    let rows : doubled l.y -ℤ doubled u.y ≡ pos (2 * d) = omega (arith, ints) in
    let left : doubled u.x ≡ pos (2 * U) -ℤ pos (2 * s) = omega (arith, ints) in
    let across : doubled l.x -ℤ doubled u.x ≡ pos (2 * L) -ℤ pos (2 * U) = omega (arith, ints) in
    let middle : centre p.x ≡ pos (2 * P + 1) -ℤ pos (2 * s) = omega (arith, ints) in
    let first : doubled u.x *ℤ (doubled l.y -ℤ doubled u.y) ≡ pos (2 * U * (2 * d)) -ℤ pos (2 * s * (2 * d)) =
    ap (λ z. z *ℤ (doubled l.y -ℤ doubled u.y)) left ∙ ap (λ z. (pos (2 * U) -ℤ pos (2 * s)) *ℤ z) rows ∙ times (2 * U) (2 * s) (2 * d) in
    let second : (centre p.y -ℤ doubled u.y) *ℤ (doubled l.x -ℤ doubled u.x) ≡ pos (2 * L * t) -ℤ pos (2 * U * t) =
    *ℤ_comm (centre p.y -ℤ doubled u.y) (doubled l.x -ℤ doubled u.x)
    ∙ ap (λ z. (doubled l.x -ℤ doubled u.x) *ℤ z) (sym et) ∙ ap (λ z. z *ℤ pos t) across ∙ times (2 * L) (2 * U) t in
    let third : centre p.x *ℤ (doubled l.y -ℤ doubled u.y) ≡ pos ((2 * P + 1) * (2 * d)) -ℤ pos (2 * s * (2 * d)) =
    ap (λ z. z *ℤ (doubled l.y -ℤ doubled u.y)) middle ∙ ap (λ z. (pos (2 * P + 1) -ℤ pos (2 * s)) *ℤ z) rows ∙ times (2 * P + 1) (2 * s) (2 * d) in
    same_order _ _ (2 * U * (2 * d) + 2 * L * t) ((2 * P + 1) * (2 * d) + 2 * U * t) (2 * s * (2 * d) + 2 * U * t)
    (ap (λ z. z +ℤ (centre p.y -ℤ doubled u.y) *ℤ (doubled l.x -ℤ doubled u.x)) first ∙ ap (λ z. (pos (2 * U * (2 * d)) -ℤ pos (2 * s * (2 * d))) +ℤ z) second ∙ omega (arith, ints))
    (third ∙ omega (arith, ints))
    ∙ same_test _ _
    (λ h. leb_from _ _ (omega (arith, leb-true (2 * U * (2 * d) + 2 * L * t) ((2 * P + 1) * (2 * d) + 2 * U * t) h)))
    (λ h. leb_from _ _ (omega (arith, leb-true (2 * U * d + t * L) (2 * P * d + d + t * U) h)))

upper_test : (a b : ℤ) → a ≤ℤ b → int_le (doubled a) (centre b) ≡ true
upper_test a b h = grind (arith, ints)

lower_test : (a b : ℤ) → a <ℤ b → int_lt (centre a) (doubled b) ≡ true
lower_test a b h = grind (arith, ints)

le_back : (a b : ℤ) → int_le (doubled a) (centre b) ≡ true → a ≤ℤ b
le_back a b h = grind (arith, ints)

lt_back : (a b : ℤ) → int_lt (centre a) (doubled b) ≡ true → a <ℤ b
lt_back a b h = grind (arith, ints)

pub down_test : (s : ℕ) (u l p : Point) (U L P d t : ℕ) → u.y ≤ℤ p.y → p.y <ℤ l.y → pos U ≡ u.x +ℤ pos s → pos L ≡ l.x +ℤ pos s → pos P ≡ p.x +ℤ pos s → pos d ≡ l.y -ℤ u.y
    → pos t ≡ centre p.y -ℤ doubled u.y → counts_down u l p ≡ is_right U L d t P
down_test s u l p U L P d t a b eu el ep ed et =
    true_left _ _ (upper_test u.y p.y a) ∙ true_left _ _ (lower_test p.y l.y b) ∙ right_test s u l p U L P d t eu el ep ed et

pub counts_first : (a b p : Point) → a.y <ℤ b.y → counts a b p ≡ counts_down a b p
counts_first a b p h = ap (λ t. cond t (counts_down a b p) (cond (int_lt b.y a.y) (counts_down b a p) false)) (lt_test a.y b.y h)

both_less : (x y : ℤ) → int_lt x y ≡ true → int_lt y x ≡ true → ⊥
both_less x y e f = grind (arith, ints)

-- the direction of an edge is of no account
pub counts_turned : (a b p : Point) → counts a b p ≡ counts b a p
counts_turned a b p = by (int_lt a.y b.y) (int_lt b.y a.y) refl refl where
  by : (s t : Bool) → int_lt a.y b.y ≡ s → int_lt b.y a.y ≡ t → cond s (counts_down a b p) (cond t (counts_down b a p) false) ≡ cond t (counts_down b a p) (cond s (counts_down a b p) false)
  by true true e f = absurd (both_less a.y b.y e f)
  by true false e f = refl
  by false true e f = refl
  by false false e f = refl

pub down_rows : (u l p : Point) → counts_down u l p ≡ true → (u.y ≤ℤ p.y) × (p.y <ℤ l.y)
down_rows u l p h =
    let first = and_parts (int_le (doubled u.y) (centre p.y)) _ h in
    let second = and_parts (int_lt (centre p.y) (doubled l.y)) _ first.1 in
    (le_back u.y p.y first.0, lt_back p.y l.y second.0)

spans_test : (a b y : ℤ) → a ≤ℤ y → y <ℤ b → (int_le a y && int_lt y b) ≡ true
spans_test a b y h g = grind (arith, ints)

-- ---- the place from which on it counts

pub crossing_down : (a b : Point) (y x : ℤ) (n place U L X d t : ℕ) → a.y ≤ℤ y → y <ℤ b.y → pos U ≡ a.x +ℤ pos 8192 → pos L ≡ b.x +ℤ pos 8192 → pos X ≡ x +ℤ pos 8192 → pos d ≡ b.y -ℤ a.y
    → pos t ≡ y -ℤ a.y → ((k : ℕ) → is_right U L d (2 * t + 1) (X + k) ≡ nat_le place k) → IsCrossing a b y x n place
crossing_down a b y x n place U L X d t lo hi eu el ex ed et h = record {
  at = λ k below. counts_first a b (pixel y x k) (omega (arith, ints))
      ∙ down_test 8192 a b (pixel y x k) U L (X + k) d (2 * t + 1) lo hi eu el (omega (arith, ints)) ed (omega (arith, ints)) ∙ h k;
}

pub crossing_turned : (a b : Point) (y x : ℤ) (n place : ℕ) → IsCrossing b a y x n place → IsCrossing a b y x n place
crossing_turned a b y x n place c = record { at = λ k below. counts_turned a b (pixel y x k) ∙ c.at k below }

pub crossing_none : (a b : Point) (y x : ℤ) (n : ℕ) → (int_le a.y y && int_lt y b.y) ≡ false → (int_le b.y y && int_lt y a.y) ≡ false → IsCrossing a b y x n n
crossing_none a b y x n e f = record { at = λ k below. no_count (pixel y x k) refl ∙ sym (behind k below) } where
  behind : (k : ℕ) → k < n → nat_le n k ≡ false
  behind k below = grind arith

  no_down : (u l p : Point) → p.y ≡ y → (int_le u.y y && int_lt y l.y) ≡ false → counts_down u l p ≡ false
  no_down u l p same g = never _ (λ t.
      let r = down_rows u l p t in
      let clash : true ≡ false = sym (spans_test u.y l.y y (omega (arith, ints, r.0)) (omega (arith, ints, r.1))) ∙ g in
      cc)

  no_count : (p : Point) → p.y ≡ y → counts a b p ≡ false
  no_count p same = by (int_lt a.y b.y) (int_lt b.y a.y) where
    by : (s t : Bool) → cond s (counts_down a b p) (cond t (counts_down b a p) false) ≡ false
    by true t = no_down a b p same e
    by false true = no_down b a p same f
    by false false = refl

-- the least factor that brings a product up to a number
ceiling : (m w k : ℕ) → 0 < w → nat_le m (k * w) ≡ nat_le ((m + w - 1) / w) k
ceiling m w k some = same_test _ _
    (λ h. leb_from _ _ (omega (arith, div_below (m + w - 1) w (k + 1) some (omega (arith, leb-true m (k * w) h)))))
    (λ h. leb_from _ _ (by (cases_lt (k * w) m) (leb-true ((m + w - 1) / w) k h))) where
      by : (k * w < m) ⊎ (m ≤ k * w) → (m + w - 1) / w ≤ k → m ≤ k * w
      by (inl f) g = absurd (omega (arith, le-div (k + 1) (m + w - 1) w some (omega arith)))
      by (inr f) g = f

pub none_before : (u l x d t k : ℕ) → 2 * u * d + t * l ≤ 2 * x * d + d + t * u → is_right u l d t (x + k) ≡ nat_le 0 k
none_before u l x d t k h = leb_from (2 * u * d + t * l) (2 * (x + k) * d + d + t * u) (omega arith) ∙ sym (leb_from 0 k (omega arith))

pub some_before : (u l x d t k : ℕ) → 0 < d → 2 * x * d + d + t * u < 2 * u * d + t * l
    → is_right u l d t (x + k) ≡ nat_le ((2 * u * d + t * l - (2 * x * d + d + t * u) + 2 * d - 1) / (2 * d)) k
some_before u l x d t k some h =
    let m : ℕ = 2 * u * d + t * l - (2 * x * d + d + t * u) in
    same_test (nat_le (2 * u * d + t * l) (2 * (x + k) * d + d + t * u)) (nat_le m (k * (2 * d)))
    (λ f. leb_from m (k * (2 * d)) (omega (arith, leb-true (2 * u * d + t * l) (2 * (x + k) * d + d + t * u) f)))
    (λ f. leb_from (2 * u * d + t * l) (2 * (x + k) * d + d + t * u) (omega (arith, leb-true m (k * (2 * d)) f)))
    ∙ ceiling m (2 * d) k (omega arith)
