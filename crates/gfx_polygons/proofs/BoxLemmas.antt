-- No point outside the rectangle between the outermost vertices is inside.
use Rattle.std.proofs.Common.{ℕ, suc, ◌≡◌, ◌+◌, ◌-◌, ◌*◌, ◌<◌, ◌≤◌, ℤ, pos, ◌+ℤ◌, ◌-ℤ◌, ◌≤ℤ◌, ◌<ℤ◌, int_le, int_lt, nat_abs, Bool, true, false, cond, List, [], ◌∷◌, length, slice_index_or, refl, sym, ap, ◌∙◌, arith, ◌⊎◌, inl, inr}
use Rattle.std.proofs.lemmas.Int.{ints}
use Rattle.std.proofs.Math.Nat.{mul-le-mul_right}
use Rattle.std.proofs.lemmas.List.Elements.{All-cons, All-head, All-tail}
use Rattle.std.specs.List.{All}
use borrow.Author.Tests.{leb-true}
use Rattle.qws_base.specs.declared.points.Point.{Point}
use Rattle.qws_base.specs.declared.bounds.Bounds.{Bounds}
use Rattle.qws_base.specs.Points.{holds}
use Rattle.qws_base.specs.Bounds.{bounds_of}
use Rattle.qws_base.proofs.BoundsLemmas.{Holds, bounds_first, bounds_rest}
use Rattle.qws_base.proofs.Booleans.{never}
use Rattle.qws_base.proofs.Integers.{le_told, not_le_told, lt_told, not_lt_told}
use Rattle.picture_rows.specs.Boxes.{half_open_rect}
use Rattle.picture_rows.proofs.ReachLemmas.{in_half_open}
use Rattle.gfx_polygons.specs.Polygons.{centre, doubled, counts_down, counts, edges_from, ring, is_inside}
use Rattle.gfx_polygons.specs.Crossings.{is_right}
use Rattle.gfx_polygons.proofs.EdgeLemmas.{leb_from, down_rows, down_test}
use Rattle.gfx_polygons.proofs.LawLemmas.{flip, odd, inside_is}

-- ---- a point that is left or right of both ends of an edge

left_sum : (u l d s t p : ℕ) → p < u → p < l → s + t ≡ 2 * d → 0 < d → 2 * p * d + d + t * u < 2 * u * d + t * l
left_sum u l d s t p a b e some =
    let first : suc p * s ≤ u * s = mul-le-mul_right s a in
    let second : suc p * t ≤ l * t = mul-le-mul_right t b in
    let low : suc p * (2 * d) ≡ suc p * s + suc p * t = ap (λ n. suc p * n) (sym e) ∙ omega arith in
    let high : u * (2 * d) ≡ u * s + u * t = ap (λ n. u * n) (sym e) ∙ omega arith in
    omega (arith, first, second, low, high)

right_sum : (u l d s t p : ℕ) → u ≤ p → l ≤ p → s + t ≡ 2 * d → 2 * u * d + t * l ≤ 2 * p * d + d + t * u
right_sum u l d s t p a b e =
    let first : u * s ≤ p * s = mul-le-mul_right s a in
    let second : l * t ≤ p * t = mul-le-mul_right t b in
    let low : p * (2 * d) ≡ p * s + p * t = ap (λ n. p * n) (sym e) ∙ omega arith in
    let high : u * (2 * d) ≡ u * s + u * t = ap (λ n. u * n) (sym e) ∙ omega arith in
    omega (arith, first, second, low, high)

left_test : (u l d s t p : ℕ) → p < u → p < l → s + t ≡ 2 * d → 0 < d → is_right u l d t p ≡ false
left_test u l d s t p a b e some = never (is_right u l d t p) (λ h.
    let over : 2 * u * d + t * l ≤ 2 * p * d + d + t * u = leb-true (2 * u * d + t * l) (2 * p * d + d + t * u) h in
    absurd (omega (arith, left_sum u l d s t p a b e some, over)))

from_left : (z : ℤ) (s : ℕ) → nat_abs z ≤ s → pos (nat_abs (z +ℤ pos s)) ≡ z +ℤ pos s
from_left z s h = omega (arith, ints)

-- columns from the left of all three on
abbrev off : (u l p : Point) → ℕ
off u l p = nat_abs u.x + nat_abs l.x + nat_abs p.x

-- an edge that reaches over the point's row, with columns that are never negative
record Beside (u l p : Point) : Type 0 where
  pub d : ℕ
  pub s : ℕ
  pub t : ℕ
  pub some : 0 < d
  pub parts : s + t ≡ 2 * d
  pub test : counts_down u l p ≡ is_right (nat_abs (u.x +ℤ pos (off u l p))) (nat_abs (l.x +ℤ pos (off u l p))) d t (nat_abs (p.x +ℤ pos (off u l p)))

beside : (u l p : Point) → u.y ≤ℤ p.y → p.y <ℤ l.y → Beside u l p
beside u l p a b =
    let d : ℕ = nat_abs (l.y -ℤ u.y) in
    let t : ℕ = 2 * nat_abs (p.y -ℤ u.y) + 1 in
    let ed : pos d ≡ l.y -ℤ u.y = omega (arith, ints) in
    let et : pos t ≡ centre p.y -ℤ doubled u.y = omega (arith, ints) in
    record {
      d = d;
      s = 2 * d - t;
      t = t;
      some = omega (arith, ints);
      parts = omega (arith, ints);
      test = down_test (off u l p) u l p _ _ _ d t a b (from_left u.x (off u l p) (omega arith)) (from_left l.x (off u l p) (omega arith)) (from_left p.x (off u l p) (omega arith)) ed et;
    }

left_down : (u l p : Point) → p.x <ℤ u.x → p.x <ℤ l.x → counts_down u l p ≡ false
left_down u l p a b = never (counts_down u l p) (λ h.
    let r = down_rows u l p h in
    let e = beside u l p r.0 r.1 in
    let x = from_left u.x (off u l p) (omega arith) in
    let y = from_left l.x (off u l p) (omega arith) in
    let z = from_left p.x (off u l p) (omega arith) in
    e.test ∙ left_test _ _ e.d e.s e.t _ (omega (arith, ints, x, y, z)) (omega (arith, ints, x, y, z)) e.parts e.some)

right_down : (u l p : Point) → u.x ≤ℤ p.x → l.x ≤ℤ p.x → u.y ≤ℤ p.y → p.y <ℤ l.y → counts_down u l p ≡ true
right_down u l p a b c d =
    let e = beside u l p c d in
    let x = from_left u.x (off u l p) (omega arith) in
    let y = from_left l.x (off u l p) (omega arith) in
    let z = from_left p.x (off u l p) (omega arith) in
    e.test ∙ leb_from _ _ (right_sum _ _ e.d e.s e.t _ (omega (arith, ints, x, y, z)) (omega (arith, ints, x, y, z)) e.parts)

-- ---- beyond the outermost rows, and left of the outermost column, no edge counts

record IsBefore (b : Bounds) (p : Point) : Type 0 where
  pub is : (p.y <ℤ b.top) ⊎ ((b.bottom ≤ℤ p.y) ⊎ (p.x <ℤ b.left))

none_down : (b : Bounds) (u l p : Point) → IsBefore b p → Holds b u → Holds b l → counts_down u l p ≡ false
none_down b u l p o hu hl = by o.is where
  by : (p.y <ℤ b.top) ⊎ ((b.bottom ≤ℤ p.y) ⊎ (p.x <ℤ b.left)) → counts_down u l p ≡ false
  by (inl h) = never (counts_down u l p) (λ t. absurd (omega (arith, ints, h, hu.top, (down_rows u l p t).0)))
  by (inr (inl h)) = never (counts_down u l p) (λ t. absurd (omega (arith, ints, h, hl.bottom, (down_rows u l p t).1)))
  by (inr (inr h)) = left_down u l p (omega (arith, ints, h, hu.left)) (omega (arith, ints, h, hl.left))

none_edge : (b : Bounds) (u l p : Point) → IsBefore b p → Holds b u → Holds b l → counts u l p ≡ false
none_edge b u l p o hu hl = by (int_lt u.y l.y) (int_lt l.y u.y) where
  by : (s t : Bool) → cond s (counts_down u l p) (cond t (counts_down l u p) false) ≡ false
  by true t = none_down b u l p o hu hl
  by false true = none_down b l u p o hl hu
  by false false = refl

none_from : (b : Bounds) (a : Point) (rest : List Point) (p : Point) → IsBefore b p → Holds b a → All (Holds b) rest → odd (λ e. counts e.0 e.1 p) (edges_from a rest) ≡ false
none_from b a [] p o ha hs = refl
none_from b a (c ∷ rest) p o ha hs =
    let hc = All-head (Holds b) c rest hs in
    ap (λ v. flip v (odd (λ e. counts e.0 e.1 p) (edges_from c rest))) (none_edge b a c p o ha hc)
    ∙ none_from b c rest p o hc (All-tail (Holds b) c rest hs)

-- ---- right of the outermost column each edge over the row counts, and a ring has an even number of them

abbrev is_above : Point → Point → Bool
is_above p q = int_le q.y p.y

no_order : (a b y : ℤ) → int_lt a b ≡ false → int_lt b a ≡ false → int_le a y ≡ int_le b y
no_order a b y e f = grind (arith, ints)

turned : (a b : Bool) → flip a b ≡ flip b a
turned true true = refl
turned true false = refl
turned false true = refl
turned false false = refl

none_twice : (a : Bool) → false ≡ flip a a
none_twice true = refl
none_twice false = refl

chain : (a b c : Bool) → flip (flip a b) (flip b c) ≡ flip a c
chain true true true = refl
chain true true false = refl
chain true false c = refl
chain false true true = refl
chain false true false = refl
chain false false c = refl

edge_over : (u l p : Point) → u.x ≤ℤ p.x → l.x ≤ℤ p.x → u.y <ℤ l.y → counts_down u l p ≡ flip (is_above p u) (is_above p l)
edge_over u l p a b c = by (is_above p u) (is_above p l) refl refl where
  by : (s t : Bool) → is_above p u ≡ s → is_above p l ≡ t → counts_down u l p ≡ flip s t
  by true true e f = never _ (λ h. absurd (omega (arith, ints, (down_rows u l p h).1, le_told l.y p.y f)))
  by true false e f = right_down u l p a b (le_told u.y p.y e) (not_le_told l.y p.y f)
  by false true e f = absurd (omega (arith, ints, c, le_told l.y p.y f, not_le_told u.y p.y e))
  by false false e f = never _ (λ h. absurd (omega (arith, ints, (down_rows u l p h).0, not_le_told u.y p.y e)))

edge_any : (u l p : Point) → u.x ≤ℤ p.x → l.x ≤ℤ p.x → counts u l p ≡ flip (is_above p u) (is_above p l)
edge_any u l p a b = by (int_lt u.y l.y) (int_lt l.y u.y) refl refl where
  by : (s t : Bool) → int_lt u.y l.y ≡ s → int_lt l.y u.y ≡ t → cond s (counts_down u l p) (cond t (counts_down l u p) false) ≡ flip (is_above p u) (is_above p l)
  by true t e f = edge_over u l p a b (lt_told u.y l.y e)
  by false true e f = edge_over l u p b a (lt_told l.y u.y f) ∙ turned (is_above p l) (is_above p u)
  by false false e f = none_twice (is_above p u) ∙ ap (flip (is_above p u)) (no_order u.y l.y p.y e f)

-- the last of a point and some more
abbrev last : Point → List Point → Point
last a rest = slice_index_or (a ∷ rest) (length rest) a

same_last : (a b : Point) (rest : List Point) (d : Point) → slice_index_or (a ∷ rest) (length rest) d ≡ slice_index_or (a ∷ rest) (length rest) b
same_last a b [] d = refl
same_last a b (c ∷ rest) d = same_last c b rest d

last_holds : (b : Bounds) (a : Point) (rest : List Point) (d : Point) → Holds b a → All (Holds b) rest → Holds b (slice_index_or (a ∷ rest) (length rest) d)
last_holds b a [] d h hs = h
last_holds b a (c ∷ rest) d h hs = last_holds b c rest d (All-head (Holds b) c rest hs) (All-tail (Holds b) c rest hs)

chain_from : (b : Bounds) (a : Point) (rest : List Point) (d p : Point) → b.right ≤ℤ p.x → Holds b a → All (Holds b) rest
    → odd (λ e. counts e.0 e.1 p) (edges_from a rest) ≡ flip (is_above p a) (is_above p (slice_index_or (a ∷ rest) (length rest) d))
chain_from b a [] d p o ha hs = none_twice (is_above p a)
chain_from b a (c ∷ rest) d p o ha hs =
    let hc = All-head (Holds b) c rest hs in
    let first = edge_any a c p (omega (arith, ints, o, ha.right)) (omega (arith, ints, o, hc.right)) in
    ap (λ v. flip v (odd (λ e. counts e.0 e.1 p) (edges_from c rest))) first
    ∙ ap (flip (flip (is_above p a) (is_above p c))) (chain_from b c rest d p o hc (All-tail (Holds b) c rest hs))
    ∙ chain (is_above p a) (is_above p c) (is_above p (slice_index_or (c ∷ rest) (length rest) d))

none_after : (a : Point) (rest : List Point) (p : Point) → (bounds_of a rest).right ≤ℤ p.x → odd (λ e. counts e.0 e.1 p) (ring (a ∷ rest)) ≡ false
none_after a rest p o =
    let b = bounds_of a rest in
    let l = last a rest in
    let ha = bounds_first a rest in
    let hs = bounds_rest a rest in
    let hl = last_holds b a rest a ha hs in
    let first = edge_any l a p (omega (arith, ints, o, hl.right)) (omega (arith, ints, o, ha.right)) in
    ap (λ v. flip v (odd (λ e. counts e.0 e.1 p) (edges_from a rest))) first
    ∙ ap (flip (flip (is_above p l) (is_above p a))) (chain_from b a rest a p o ha hs)
    ∙ chain (is_above p l) (is_above p a) (is_above p l)
    ∙ sym (none_twice (is_above p l))

-- ---- so a point inside lies within

none_beyond : (a : Point) (rest : List Point) (p : Point) → IsBefore (bounds_of a rest) p ⊎ ((bounds_of a rest).right ≤ℤ p.x) → is_inside (a ∷ rest) p ≡ false
none_beyond a rest p (inl o) = inside_is (a ∷ rest) p ∙ none_from (bounds_of a rest) (last a rest) (a ∷ rest) p o
    (last_holds (bounds_of a rest) a rest a (bounds_first a rest) (bounds_rest a rest))
    (All-cons (Holds (bounds_of a rest)) a rest (bounds_first a rest) (bounds_rest a rest))
none_beyond a rest p (inr o) = inside_is (a ∷ rest) p ∙ none_after a rest p o

where_is : (b : Bounds) (p : Point) → (holds (half_open_rect b) p ≡ true) ⊎ (IsBefore b p ⊎ (b.right ≤ℤ p.x))
where_is b p = rows (int_le b.top p.y) (int_lt p.y b.bottom) (int_le b.left p.x) (int_lt p.x b.right) refl refl refl refl where
  rows : (t d l r : Bool) → int_le b.top p.y ≡ t → int_lt p.y b.bottom ≡ d → int_le b.left p.x ≡ l → int_lt p.x b.right ≡ r → (holds (half_open_rect b) p ≡ true) ⊎ (IsBefore b p ⊎ (b.right ≤ℤ p.x))
  rows false d l r e f g h = inr (inl (record { is = inl (not_le_told b.top p.y e) }))
  rows true false l r e f g h = inr (inl (record { is = inr (inl (not_lt_told p.y b.bottom f)) }))
  rows true true false r e f g h = inr (inl (record { is = inr (inr (not_le_told b.left p.x g)) }))
  rows true true true false e f g h = inr (inr (not_lt_told p.x b.right h))
  rows true true true true e f g h = inl (in_half_open b p (le_told b.left p.x g) (lt_told p.x b.right h) (le_told b.top p.y e) (lt_told p.y b.bottom f))

pub inside_within : (a : Point) (rest : List Point) (p : Point) → is_inside (a ∷ rest) p ≡ true → holds (half_open_rect (bounds_of a rest)) p ≡ true
inside_within a rest p t = by (where_is (bounds_of a rest) p) where
  by : (holds (half_open_rect (bounds_of a rest)) p ≡ true) ⊎ (IsBefore (bounds_of a rest) p ⊎ ((bounds_of a rest).right ≤ℤ p.x)) → holds (half_open_rect (bounds_of a rest)) p ≡ true
  by (inl h) = h
  by (inr o) =
      let clash : true ≡ false = sym t ∙ none_beyond a rest p o in
      cc
