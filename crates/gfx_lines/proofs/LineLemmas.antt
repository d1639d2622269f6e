-- The points of a line by their steps.
use Rattle.std.proofs.Common.{ℕ, ◌≡◌, ◌+◌, ◌*◌, ◌/◌, ◌%◌, ◌<◌, ◌≤◌, ℤ, ◌≤ℤ◌, Bool, true, false, ◌&&◌, refl, sym, ap, ◌∙◌, arith, ◌⊎◌, inl, inr}
use Rattle.std.proofs.lemmas.Int.{ints}
use Rattle.std.proofs.lemmas.Bool.{cases_lt, and_from, and_parts}
use Rattle.std.proofs.lemmas.Bool.Decides.{Decides-int_eq, nat_tests}
use Rattle.std.proofs.lemmas.Nat.{mul-le, div-mul-add}
use Rattle.std.specs.List.{list_any, range_with_len}
use Rattle.std.specs.Ordering.{int_eq}
use Rattle.qws_base.specs.declared.points.Point.{Point}
use Rattle.gfx_lines.specs.Lines.{apart, toward, aside, is_flat, is_steep, steps, line_point, same_point, on_line}
use Rattle.qws_base.proofs.Booleans.{and_comm, same_test}
use Rattle.gfx_lines.proofs.StepTests.{list_any_same, found, found_at}

-- ---- how far a line has gone

aside_is : (long short k gone error : ℕ) → gone * (2 * long) + error ≡ 2 * k * short + long → error < 2 * long → aside long short k ≡ gone
aside_is long short k gone error e b = ap (λ n. n / (2 * long)) (sym e) ∙ div-mul-add gone (2 * long) error b

pub aside_within : (long short k : ℕ) → 0 < long → k ≤ long → aside long short k ≤ short
aside_within long short k some h =
    let sum : aside long short k * (2 * long) + (2 * k * short + long) % (2 * long) ≡ 2 * k * short + long = omega arith in
    let rest : (2 * k * short + long) % (2 * long) < 2 * long = omega arith in
    by sum rest (cases_lt short (aside long short k)) where
      by : aside long short k * (2 * long) + (2 * k * short + long) % (2 * long) ≡ 2 * k * short + long → (2 * k * short + long) % (2 * long) < 2 * long → (short < aside long short k) ⊎ (aside long short k ≤ short) → aside long short k ≤ short
      by sum rest (inl g) = absurd (omega (arith, sum, rest, mul-le (2 * long) (short + 1) (2 * long) (aside long short k) (omega arith) (omega arith), mul-le k short long short h (omega arith)))
      by sum rest (inr g) = g

pub aside_none : (long short : ℕ) → 0 < long → aside long short 0 ≡ 0
aside_none long short some = aside_is long short 0 0 long (omega arith) (omega arith)

pub aside_all : (long short : ℕ) → 0 < long → aside long short long ≡ short
aside_all long short some = aside_is long short long short long (omega arith) (omega arith)

-- ---- steps from a coordinate toward another

pub toward_low : (low from to : ℤ) (k : ℕ) → k ≤ apart from to → low ≤ℤ from → low ≤ℤ to → low ≤ℤ toward from to k
toward_low low from to k h a b = grind (arith, ints)

pub toward_high : (high from to : ℤ) (k : ℕ) → k ≤ apart from to → from ≤ℤ high → to ≤ℤ high → toward from to k ≤ℤ high
toward_high high from to k h a b = grind (arith, ints)

pub toward_apart : (from to : ℤ) (k : ℕ) → k ≤ apart from to → apart from (toward from to k) ≡ k
toward_apart from to k h = grind (arith, ints)

-- a line by its coordinates along the longer side and across it
abbrev pub on_slope : ℤ → ℤ → ℤ → ℤ → ℤ → ℤ → Bool
on_slope a b a' b' at across = list_any (λ k. int_eq (toward a b k) at && int_eq (toward a' b' (aside (apart a b) (apart a' b') k)) across) (range_with_len 0 (apart a b + 1))

pub slope_at : (a b a' b' at across : ℤ) (k : ℕ) → k ≤ apart a b → toward a b k ≡ at
    → on_slope a b a' b' at across ≡ int_eq (toward a' b' (aside (apart a b) (apart a' b') k)) across
slope_at a b a' b' at across k h e = same_test _ _ there back where
  there : on_slope a b a' b' at across ≡ true → int_eq (toward a' b' (aside (apart a b) (apart a' b') k)) across ≡ true
  there t =
      let f = found (λ k. int_eq (toward a b k) at && int_eq (toward a' b' (aside (apart a b) (apart a' b') k)) across) (apart a b) t in
      let p = and_parts _ _ f.2 in
      let same : f.0 ≡ k = sym (toward_apart a b f.0 f.1) ∙ ap (apart a) ((Decides-int_eq _ _).0 p.0 ∙ sym e) ∙ toward_apart a b k h in
      ap (λ j. int_eq (toward a' b' (aside (apart a b) (apart a' b') j)) across) (sym same) ∙ p.1

  back : int_eq (toward a' b' (aside (apart a b) (apart a' b') k)) across ≡ true → on_slope a b a' b' at across ≡ true
  back t = found_at (λ k. int_eq (toward a b k) at && int_eq (toward a' b' (aside (apart a b) (apart a' b') k)) across) (apart a b) k h (and_from _ _ ((Decides-int_eq _ _).1 e) t)

-- ---- lines by their kind

pub steps_of_flat : (a b : Point) → is_flat a b ≡ true → steps a b ≡ apart a.x b.x
steps_of_flat a b h = grind (arith, nat_tests)

pub steps_of_steep : (a b : Point) → is_steep a b ≡ true → steps a b ≡ apart a.y b.y
steps_of_steep a b h = grind (arith, nat_tests)

not_flat : (a b : Point) → is_steep a b ≡ true → is_flat a b ≡ false
not_flat a b h = grind (arith, nat_tests)

pub flat_line : (a b p : Point) → is_flat a b ≡ true → on_line a b p ≡ on_slope a.x b.x a.y b.y p.x p.y
flat_line a b p h =
    ap (λ n. list_any (λ k. same_point (line_point a b k) p) (range_with_len 0 (n + 1))) (steps_of_flat a b h)
    ∙ list_any_same (λ k. same_point (line_point a b k) p) (λ k. int_eq (toward a.x b.x k) p.x && int_eq (toward a.y b.y (aside (apart a.x b.x) (apart a.y b.y) k)) p.y)
    (λ k. rw h refl) (range_with_len 0 (apart a.x b.x + 1))

steep_test : (a b p : Point) (k : ℕ) → is_steep a b ≡ true → same_point (line_point a b k) p ≡ (int_eq (toward a.y b.y k) p.y && int_eq (toward a.x b.x (aside (apart a.y b.y) (apart a.x b.x) k)) p.x)
steep_test a b p k h =
    let point : line_point a b k ≡ record { x = toward a.x b.x (aside (apart a.y b.y) (apart a.x b.x) k); y = toward a.y b.y k } = let f = not_flat a b h in rw (f, h) refl in
    ap (λ q. same_point q p) point ∙ and_comm (int_eq (toward a.x b.x (aside (apart a.y b.y) (apart a.x b.x) k)) p.x) (int_eq (toward a.y b.y k) p.y)

pub steep_line : (a b p : Point) → is_steep a b ≡ true → on_line a b p ≡ on_slope a.y b.y a.x b.x p.y p.x
steep_line a b p h =
    ap (λ n. list_any (λ k. same_point (line_point a b k) p) (range_with_len 0 (n + 1))) (steps_of_steep a b h)
    ∙ list_any_same (λ k. same_point (line_point a b k) p) (λ k. int_eq (toward a.y b.y k) p.y && int_eq (toward a.x b.x (aside (apart a.y b.y) (apart a.x b.x) k)) p.x)
    (λ k. steep_test a b p k h) (range_with_len 0 (apart a.y b.y + 1))

pub dot_point : (a b : Point) (k : ℕ) → is_flat a b ≡ false → is_steep a b ≡ false → line_point a b k ≡ a
dot_point a b k h g = rw (h, g) refl

pub dot_line : (a b p : Point) → is_flat a b ≡ false → is_steep a b ≡ false → on_line a b p ≡ same_point a p
dot_line a b p h g = same_test _ _
    (λ t. let f = found (λ k. same_point (line_point a b k) p) (steps a b) t in sym (ap (λ q. same_point q p) (dot_point a b f.0 h g)) ∙ f.2)
    (λ t. found_at (λ k. same_point (line_point a b k) p) (steps a b) 0 (omega arith) (ap (λ q. same_point q p) (dot_point a b 0 h g) ∙ t))
