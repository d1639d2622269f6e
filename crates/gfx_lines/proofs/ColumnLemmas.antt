-- The columns of a row that a line has, and rows of lines.
use Rattle.std.proofs.Common.{ℕ, zero, suc, ◌≡◌, ◌+◌, ◌-◌, ◌<◌, ◌≤◌, ℤ, pos, ◌+ℤ◌, ◌-ℤ◌, ◌≤ℤ◌, ◌<ℤ◌, nat_abs, Bool, true, false, ◌&&◌, ◌||◌, cond, List, [], ◌∷◌, length, take, get_or, refl, sym, ap, ◌∙◌, arith, ◌⊎◌, inl, inr}
use Rattle.std.proofs.lemmas.Int.{ints, clamps}
use Rattle.std.proofs.lemmas.Bool.{and_parts}
use Rattle.std.proofs.lemmas.Bool.Decides.{Decides-int_eq, nat_tests}
use Rattle.std.proofs.lemmas.List.{get_or_default}
use Rattle.std.proofs.lemmas.List.Elements.{All-head}
use Rattle.std.specs.Int.{int_max, int_min}
use Rattle.std.specs.Ordering.{int_eq}
use Rattle.qws_base.specs.declared.points.Point.{Point}
use Rattle.qws_base.specs.declared.inks.Ink.{Ink}
use Rattle.qws_base.specs.declared.inks.Ink.TheVariants.{Skip}
use Rattle.qws_base.specs.Points.{spans}
use Rattle.qws_base.specs.Bounds.{bounds_of}
use Rattle.qws_base.proofs.Booleans.{same_test, never, and_true, or_false, or_assoc}
use Rattle.qws_base.proofs.BoundsLemmas.{Holds, bounds_first, bounds_rest}
use Rattle.qws_base.proofs.Integers.{eq_test, eq_told, spans_low, spans_high, spans_from}
use Rattle.picture_rows.specs.Runs.{pixel, in_run, IsRun, IsInked}
use Rattle.picture_rows.proofs.RunLemmas.{run_as}
use Rattle.picture_rows.proofs.RowLemmas.{inked_as}
use Rattle.gfx_lines.specs.Lines.{apart, toward, aside, is_flat, is_steep, on_line}
use Rattle.gfx_lines.specs.Strokes.{on_lines_from, on_polyline}
use Rattle.gfx_lines.specs.Columns.{AreStepsGone, AreStepColumns, AreColumns}
use Rattle.gfx_lines.proofs.StepTests.{found}
use Rattle.gfx_lines.proofs.LineLemmas.{aside_within, toward_apart, flat_line, steep_line, dot_line, slope_at}
use Rattle.gfx_lines.proofs.StepLemmas.{apart_under}
use Rattle.gfx_lines.proofs.ReachLemmas.{line_within}

-- ---- the columns of steps

pub columns_up : (from to : ℤ) (first end : ℕ) (low : ℤ) (count : ℕ) → from ≤ℤ to → first ≤ end → low ≡ from +ℤ pos first → count ≡ end - first → AreStepColumns from to first end low count
columns_up from to first end low count h o e d = record {
  inside = λ k a b. let t = toward_up from to k h in rw t (spans_from low (from +ℤ pos k) count (omega (arith, ints)) (omega (arith, ints)));
  only = λ x t.
      let l = spans_low low x count t in
      let m = spans_high low x count t in
      (nat_abs (x -ℤ from), omega (arith, ints), omega (arith, ints), toward_up from to (nat_abs (x -ℤ from)) h ∙ omega (arith, ints));
} where
  toward_up : (from to : ℤ) (k : ℕ) → from ≤ℤ to → toward from to k ≡ from +ℤ pos k
  toward_up from to k h = grind (arith, ints)

pub columns_down : (from to : ℤ) (first end : ℕ) (low : ℤ) (count : ℕ) → to <ℤ from → first ≤ end → low ≡ (from +ℤ pos 1) -ℤ pos end → count ≡ end - first → AreStepColumns from to first end low count
columns_down from to first end low count h o e d = record {
  inside = λ k a b. let t = toward_down from to k h in rw t (spans_from low (from -ℤ pos k) count (omega (arith, ints)) (omega (arith, ints)));
  only = λ x t.
      let l = spans_low low x count t in
      let m = spans_high low x count t in
      (nat_abs (from -ℤ x), omega (arith, ints), omega (arith, ints), toward_down from to (nat_abs (from -ℤ x)) h ∙ omega (arith, ints));
} where
  toward_down : (from to : ℤ) (k : ℕ) → to <ℤ from → toward from to k ≡ from -ℤ pos k
  toward_down from to k h = grind (arith, ints)

-- one column
spans_one : (low x : ℤ) → spans low 1 x ≡ int_eq low x
spans_one low x = same_test _ _
    (λ t. eq_test low x (omega (arith, ints, spans_low low x 1 t, spans_high low x 1 t)))
    (λ t. spans_from low x 1 (omega (arith, ints, eq_told low x t)) (omega (arith, ints, eq_told low x t)))

-- ---- the three kinds of lines

pub flat_from : (a b : Point) → 0 < apart a.x b.x → apart a.y b.y ≤ apart a.x b.x → is_flat a b ≡ true
flat_from a b h g = grind (arith, nat_tests)

steep_from : (a b : Point) → apart a.x b.x < apart a.y b.y → is_steep a b ≡ true
steep_from a b h = grind (arith, nat_tests)

dot_from : (a b : Point) → apart a.x b.x ≤ 0 → apart a.y b.y ≤ apart a.x b.x → (is_flat a b ≡ false) × (is_steep a b ≡ false)
dot_from a b h g = (grind (arith, nat_tests), grind (arith, nat_tests))

flat_found : (a b p : Point) → is_flat a b ≡ true → on_line a b p ≡ true → (apart a.x p.x ≤ apart a.x b.x) × (toward a.x b.x (apart a.x p.x) ≡ p.x)
flat_found a b p h t =
    let f = found (λ k. int_eq (toward a.x b.x k) p.x && int_eq (toward a.y b.y (aside (apart a.x b.x) (apart a.y b.y) k)) p.y) (apart a.x b.x) (sym (flat_line a b p h) ∙ t) in
    let e : toward a.x b.x f.0 ≡ p.x = (Decides-int_eq _ _).0 (and_parts _ _ f.2).0 in
    let n : apart a.x p.x ≡ f.0 = ap (apart a.x) (sym e) ∙ toward_apart a.x b.x f.0 f.1 in
    (omega (arith, f.1), ap (toward a.x b.x) n ∙ e)

-- where a flat line is in the row at a place
in_row : (a b p : Point) → is_flat a b ≡ true → on_line a b p ≡ true → toward a.y b.y (aside (apart a.x b.x) (apart a.y b.y) (apart a.x p.x)) ≡ p.y
in_row a b p h t =
    let f = flat_found a b p h t in
    (Decides-int_eq _ _).0 (sym (slope_at a.x b.x a.y b.y p.x p.y (apart a.x p.x) f.0 f.1) ∙ sym (flat_line a b p h) ∙ t)

toward_back : (from to at : ℤ) → int_min from to ≤ℤ at → at ≤ℤ int_max from to → toward from to (apart from at) ≡ at
toward_back from to at l m = grind (arith, ints, clamps)

-- a row above the line or below it has none of it
pub columns_none : (a b : Point) (y : ℤ) → (y <ℤ int_min a.y b.y) ⊎ (int_max a.y b.y <ℤ y) → AreColumns a b y (pos 0) 0
columns_none a b y off = record {
  at = λ x. never _ (λ t.
      let r = bounds_of a (b ∷ []) in
      let h = line_within r a b (record { x = x; y = y }) (bounds_first a (b ∷ [])) (All-head (Holds r) b [] (bounds_rest a (b ∷ []))) t in
      absurd (outside off h.top h.bottom)) ∙ sym (nothing x);
} where
  outside : (y <ℤ int_min a.y b.y) ⊎ (int_max a.y b.y <ℤ y) → int_min a.y b.y ≤ℤ y → y ≤ℤ int_max a.y b.y → ⊥
  outside (inl l) u v = omega (arith, ints)
  outside (inr l) u v = omega (arith, ints)

  nothing : (x : ℤ) → spans (pos 0) 0 x ≡ false
  nothing x = grind (arith, ints)

pub columns_flat : (a b : Point) (y low : ℤ) (count long short gone first end : ℕ) → 0 < apart a.x b.x → apart a.y b.y ≤ apart a.x b.x → int_min a.y b.y ≤ℤ y → y ≤ℤ int_max a.y b.y
    → long ≡ apart a.x b.x → short ≡ apart a.y b.y → gone ≡ apart a.y y → AreStepsGone long short gone first end → AreStepColumns a.x b.x first end low count → AreColumns a b y low count
columns_flat a b y low count long short gone first end some flat l m e f g s c = record { at = λ x. same_test _ _ (there x) (back x) } where
  h : is_flat a b ≡ true
  h = flat_from a b some flat

  same : (k : ℕ) → aside long short k ≡ aside (apart a.x b.x) (apart a.y b.y) k
  same k = ap (λ u. aside u short k) e ∙ ap (λ u. aside (apart a.x b.x) u k) f

  there : (x : ℤ) → on_line a b (record { x = x; y = y }) ≡ true → spans low count x ≡ true
  there x t =
      let q = flat_found a b (record { x = x; y = y }) h t in
      let away : aside long short (apart a.x x) ≡ gone =
      same (apart a.x x) ∙ sym (toward_apart a.y b.y (aside (apart a.x b.x) (apart a.y b.y) (apart a.x x)) (aside_within (apart a.x b.x) (apart a.y b.y) (apart a.x x) some q.0))
      ∙ ap (apart a.y) (in_row a b (record { x = x; y = y }) h t) ∙ sym g in
      let w = s.all (apart a.x x) (omega (arith, q.0)) away in
      ap (spans low count) (sym q.1) ∙ c.inside (apart a.x x) w.0 w.1

  back : (x : ℤ) → spans low count x ≡ true → on_line a b (record { x = x; y = y }) ≡ true
  back x t =
      let k = c.only x t in
      flat_line a b (record { x = x; y = y }) h
      ∙ slope_at a.x b.x a.y b.y x y k.0 (omega (arith, k.2, s.within)) k.3
      ∙ eq_test _ y (ap (toward a.y b.y) (sym (same k.0) ∙ s.inside k.0 k.1 k.2 ∙ g) ∙ toward_back a.y b.y y l m)

pub columns_steep : (a b : Point) (y column : ℤ) (long short k gone : ℕ) → apart a.x b.x < apart a.y b.y → int_min a.y b.y ≤ℤ y → y ≤ℤ int_max a.y b.y
    → long ≡ apart a.y b.y → short ≡ apart a.x b.x → k ≡ apart a.y y → gone ≡ aside long short k → column ≡ toward a.x b.x gone → AreColumns a b y column 1
columns_steep a b y column long short k gone longer l m e f d g c = record {
  at = λ x.
      steep_line a b (record { x = x; y = y }) (steep_from a b longer)
      ∙ slope_at a.y b.y a.x b.x y x (apart a.y y) (apart_under a.y b.y y l m) (toward_back a.y b.y y l m)
      ∙ ap (λ n. int_eq (toward a.x b.x n) x) (sym (g ∙ ap (λ u. aside u short k) e ∙ ap (λ u. aside (apart a.y b.y) u k) f ∙ ap (aside (apart a.y b.y) (apart a.x b.x)) d))
      ∙ ap (λ z. int_eq z x) (sym c)
      ∙ sym (spans_one column x);
}

pub columns_dot : (a b : Point) (y : ℤ) → apart a.x b.x ≤ 0 → apart a.y b.y ≤ apart a.x b.x → int_min a.y b.y ≤ℤ y → y ≤ℤ int_max a.y b.y → AreColumns a b y a.x 1
columns_dot a b y wide tall l m = record {
  at = λ x.
      let d = dot_from a b wide tall in
      dot_line a b (record { x = x; y = y }) d.0 d.1
      ∙ ap (λ t. int_eq a.x x && t) (eq_test a.y y (omega (arith, ints, clamps)))
      ∙ and_true (int_eq a.x x)
      ∙ sym (spans_one a.x x);
}

-- ---- rows

-- the places of a line
pub line_run : (a b : Point) (y x low : ℤ) (count n first end : ℕ) → AreColumns a b y low count → IsRun (λ k. spans low count (x +ℤ pos k)) n first end → IsRun (λ k. on_line a b (pixel y x k)) n first end
line_run a b y x low count n first end c = run_as _ (λ k. spans low count (x +ℤ pos k)) n first end (λ k below. c.at (x +ℤ pos k))

pub line_laid : (a b : Point) (ink : Ink) (y x : ℤ) (n first end : ℕ) (was now : List Ink) → IsRun (λ k. on_line a b (pixel y x k)) n first end
    → IsInked n (λ k. cond (in_run first end k) ink (get_or was k Skip)) now → IsInked n (λ k. cond (on_line a b (pixel y x k)) ink (get_or was k Skip)) now
line_laid a b ink y x n first end was now r = inked_as n _ _ now (λ k below. ap (λ t. cond t ink (get_or was k Skip)) (sym (r.at k below)))

-- no column, and nothing is laid
pub line_off : (a b : Point) (ink : Ink) (y x low : ℤ) (count : ℕ) (out : List Ink) → AreColumns a b y low count → count ≤ 0 → IsInked (length out) (λ k. cond (on_line a b (pixel y x k)) ink (get_or out k Skip)) out
line_off a b ink y x low count out c none = record {
  same_length = refl;
  at = λ k below. sym (ap (λ t. cond t ink (get_or out k Skip)) (c.at (x +ℤ pos k) ∙ nothing low count (x +ℤ pos k) none));
} where
  nothing : (low : ℤ) (count : ℕ) (x : ℤ) → count ≤ 0 → spans low count x ≡ false
  nothing low count x h = grind (arith, ints)

-- ---- polylines

lines_more : (a : Point) (rest : List Point) (i : ℕ) (d p : Point) → i < length rest
    → on_lines_from a (take (suc i) rest) p ≡ (on_lines_from a (take i rest) p || on_line (get_or (a ∷ rest) i d) (get_or rest i d) p)
lines_more a [] i d p h = absurd (omega arith)
lines_more a (b ∷ rest) zero d p h = or_false (on_line a b p)
lines_more a (b ∷ rest) (suc i) d p h =
    ap (λ t. on_line a b p || t) (lines_more b rest i d p (omega arith))
    ∙ or_assoc (on_line a b p) (on_lines_from b (take i rest) p) (on_line (get_or (b ∷ rest) i d) (get_or rest i d) p)

polyline_none : (ps : List Point) (p : Point) → on_polyline (take 1 ps) p ≡ false
polyline_none [] p = refl
polyline_none (a ∷ rest) p = refl

polyline_more : (ps : List Point) (i j : ℕ) (d p : Point) → i + 1 ≡ j → j < length ps
    → on_polyline (take (j + 1) ps) p ≡ (on_polyline (take j ps) p || on_line (get_or ps i d) (get_or ps j d) p)
polyline_more [] i j d p e h = absurd (omega arith)
polyline_more (a ∷ rest) i j d p e h =
    let more : j + 1 ≡ suc (suc i) = omega arith in
    let here : suc i ≡ j = omega arith in
    ap (λ n. on_polyline (take n (a ∷ rest)) p) more
    ∙ lines_more a rest i d p (omega arith)
    ∙ ap (λ n. on_polyline (take n (a ∷ rest)) p || on_line (get_or (a ∷ rest) i d) (get_or (a ∷ rest) n d) p) here

pub lines_start : (ps : List Point) (ink : Ink) (y x : ℤ) (n : ℕ) (out : List Ink) → IsInked n (λ k. Skip) out → IsInked n (λ k. cond (on_polyline (take 1 ps) (pixel y x k)) ink Skip) out
lines_start ps ink y x n out = inked_as n _ _ out (λ k below. sym (ap (λ t. cond t ink Skip) (polyline_none ps (pixel y x k))))

-- a line more, between the neighbours at i and at j
pub lines_laid : (ps : List Point) (i j : ℕ) (d e : Point) (ink : Ink) (y x : ℤ) (n : ℕ) (was now : List Ink) → i + 1 ≡ j → j < length ps
    → IsInked n (λ k. cond (on_polyline (take j ps) (pixel y x k)) ink Skip) was → IsInked (length was) (λ k. cond (on_line (get_or ps i d) (get_or ps j e) (pixel y x k)) ink (get_or was k Skip)) now
    → IsInked n (λ k. cond (on_polyline (take (j + 1) ps) (pixel y x k)) ink Skip) now
lines_laid ps i j d e ink y x n was now is h l m = record {
  same_length = m.same_length ∙ l.same_length;
  at = λ k below.
      let here : Bool = on_line (get_or ps i d) (get_or ps j e) (pixel y x k) in
      m.at k (omega (arith, l.same_length)) ∙ ap (cond here ink) (l.at k below) ∙ either (on_polyline (take j ps) (pixel y x k)) here
      ∙ ap (λ q. cond (on_polyline (take j ps) (pixel y x k) || on_line (get_or ps i d) q (pixel y x k)) ink Skip) (get_or_default ps j e d h)
      ∙ ap (λ t. cond t ink Skip) (sym (polyline_more ps i j d (pixel y x k) is h));
} where
  either : (s t : Bool) → cond t ink (cond s ink Skip) ≡ cond (s || t) ink Skip
  either true true = refl
  either true false = refl
  either false t = refl
