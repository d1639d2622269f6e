-- Bounds hold their points, and the points of the lines between them.
use Rattle.std.proofs.Common.{ℕ, ◌≡◌, ◌<◌, ◌≤◌, ℤ, ◌≤ℤ◌, Bool, true, false, ◌&&◌, ◌||◌, cond, List, [], ◌∷◌, refl, sym, ap, ◌∙◌, arith, ◌⊎◌, inl, inr}
use Rattle.std.proofs.lemmas.Int.{ints}
use Rattle.std.proofs.lemmas.Bool.{and_from, and_parts}
use Rattle.std.proofs.lemmas.Bool.Decides.{Decides-int_eq, nat_tests}
use Rattle.std.proofs.lemmas.List.Elements.{All-head, All-tail}
use Rattle.std.specs.List.{All}
use Rattle.std.specs.Ordering.{int_eq}
use Rattle.qws_base.specs.declared.points.Point.{Point}
use Rattle.qws_base.specs.declared.inks.Ink.TheVariants.{Skip, Copy}
use Rattle.qws_base.specs.declared.bounds.Bounds.{Bounds}
use Rattle.qws_base.specs.Points.{holds}
use Rattle.qws_base.specs.Sheets.{ink_at}
use Rattle.qws_base.specs.Bounds.{bounds_of}
use Rattle.qws_base.proofs.BoundsLemmas.{Holds, bounds_first, bounds_rest}
use Rattle.qws_base.proofs.Integers.{eq_test}
use Rattle.picture_rows.specs.Boxes.{closed_reach}
use Rattle.picture_rows.proofs.ReachLemmas.{in_closed}
use Rattle.picture_rows.proofs.RowLemmas.{ink_of_test}
use Rattle.gfx_lines.specs.Lines.{apart, toward, aside, is_flat, is_steep, steps, line_point, same_point, on_line}
use Rattle.gfx_lines.specs.Strokes.{LineView, line_sheet, on_lines_from, on_polyline}
use Rattle.gfx_lines.proofs.StepTests.{found, found_at}
use Rattle.gfx_lines.proofs.LineLemmas.{aside_within, aside_none, aside_all, toward_low, toward_high, on_slope, steps_of_flat, steps_of_steep, flat_line, steep_line, dot_line, dot_point}

-- ---- the points of a line

between : (low high a b at : ℤ) (k : ℕ) → low ≤ℤ a → low ≤ℤ b → a ≤ℤ high → b ≤ℤ high → k ≤ apart a b → toward a b k ≡ at → (low ≤ℤ at) × (at ≤ℤ high)
between low high a b at k la lb ha hb few e =
    let l = toward_low low a b k few la lb in
    let h = toward_high high a b k few ha hb in
    (omega (arith, ints), omega (arith, ints))

slope_within : (low high low' high' a b a' b' at across : ℤ) → 0 < apart a b → low ≤ℤ a → low ≤ℤ b → a ≤ℤ high → b ≤ℤ high → low' ≤ℤ a' → low' ≤ℤ b' → a' ≤ℤ high' → b' ≤ℤ high'
    → on_slope a b a' b' at across ≡ true → ((low ≤ℤ at) × (at ≤ℤ high)) × ((low' ≤ℤ across) × (across ≤ℤ high'))
slope_within low high low' high' a b a' b' at across some la lb ha hb la' lb' ha' hb' t =
    let f = found (λ k. int_eq (toward a b k) at && int_eq (toward a' b' (aside (apart a b) (apart a' b') k)) across) (apart a b) t in
    let p = and_parts _ _ f.2 in (
      between low high a b at f.0 la lb ha hb f.1 ((Decides-int_eq _ _).0 p.0),
      between low' high' a' b' across (aside (apart a b) (apart a' b') f.0) la' lb' ha' hb' (aside_within (apart a b) (apart a' b') f.0 some f.1) ((Decides-int_eq _ _).0 p.1),
    )

flat_some : (a b : Point) → is_flat a b ≡ true → 0 < apart a.x b.x
flat_some a b h = grind (arith, nat_tests)

steep_some : (a b : Point) → is_steep a b ≡ true → 0 < apart a.y b.y
steep_some a b h = grind (arith, nat_tests)

pub line_within : (r : Bounds) (a b p : Point) → Holds r a → Holds r b → on_line a b p ≡ true → Holds r p
line_within r a b p ha hb t = by (is_flat a b) (is_steep a b) refl refl where
  by : (f s : Bool) → is_flat a b ≡ f → is_steep a b ≡ s → Holds r p
  by true s flat steep =
      let w = slope_within r.left r.right r.top r.bottom a.x b.x a.y b.y p.x p.y (flat_some a b flat) ha.left hb.left ha.right hb.right ha.top hb.top ha.bottom hb.bottom (sym (flat_line a b p flat) ∙ t) in
      record { left = w.0.0; right = w.0.1; top = w.1.0; bottom = w.1.1 }
  by false true flat steep =
      let w = slope_within r.top r.bottom r.left r.right a.y b.y a.x b.x p.y p.x (steep_some a b steep) ha.top hb.top ha.bottom hb.bottom ha.left hb.left ha.right hb.right (sym (steep_line a b p steep) ∙ t) in
      record { left = w.1.0; right = w.1.1; top = w.0.0; bottom = w.0.1 }
  by false false flat steep =
      let s = and_parts (int_eq a.x p.x) (int_eq a.y p.y) (sym (dot_line a b p flat steep) ∙ t) in
      let x : a.x ≡ p.x = (Decides-int_eq a.x p.x).0 s.0 in
      let y : a.y ≡ p.y = (Decides-int_eq a.y p.y).0 s.1 in
      record { left = omega (arith, ints, ha.left); right = omega (arith, ints, ha.right); top = omega (arith, ints, ha.top); bottom = omega (arith, ints, ha.bottom) }

either : (a b : Bool) → (a || b) ≡ true → (a ≡ true) ⊎ (b ≡ true)
either true b h = inl refl
either false b h = inr h

pub lines_within : (r : Bounds) (a : Point) (rest : List Point) (p : Point) → Holds r a → All (Holds r) rest → on_lines_from a rest p ≡ true → Holds r p
lines_within r a [] p ha all t = cc
lines_within r a (b ∷ rest) p ha all t =
    by (either (on_line a b p) (on_lines_from b rest p) t) (lines_within r b rest p (All-head (Holds r) b rest all) (All-tail (Holds r) b rest all)) where
      by : (on_line a b p ≡ true) ⊎ (on_lines_from b rest p ≡ true) → (on_lines_from b rest p ≡ true → Holds r p) → Holds r p
      by (inl h) later = line_within r a b p ha (All-head (Holds r) b rest all) h
      by (inr h) later = later h

-- the reach of a line, and of more
pub ends_within : (a b p : Point) → on_line a b p ≡ true → holds (closed_reach (a ∷ b ∷ [])) p ≡ true
ends_within a b p t =
    let r : Bounds = bounds_of a (b ∷ []) in
    in_closed r p (line_within r a b p (bounds_first a (b ∷ [])) (All-head (Holds r) b [] (bounds_rest a (b ∷ []))) t)

pub polyline_within : (ps : List Point) (p : Point) → on_polyline ps p ≡ true → holds (closed_reach ps) p ≡ true
polyline_within [] p t = cc
polyline_within (a ∷ rest) p t = in_closed (bounds_of a rest) p (lines_within (bounds_of a rest) a rest p (bounds_first a rest) (bounds_rest a rest) t)

-- ---- the ends of a line

same_from_none : (a b : Point) → apart a.x b.x ≡ 0 → apart a.y b.y ≡ 0 → a ≡ b
same_from_none a b h g =
    let x : a.x ≡ b.x = omega (arith, ints) in
    let y : a.y ≡ b.y = omega (arith, ints) in
    ap (λ v. let p : Point = record { x = v; y = a.y } in p) x ∙ ap (λ v. let p : Point = record { x = b.x; y = v } in p) y

toward_none : (a b : ℤ) → toward a b 0 ≡ a
toward_none a b = grind (arith, ints)

toward_all : (a b : ℤ) → toward a b (apart a b) ≡ b
toward_all a b = grind (arith, ints)

on_line_at : (a b p : Point) (k : ℕ) → k ≤ steps a b → line_point a b k ≡ p → on_line a b p ≡ true
on_line_at a b p k few e =
    found_at (λ j. same_point (line_point a b j) p) (steps a b) k few
    (ap (λ q. same_point q p) e ∙ and_from (int_eq p.x p.x) (int_eq p.y p.y) (eq_test p.x p.x refl) (eq_test p.y p.y refl))

first_point : (a b : Point) → line_point a b 0 ≡ a
first_point a b = by (is_flat a b) (is_steep a b) refl refl where
  by : (f s : Bool) → is_flat a b ≡ f → is_steep a b ≡ s → line_point a b 0 ≡ a
  by true s flat steep = rw (flat, aside_none (apart a.x b.x) (apart a.y b.y) (flat_some a b flat), toward_none a.x b.x, toward_none a.y b.y) refl
  by false true flat steep = rw (flat, steep, aside_none (apart a.y b.y) (apart a.x b.x) (steep_some a b steep), toward_none a.x b.x, toward_none a.y b.y) refl
  by false false flat steep = dot_point a b 0 flat steep

last_point : (a b : Point) → line_point a b (steps a b) ≡ b
last_point a b = by (is_flat a b) (is_steep a b) refl refl where
  by : (f s : Bool) → is_flat a b ≡ f → is_steep a b ≡ s → line_point a b (steps a b) ≡ b
  by true s flat steep =
      ap (line_point a b) (steps_of_flat a b flat) ∙ rw (flat, aside_all (apart a.x b.x) (apart a.y b.y) (flat_some a b flat), toward_all a.x b.x, toward_all a.y b.y) refl
  by false true flat steep =
      ap (line_point a b) (steps_of_steep a b steep) ∙ rw (flat, steep, aside_all (apart a.y b.y) (apart a.x b.x) (steep_some a b steep), toward_all a.x b.x, toward_all a.y b.y) refl
  by false false flat steep = dot_point a b (steps a b) flat steep ∙ same_from_none a b (grind (arith, nat_tests)) (grind (arith, nat_tests))

line_ink : (l : LineView) (p : Point) → on_line l.from l.to p ≡ true → ink_at (line_sheet l) p ≡ Copy l.colour
line_ink l p t = ink_of_test (closed_reach (l.from ∷ l.to ∷ [])) (on_line l.from l.to) (Copy l.colour) p (ends_within l.from l.to p) ∙ ap (λ h. cond h (Copy l.colour) Skip) t

pub first_end : (l : LineView) → ink_at (line_sheet l) l.from ≡ Copy l.colour
first_end l = line_ink l l.from (on_line_at l.from l.to l.from 0 (omega arith) (first_point l.from l.to))

pub last_end : (l : LineView) → ink_at (line_sheet l) l.to ≡ Copy l.colour
last_end l = line_ink l l.to (on_line_at l.from l.to l.to (steps l.from l.to) (omega arith) (last_point l.from l.to))
