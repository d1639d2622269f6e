-- Bounds hold their points.
use Rattle.std.proofs.Common.{◌≤ℤ◌, List, [], ◌∷◌, arith}
use Rattle.std.proofs.lemmas.Int.{ints, clamps}
use Rattle.std.proofs.lemmas.List.Elements.{All-cons, All-nil}
use Rattle.std.specs.List.{fold, All}
use Rattle.qws_base.specs.declared.points.Point.{Point}
use Rattle.qws_base.specs.declared.bounds.Bounds.{Bounds}
use Rattle.qws_base.specs.Bounds.{bounds_of_point, grown, bounds_of}

pub record Holds (b : Bounds) (p : Point) : Type 0 where
  pub left : b.left ≤ℤ p.x
  pub right : p.x ≤ℤ b.right
  pub top : b.top ≤ℤ p.y
  pub bottom : p.y ≤ℤ b.bottom

grown_holds : (b : Bounds) (p : Point) → Holds (grown b p) p
grown_holds b p = record { left = omega (arith, ints, clamps); right = omega (arith, ints, clamps); top = omega (arith, ints, clamps); bottom = omega (arith, ints, clamps) }

grown_keeps : (b : Bounds) (p q : Point) → Holds b q → Holds (grown b p) q
grown_keeps b p q h = record {
  left = omega (arith, ints, clamps, h.left);
  right = omega (arith, ints, clamps, h.right);
  top = omega (arith, ints, clamps, h.top);
  bottom = omega (arith, ints, clamps, h.bottom);
}

fold_keeps : (b : Bounds) (ps : List Point) (q : Point) → Holds b q → Holds (fold grown b ps) q
fold_keeps b [] q h = h
fold_keeps b (p ∷ ps) q h = fold_keeps (grown b p) ps q (grown_keeps b p q h)

fold_holds : (b : Bounds) (ps : List Point) → All (Holds (fold grown b ps)) ps
fold_holds b [] = All-nil (Holds b)
fold_holds b (p ∷ ps) = All-cons (Holds (fold grown (grown b p) ps)) p ps (fold_keeps (grown b p) ps p (grown_holds b p)) (fold_holds (grown b p) ps)

-- the first point lies within, and each of the rest
pub bounds_first : (p : Point) (ps : List Point) → Holds (bounds_of p ps) p
bounds_first p ps = fold_keeps (bounds_of_point p) ps p (record { left = omega (arith, ints); right = omega (arith, ints); top = omega (arith, ints); bottom = omega (arith, ints) })

pub bounds_rest : (p : Point) (ps : List Point) → All (Holds (bounds_of p ps)) ps
bounds_rest p ps = fold_holds (bounds_of_point p) ps
