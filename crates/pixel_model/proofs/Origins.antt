-- The origin of a slot, by the window that was found for it.
use Rattle.std.proofs.Common.{◌≡◌, ℕ, List, Option, None, Some, refl}
use Rattle.std.specs.List.{find}
use Rattle.std.specs.Option.{option_map, option_map_or}
use Rattle.qws_base.specs.Points.{origin_zero}
use Rattle.qws_base.specs.Windows.{origin_of, has_slot}
use Rattle.qws_base.specs.declared.points.Point.{Point}
use Rattle.qws_base.specs.declared.windows.WindowView.{WindowView}

found_at : (o : Option WindowView) (origin : Point) → Some origin ≡ option_map (λ w. w.origin) o → origin ≡ option_map_or (λ w. w.origin) o origin_zero
found_at None origin is = cc
found_at (Some w) origin is = cc

missing_at : (o : Option WindowView) → (let none : Option Point = None in none) ≡ option_map (λ w. w.origin) o → origin_zero ≡ option_map_or (λ w. w.origin) o origin_zero
missing_at None is = refl
missing_at (Some w) is = cc

pub origin_found : (windows : List WindowView) (slot : ℕ) (origin : Point) → Some origin ≡ option_map (λ w. w.origin) (find (has_slot slot) windows) → origin ≡ origin_of windows slot
origin_found windows slot origin is = found_at (find (has_slot slot) windows) origin is

pub origin_missing : (windows : List WindowView) (slot : ℕ) → (let none : Option Point = None in none) ≡ option_map (λ w. w.origin) (find (has_slot slot) windows) → origin_zero ≡ origin_of windows slot
origin_missing windows slot is = missing_at (find (has_slot slot) windows) is
