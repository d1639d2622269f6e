-- Pixels that lose their last owner.
use Rattle.std.specs.Prelude.{ℕ, Bool, not, ◌&&◌, List, is_none}
use Rattle.std.specs.List.{list_any}
use Rattle.qws_base.specs.Sides.{Sides}
use Rattle.qws_base.specs.Points.{is_on_screen}
use Rattle.qws_base.specs.Windows.{owner_at, allocated_points}
use Rattle.qws_base.specs.declared.points.Point.{Point}
use Rattle.qws_base.specs.declared.windows.WindowView.{WindowView}

-- the point belongs to one of the slots
abbrev pub of_slots : Sides → List WindowView → List ℕ → Point → Bool
of_slots size windows slots p = list_any (λ slot. allocated_points size windows slot p) slots

-- the point of the screen belongs to a slot before, and to none after
abbrev pub is_lost : Sides → List WindowView → List WindowView → Point → Bool
is_lost size before after p = is_on_screen size p && (not (is_none (owner_at before p)) && is_none (owner_at after p))
