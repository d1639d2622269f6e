-- What a stack keeps of each window, and how contracts see it.
use Rattle.std.specs.Prelude.{◌≢◌, ◌<◌, List, map, length, All}
use Rattle.qws_base.specs.Stacking.{new_window}
use Rattle.qws_base.specs.Arranged.{IsWindow}
use Rattle.qws_base.specs.declared.windows.WindowView.{WindowView}
use Rattle.window_stack.specs.declared.stacked.StackedWindow.{StackedWindow}

abbrev pub view_of : StackedWindow → WindowView
view_of w = new_window w.slot w.owner w.layer

abbrev pub views_of : List StackedWindow → List WindowView
views_of windows = map view_of windows

-- a window can be put into the stack: no window has its slot, and there is room
pub record CanStand (new : WindowView) (stack : List WindowView) : Type 0 where
  pub window : IsWindow new
  pub free : All (λ w. w.slot ≢ new.slot) stack
  pub room : length stack < 32
