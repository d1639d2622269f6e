-- Why a call on the stack is refused: each cause, exactly where it applies.
use Rattle.std.specs.Prelude.{ℕ, nat_lt, ◌==◌, List, length, Option, None, Some, if◌then◌else◌}
use Rattle.qws_base.specs.Windows.{is_live}
use Rattle.qws_base.specs.declared.windows.WindowView.{WindowView}
use Rattle.window_stack.specs.declared.stops.StackStop.{StackStop}
use Rattle.window_stack.specs.declared.stops.StackStop.TheVariants.{Full, NoWindow, BadLayer}

-- a window can't be created: its layer is above 1, or else 32 windows are there
abbrev pub create_stop : List WindowView → ℕ → Option StackStop
create_stop stack layer = if nat_lt 1 layer then Some (BadLayer layer) else if length stack == 32 then Some (Full 32) else None

-- no window has the slot
abbrev pub slot_stop : List WindowView → ℕ → Option StackStop
slot_stop stack slot = if is_live stack slot then None else Some (NoWindow slot)
