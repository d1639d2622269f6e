-- Lists of windows, from front to back.
use Rattle.std.specs.Prelude.{ℕ, nat_le, Bool}
use Rattle.qws_base.specs.declared.windows.WindowView.{WindowView}

-- the window's layer is at least this one
abbrev pub is_from : ℕ → WindowView → Bool
is_from layer window = nat_le layer window.layer
