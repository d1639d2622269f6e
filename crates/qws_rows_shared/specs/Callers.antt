-- What the tests keep of a caller of a shared desk.
use Rattle.std.specs.Prelude.{◌≡◌}
use Rattle.fb_words.specs.Views.{ScreenView}
use Rattle.shared_desk.specs.declared.callers.Caller.{Caller}
use Rattle.shared_desk.specs.Leases.{SharedView, IsOf}
use Rattle.qws_rows_shared.specs.Sessions.{IsAtRest}

-- the caller is of the shared desk, and its pass is of the screen, in no turn
abbrev pub IsCaller : SharedView → ScreenView → Caller → Type 0
IsCaller desk screen c = IsOf desk c.lease × IsAtRest screen c.pass

-- the caller that went with that lease is back
abbrev pub IsBackFrom : SharedView → ScreenView → Caller → Caller → Type 0
IsBackFrom desk screen before after = (after.lease ≡ before.lease) × IsCaller desk screen after
