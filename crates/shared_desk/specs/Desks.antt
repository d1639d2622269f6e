-- When two desks are alike to those who share one.
use Rattle.std.specs.Prelude.{◌≡◌}
use Rattle.server_desk.specs.DeskViews.{DeskView, connected}

-- of the same screen, with as many clients connected
abbrev pub SameDesk : DeskView → DeskView → Type 0
SameDesk d e = (d.screen ≡ e.screen) × (connected d ≡ connected e)
