use Rattle.server_desk.proofs.OwnWindows.{own_window_law}
use Rattle.server_desk.proofs.laws.own_windows_are_served.Goals as goal

pub returns : goal.returns
returns c = own_window_law
