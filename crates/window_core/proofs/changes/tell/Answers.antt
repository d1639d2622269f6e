use Rattle.std.proofs.Common.{◌<◌, sym}
use Rattle.window_core.proofs.WindowLemmas.{found_has}
use Rattle.window_core.proofs.changes.tell.Goals as goal

pub tell_region-requires-clause-client : goal.tell_region-requires-clause-client
tell_region-requires-clause-client c = found_has (λ w. w.owner < 16) _ c.args.windows.now c.in-Some.window.now c.requires.owners (sym c.in-Some.ensures)
