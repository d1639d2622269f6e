use Rattle.std.proofs.Common.{◌≡◌, length, sym, ap, ◌∙◌}
use lib.ListN.{get_elem?}
use Rattle.server_desk.specs.DeskViews.{connected}
use Rattle.shared_desk.proofs.Looping.{all_there}
use Rattle.session_run.proofs.Running.{ready, done, closable}
use Rattle.session_run.proofs.Closing.{run_of, said_setting, said_clients}
use Rattle.session_run.proofs.sessions.close_run.Goals as goal

pub run_all-requires-clause-ready : goal.run_all-requires-clause-ready
run_all-requires-clause-ready g c κs within =
    ready c.in_ok-screen.screen c.in_ok-screen.desk.server.setting c.args.script.now c.in-Ok.callers.items c.in_ok-passes.passes.items c.in-Ok.ensures.passes c.in_ok-passes.ensures.fresh c.in-Ok.shared c.in-Ok.ensures.callers

pub into_parts-requires : goal.into_parts-requires
into_parts-requires g c = record { all = all_there c.in-Ok.shared c.in_ok-callers.callers.items c.in_ok-callers.ensures.all }

pub close-requires-clause-passes : goal.close-requires-clause-passes
close-requires-clause-passes g c =
    closable c.in_ok-screen.screen c.in_ok-screen.desk.server.setting c.args.script.now c.in-Ok.callers.items c.in_ok-passes.passes.items c.in-Ok.ensures.passes c.in_ok-passes.ensures.fresh
    c.in_ok-callers.callers.items c.in_ok-desk.passes.items c.in_ok-desk.ensures.passes c.in_ok-callers.ensures.ran

pub returns-in-Ok-close : goal.returns-in-Ok-close
returns-in-Ok-close g c =
    let said = c.args.script.now in
    run_of said c.in_ok-screen.screen (connected c.in_ok-desk.desk) c.in_ok-desk.passes.items c.in-Ok-close.closed
    (said_setting said c.in_ok-screen.screen.setting c.size.result c.depth.result c.backdrop.result c.in_ok-screen.ensures.setting c.size.ensures c.depth.ensures c.backdrop.ensures)
    (said_clients said c.in_ok-desk.desk c.in-Ok.shared.desk c.connect_all.new.desk c.in_ok-desk.ensures.desk.1 c.in-Ok.ensures.shared.0 c.in_ok-passes.ensures.connected)
    c.in-Ok-close.ensures.all
    (λ k p at. done c.in_ok-screen.screen c.in_ok-screen.desk.server.setting said c.in-Ok.callers.items c.in_ok-passes.passes.items c.in-Ok.ensures.passes c.in_ok-passes.ensures.fresh
    c.in_ok-callers.callers.items c.in_ok-callers.ensures.ran k p (ap (λ l. get_elem? l k) (sym c.in_ok-desk.ensures.passes) ∙ at))
    c.in-Ok-close.ensures.session c.in-Ok-close.ensures.calls
