use Rattle.std.proofs.Common.{◌≡◌, List, map, Ok, Vec}
use Rattle.std.specs.Global.{Global}
use Rattle.shared_desk.specs.Together.{AreAll}
use Rattle.shared_desk.specs.declared.callers.Caller.{Caller}
use Rattle.session_run.specs.Clients.{AllRan}
use Rattle.session_run.proofs.Running.{Answer, if_ok, all_ran, all_back}
use Rattle.session_run.proofs.clients.run_all.Goals as goal

abbrev come_from : List Answer → Vec Caller Global → Type 0
come_from answers back = answers ≡ map (λ c. Ok c) back.items

pub returns-clause-all : goal.returns-clause-all
returns-clause-all g c =
    if_ok (come_from c.in_ok-answers.answers.items) (λ back. AreAll c.args.shared.now back.items) c.finished.result
    (λ back are. all_back _ c.args.script.now c.args.callers.items back.items c.requires.all (all_ran _ _ back.items _ c.in_ok-answers.ensures.many are c.in_ok-answers.ensures.each)) c.finished.ensures

pub returns-clause-ran : goal.returns-clause-ran
returns-clause-ran g c =
    if_ok (come_from c.in_ok-answers.answers.items) (λ back. AllRan c.args.script.now c.args.callers.items back.items) c.finished.result
    (λ back are. all_ran _ _ back.items _ c.in_ok-answers.ensures.many are c.in_ok-answers.ensures.each) c.finished.ensures
