use Rattle.std.proofs.Common.{◌∙◌, ap}
use Rattle.fb_words.specs.Steps.{fresh}
use Rattle.server_desk.specs.DeskViews.{connected}
use Rattle.qws_rows_sessions.proofs.Alone.{alone_ready}
use Rattle.qws_rows_sessions.proofs.client_rows.open.Goals as goal

pub returns-clause-ready : goal.returns-clause-ready
returns-clause-ready c =
    let screen = c.in_ok-screen.screen in
    let setting = c.in_ok-screen.desk.server.setting in
    alone_ready c.in-Ok.shared screen setting c.args.script.now c.in-Ok.callers.items c.pop.new.self.items c.in-Some.caller c.in_ok-pass.pass c.in-Ok.ensures.callers (c.in-Ok.ensures.passes ∙ c.in_ok-passes.ensures.items) c.in-Some.ensures.items
    (c.in_ok-pass.ensures.pass ∙ (λ i. record {
      screen = screen;
      client = fresh setting (ap connected c.in_ok-screen.ensures.desk i) (c.steps-steps.ensures i);
      book_limit = c.paints-paints.ensures i;
    }))
