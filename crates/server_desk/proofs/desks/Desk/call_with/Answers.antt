use Rattle.std.proofs.Common.{ℕ, Vec, Global}
use Rattle.server_desk.specs.declared.answers.Answer.{Answer}
use Rattle.server_desk.proofs.Answered.{answered_desk, answer_rises}
use Rattle.server_desk.proofs.Grabbing.{grab_stays}
use Rattle.server_desk.proofs.desks.Desk.call_with.Goals as goal

pub returns-clause-answered : goal.returns-clause-answered
returns-clause-answered c =
    answered_desk (λ (both : Answer × Vec ℕ Global). both.0) c.args.self.now c.self.inside.kept c.kept.inside.head c.sit-stub.new.head c.try_call-answer.new.self c.kept-2.inside.head c.rise-pass.new.head c.args.pass.client _ c.args.command.now c.try_call-answer.result
    c.self.view_is c.kept.view_is c.self.invariant c.sit-stub.ensures.head c.try_call-answer.ensures.answered c.kept-2.view_is c.rise-pass.ensures.head

pub returns-clause-rises : goal.returns-clause-rises
returns-clause-rises c =
    answer_rises (λ (both : Answer × Vec ℕ Global). both.0) c.self.inside.kept c.kept.inside.head c.sit-stub.new.head c.try_call-answer.new.self c.args.pass.client c.args.command.now c.try_call-answer.result
    c.kept.view_is c.self.invariant c.sit-stub.ensures.head c.sit-stub.ensures.known c.try_call-answer.ensures.answered

pub returns-clause-grab : goal.returns-clause-grab
returns-clause-grab c =
    grab_stays c.try_call-answer.result c.try_call-answer.new.self c.kept-2.inside.head c.rise-pass.new.head _ c.args.screen.now.setting.depth c.args.pixels c.kept-2.view_is c.rise-pass.ensures.head c.try_call-answer.ensures.grab
