use Rattle.server_desk.proofs.Waiting.{answered_later, rises_later}
use Rattle.server_desk.proofs.desks.Desk.call.Goals as goal

pub returns-clause-answered : goal.returns-clause-answered
returns-clause-answered g c =
    answered_later c.args.self.now c.self.inside.kept c.kept.inside.head c.sit-stub.new.head c.call-answer.new.self c.kept-2.inside.head c.rise-pass.new.head c.args.pass.client _ c.args.command.now c.call-answer.result
    c.self.view_is c.kept.view_is c.self.invariant c.sit-stub.ensures.head c.call-answer.ensures.answered c.kept-2.view_is c.rise-pass.ensures.head

pub returns-clause-rises : goal.returns-clause-rises
returns-clause-rises g c =
    rises_later c.self.inside.kept c.kept.inside.head c.sit-stub.new.head c.call-answer.new.self c.args.pass.client c.args.command.now c.call-answer.result
    c.kept.view_is c.self.invariant c.sit-stub.ensures.head c.sit-stub.ensures.known c.call-answer.ensures.answered
