use Rattle.std.proofs.Common.{sym, subst}
use Rattle.fb_words.specs.Views.{HeadView, only}
use Rattle.fb_words.specs.Steps.{AllSit}
use Rattle.server_desk.proofs.Waiting.{stops_halted}
use Rattle.server_desk.proofs.kept.Kept.try_call.Goals as goal

pub carry_out-requires-clause-sits : goal.carry_out-requires-clause-sits
carry_out-requires-clause-sits c = subst (λ (h : HeadView). AllSit h.server h.sitting) (sym c.in-Ok.ensures.same) c.requires.sits

pub returns-in-Err-clause-stopped : goal.returns-in-Err-clause-stopped
returns-in-Err-clause-stopped c = stops_halted c.args.self.now c.prepare.new.self (only c.args.self.now.sitting) c.in-Err.stop c.in-Err.ensures.stopped
