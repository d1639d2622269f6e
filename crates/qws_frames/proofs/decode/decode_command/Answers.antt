use Rattle.std.proofs.Common.{Err, ◌∙◌}
use Rattle.qws_frames.proofs.LawLemmas.{command_given}
use Rattle.qws_frames.proofs.decode.decode_command.Goals as goal

pub returns-in-Some-clause-back : goal.returns-in-Some-clause-back
returns-in-Some-clause-back c = command_given (Err c.in-Some.stop) c.args.bytes.now (c.in-Some.ensures.told ∙ c.in-Some.ensures.stop) tt

pub returns-in-None-clause-back : goal.returns-in-None-clause-back
returns-in-None-clause-back c = command_given c.command_in.result c.args.bytes.now (c.command_in.ensures.refusal ∙ c.in-None.ensures.stop) c.command_in.ensures.spelled
