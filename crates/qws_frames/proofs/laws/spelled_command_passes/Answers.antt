use Rattle.qws_frames.proofs.LawLemmas.{command_none}
use Rattle.qws_frames.proofs.laws.spelled_command_passes.Goals as goal

pub returns : goal.returns
returns c = command_none c.args.command.now c.args.bytes.now c.requires
