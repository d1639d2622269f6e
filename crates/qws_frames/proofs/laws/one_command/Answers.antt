use Rattle.qws_frames.proofs.LawLemmas.{one_command}
use Rattle.qws_frames.proofs.laws.one_command.Goals as goal

pub returns : goal.returns
returns c = one_command c.args.first.now c.args.second.now c.args.bytes.now c.requires.first c.requires.second
