use Rattle.qws_frames.proofs.Existence.{some_command}
use Rattle.qws_frames.proofs.laws.unrefused_bytes_spell_a_command.Goals as goal

pub returns : goal.returns
returns c = some_command c.args.bytes.now c.requires
