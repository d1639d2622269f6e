use Rattle.qws_frames.proofs.Existence.{some_reply}
use Rattle.qws_frames.proofs.laws.unrefused_bytes_spell_a_reply.Goals as goal

pub returns : goal.returns
returns c = some_reply c.args.bytes.now c.requires
