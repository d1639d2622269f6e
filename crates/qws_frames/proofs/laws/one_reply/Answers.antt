use Rattle.qws_frames.proofs.LawLemmas.{one_reply}
use Rattle.qws_frames.proofs.laws.one_reply.Goals as goal

pub returns : goal.returns
returns c = one_reply c.args.first.now c.args.second.now c.args.bytes.now c.requires.first c.requires.second
