use Rattle.qws_frames.proofs.LawLemmas.{reply_none}
use Rattle.qws_frames.proofs.laws.spelled_reply_passes.Goals as goal

pub returns : goal.returns
returns c = reply_none c.args.reply.now c.args.bytes.now c.requires
