use Rattle.qws_frames.proofs.FrameLemmas.{one_reply_frame, bytes_from}
use Rattle.qws_frames.proofs.laws.one_reply_frame.Goals as goal

pub returns : goal.returns
returns c =
    let first = c.args.first.now in
    let second = c.args.second.now in
    one_reply_frame first second (bytes_from first c.type_inv.first) (bytes_from second c.type_inv.second) c.args.reply.now c.requires.first c.requires.second
