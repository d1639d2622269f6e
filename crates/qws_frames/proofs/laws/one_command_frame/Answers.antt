use Rattle.qws_frames.proofs.FrameLemmas.{one_command_frame, bytes_from}
use Rattle.qws_frames.proofs.laws.one_command_frame.Goals as goal

pub returns : goal.returns
returns c =
    let first = c.args.first.now in
    let second = c.args.second.now in
    one_command_frame first second (bytes_from first c.type_inv.first) (bytes_from second c.type_inv.second) c.args.command.now c.requires.first c.requires.second
