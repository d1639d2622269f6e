use Rattle.qws_frames.proofs.SoundLemmas.{send_spelled}
use Rattle.qws_frames.proofs.decode.send.Goals as goal

pub returns-clause-spelled : goal.returns-clause-spelled
returns-clause-spelled c =
    let l = c.in_ok-letter.letter in
    let e = c.in_ok-letter.ensures in
    send_spelled c.args.bytes.now c.requires.refused c.requires.kind l.channel l.message l.payload c.u16_at.result c.u16_at-2.result c.u16_at.ensures c.u16_at-2.ensures e.channel e.message e.payload e.text
