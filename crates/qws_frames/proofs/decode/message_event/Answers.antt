use Rattle.qws_frames.proofs.SoundLemmas.{message_spelled}
use Rattle.qws_frames.proofs.decode.message_event.Goals as goal

pub returns-clause-spelled : goal.returns-clause-spelled
returns-clause-spelled c =
    let l = c.in_ok-letter.letter in
    let e = c.in_ok-letter.ensures in
    message_spelled c.args.bytes.now c.requires.refused c.requires.kind l.channel l.message l.payload c.u32_at.result c.u16_at.result c.u16_at-2.result c.u32_at.ensures c.u16_at.ensures c.u16_at-2.ensures e.channel e.message e.payload e.text
