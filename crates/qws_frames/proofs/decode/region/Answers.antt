use Rattle.qws_frames.proofs.SoundLemmas.{region_spelled}
use Rattle.qws_frames.proofs.decode.region.Goals as goal

pub returns-clause-spelled : goal.returns-clause-spelled
returns-clause-spelled c =
    region_spelled c.args.bytes.now c.requires.refused c.requires.kind c.u32_at-2.result c.u32_at.result c.point_at.result c.in_ok-rects.rects c.u32_at-2.ensures c.point_at.ensures c.u32_at.ensures c.in_ok-rects.ensures.read
