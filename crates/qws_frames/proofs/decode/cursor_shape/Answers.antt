use Rattle.std.proofs.Common.{ℕ, ◌/◌, ap}
use Rattle.qws_frames.proofs.SoundLemmas.{shape_spelled}
use Rattle.qws_frames.proofs.decode.cursor_shape.Goals as goal

pub returns-clause-spelled : goal.returns-clause-spelled
returns-clause-spelled c =
    shape_spelled c.args.bytes.now c.requires.refused c.requires.kind c.u32_at-2.result c.u32_at-3.result (c.u32_at.result / 4) c.in_ok-cells.cells c.u32_at-2.ensures c.u32_at-3.ensures (ap (λ (n : ℕ). n / 4) c.u32_at.ensures) c.in_ok-cells.ensures.read
