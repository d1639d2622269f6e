use Rattle.shared_painter.proofs.Carrying.{carried_law}
use Rattle.shared_painter.proofs.laws.paints_are_carried_whole.Goals as goal

pub returns : goal.returns
returns c = carried_law c.pixels_carry.ensures c.rects_have_pixels.ensures
