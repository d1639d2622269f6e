use Rattle.qws_base.proofs.RectPixelLemmas.{rect_pixels_law}
use Rattle.qws_base.proofs.laws.rects_have_pixels.Goals as goal

pub returns : goal.returns
returns c = rect_pixels_law
