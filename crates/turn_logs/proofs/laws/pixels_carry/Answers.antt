use Rattle.turn_logs.proofs.PixelItems.{pixels_law}
use Rattle.turn_logs.proofs.laws.pixels_carry.Goals as goal

pub returns : goal.returns
returns c = pixels_law
