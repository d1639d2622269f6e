use Rattle.scene_turns.proofs.Changing.{change_law}
use Rattle.scene_turns.proofs.laws.scenes_are_changed.Goals as goal

pub returns : goal.returns
returns c = change_law
