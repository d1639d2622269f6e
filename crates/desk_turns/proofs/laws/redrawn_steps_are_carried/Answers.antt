use Rattle.desk_turns.proofs.Redrawing.{redrawn_law}
use Rattle.desk_turns.proofs.laws.redrawn_steps_are_carried.Goals as goal

pub returns : goal.returns
returns c = redrawn_law c.phases_carry.ensures c.cells_are_lifted.ensures c.scenes_are_changed.ensures
