use Rattle.step_turns.proofs.Moved.{moved_sum}
use Rattle.step_turns.proofs.covers.moved_by.Goals as goal

pub returns : goal.returns
returns c = moved_sum c.args.by c.args.place c.requires.near c.requires.place
