use Rattle.window_stack.proofs.StackLaws.{arranged_stack}
use Rattle.window_stack.proofs.laws.stacks_of_arranged_windows.Goals as goal

pub returns : goal.returns
returns c = arranged_stack
