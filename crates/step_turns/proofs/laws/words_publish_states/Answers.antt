use Rattle.step_turns.proofs.FirstWords.{publishes_law}
use Rattle.step_turns.proofs.laws.words_publish_states.Goals as goal

pub returns : goal.returns
returns c = publishes_law c.tables_are_published.ensures
