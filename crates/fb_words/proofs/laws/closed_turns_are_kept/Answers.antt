use Rattle.fb_words.proofs.Desks.{keeping_law}
use Rattle.fb_words.proofs.laws.closed_turns_are_kept.Goals as goal

pub returns : goal.returns
returns c = keeping_law c.windows_stay_arranged.ensures
