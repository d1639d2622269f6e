use Rattle.fb_words.proofs.Keeping.{kept_law}
use Rattle.fb_words.proofs.laws.kept_clips_are_judged.Goals as goal

pub returns : goal.returns
returns c = kept_law
