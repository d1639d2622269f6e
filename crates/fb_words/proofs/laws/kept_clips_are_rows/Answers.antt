use Rattle.fb_words.proofs.Clipped.{row_law}
use Rattle.fb_words.proofs.laws.kept_clips_are_rows.Goals as goal

pub returns : goal.returns
returns c = row_law
