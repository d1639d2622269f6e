use Rattle.fb_words.proofs.Desks.{whole_law}
use Rattle.fb_words.proofs.laws.sessions_are_whole.Goals as goal

pub returns : goal.returns
returns c = whole_law c.sessions_are_carried.ensures c.pictures_are_shown.ensures
