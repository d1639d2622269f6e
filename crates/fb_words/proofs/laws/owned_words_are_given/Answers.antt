use Rattle.fb_words.proofs.Keeping.{owned_law}
use Rattle.fb_words.proofs.laws.owned_words_are_given.Goals as goal

pub returns : goal.returns
returns c = owned_law
