use Rattle.fb_words.proofs.Here.{stub_law}
use Rattle.fb_words.proofs.laws.stubs_stay_seated.Goals as goal

pub returns : goal.returns
returns c = stub_law
