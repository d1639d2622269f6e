use Rattle.fb_words.proofs.Looks.{looks_law, going_law}
use Rattle.fb_words.proofs.laws.looks_go_on.Goals as goal

pub returns-clause-looks : goal.returns-clause-looks
returns-clause-looks c = looks_law

pub returns-clause-items : goal.returns-clause-items
returns-clause-items c = going_law
