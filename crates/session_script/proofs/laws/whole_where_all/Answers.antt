use Rattle.session_script.proofs.Fronts.{whole_where_all}
use Rattle.session_script.proofs.laws.whole_where_all.Goals as goal

pub returns : goal.returns
returns c = whole_where_all
